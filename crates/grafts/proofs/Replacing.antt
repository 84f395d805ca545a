-- What takes the place of a dropped node, or of a split one, as the draft has it.
use Rattle.std.proofs.Common.{◌≡◌, ℕ, ◌≤◌, false, List, [], ◌∷◌, ◌++◌, length, Some, None, Ok, Err, Option, Result, sym, ap, ◌∙◌, subst, arith}
use Rattle.store.specs.declared.node.Region.{Region}
use Rattle.store.specs.declared.fault.StoreFault.{StoreFault}
use Rattle.store.specs.Faults.{outside}
use Rattle.store.specs.Cells.{Cell}
use Rattle.store.specs.Nodes.{link_number}
use Rattle.drafts.specs.Grown.{Built, kept}
use Rattle.drafts.specs.Drafts.{tree_of, Fine, Good, seen_of, gone_of, link_of, grown, built_told, good_told}
use Rattle.drafts.specs.declared.draft.Draft.{Draft}
use Rattle.drafts.specs.declared.link.Link.{Link}
use Rattle.drafts.specs.declared.link.Link.TheVariants.{Old}
use Rattle.drafts.specs.declared.link.Numbered.{Numbered}
use Rattle.drafts.specs.declared.link.Side.{Side}
use Rattle.drafts.proofs.Seeing.{tree_seen, good_fine}
use Rattle.drafts.proofs.Turning.{bind_at, bind_stop}
use Rattle.commits.specs.Commits.{news, GoneInside}
use Rattle.commits.proofs.Bounds.{bind_inv}
use Rattle.walks.specs.Walks.{Graft, graft_of, merged, parted}
use Rattle.walks.proofs.Bounds.{GraftBound, merged_bound, parted_bound}
use Rattle.edits.specs.declared.fault.Doing.TheVariants.{Copy}
use Rattle.edits.specs.declared.fault.TreeFault.{TreeFault}
use Rattle.edits.specs.declared.fault.Refusal.TheVariants.{Refused}
use Rattle.edits.specs.Refusals.{during, refused_in}
use Rattle.edits.proofs.Advancing.{only}
use Rattle.edits.proofs.Rotating.{during_ok}
use Rattle.grafts.specs.Grafts.{needs_by, drop_by, drop_needs, drop_graft}
use Rattle.grafts.specs.Drafted.{graft_in, fine_in}
use Rattle.grafts.proofs.Asking.{passed_ok, stopped_as}

module _ {K : Type 0} where
  -- what the draft has at a link
  abbrev pub graft_at : Draft K → Link → Graft K
  graft_at d l = record { side = tree_of d l; gone = gone_of d }

  -- a side that was made, by the link that leads to it
  pub at_side : (d : Draft K) (s : Side K) (l : Link) → Good d s → l ≡ link_of s → graft_at d l ≡ graft_of (record { top = seen_of d s; gone = gone_of d })
  at_side d s l p e = ap (graft_at d) e ∙ ap (λ t. record { side = t; gone = gone_of d }) (tree_seen d s p)

  pub side_fine : (d : Draft K) (s : Side K) (l : Link) → Good d s → l ≡ link_of s → Fine d l
  side_fine d s l p e = subst (λ k. Fine d k) (sym e) (good_fine d s p)

  -- it can be linked: the link is one of the draft, at most m new nodes are wanted, and what leaves are nodes of the store
  pub record Linkable (N m : ℕ) (d : Draft K) (l : Link) : Type 0 where
    pub link : Fine d l
    pub few : news (tree_of d l) ≤ m
    pub gone : GoneInside N (gone_of d)

  -- DROP

  module _ (cs : List (Cell K)) (p : Numbered K) where
    -- with an empty side the other one is left as it is
    pub left_empty : (d d₀ : Draft K) → None ≡ link_number p.node.left → gone_of d ≡ [] → gone_of d₀ ≡ gone_of d ++ (p ∷ []) → graft_in d₀ (Ok (Old p.node.right)) ≡ drop_graft cs p
    unfolding drop_graft grown
    left_empty d d₀ a z e =
        ap (λ g. Ok (record { side = kept p.node.right; gone = g })) (only d d₀ p z e) ∙ ap (λ o. drop_by cs p o (link_number p.node.right)) a

    pub right_empty : (d d₀ : Draft K) (n : ℕ) → Some n ≡ link_number p.node.left → None ≡ link_number p.node.right → gone_of d ≡ [] → gone_of d₀ ≡ gone_of d ++ (p ∷ []) →
        graft_in d₀ (Ok (Old p.node.left)) ≡ drop_graft cs p
    unfolding drop_graft grown
    right_empty d d₀ n a b z e =
        ap (λ g. Ok (record { side = kept p.node.left; gone = g })) (only d d₀ p z e)
        ∙ ap (drop_by cs p (Some n)) b ∙ ap (λ o. drop_by cs p o (link_number p.node.right)) a

    both : (m n : ℕ) → Some m ≡ link_number p.node.left → Some n ≡ link_number p.node.right → drop_by cs p (Some m) (Some n) ≡ drop_graft cs p
    unfolding drop_graft
    both m n a b = ap (drop_by cs p (Some m)) b ∙ ap (λ o. drop_by cs p o (link_number p.node.right)) a

    -- with both the least region of the right side rises
    pub both_stopped : (m n : ℕ) (d : Draft K) (e y : StoreFault) (r : Result Link StoreFault) → Some m ≡ link_number p.node.left → Some n ≡ link_number p.node.right →
        Err e ≡ merged cs p → r ≡ Err y → y ≡ e → (graft_in d r ≡ drop_graft cs p) × fine_in d r
    both_stopped m n d e y r a b h q i = (rw (q, i) (bind_stop (merged cs p) e _ h ∙ both m n a b), rw q tt)

    pub both_merged : (m n : ℕ) (d : Draft K) (s : Side K) (l : Link) → Some m ≡ link_number p.node.left → Some n ≡ link_number p.node.right →
        Ok (record { top = seen_of d s; gone = gone_of d }) ≡ merged cs p → Good d s → l ≡ link_of s → graft_in d (Ok l) ≡ drop_graft cs p
    both_merged m n d s l a b h i e = ap Ok (at_side d s l i e) ∙ bind_at (merged cs p) _ _ h ∙ both m n a b

    -- the bounds of a drop
    bound_as : (m : ℕ) (g g' : Graft K) → ◌≡◌ {A = Result (Graft K) StoreFault} (Ok g) (Ok g') → GraftBound (length cs) m g' → GraftBound (length cs) m g
    bound_as m g g' e f = let q : g' ≡ g = cc in subst (GraftBound (length cs) m) q f

    by_bound : (a b : Option ℕ) (g : Graft K) → Ok g ≡ drop_by cs p a b → outside p.number (length cs) ≡ false → GraftBound (length cs) (needs_by a b) g
    unfolding news
    by_bound None b g e h = bound_as 0 g _ e (record { gone = (h, tt); few = omega arith })
    by_bound (Some m) None g e h = bound_as 0 g _ e (record { gone = (h, tt); few = omega arith })
    by_bound (Some m) (Some n) g e h =
        let i = bind_inv (merged cs p) _ g e in
        let k = merged_bound cs p i.0 i.1 h in
        bound_as 96 g _ i.2 (record { gone = k.gone; few = k.few })

    pub drop_bound : (g : Graft K) → Ok g ≡ drop_graft cs p → outside p.number (length cs) ≡ false → GraftBound (length cs) (drop_needs p.node) g
    unfolding drop_graft
    drop_bound g e h = by_bound (link_number p.node.left) (link_number p.node.right) g e h

    pub dropped_stopped : (d : Draft K) (r : Result Link StoreFault) (e : TreeFault) → graft_in d r ≡ drop_graft cs p → Err e ≡ during Copy r → Err (Refused e) ≡ refused_in Copy (drop_graft cs p)
    dropped_stopped d r e v h = stopped_as Copy r (drop_graft cs p) e (λ x q. subst (λ t. graft_in d t ≡ drop_graft cs p) q v) h

    module _ (d : Draft K) (r : Result Link StoreFault) (l : Link) (v : graft_in d r ≡ drop_graft cs p) (o : Ok l ≡ during Copy r) where
      dropped_at : Ok (graft_at d l) ≡ drop_graft cs p
      dropped_at = subst (λ t. graft_in d t ≡ drop_graft cs p) (during_ok Copy r l o) v

      pub dropped : Ok (graft_at d l) ≡ refused_in Copy (drop_graft cs p)
      dropped = passed_ok Copy (drop_graft cs p) (graft_at d l) (ap (during Copy) dropped_at)

      pub dropped_linkable : fine_in d r → outside p.number (length cs) ≡ false → Linkable (length cs) (drop_needs p.node) d l
      dropped_linkable f h =
          let b = drop_bound (graft_at d l) dropped_at h in
          record { link = subst (fine_in d) (during_ok Copy r l o) f; few = b.few; gone = b.gone }

    -- SPLIT

    module _ (lower upper : Region K) where
      pub parted_stopped : (d : Draft K) (r : Result (Side K) StoreFault) (e : TreeFault) → built_told d r ≡ parted cs p lower upper → Err e ≡ during Copy r → Err (Refused e) ≡ refused_in Copy (parted cs p lower upper)
      parted_stopped d r e v h = stopped_as Copy r (parted cs p lower upper) e (λ x q. subst (λ t. built_told d t ≡ parted cs p lower upper) q v) h

      module _ (d : Draft K) (r : Result (Side K) StoreFault) (s : Side K) (v : built_told d r ≡ parted cs p lower upper) (o : Ok s ≡ during Copy r) where
        abbrev Made : Built K
        Made = record { top = seen_of d s; gone = gone_of d }

        parted_at : Ok Made ≡ parted cs p lower upper
        parted_at = subst (λ t. built_told d t ≡ parted cs p lower upper) (during_ok Copy r s o) v

        pub divided : Ok Made ≡ refused_in Copy (parted cs p lower upper)
        divided = passed_ok Copy (parted cs p lower upper) Made (ap (during Copy) parted_at)

        pub divided_at : (l : Link) → l ≡ link_of s → good_told d r → graft_at d l ≡ graft_of Made
        divided_at l e f = at_side d s l (subst (good_told d) (during_ok Copy r s o) f) e

        pub divided_linkable : (l : Link) → l ≡ link_of s → good_told d r → outside p.number (length cs) ≡ false → Linkable (length cs) 96 d l
        divided_linkable l e f h =
            let b = parted_bound cs p lower upper Made parted_at h in
            record {
              link = side_fine d s l (subst (good_told d) (during_ok Copy r s o) f) e;
              few = omega (arith, b.few, ap (λ g. news g.side) (divided_at l e f));
              gone = b.gone;
            }
