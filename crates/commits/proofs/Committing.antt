-- Writes made one after another, and a tree put into the store.
use Rattle.std.proofs.Common.{◌≡◌, ℕ, zero, suc, ◌+◌, ◌<◌, ◌≤◌, false, List, [], ◌∷◌, ◌++◌, map, length, take, Some, None, Option, Ok, Err, Result, sym, refl, ap, ◌∙◌, subst, arith}
use Rattle.std.specs.List.{slice_get}
use Rattle.std.proofs.lemmas.List.{take_more, map-append}
use Rattle.std.proofs.lemmas.Option.{slice_get_within, get_or_from_slice_get}
use Rattle.store.specs.declared.node.Node.{Node}
use Rattle.store.specs.declared.fault.StoreFault.{StoreFault}
use Rattle.store.specs.Faults.{outside}
use Rattle.store.specs.Cells.{Cell, Written, write_answer}
use Rattle.store.proofs.Insides.{write_inside}
use Rattle.store.proofs.Writes.{written_length}
use Rattle.store.specs.declared.node.Region.{Region}
use Rattle.drafts.specs.declared.link.Numbered.{Numbered}
use Rattle.drafts.specs.declared.link.Link.{Link}
use Rattle.drafts.specs.declared.link.Link.TheVariants.{Old, New}
use Rattle.drafts.specs.declared.link.Branch.{Branch}
use Rattle.drafts.specs.declared.draft.Draft.{Draft}
use Rattle.drafts.specs.Grown.{Grown, kept, built}
use Rattle.drafts.specs.Drafts.{grown, tree_of, Stands}
use Rattle.search.specs.Firsts.{first, later}
use Rattle.commits.specs.declared.writes.Joint.{Joint}
use Rattle.commits.specs.Commits.{Writes, AllInside, Placing, new_node, news, placed, with_link, hung, root_after, JointInside, leaving, left_behind, committed, GoneInside}

later_length : (ns : List ℕ) → 0 < length ns → length (later ns) + 1 ≡ length ns
later_length [] h = absurd (omega arith)
later_length (n ∷ ns) h = omega arith

later_inside : (N : ℕ) (ns : List ℕ) → AllInside N ns → AllInside N (later ns)
later_inside N [] p = tt
later_inside N (n ∷ ns) p = p.1

pub first_inside : (N : ℕ) (ns : List ℕ) → 0 < length ns → AllInside N ns → outside (first ns) N ≡ false
first_inside N [] h p = absurd (omega arith)
first_inside N (n ∷ ns) h p = p.0

pub next_inside : (N n : ℕ) (ns : List ℕ) → n ≡ first ns → 0 < length ns → AllInside N ns → outside n N ≡ false
next_inside N n ns e h p = ap (λ m. outside m N) e ∙ first_inside N ns h p

module _ {K : Type 0} where
  -- a write to a node of the store is taken
  pub no_refusal : (cs : List (Cell K)) (n : ℕ) (e : StoreFault) → outside n (length cs) ≡ false → Err e ≡ write_answer cs n → ⊥
  no_refusal cs n e h r =
      let w : ◌≡◌ {A = Result (Unit {0}) StoreFault} (Err e) (Ok tt) = r ∙ write_inside cs n h in
      cc

  pub writes_none : (cs : List (Cell K)) → Writes cs [] cs
  unfolding Writes
  writes_none cs = refl

  pub writes_one : (cs ds : List (Cell K)) (n : ℕ) (v : Node K) → Written cs n v ds → Writes cs (record { number = n; node = v } ∷ []) ds
  unfolding Writes
  writes_one cs ds n v w = (ds, w, refl)

  pub writes_then : (cs mid ds : List (Cell K)) (ws us : List (Numbered K)) → Writes cs ws mid → Writes mid us ds → Writes cs (ws ++ us) ds
  unfolding Writes
  writes_then cs mid ds [] us p q = subst (λ c. Writes c us ds) p q
  writes_then cs mid ds (w ∷ ws) us p q = (p.0, p.1, writes_then p.0 mid ds ws us p.2 q)

  pub writes_length : (cs ds : List (Cell K)) (ws : List (Numbered K)) → Writes cs ws ds → length ds ≡ length cs
  unfolding Writes
  writes_length cs ds [] p = ap length p
  writes_length cs ds (w ∷ ws) p = writes_length p.0 ds ws p.2 ∙ written_length cs w.number w.node p.0 p.1

  -- the numbers that are left
  pub rest_length : (t : Grown K) (ns : List ℕ) → news t ≤ length ns → length (placed t ns).rest + news t ≡ length ns
  unfolding placed news
  rest_length (kept m) ns h = omega arith
  rest_length (built s x l r) ns h =
      let a = rest_length l ns (omega arith) in
      let b = rest_length r (placed l ns).rest (omega arith) in
      let c = later_length (placed r (placed l ns).rest).rest (omega arith) in
      omega arith

  pub rest_inside : (N : ℕ) (t : Grown K) (ns : List ℕ) → AllInside N ns → AllInside N (placed t ns).rest
  unfolding placed
  rest_inside N (kept m) ns p = p
  rest_inside N (built s x l r) ns p = later_inside N _ (rest_inside N r _ (rest_inside N l ns p))

  -- what placing one tree comes to
  pub record Placed (cs ds : List (Cell K)) (t : Grown K) (ns ms : List ℕ) (n : ℕ) : Type 0 where
    pub top : n ≡ (placed t ns).top
    pub writes : Writes cs (placed t ns).writes ds
    pub rest : ms ≡ (placed t ns).rest

  pub placed_kept : (cs : List (Cell K)) (d : Draft K) (l : Link) (n : ℕ) (ns : List ℕ) → l ≡ Old n → Placed cs cs (tree_of d l) ns ns n
  unfolding placed grown Writes
  placed_kept cs d l n ns e = record { top = rw e; writes = rw e; rest = rw e }

  placed_over : (cs cs₁ cs₂ ds : List (Cell K)) (s : ℕ) (x : Region K) (l r : Grown K) (ns : List ℕ) →
      Writes cs (placed l ns).writes cs₁ → Writes cs₁ (placed r (placed l ns).rest).writes cs₂ →
      Written cs₂ (first (placed r (placed l ns).rest).rest) (new_node s x (placed l ns).top (placed r (placed l ns).rest).top) ds →
      Writes cs (placed (built s x l r) ns).writes ds
  unfolding placed
  placed_over cs cs₁ cs₂ ds s x l r ns p q w = writes_then cs cs₁ ds _ _ p (writes_then cs₁ cs₂ ds _ _ q (writes_one cs₂ ds _ _ w))

  placed_built : (cs cs₁ cs₂ ds : List (Cell K)) (s : ℕ) (x : Region K) (l r : Grown K) (ns ns₁ ns₂ ns₃ : List ℕ) (a b n : ℕ) →
      Placed cs cs₁ l ns ns₁ a → Placed cs₁ cs₂ r ns₁ ns₂ b → n ≡ first ns₂ → ns₃ ≡ later ns₂ → Written cs₂ n (new_node s x a b) ds → Placed cs ds (built s x l r) ns ns₃ n
  unfolding placed
  placed_built cs cs₁ cs₂ ds s x l r ns ns₁ ns₂ ns₃ a b n p q e f w =
      let g : ns₂ ≡ (placed r (placed l ns).rest).rest = q.rest ∙ ap (λ z. (placed r z).rest) p.rest in
      let h : b ≡ (placed r (placed l ns).rest).top = q.top ∙ ap (λ z. (placed r z).top) p.rest in
      let i : n ≡ first (placed r (placed l ns).rest).rest = e ∙ ap first g in
      record {
        top = i;
        writes = placed_over cs cs₁ cs₂ ds s x l r ns p.writes (subst (λ z. Writes cs₁ (placed r z).writes cs₂) p.rest q.writes)
            (subst (λ z. Written cs₂ z (new_node s x (placed l ns).top (placed r (placed l ns).rest).top) ds) i
            (subst (λ z. Written cs₂ n (new_node s x (placed l ns).top z) ds) h (subst (λ z. Written cs₂ n (new_node s x z b) ds) p.top w)));
        rest = f ∙ ap later g;
      }

  pub placed_new : (cs cs₁ cs₂ ds : List (Cell K)) (d : Draft K) (k : Link) (i : ℕ) (v : Branch K) (ns ns₁ ns₂ ns₃ : List ℕ) (a b n : ℕ) → k ≡ New i → Stands d i v →
      Placed cs cs₁ (tree_of d v.left) ns ns₁ a → Placed cs₁ cs₂ (tree_of d v.right) ns₁ ns₂ b → n ≡ first ns₂ → ns₃ ≡ later ns₂ →
      Written cs₂ n (new_node v.size v.region a b) ds → Placed cs ds (tree_of d k) ns ns₃ n
  placed_new cs cs₁ cs₂ ds d k i v ns ns₁ ns₂ ns₃ a b n e p q r f h w =
      subst (λ t. Placed cs ds t ns ns₃ n) (sym (ap (tree_of d) e ∙ p.tree)) (placed_built cs cs₁ cs₂ ds v.size v.region _ _ ns ns₁ ns₂ ns₃ a b n q r f h w)

  -- how many numbers the sides want
  pub news_new : (d : Draft K) (k : Link) (i : ℕ) (v : Branch K) → k ≡ New i → Stands d i v → news (tree_of d k) ≡ news (tree_of d v.left) + news (tree_of d v.right) + 1
  unfolding news
  news_new d k i v e p = ap (λ l. news (tree_of d l)) e ∙ ap news p.tree

  -- the nodes that leave, one after another
  pub left_next : (cs mid ds : List (Cell K)) (sessions i : ℕ) (ps : List (Numbered K)) (p : Numbered K) → slice_get ps i ≡ Some p →
      Writes cs (map (left_behind sessions) (take i ps)) mid → Written mid p.number (leaving sessions p.node) ds → Writes cs (map (left_behind sessions) (take (i + 1) ps)) ds
  left_next cs mid ds sessions i ps p e h w =
      let next : take (i + 1) ps ≡ take i ps ++ (p ∷ []) =
      take_more ps i p (slice_get_within ps i p e) ∙ ap (λ q. take i ps ++ (q ∷ [])) (get_or_from_slice_get ps i p p e) in
      rw (next, map-append (left_behind sessions) (take i ps) (p ∷ [])) (writes_then cs mid ds _ _ h (writes_one mid ds _ _ w))

  pub inside_at : (N i : ℕ) (ps : List (Numbered K)) (p : Numbered K) → slice_get ps i ≡ Some p → GoneInside N ps → outside p.number N ≡ false
  inside_at N i [] p e h = absurd (let z : ⊥ = cc in z)
  inside_at N zero (q ∷ ps) p e h = let z : q ≡ p = cc in subst (λ r. outside r.number N ≡ false) z h.0
  inside_at N (suc i) (q ∷ ps) p e h = inside_at N i ps p e h.1

  pub all_written : (cs cs₁ cs₂ ds : List (Cell K)) (j : Option (Joint K)) (p : Placing K) (n sessions : ℕ) (gone : List (Numbered K)) → n ≡ p.top →
      Writes cs p.writes cs₁ → Writes cs₁ (hung j n) cs₂ → Writes cs₂ (map (left_behind sessions) gone) ds → Writes cs (committed j p sessions gone) ds
  unfolding committed
  all_written cs cs₁ cs₂ ds j p n sessions gone e a b c =
      writes_then cs cs₁ ds _ _ a (writes_then cs₁ cs₂ ds _ _ (subst (λ m. Writes cs₁ (hung j m) cs₂) e b) c)

  -- what is left after a tree was placed: k numbers at least, all of them nodes of the store
  pub record Leaves (ds : List (Cell K)) (ms : List ℕ) (k : ℕ) : Type 0 where
    pub many : k ≤ length ms
    pub inside : AllInside (length ds) ms

  pub leaves : (cs ds : List (Cell K)) (t : Grown K) (ns ms : List ℕ) (k : ℕ) → Writes cs (placed t ns).writes ds → ms ≡ (placed t ns).rest →
      news t + k ≤ length ns → AllInside (length cs) ns → Leaves ds ms k
  leaves cs ds t ns ms k w e h p =
      let a = rest_length t ns (omega arith) in
      record {
        many = omega (arith, ap length e);
        inside = rw (e, writes_length cs ds (placed t ns).writes w) (rest_inside (length cs) t ns p);
      }

  -- after the left side of a new node was placed
  pub leaves_right : (cs ds : List (Cell K)) (d : Draft K) (k : Link) (i : ℕ) (v : Branch K) (ns ms : List ℕ) → k ≡ New i → Stands d i v →
      Writes cs (placed (tree_of d v.left) ns).writes ds → ms ≡ (placed (tree_of d v.left) ns).rest → news (tree_of d k) ≤ length ns → AllInside (length cs) ns →
      Leaves ds ms (news (tree_of d v.right) + 1)
  leaves_right cs ds d k i v ns ms e s w r h p = leaves cs ds (tree_of d v.left) ns ms _ w r (omega (arith, news_new d k i v e s)) p

  -- the one link
  pub hung_root : (cs : List (Cell K)) (j : Option (Joint K)) (n root : ℕ) → j ≡ None → Writes cs (hung j n) cs × (n ≡ root_after j n root)
  hung_root cs j n root e = (rw e (writes_none cs), rw e)

  pub hung_under : (cs ds : List (Cell K)) (o : Option (Joint K)) (j : Joint K) (v : Node K) (n root : ℕ) → o ≡ Some j → v ≡ with_link j.side n j.above.node →
      Written cs j.above.number v ds → Writes cs (hung o n) ds × (root ≡ root_after o n root)
  hung_under cs ds o j v n root e f w = (rw e (writes_one cs ds j.above.number _ (subst (λ u. Written cs j.above.number u ds) f w)), rw e)

  pub under_inside : (N : ℕ) (o : Option (Joint K)) (j : Joint K) → o ≡ Some j → JointInside N o → outside j.above.number N ≡ false
  under_inside N o j e h = subst (JointInside N) e h

  pub joint_after : (cs ds : List (Cell K)) (ws : List (Numbered K)) (j : Option (Joint K)) → Writes cs ws ds → JointInside (length cs) j → JointInside (length ds) j
  joint_after cs ds ws j w h = subst (λ N. JointInside N j) (sym (writes_length cs ds ws w)) h

  pub gone_after : (cs ds : List (Cell K)) (ws ps : List (Numbered K)) → Writes cs ws ds → GoneInside (length cs) ps → GoneInside (length ds) ps
  gone_after cs ds ws ps w h = subst (λ N. GoneInside N ps) (sym (writes_length cs ds ws w)) h
