-- The steps of an advance.
use Rattle.std.proofs.Common.{◌≡◌, ℕ, List, [], ◌∷◌, ◌++◌, Some, None, Ok, Err, Option, Result, sym, ap, ◌∙◌}
use Rattle.store.specs.Nodes.{region_of}
use Rattle.store.specs.declared.node.Node.{Node}
use Rattle.store.specs.declared.fault.StoreFault.{StoreFault}
use Rattle.store.specs.Cells.{Cell, read_answer}
use Rattle.drafts.specs.declared.link.Numbered.{Numbered}
use Rattle.drafts.specs.declared.link.Link.TheVariants.{Old}
use Rattle.drafts.specs.declared.link.Side.{Side}
use Rattle.drafts.specs.declared.link.Lean.{Lean}
use Rattle.drafts.specs.declared.draft.Draft.{Draft}
use Rattle.drafts.specs.Grown.{kept, Seen, seen, weight, size_over, rotated}
use Rattle.drafts.specs.Drafts.{grown, tree_of, seen_of, Good, gone_of, side_weight, Grew, Makes}
use Rattle.drafts.proofs.Seeing.{weight_seen, seen_same}
use Rattle.drafts.proofs.Turning.{bind_at, bind_stop}
use Rattle.commits.specs.declared.writes.Joint.{Joint}
use Rattle.edits.specs.declared.pending.Weighed.{Weighed}
use Rattle.edits.specs.declared.pending.Plan.{Plan}
use Rattle.search.specs.Paths.{lowest}
use Rattle.edits.specs.Calls.{Sized, resized, sized, sized_of, sized_in, good_in, side_of, joint_at, joint_by, turned_at, turned_in, plan_good}

module _ {K : Type 0} where
  sized_as : (n : ℕ) (v : Node K) (a b s : ℕ) (l r : Seen K) (u : Node K) → u ≡ resized s v → s ≡ size_over a b → a ≡ weight l → b ≡ weight r →
      ◌≡◌ {A = Sized K} (record { node = record { number = n; node = u }; left = l; right = r }) (sized_of n v l r)
  sized_as n v a b s l r u e f g h =
      ap (λ x. record { node = record { number = n; node = x }; left = l; right = r }) (e ∙ ap (λ k. resized k v) (f ∙ ap (λ k. size_over k b) g ∙ ap (λ k. size_over (weight l) k) h))

  pub sized_done : (cs : List (Cell K)) (d : Draft K) (n : ℕ) (v u : Node K) (l r : Side K) (a b s : ℕ) → Ok v ≡ read_answer cs n →
      Ok (seen_of d l) ≡ seen cs (tree_of d (Old v.left)) → Ok (seen_of d r) ≡ seen cs (tree_of d (Old v.right)) → u ≡ resized s v → s ≡ size_over a b → a ≡ side_weight l → b ≡ side_weight r →
      sized_in d (Ok (record { node = record { number = n; node = u }; left = l; right = r })) ≡ sized cs n
  unfolding sized grown
  sized_done cs d n v u l r a b s h p q e f g i =
      ap Ok (sized_as n v a b s (seen_of d l) (seen_of d r) u e f (g ∙ sym (weight_seen d l)) (i ∙ sym (weight_seen d r)))
      ∙ bind_at (seen cs (kept v.right)) (seen_of d r) _ q ∙ bind_at (seen cs (kept v.left)) (seen_of d l) _ p ∙ bind_at (read_answer cs n) v _ h

  pub sized_unread : (cs : List (Cell K)) (d : Draft K) (n : ℕ) (e y : StoreFault) (r : Result (Weighed K) StoreFault) → Err e ≡ read_answer cs n → r ≡ Err y → y ≡ e →
      (sized_in d r ≡ sized cs n) × good_in d r
  unfolding sized
  sized_unread cs d n e y r h p q = (rw (p, q) (bind_stop (read_answer cs n) e _ h), rw p tt)

  pub sized_left : (cs : List (Cell K)) (d : Draft K) (n : ℕ) (v : Node K) (e y : StoreFault) (r : Result (Weighed K) StoreFault) → Ok v ≡ read_answer cs n →
      Err e ≡ seen cs (tree_of d (Old v.left)) → r ≡ Err y → y ≡ e → (sized_in d r ≡ sized cs n) × good_in d r
  unfolding sized grown
  sized_left cs d n v e y r h i p q = (rw (p, q) (bind_stop (seen cs (kept v.left)) e _ i ∙ bind_at (read_answer cs n) v _ h), rw p tt)

  pub sized_right : (cs : List (Cell K)) (d : Draft K) (n : ℕ) (v : Node K) (l : Side K) (e y : StoreFault) (r : Result (Weighed K) StoreFault) → Ok v ≡ read_answer cs n →
      Ok (seen_of d l) ≡ seen cs (tree_of d (Old v.left)) → Err e ≡ seen cs (tree_of d (Old v.right)) → r ≡ Err y → y ≡ e → (sized_in d r ≡ sized cs n) × good_in d r
  unfolding sized grown
  sized_right cs d n v l e y r h i j p q =
      (rw (p, q) (bind_stop (seen cs (kept v.right)) e _ j ∙ bind_at (seen cs (kept v.left)) (seen_of d l) _ i ∙ bind_at (read_answer cs n) v _ h), rw p tt)

  -- the link to a node
  pub joint_root : (cs : List (Cell K)) (path : List ℕ) (n : ℕ) → None ≡ lowest path → Ok None ≡ joint_at cs path n
  unfolding joint_at
  joint_root cs path n e = ap (joint_by cs n) e

  pub joint_unread : (cs : List (Cell K)) (path : List ℕ) (n p : ℕ) (e y : StoreFault) (r : Result (Option (Joint K)) StoreFault) → Some p ≡ lowest path → Err e ≡ read_answer cs p → r ≡ Err y → y ≡ e →
      r ≡ joint_at cs path n
  unfolding joint_at
  joint_unread cs path n p e y r a b q h = q ∙ ap Err h ∙ bind_stop (read_answer cs p) e _ b ∙ ap (joint_by cs n) a

  pub joint_under : (cs : List (Cell K)) (path : List ℕ) (n p : ℕ) (v : Node K) (s : Lean) → Some p ≡ lowest path → Ok v ≡ read_answer cs p → s ≡ side_of n v →
      Ok (Some (record { above = record { number = p; node = v }; side = s })) ≡ joint_at cs path n
  unfolding joint_at
  joint_under cs path n p v s a b e =
      ap (λ t. Ok (Some (record { above = record { number = p; node = v }; side = t }))) e ∙ bind_at (read_answer cs p) v _ b ∙ ap (joint_by cs n) a

  -- the rotation as a plan: the node itself leaves first
  pub only : (d d₀ : Draft K) (p : Numbered K) → gone_of d ≡ [] → gone_of d₀ ≡ gone_of d ++ (p ∷ []) → gone_of d₀ ≡ p ∷ []
  only d d₀ p z e = e ∙ ap (λ g. g ++ (p ∷ [])) z

  rotated_as : (cs : List (Cell K)) (d d₀ : Draft K) (p : Numbered K) (s : Lean) (l r : Side K) → Grew 0 1 d d₀ → gone_of d₀ ≡ p ∷ [] → Good d l → Good d r →
      rotated cs (gone_of d₀) s (region_of p.node) (seen_of d₀ l) (seen_of d₀ r) ≡ rotated cs (p ∷ []) s (region_of p.node) (seen_of d l) (seen_of d r)
  rotated_as cs d d₀ p s l r g e f h =
      ap (λ z. rotated cs z s (region_of p.node) (seen_of d₀ l) (seen_of d₀ r)) e
      ∙ ap (λ z. rotated cs (p ∷ []) s (region_of p.node) z (seen_of d₀ r)) (seen_same l g f)
      ∙ ap (λ z. rotated cs (p ∷ []) s (region_of p.node) (seen_of d l) z) (seen_same r g h)

  pub plan_stop : (cs : List (Cell K)) (path : List ℕ) (d d₀ d₁ : Draft K) (w : Weighed K) (s : Lean) (e y : StoreFault) (r : Result (Plan K) StoreFault) → Grew 0 1 d d₀ → gone_of d₀ ≡ w.node ∷ [] →
      Good d w.left → Good d w.right → Makes 3 2 d₀ d₁ (Err e) (rotated cs (gone_of d₀) s (region_of w.node.node) (seen_of d₀ w.left) (seen_of d₀ w.right)) → r ≡ Err y → y ≡ e →
      (turned_in d₁ r ≡ turned_at cs path (record { node = w.node; left = seen_of d w.left; right = seen_of d w.right }) s) × plan_good d₁ r
  unfolding turned_at
  plan_stop cs path d d₀ d₁ w s e y r g h f i m p q =
      (rw (p, q) (bind_stop _ e _ (m.is ∙ rotated_as cs d d₀ w.node s w.left w.right g h f i)), rw p tt)

  pub plan_unread : (cs : List (Cell K)) (path : List ℕ) (d d₀ d₁ : Draft K) (w : Weighed K) (s : Lean) (t : Side K) (e y : StoreFault) (r : Result (Plan K) StoreFault) → Grew 0 1 d d₀ → gone_of d₀ ≡ w.node ∷ [] →
      Good d w.left → Good d w.right → Makes 3 2 d₀ d₁ (Ok t) (rotated cs (gone_of d₀) s (region_of w.node.node) (seen_of d₀ w.left) (seen_of d₀ w.right)) →
      Err e ≡ joint_at cs path w.node.number → r ≡ Err y → y ≡ e →
      (turned_in d₁ r ≡ turned_at cs path (record { node = w.node; left = seen_of d w.left; right = seen_of d w.right }) s) × plan_good d₁ r
  unfolding turned_at
  plan_unread cs path d d₀ d₁ w s t e y r g h f i m j p q =
      (rw (p, q) (bind_stop (joint_at cs path w.node.number) e _ j ∙ bind_at _ _ _ (m.is ∙ rotated_as cs d d₀ w.node s w.left w.right g h f i)), rw p tt)

  pub plan_done : (cs : List (Cell K)) (path : List ℕ) (d d₀ d₁ : Draft K) (w : Weighed K) (s : Lean) (t : Side K) (j : Option (Joint K)) → Grew 0 1 d d₀ → gone_of d₀ ≡ w.node ∷ [] →
      Good d w.left → Good d w.right → Makes 3 2 d₀ d₁ (Ok t) (rotated cs (gone_of d₀) s (region_of w.node.node) (seen_of d₀ w.left) (seen_of d₀ w.right)) →
      Ok j ≡ joint_at cs path w.node.number →
      turned_in d₁ (Ok (record { top = t; joint = j })) ≡ turned_at cs path (record { node = w.node; left = seen_of d w.left; right = seen_of d w.right }) s
  unfolding turned_at
  plan_done cs path d d₀ d₁ w s t j g h f i m k =
      bind_at (joint_at cs path w.node.number) j _ k ∙ bind_at _ _ _ (m.is ∙ rotated_as cs d d₀ w.node s w.left w.right g h f i)
