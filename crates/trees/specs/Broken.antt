-- Designs that break what is promised, each with a case in which it does.
use Rattle.std.specs.Prelude.{◌≡◌, ℕ, zero, suc, [], ◌∷◌, Some, None, Option}
use Rattle.keys.specs.Orders.{orderℕ}
use Rattle.trees.specs.Regions.{Ranges, gives, set_split, Parts}
use Rattle.trees.specs.Trees.{Turn, at_turn, Tree, leaf, node, inorder, seek, found}
use Rattle.trees.specs.Rotations.{Label, new}
use Rattle.trees.specs.Edits.{place, standing, least, Drop, edited}
use Rattle.trees.specs.Paths.{KeepsPath, MadeAs}
use Rattle.trees.specs.Units.{units}

abbrev pub lone : {R : Type 0} → ℕ → R → Tree ℕ R
lone n x = node n leaf x leaf

-- DROP THAT COPIES THE SUCCESSOR UPWARD, and unlinks it in a later call. The clause that it breaks: a node on a key's path that
-- stays in the tree stays on the path. A lookup that is past the top looks for the copied region at its old node, in vain.

-- the first call: a new top with the least region of the right side, which stays as it is
abbrev pub copied_up : Tree Label ℕ → Tree Label ℕ
copied_up leaf = leaf
copied_up (node o l x leaf) = l
copied_up (node o l x (node p c z d)) = node new l (least c z) (node p c z d)

-- region 2 with 1 on its left and 3 on its right; the new top is node 4
pub record CopyingUpBreaks : Type 0 where
  pub made : MadeAs (λ n. n ≡ 4) (copied_up (standing (node 1 (lone 2 1) 2 (lone 3 3)))) (node 4 (lone 2 1) 3 (lone 3 3))
  pub off_path : KeepsPath (seek units 3) (node 1 (lone 2 1) 2 (lone 3 3)) (node 4 (lone 2 1) 3 (lone 3 3)) → ⊥

-- SPLIT AS A SHORTENED REGION, and a later put of the upper part. The clause that it breaks: in order, the tree is the region set.
-- Between the two calls the upper keys are in no region of the tree.

pub record Span : Type 0 where
  pub from : ℕ
  pub to : ℕ

abbrev pub span : ℕ → ℕ → Span
span a b = record { from = a; to = b }

abbrev pub spans : Ranges ℕ Span
spans = record { Formed = λ k. Unit {0}; order = orderℕ; low = λ x. x.from; high = λ x. x.to }

-- the first call: a new node with the lower part, over the same sides
abbrev pub shortened : (Span → Span) → Tree Label Span → Tree Label Span
shortened lower leaf = leaf
shortened lower (node o l x r) = node new l (lower x) r

-- the two parts of a region at b
abbrev pub until : ℕ → Span → Span
until b x = span x.from b

abbrev pub since : ℕ → Span → Span
since b x = span b x.to

-- [1, 4) split at 2: where 3 is looked for after the first call
pub record ShorteningBreaks : Type 0 where
  pub parts : Parts spans 2 (until 2) (since 2)
  pub set_gives : gives spans (set_split spans 2 (until 2) (since 2) (span 1 4 ∷ [])) 3 ≡ Some (span 2 4)
  pub tree_finds : found (seek spans 3) (shortened (until 2) (standing (lone 1 (span 1 4)))) ≡ None
  pub not_the_set : inorder (shortened (until 2) (standing (lone 1 (span 1 4)))) ≡ set_split spans 2 (until 2) (since 2) (span 1 4 ∷ []) → ⊥

-- CHANGING A LINK IN A NODE THAT HAS LEFT. The clause that it breaks: a lookup's answer is what the set gave at a moment since its
-- opening. A walk goes through memory, not through a tree; a node that has left has to lead on as it did.

pub record Cell : Type 0 where
  pub left_link : ℕ
  pub region : ℕ
  pub right_link : ℕ

abbrev pub cell : ℕ → ℕ → ℕ → Cell
cell l x r = record { left_link = l; region = x; right_link = r }

-- a walk from the node n, of so many steps at most: its answer, or none yet; 0 is no node
abbrev pub walk : ℕ → (ℕ → Turn) → (ℕ → Cell) → ℕ → Option (Option ℕ)
walk zero turn memory n = None
walk (suc f) turn memory zero = Some None
walk (suc f) turn memory (suc n) =
    at_turn (turn (memory (suc n)).region) (walk f turn memory (memory (suc n)).left_link) (Some (Some (memory (suc n)).region))
    (walk f turn memory (memory (suc n)).right_link)

-- node 1 holds 5 and has node 2 on its right, which holds 8; `link` is the right link of node 1
abbrev pub two_nodes : ℕ → ℕ → Cell
two_nodes link zero = cell 0 0 0
two_nodes link (suc zero) = cell 0 5 link
two_nodes link (suc (suc n)) = cell 0 8 0

-- A lookup of 8 has opened at node 1. Region 5 is dropped, so that node 1 leaves the tree; then its link is cleared. The lookup
-- answers none, though the set gave 8 before the drop and after it.
pub record RelinkingBreaks : Type 0 where
  pub leaves : edited units (Drop 5) (place [] (node 1 leaf 5 (lone 2 8))) ≡ record { above = []; grown = standing (lone 2 8) }
  pub gave_before : gives units (inorder (node 1 leaf 5 (lone 2 8))) 8 ≡ Some 8
  pub gave_after : gives units (inorder (lone 2 8)) 8 ≡ Some 8
  pub with_the_link : walk 3 (seek units 8) (two_nodes 2) 1 ≡ Some (Some 8)
  pub without_it : walk 3 (seek units 8) (two_nodes 0) 1 ≡ Some None
