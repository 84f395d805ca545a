-- Lookups that are going, from their opening on, whatever nodes are held and whatever was given.
use Rattle.std.proofs.Common.{ℕ, List, [], ◌∷◌, Option, refl, inr, arith}
use Rattle.store.specs.declared.node.Region.{Region}
use Rattle.trees.specs.Trees.{Turn, Tree, path, found}
use Rattle.trees.specs.Paths.{Distinct}
use Rattle.trees.proofs.Ancestors.{on_inside}
use Rattle.runs.specs.States.{Cells, Spells}
use Rattle.lookups.specs.Ways.{WillTell, GoingAt}
use Rattle.lookups.proofs.Walks.{spelled_walk}

module _ {K : Type 0} (Held : ℕ → Type 0) (Gave : Option (Region K) → Type 0) (turn : Region K → Turn) where
  -- what is found now was given now
  will_tell_found : (t : Tree ℕ (Region K)) (ns : List ℕ) → Gave (found turn t) → WillTell Held Gave turn t (found turn t) ns
  will_tell_found t [] g = g
  will_tell_found t (n ∷ ns) g = refl

  pub opens :
      (cs : Cells K) (pending : List ℕ) (root : ℕ) (t : Tree ℕ (Region K)) → Spells cs pending root t → Distinct t → Gave (found turn t) →
      GoingAt Held Gave turn cs t root []
  opens cs pending root t s d g = record {
    out = found turn t;
    gone = [];
    above = [];
    ahead = path turn t;
    walks = spelled_walk cs turn pending root t s;
    on_path = refl;
    gone_wait = λ q h. absurd (omega arith);
    seen_stand = λ q h. absurd (omega arith);
    once = λ q. omega (arith, on_inside turn q t, d q);
    will_tell = will_tell_found t (path turn t) g;
    at_node = inr refl;
  }
