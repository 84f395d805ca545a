-- Every write of an edit falls on a node of the store just if there is a number for each new node: one without gets the number 0.
use Rattle.std.proofs.Common.{◌≡◌, ℕ, ◌+◌, ◌≤◌, false, List, [], ◌∷◌, ◌++◌, map, length, Some, None, Option, arith}
use Rattle.store.specs.Faults.{outside}
use Rattle.drafts.specs.declared.link.Numbered.{Numbered}
use Rattle.drafts.specs.Grown.{Grown, kept, built}
use Rattle.search.specs.Firsts.{first, later}
use Rattle.commits.specs.declared.writes.Joint.{Joint}
use Rattle.commits.specs.Commits.{news, placed, hung, left_behind, committed, AllInside, GoneInside, JointInside}
use Rattle.commits.specs.Theorems.{TakesEnough}
use Rattle.commits.proofs.Committing.{first_inside, rest_length, rest_inside}

one_later : (N : ℕ) (ms : List ℕ) → outside (first ms) N ≡ false → length (later ms) + 1 ≡ length ms
one_later N [] h = absurd (let z : ⊥ = cc in z)
one_later N (m ∷ ms) h = omega arith

module _ {K : Type 0} (N : ℕ) where
  both_inside : (ws us : List (Numbered K)) → GoneInside N ws → GoneInside N us → GoneInside N (ws ++ us)
  both_inside [] us p q = q
  both_inside (w ∷ ws) us p q = (p.0, both_inside ws us p.1 q)

  front_inside : (ws us : List (Numbered K)) → GoneInside N (ws ++ us) → GoneInside N ws
  front_inside [] us p = tt
  front_inside (w ∷ ws) us p = (p.0, front_inside ws us p.1)

  back_inside : (ws us : List (Numbered K)) → GoneInside N (ws ++ us) → GoneInside N us
  back_inside [] us p = p
  back_inside (w ∷ ws) us p = back_inside ws us p.1

  left_inside : (sessions : ℕ) (gone : List (Numbered K)) → GoneInside N gone → GoneInside N (map (left_behind sessions) gone)
  left_inside sessions [] p = tt
  left_inside sessions (g ∷ gone) p = (p.0, left_inside sessions gone p.1)

  hung_inside : (j : Option (Joint K)) (n : ℕ) → JointInside N j → GoneInside N (hung j n)
  hung_inside None n h = tt
  hung_inside (Some j) n h = (h, tt)

  placed_inside : (t : Grown K) (ns : List ℕ) → news t ≤ length ns → AllInside N ns → GoneInside N (placed t ns).writes
  unfolding placed news
  placed_inside (kept m) ns h a = tt
  placed_inside (built s x l r) ns h a =
      let left = placed l ns in
      let right = placed r left.rest in
      let i = rest_length l ns (omega arith) in
      let j = rest_length r left.rest (omega arith) in
      let b = rest_inside N l ns a in
      let top = first_inside N right.rest (omega arith) (rest_inside N r left.rest b) in
      both_inside left.writes _ (placed_inside l ns (omega arith) a)
      (both_inside right.writes _ (placed_inside r left.rest (omega arith) b) (top, tt))

  pub committed_inside : (j : Option (Joint K)) (t : Grown K) (ns : List ℕ) (sessions : ℕ) (gone : List (Numbered K)) → news t ≤ length ns → AllInside N ns → JointInside N j → GoneInside N gone →
      GoneInside N (committed j (placed t ns) sessions gone)
  unfolding committed
  committed_inside j t ns sessions gone h a i g =
      both_inside (placed t ns).writes _ (placed_inside t ns h a) (both_inside (hung j (placed t ns).top) _ (hung_inside j _ i) (left_inside sessions gone g))

  rest_told : (t : Grown K) (ns : List ℕ) → GoneInside N (placed t ns).writes → length (placed t ns).rest + news t ≡ length ns
  unfolding placed news
  rest_told (kept m) ns h = omega arith
  rest_told (built s x l r) ns h =
      let left = placed l ns in
      let right = placed r left.rest in
      let others = back_inside left.writes _ h in
      let i = rest_told l ns (front_inside left.writes _ h) in
      let j = rest_told r left.rest (front_inside right.writes _ others) in
      let k = one_later N right.rest (back_inside right.writes _ others).0 in
      omega arith

pub takes_enough : {K : Type 0} → TakesEnough K
unfolding committed
takes_enough N j t ns sessions gone h = omega (arith, rest_told N t ns (front_inside N (placed t ns).writes _ h))
