-- One step of a going lookup, and how many steps there can be.
use Rattle.std.proofs.Common.{◌≡◌, ℕ, suc, ◌≤◌, eqb, ◌⊎◌, List, [], ◌∷◌, ◌++◌, length, Some, None, Option, sym, refl, ap, ◌∙◌, subst, inl, inr, append_assoc, arith, length-append}
use Rattle.store.specs.declared.node.Node.{Node}
use Rattle.store.specs.declared.node.Region.{Region}
use Rattle.store.specs.Cells.{readable, cell_at}
use Rattle.store.specs.Nodes.{region_of}
use Rattle.trees.specs.Trees.{Turn, to_left, here, to_right, Tree, found, seek}
use Rattle.trees.specs.Paths.{times, On, In}
use Rattle.trees.proofs.Ancestors.{on_inside, times_append}
use Rattle.runs.specs.Calls.{Kind, regions, Outcome}
use Rattle.runs.specs.States.{Cells, Row, pool, InPool}
use Rattle.runs.specs.Effects.{Onward, Steps, no_place, finds, ends, goes_on}
use Rattle.lookups.specs.Ways.{Walk, no_node, finds as walk_finds, onward, Waits, WillTell, GoingAt, FoundAt, AfterStep}
use Rattle.lookups.proofs.Numbers.{on_either, on_first, on_cons, at_most}
use Rattle.lookups.proofs.Carries.{was_given}

onward_one : {K : Type 0} (d : Turn) (v : Node K) (q r : ℕ) → Onward d v q → Onward d v r → q ≡ r
onward_one to_left v q r a b = a ∙ sym b
onward_one here v q r a b = absurd a
onward_one to_right v q r a b = a ∙ sym b

-- no walk goes on from where it ends
onward_not_here : {K : Type 0} (d : Turn) (v : Node K) (q : ℕ) → d ≡ here → Onward d v q → ⊥
onward_not_here to_left v q e o = let z : ◌≡◌ {A = ℕ} 0 1 = cc in omega arith
onward_not_here here v q e o = o
onward_not_here to_right v q e o = let z : ◌≡◌ {A = ℕ} 0 1 = cc in omega arith

module _ {K : Type 0} (cs : Cells K) (turn : Region K → Turn) where
  same_cell : (p : ℕ) (v w : Node K) → cell_at cs p ≡ readable v → cell_at cs p ≡ readable w → v ≡ w
  same_cell p v w a b = cc

  -- the walk ahead, at a node where a step can be told
  walk_ends : (out : Option (Region K)) (p : ℕ) (ns : List ℕ) → p ≡ 0 → Walk cs turn out p ns → out ≡ None
  walk_ends out p ns z (no_node e) = e
  walk_ends out p ns z (walk_finds _ v i c d e) = absurd (let f : ⊥ = omega arith in f)
  walk_ends out p ns z (onward _ q v ms i c d w) = absurd (let f : ⊥ = omega arith in f)

  walk_here :
      (out : Option (Region K)) (p : ℕ) (v : Node K) (ns : List ℕ) → 1 ≤ p → cell_at cs p ≡ readable v → turn (region_of v) ≡ here → Walk cs turn out p ns →
      out ≡ Some (region_of v)
  walk_here out p v ns i c h (no_node e) = absurd (let f : ⊥ = omega arith in f)
  walk_here out p v ns i c h (walk_finds _ w j d k e) = e ∙ ap (λ (u : Node K). Some (region_of u)) (same_cell p w v d c)
  walk_here out p v ns i c h (onward _ q w ms j d o k) =
      absurd (onward_not_here (turn (region_of w)) w q (ap (λ (u : Node K). turn (region_of u)) (same_cell p w v d c) ∙ h) o)

  -- what follows its first node
  record Follows (out : Option (Region K)) (p q : ℕ) (ns : List ℕ) : Type 0 where
    rest : List ℕ
    first : ns ≡ p ∷ rest
    walk : Walk cs turn out q rest

  walk_onward :
      (out : Option (Region K)) (p q : ℕ) (v : Node K) (ns : List ℕ) → 1 ≤ p → cell_at cs p ≡ readable v → Onward (turn (region_of v)) v q →
      Walk cs turn out p ns → Follows out p q ns
  walk_onward out p q v ns i c o (no_node e) = absurd (let f : ⊥ = omega arith in f)
  walk_onward out p q v ns i c o (walk_finds _ w j d k e) =
      absurd (onward_not_here (turn (region_of v)) v q (ap (λ (u : Node K). turn (region_of u)) (same_cell p v w c d) ∙ k) o)
  walk_onward out p q v ns i c o (onward _ r w ms j d b k) =
      let o' = subst (λ (u : Node K). Onward (turn (region_of u)) u q) (same_cell p v w c d) o in
      record { rest = ms; first = refl; walk = subst (λ (m : ℕ). Walk cs turn out m ms) (onward_one (turn (region_of w)) w r q b o') k }

  -- it begins at a node that can be read
  record Begins (p : ℕ) (ns : List ℕ) : Type 0 where
    there : Node K
    can_be_read : cell_at cs p ≡ readable there
    on_it : On p ns

  walk_begins : (out : Option (Region K)) (p : ℕ) (ns : List ℕ) → 1 ≤ p → Walk cs turn out p ns → Begins p ns
  walk_begins out p ns i (no_node e) = absurd (let f : ⊥ = omega arith in f)
  walk_begins out p ns i (walk_finds _ v j c d e) = record { there = v; can_be_read = c; on_it = on_first p [] }
  walk_begins out p ns i (onward _ q v ms j c d w) = record { there = v; can_be_read = c; on_it = on_first p ms }

module _ {K : Type 0} (Held : ℕ → Type 0) (Gave : Option (Region K) → Type 0) (turn : Region K → Turn) (cs : Cells K) (t : Tree ℕ (Region K)) (p : ℕ)
    (seen : List ℕ) (going : GoingAt Held Gave turn cs t p seen) where
  -- the node at its place can be read, and is in the tree or held
  begins : 1 ≤ p → Begins cs turn p (going.gone ++ going.ahead)
  begins i = walk_begins cs turn going.out p (going.gone ++ going.ahead) i going.walks

  ahead_in : (q : ℕ) → On q going.ahead → In q t
  ahead_in q h = omega (arith, on_inside turn q t, ap (times (eqb q)) going.on_path, times_append q going.above going.ahead)

  stands : (q : ℕ) → On q (going.gone ++ going.ahead) → In q t ⊎ Waits Held t q
  stands q h = elim (on_either q going.gone going.ahead h) [ inl a ↦ inr (going.gone_wait q a) | inr a ↦ inl (ahead_in q a) ]

  found_here : (v : Node K) → 1 ≤ p → cell_at cs p ≡ readable v → FoundAt Held cs t p (region_of v)
  found_here v i c = record { there = v; can_be_read = c; told = refl; stands = stands p (begins i).on_it }

  pub stands_at : 1 ≤ p → (x : Region K) × FoundAt Held cs t p x
  stands_at i = (region_of (begins i).there, found_here (begins i).there i (begins i).can_be_read)

  -- every node that it has met or will meet is in the tree or held, and there are no more than the pool has
  module _ (pool-in : (q : ℕ) → In q t ⊎ Waits Held t q → InPool cs q) where
    met : (q : ℕ) → On q (seen ++ (going.gone ++ going.ahead)) → InPool cs q
    met q h = elim (on_either q seen (going.gone ++ going.ahead) h) [
      | inl s ↦ elim (going.seen_stand q s) [
        | inl a ↦ pool-in q (inl (omega (arith, on_inside turn q t, ap (times (eqb q)) going.on_path, times_append q going.above going.ahead)))
        | inr w ↦ pool-in q (inr w)
      ]
      | inr a ↦ pool-in q (stands q a)
    ]

    few_met : length (seen ++ (going.gone ++ going.ahead)) ≤ pool cs
    few_met = at_most 32 (pool cs) (seen ++ (going.gone ++ going.ahead)) going.once (λ q h. let i = met q h in (i.past_seats, omega (arith, i.inside)))

    pub few_steps : 1 ≤ pool cs → suc (length seen) ≤ pool cs
    few_steps some = by_place going.at_node
      where
        one_more : (ns : List ℕ) → On p ns → 1 ≤ length ns
        one_more [] h = absurd (let f : ⊥ = omega arith in f)
        one_more (n ∷ ns) h = omega arith

        by_place : (1 ≤ p) ⊎ (seen ≡ []) → suc (length seen) ≤ pool cs
        by_place (inl i) = omega (arith, few_met, length-append seen (going.gone ++ going.ahead), one_more (going.gone ++ going.ahead) (begins i).on_it)
        by_place (inr e) = let z : length seen ≡ 0 = ap length e in omega arith

  module _ (now : Gave (found turn t)) where
    given : Gave going.out
    given = was_given Held Gave turn t going.out going.ahead now going.will_tell

    will_tell_rest : (n : ℕ) (rest : List ℕ) → n ∷ rest ≡ going.ahead → WillTell Held Gave turn t going.out rest
    will_tell_rest n [] e = given
    will_tell_rest n (m ∷ rest) e = subst (WillTell Held Gave turn t going.out) (sym e) going.will_tell

    -- it moves on to q, along a node that has left the tree, or down the path
    moves_on :
        (q : ℕ) (gone ahead : List ℕ) → gone ≡ going.gone → ahead ≡ going.ahead → 1 ≤ q → Follows cs turn going.out p q (gone ++ ahead) →
        GoingAt Held Gave turn cs t q (p ∷ seen)
    moves_on q [] [] eg ea i f = let e = f.first in let z : ◌≡◌ {A = ℕ} 0 1 = cc in absurd (omega arith)
    moves_on q [] (n ∷ ms) eg ea i f =
        let e = f.first in
        let same : p ∷ f.rest ≡ going.ahead = cc in
        let counts : (j : ℕ) → times (eqb j) (p ∷ f.rest) ≡ times (eqb j) going.ahead = λ j. ap (times (eqb j)) same in
        record {
          out = going.out;
          gone = [];
          above = going.above ++ (p ∷ []);
          ahead = f.rest;
          walks = f.walk;
          on_path = going.on_path ∙ ap (λ (ns : List ℕ). going.above ++ ns) (sym same) ∙ sym (append_assoc going.above (p ∷ []) f.rest);
          gone_wait = λ j h. absurd (omega arith);
          seen_stand = λ j h. elim (on_cons j p seen h) [
            | inl d ↦ inl (subst (λ (m : ℕ). On m (going.above ++ (p ∷ []))) (sym d) (omega (arith, times_append p going.above (p ∷ []), on_first p [])))
            | inr s ↦ elim (going.seen_stand j s) [ inl a ↦ inl (omega (arith, times_append j going.above (p ∷ []))) | inr w ↦ inr w ]
          ];
          once = λ j.
              omega (
                arith,
                going.once j,
                counts j,
                times_append j seen f.rest,
                times_append j seen (going.gone ++ going.ahead),
                times_append j going.gone going.ahead,
              );
          will_tell = will_tell_rest p f.rest same;
          at_node = inl i;
        }
    moves_on q (n ∷ gone) ahead eg ea i f =
        let e = f.first in
        let same : p ∷ gone ≡ going.gone = cc in
        let rest : f.rest ≡ gone ++ going.ahead = cc in
        let counts : (j : ℕ) → times (eqb j) (p ∷ gone) ≡ times (eqb j) going.gone = λ j. ap (times (eqb j)) same in
        record {
          out = going.out;
          gone = gone;
          above = going.above;
          ahead = going.ahead;
          walks = subst (Walk cs turn going.out q) rest f.walk;
          on_path = going.on_path;
          gone_wait = λ j h. going.gone_wait j (omega (arith, counts j));
          seen_stand = λ j h. elim (on_cons j p seen h) [
            | inl d ↦ inr (subst (λ (m : ℕ). Waits Held t m) (sym d) (going.gone_wait p (omega (arith, counts p, on_first p gone))))
            | inr s ↦ going.seen_stand j s
          ];
          once = λ j.
              omega (
                arith,
                going.once j,
                counts j,
                times_append j seen (gone ++ going.ahead),
                times_append j gone going.ahead,
                times_append j seen (going.gone ++ going.ahead),
                times_append j going.gone going.ahead,
              );
          will_tell = going.will_tell;
          at_node = inl i;
        }

module _ {K F : Type 0} (kd : Kind K F) (Held : ℕ → Type 0) (Gave : Option (Region K) → Type 0) (k : K) (cs : Cells K) (t : Tree ℕ (Region K)) (seen : List ℕ)
    (now : Gave (found (seek (regions kd) k) t)) where
  abbrev turn : Region K → Turn
  turn x = seek (regions kd) k x

  pub stepped :
      (p n : ℕ) (a : Outcome K F) (w : Row) → GoingAt Held Gave turn cs t p seen → Steps kd cs k n p a w → AfterStep Held Gave turn cs t p seen a w
  stepped p n a w going no_place =
      (subst Gave (walk_ends cs turn going.out 0 (going.gone ++ going.ahead) refl going.walks) (given Held Gave turn cs t 0 seen going now), refl)
  stepped p n a w going (finds _ v i c h) = (
    subst Gave (walk_here cs turn going.out p v (going.gone ++ going.ahead) i c h going.walks) (given Held Gave turn cs t p seen going now),
    found_here Held Gave turn cs t p seen going v i c,
  )
  stepped p n a w going (ends _ v i c o) =
      let f = walk_onward cs turn going.out p 0 v (going.gone ++ going.ahead) i c o going.walks in
      (subst Gave (walk_ends cs turn going.out 0 f.rest refl f.walk) (given Held Gave turn cs t p seen going now), refl)
  stepped p n a w going (goes_on _ q v i c o m) =
      moves_on Held Gave turn cs t p seen going now q going.gone going.ahead refl refl m
      (walk_onward cs turn going.out p q v (going.gone ++ going.ahead) i c o going.walks)
