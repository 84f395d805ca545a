-- A going lookup, and one that has found, over a change of memory from a tree to a tree.
use Rattle.std.proofs.Common.{◌≡◌, ℕ, zero, suc, ◌+◌, ◌≤◌, eqb, ◌⊎◌, List, [], ◌∷◌, ◌++◌, Option, sym, refl, ap, ◌∙◌, subst, inl, inr, append_assoc, append-nil, arith}
use Rattle.store.specs.declared.node.Region.{Region}
use Rattle.store.specs.declared.node.Node.{Node}
use Rattle.store.specs.Cells.{readable, cell_at}
use Rattle.store.specs.Nodes.{region_of}
use Rattle.trees.specs.Trees.{Turn, Tree, leaf, node, path, found}
use Rattle.trees.specs.Paths.{times, On, In, Distinct, beyond, Has, KeepsPath, KeepsOrder, KeepsRegions}
use Rattle.trees.proofs.Ancestors.{on_inside, in_has, times_append, after_beyond, beyond_before}
use Rattle.runs.specs.States.{Cells, InPool, Spells}
use Rattle.lookups.specs.Ways.{Walk, KeptNode, Waits, HoldsOn, WillTell, GoingAt, FoundAt}
use Rattle.lookups.proofs.Numbers.{in_or_out, on_either, on_first, Around, around, BeginsIn, parted}
use Rattle.lookups.proofs.Walks.{spelled_walk, walk_from, walk_kept, walk_join}

times_three : (q : ℕ) (ks ns ms : List ℕ) → times (eqb q) (ks ++ (ns ++ ms)) ≡ times (eqb q) ks + (times (eqb q) ns + times (eqb q) ms)
times_three q ks ns ms = omega (arith, times_append q ks (ns ++ ms), times_append q ns ms)

-- what is ahead now is apart from what was seen and from what has left
once_more : (s f e d : ℕ) → s + (f + e) ≤ 1 → d ≤ 1 → (1 ≤ d → 1 ≤ s → ⊥) → (1 ≤ d → 1 ≤ f → ⊥) → s + (f + d) ≤ 1
once_more s f e zero h i a b = omega arith
once_more zero zero e (suc d) h i a b = omega arith
once_more zero (suc f) e (suc d) h i a b = absurd (b (omega arith) (omega arith))
once_more (suc s) f e (suc d) h i a b = absurd (a (omega arith) (omega arith))

-- what will be told was given, if what is found now is given now
pub was_given :
    {K : Type 0} (Held : ℕ → Type 0) (Gave : Option (Region K) → Type 0) (turn : Region K → Turn) (t : Tree ℕ (Region K)) (out : Option (Region K)) (ns : List ℕ) →
    Gave (found turn t) → WillTell Held Gave turn t out ns → Gave out
was_given Held Gave turn t out [] g w = w
was_given Held Gave turn t out (n ∷ ns) g w = subst Gave (sym w) g

-- A NODE OF THE TREE THAT CELLS SPELL

module _ {K : Type 0} (cs : Cells K) (pending : List ℕ) where
  pub record NodeOf (q : ℕ) (x : Region K) : Type 0 where
    pub there : Node K
    pub can_be_read : cell_at cs q ≡ readable there
    pub marked : there.mark ≡ 1
    pub its_region : region_of there ≡ x
    pub in_pool : InPool cs q

  pub spelled_node : (link : ℕ) (t : Tree ℕ (Region K)) (q : ℕ) (x : Region K) → Spells cs pending link t → Has q x t → NodeOf q x
  spelled_node link leaf q x s h = absurd h
  spelled_node link (node n l y r) q x s (inl e) =
      subst (λ (m : ℕ). NodeOf m x) e.0
      (record { there = s.0; can_be_read = s.2.can_be_read; marked = s.2.mark_one; its_region = s.2.the_region ∙ e.1; in_pool = s.2.in_pool })
  spelled_node link (node n l y r) q x s (inr (inl h)) = spelled_node s.0.left l q x s.3 h
  spelled_node link (node n l y r) q x s (inr (inr h)) = spelled_node s.0.right r q x s.4 h

  pub spelled_in_pool : (link : ℕ) (t : Tree ℕ (Region K)) (q : ℕ) → Spells cs pending link t → In q t → InPool cs q
  spelled_in_pool link t q s i = let h = in_has q t i in (spelled_node link t q h.0 s h.1).in_pool

-- WHERE THE TREE STAYS

module _ {R : Type 0} (t u : Tree ℕ R) (same : u ≡ t) where
  pub path_same : (turn : R → Turn) → KeepsPath turn t u
  path_same turn q on i = subst (λ (v : Tree ℕ R). On q (path turn v)) (sym same) on

  pub order_same : (turn : R → Turn) → KeepsOrder turn t u
  order_same turn q n on i j = subst (λ (v : Tree ℕ R). On n (beyond q (path turn v))) (sym same) on

  pub regions_same : KeepsRegions t u
  regions_same q x i h = subst (Has q x) same h

-- no node leaves it, and none is taken
pub tree_stays :
    {K : Type 0} (Held Held' : ℕ → Type 0) (cs ds : Cells K) (t u : Tree ℕ (Region K)) → u ≡ t →
    ((q : ℕ) → Waits Held t q → Held' q × KeptNode cs ds q) → HoldsOn Held Held' cs ds t u
tree_stays Held Held' cs ds t u e h = record {
  leaving = λ q i o. absurd (o (subst (In q) (sym e) i));
  waiting = h;
  not_taken = λ q w i. w.out_of_tree (subst (In q) e i);
}

-- FROM A TREE TO A TREE

module _ {K : Type 0} (Held Held' : ℕ → Type 0) (cs ds : Cells K) (t u : Tree ℕ (Region K)) (change : HoldsOn Held Held' cs ds t u) where
  stay_waiting : (q : ℕ) → Waits Held t q → Waits Held' u q
  stay_waiting q w = record { held = (change.waiting q w).0; out_of_tree = change.not_taken q w }

  leave : (q : ℕ) → In q t → (In q u → ⊥) → Waits Held' u q
  leave q i o = record { held = (change.leaving q i o).0; out_of_tree = o }

  -- a node at which a lookup has found a region
  module _ (regions : KeepsRegions t u) (pending pending' : List ℕ) (root root' : ℕ) (spelled : Spells cs pending root t) (spelled' : Spells ds pending' root' u) where
    pub found_carried : (q : ℕ) (x : Region K) → FoundAt Held cs t q x → FoundAt Held' ds u q x
    found_carried q x f = by_place f.stands
      where
        kept : KeptNode cs ds q → In q u ⊎ Waits Held' u q → FoundAt Held' ds u q x
        kept k p = let n = k f.there f.can_be_read in record { there = n.0; can_be_read = n.1; told = n.2.same_region ∙ f.told; stands = p }

        stays : In q t → In q u → FoundAt Held' ds u q x
        stays i j =
            let h = in_has q u j in
            let now = spelled_node ds pending' root' u q h.0 spelled' h.1 in
            let was = spelled_node cs pending root t q h.0 spelled (regions q h.0 i h.1) in
            let a = was.can_be_read in
            let b = f.can_be_read in
            let same : was.there ≡ f.there = cc in
            record {
              there = now.there;
              can_be_read = now.can_be_read;
              told = now.its_region ∙ sym was.its_region ∙ ap region_of same ∙ f.told;
              stands = inl j;
            }

        by_place : In q t ⊎ Waits Held t q → FoundAt Held' ds u q x
        by_place (inl i) = elim (in_or_out q u) [ inl j ↦ stays i j | inr o ↦ kept (change.leaving q i o).1 (inr (leave q i o)) ]
        by_place (inr w) = kept (change.waiting q w).1 (inr (stay_waiting q w))

  module _ (Gave Gave' : Option (Region K) → Type 0) (turn : Region K → Turn) (keeps : KeepsPath turn t u) (order : KeepsOrder turn t u)
      (once : Distinct t) (once' : Distinct u) (later : (o : Option (Region K)) → Gave o → Gave' o) (now : Gave (found turn t)) (p : ℕ) (seen : List ℕ)
      (going : GoingAt Held Gave turn cs t p seen) where
    -- what lay ahead in the tree: first nodes that leave it now, then what begins with one that stays
    module _ (front rest : List ℕ) (ahead : going.ahead ≡ front ++ rest) (left_tree : (q : ℕ) → On q front → In q u → ⊥) where
      path_counts : (q : ℕ) → times (eqb q) (path turn t) ≡ times (eqb q) going.above + (times (eqb q) front + times (eqb q) rest)
      path_counts q = ap (times (eqb q)) (going.on_path ∙ ap (λ (ns : List ℕ). going.above ++ ns) ahead) ∙ times_three q going.above front rest

      path_in : (q : ℕ) → On q (path turn t) → In q t
      path_in q h = omega (arith, on_inside turn q t)

      front_in : (q : ℕ) → On q front → In q t
      front_in q h = path_in q (omega (arith, path_counts q))

      gone_waits : (q : ℕ) → On q (going.gone ++ front) → Waits Held' u q
      gone_waits q h = elim (on_either q going.gone front h) [
        | inl a ↦ stay_waiting q (going.gone_wait q a)
        | inr a ↦ leave q (front_in q a) (left_tree q a)
      ]

      gone_kept : (q : ℕ) → On q (going.gone ++ front) → KeptNode cs ds q
      gone_kept q h = elim (on_either q going.gone front h) [
        | inl a ↦ (change.waiting q (going.gone_wait q a)).1
        | inr a ↦ (change.leaving q (front_in q a) (left_tree q a)).1
      ]

      walk_was : Walk cs turn going.out p ((going.gone ++ front) ++ rest)
      walk_was = subst (Walk cs turn going.out p) (ap (λ (ns : List ℕ). going.gone ++ ns) ahead ∙ sym (append_assoc going.gone front rest)) going.walks

      was_once : (q : ℕ) → times (eqb q) seen + (times (eqb q) (going.gone ++ front) + times (eqb q) rest) ≤ 1
      was_once q =
          omega (
            arith,
            going.once q,
            times_three q seen going.gone going.ahead,
            ap (times (eqb q)) ahead,
            times_append q front rest,
            times_append q going.gone front,
          )

      -- a node that was seen, if all that were above and stay are above now
      seen_stands : (above : List ℕ) → ((q : ℕ) → On q going.above → In q u → On q above) → (q : ℕ) → On q seen → On q above ⊎ Waits Held' u q
      seen_stands above h q s = elim (going.seen_stand q s) [
        | inl a ↦ elim (in_or_out q u) [ inl i ↦ inl (h q a i) | inr o ↦ inr (leave q (path_in q (omega (arith, path_counts q))) o) ]
        | inr w ↦ inr (stay_waiting q w)
      ]

    -- all of it leaves
    all_left : (front : List ℕ) → going.ahead ≡ front ++ [] → ((q : ℕ) → On q front → In q u → ⊥) → GoingAt Held' Gave' turn ds u p seen
    all_left front ahead left_tree = record {
      out = going.out;
      gone = going.gone ++ front;
      above = path turn u;
      ahead = [];
      walks =
          walk_kept cs ds turn going.out p ((going.gone ++ front) ++ []) (walk_was front [] ahead left_tree)
          (λ q h. gone_kept front [] ahead left_tree q (omega (arith, times_append q (going.gone ++ front) [])));
      on_path = sym (append-nil (path turn u));
      gone_wait = gone_waits front [] ahead left_tree;
      seen_stand = seen_stands front [] ahead left_tree (path turn u) (λ q a i. keeps q (omega (arith, path_counts front [] ahead left_tree q)) i);
      once = λ q. omega (arith, was_once front [] ahead left_tree q, times_three q seen (going.gone ++ front) []);
      will_tell = later going.out (was_given Held Gave turn t going.out going.ahead now going.will_tell);
      at_node = going.at_node;
    }

    -- b is the first that stays
    module _ (pending : List ℕ) (root : ℕ) (spelled : Spells ds pending root u) (front rest : List ℕ) (b : ℕ) (ahead : going.ahead ≡ front ++ (b ∷ rest))
        (left_tree : (q : ℕ) → On q front → In q u → ⊥) (stays : In b u) where
      b_on_path : On b (path turn t)
      b_on_path = omega (arith, path_counts front (b ∷ rest) ahead left_tree b, on_first b rest)

      -- the path now
      now_around : Around b (path turn u)
      now_around = around b (path turn u) (keeps b b_on_path stays)

      path_now : (q : ℕ) → times (eqb q) now_around.front + times (eqb q) (b ∷ now_around.rest) ≤ 1
      path_now q = omega (arith, ap (times (eqb q)) now_around.together, times_append q now_around.front (b ∷ now_around.rest), on_inside turn q u, once' q)

      -- what was above and stays is above b
      stay_above : (q : ℕ) → On q going.above → In q u → On q now_around.front
      stay_above q a i =
          let e : path turn t ≡ going.above ++ (front ++ (b ∷ rest)) = going.on_path ∙ ap (λ (ns : List ℕ). going.above ++ ns) ahead in
          let on : On b (front ++ (b ∷ rest)) = omega (arith, times_append b front (b ∷ rest), on_first b rest) in
          let was = subst (λ (ns : List ℕ). On b (beyond q ns)) (sym e) (after_beyond q b going.above (front ++ (b ∷ rest)) a on) in
          let is = subst (λ (ns : List ℕ). On b (beyond q ns)) now_around.together (order q b was i stays) in
          beyond_before q b now_around.front now_around.rest (omega (arith, path_now b, times_append b now_around.front (b ∷ now_around.rest))) is

      ahead_in : (q : ℕ) → On q (b ∷ now_around.rest) → In q u
      ahead_in q h = omega (arith, ap (times (eqb q)) now_around.together, times_append q now_around.front (b ∷ now_around.rest), on_inside turn q u)

      one_stays : GoingAt Held' Gave' turn ds u p seen
      one_stays = record {
        out = found turn u;
        gone = going.gone ++ front;
        above = now_around.front;
        ahead = b ∷ now_around.rest;
        walks =
            walk_join cs ds turn going.out (found turn u) p b ((going.gone ++ front) ++ (b ∷ rest)) (going.gone ++ front) rest now_around.rest
            (walk_was front (b ∷ rest) ahead left_tree) refl (gone_kept front (b ∷ rest) ahead left_tree)
            (walk_from ds turn (found turn u) root b (path turn u) now_around.front now_around.rest (spelled_walk ds turn pending root u spelled) now_around.together);
        on_path = now_around.together;
        gone_wait = gone_waits front (b ∷ rest) ahead left_tree;
        seen_stand = seen_now;
        once = λ q. omega (arith, once_now q, times_three q seen (going.gone ++ front) (b ∷ now_around.rest));
        will_tell = refl;
        at_node = going.at_node;
      }
        where
          seen_now : (q : ℕ) → On q seen → On q now_around.front ⊎ Waits Held' u q
          seen_now = seen_stands front (b ∷ rest) ahead left_tree now_around.front stay_above

          apart : (q : ℕ) → On q (b ∷ now_around.rest) → On q now_around.front ⊎ Waits Held' u q → ⊥
          apart q a (inl c) = omega (arith, path_now q)
          apart q a (inr w) = w.out_of_tree (ahead_in q a)

          once_now : (q : ℕ) → times (eqb q) seen + (times (eqb q) (going.gone ++ front) + times (eqb q) (b ∷ now_around.rest)) ≤ 1
          once_now q =
              once_more (times (eqb q) seen) (times (eqb q) (going.gone ++ front)) (times (eqb q) (b ∷ rest)) (times (eqb q) (b ∷ now_around.rest))
              (was_once front (b ∷ rest) ahead left_tree q) (omega (arith, path_now q)) (λ a s. apart q a (seen_now q s))
              (λ a g. (gone_waits front (b ∷ rest) ahead left_tree q g).out_of_tree (ahead_in q a))

    pub carried : (pending : List ℕ) (root : ℕ) → Spells ds pending root u → GoingAt Held' Gave' turn ds u p seen
    carried pending root spelled = let a = parted u going.ahead in by_rest a.front a.rest a.together a.left_tree a.begins
      where
        by_rest : (front rest : List ℕ) → going.ahead ≡ front ++ rest → ((q : ℕ) → On q front → In q u → ⊥) → BeginsIn u rest → GoingAt Held' Gave' turn ds u p seen
        by_rest front [] e l b = all_left front e l
        by_rest front (n ∷ rest) e l b = one_stays pending root spelled front rest n e l b
