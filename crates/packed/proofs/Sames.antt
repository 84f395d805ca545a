-- The same writes on bytes and on records.
use Rattle.std.proofs.Common.{◌≡◌, ℕ, suc, ◌+◌, ◌-◌, ◌/◌, ◌<◌, Bool, true, false, cond, List, [], ◌∷◌, length, get_or, drop, set, Some, None, sym, refl, ap, ◌∙◌, add-one, arith, drop-cons}
use lib.ListN.{length-map}
use Rattle.std.proofs.lemmas.List.{map-set}
use Rattle.std.proofs.lemmas.Bool.{eqb-true}
use Rattle.keys.specs.declared.key.Key as key
use Rattle.store.specs.declared.node.Node.{Node}
use Rattle.store.specs.Faults.{outside}
use Rattle.store.specs.Cells.{readable, replaced, all_readable, nodes_after}
use Rattle.packed.specs.Layout.{node_width, node_bytes, node_of, node_long, Packs}
use Rattle.packed.specs.Rooms.{byte_nodes, byte_cells, bytes_after}
use Rattle.packed.specs.Meanings.{Writes, AllPack, run}
use Rattle.packed.proofs.Rounds.{by_some}
use Rattle.packed.proofs.Rows as rows

by_same : {T : Type 0} (b : Bool) (x y : T) → cond b (Some y) None ≡ Some x → y ≡ x
by_same true x y h = cc
by_same false x y h = let z : ◌≡◌ {A = ℕ} 0 1 = cc in let w : ⊥ = omega arith in elim w [ ]

by_place : {K : Type 0} (b : Bool) (vs : List (Node K)) (i : ℕ) (v : Node K) →
    all_readable (cond b vs (set vs i v)) ≡ cond b (all_readable vs) (set (all_readable vs) i (readable v))
by_place true vs i v = refl
by_place false vs i v = map-set readable vs i v

-- a write to records replaces the cell
nodes_cells : {K : Type 0} (vs : List (Node K)) (n : ℕ) (v : Node K) → all_readable (nodes_after vs n v) ≡ replaced (all_readable vs) n (readable v)
unfolding nodes_after
nodes_cells vs n v = rw (length-map vs readable) (by_place (outside n (length vs)) vs (n - 1) v)

module _ {K F : Type 0} (k : key.Ghosts K F) where
  abbrev width : ℕ
  width = node_width k.wide

  -- a write to bytes comes to the same as one to the nodes in them
  by_side : (b : Bool) (bs : List ℕ) (n : ℕ) (v : Node K) → Packs k v → outside n (length bs / width) ≡ b →
      byte_nodes k (bytes_after k bs n v) ≡ nodes_after (byte_nodes k bs) n v
  unfolding bytes_after nodes_after
  by_side true bs n v p e = rw (e, rows.count_nodes k bs, e)
  by_side false bs n v p e =
      let long : node_long k (node_bytes k v) ≡ true = by_some (node_long k (node_bytes k v)) v (node_of k (node_bytes k v)) (sym p) in
      let sized : length (node_bytes k v) ≡ width = eqb-true (length (node_bytes k v)) width long in
      let back : node_of k (node_bytes k v) ≡ v = by_same (node_long k (node_bytes k v)) v (node_of k (node_bytes k v)) p in
      let f : outside n (length (byte_nodes k bs)) ≡ false = ap (outside n) (rows.count_nodes k bs) ∙ e in
      let g : nodes_after (byte_nodes k bs) n v ≡ set (byte_nodes k bs) (n - 1) v = rw f in
      rows.nodes_put k bs n v sized back e ∙ sym g

  bytes_cells : (bs : List ℕ) (n : ℕ) (v : Node K) → Packs k v → byte_cells k (bytes_after k bs n v) ≡ replaced (byte_cells k bs) n (readable v)
  bytes_cells bs n v p =
      ap all_readable (by_side (outside n (length bs / width)) bs n v p refl) ∙ nodes_cells (byte_nodes k bs) n v

  pub same : (bs : List ℕ) (vs : List (Node K)) (ws : Writes K) → AllPack k ws →
      byte_cells k bs ≡ all_readable vs → byte_cells k (run (bytes_after k) bs ws) ≡ all_readable (run nodes_after vs ws)
  same bs vs [] p e = e
  same bs vs (w ∷ ws) p e =
      same (bytes_after k bs w.0 w.1) (nodes_after vs w.0 w.1) ws p.1
      (bytes_cells bs w.0 w.1 p.0 ∙ ap (λ cs. replaced cs w.0 (readable w.1)) e ∙ sym (nodes_cells vs w.0 w.1))

-- a loop over the writes: those that are left lead from here to where all lead from the start
module _ {S K : Type 0} (after : S → ℕ → Node K → S) (ws : Writes K) (i : ℕ) (s end : S) where
  pub run_on : (s' : S) (w : ℕ × Node K) → i < length ws → w ≡ get_or ws i w → s' ≡ after s w.0 w.1 →
      run after s (drop i ws) ≡ end → run after s' (drop (i + 1) ws) ≡ end
  run_on s' w h e f r =
      let one : run after s (drop i ws) ≡ run after (after s (get_or ws i w).0 (get_or ws i w).1) (drop (suc i) ws) = ap (run after s) (drop-cons ws i w h) in
      let there : s' ≡ after s (get_or ws i w).0 (get_or ws i w).1 = f ∙ ap (λ x. after s x.0 x.1) e in
      rw add-one (ap (λ x. run after x (drop (suc i) ws)) there ∙ sym one ∙ r)
