-- A packed node: the three writes that make it, the node that it gives back, and the bytes that a node gives back.
use Rattle.std.proofs.Common.{◌≡◌, ℕ, ◌+◌, ◌-◌, ◌*◌, ◌^◌, ◌<◌, List, [], ◌∷◌, ◌++◌, length, get_or, take, drop, sym, refl, ap, ◌∙◌, append_assoc, append-nil, mod-eq_of_lt, arith, length-append, length-drop}
use borrow.Rule.Slice.PartMut.{put_mid, post_of}
use Rattle.std.proofs.lemmas.Slice.{take-put_mid, drop-put_mid}
use Rattle.std.proofs.lemmas.List.{take_at, drop_at, drop-drop, drop_all, take_all}
use Rattle.keys.specs.Bytes.{AllBytes, bytes, number}
use Rattle.keys.proofs.Numbers.{number_bytes}
use Rattle.keys.specs.declared.key.Key as key
use Rattle.store.specs.declared.node.Node.{Node}
use Rattle.packed.specs.Layout.{node_width, head_bytes, node_bytes, node_of}
use Rattle.packed.proofs.Pieces.{bytes_at, piece, headed}

joined : (a d h lo hi : List ℕ) → a ≡ h ++ lo → d ≡ [] → a ++ (hi ++ d) ≡ h ++ (lo ++ hi)
joined a d h lo hi e f = rw (e, f, append-nil hi, append_assoc h lo hi)

-- the head, the low key and the high key, written one after the other
pub three_writes : (h lo hi out : List ℕ) (w : ℕ) → length out ≡ 19 + 2 * w → length h ≡ 19 → length lo ≡ w → length hi ≡ w →
    put_mid (19 + w) (19 + 2 * w - (19 + w)) (put_mid 19 (19 + w - 19) (h ++ post_of 0 19 out) lo) hi ≡ h ++ (lo ++ hi)
three_writes h lo hi out w lout lh llo lhi =
    let x1 : List ℕ = h ++ drop 19 out in
    let l1 : length x1 ≡ 19 + 2 * w = simp (length-append, length-drop) (omega arith) in
    let x2 : List ℕ = put_mid 19 (19 + w - 19) x1 lo in
    let t1 : take 19 x1 ≡ h = take_at h (drop 19 out) 19 lh in
    let t2 : take (19 + w) x2 ≡ take 19 x1 ++ lo = take-put_mid 19 (19 + w - 19) x1 lo (19 + w) (omega arith) (omega arith) in
    let d2 : drop (19 + 2 * w) x2 ≡ drop (19 + 2 * w) x1 = drop-put_mid 19 (19 + w - 19) x1 lo (19 + 2 * w) (omega arith) (omega arith) (omega arith) in
    let k : 19 + w + (19 + 2 * w - (19 + w)) ≡ 19 + 2 * w = omega arith in
    let d3 : drop (19 + 2 * w - (19 + w)) (drop (19 + w) x2) ≡ [] =
    drop-drop (19 + 2 * w - (19 + w)) (19 + w) x2 ∙ ap (λ n. drop n x2) k ∙ d2 ∙ drop_all (19 + 2 * w) x1 (omega arith) in
    joined (take (19 + w) x2) (drop (19 + 2 * w - (19 + w)) (drop (19 + w) x2)) h lo hi (t2 ∙ ap (λ l. l ++ lo) t1) d3

eight : (n : ℕ) → n < 2 ^ 64 → number 8 0 (bytes 8 n) ≡ n
eight n f = number_bytes 8 n ∙ mod-eq_of_lt f

four : (n : ℕ) → n < 2 ^ 32 → number 4 0 (bytes 4 n) ≡ n
four n f = number_bytes 4 n ∙ mod-eq_of_lt f

module _ {K : Type 0} where
  pub same_node : (m m' l l' r r' s s' n n' t t' : ℕ) (a a' b b' : K) → m ≡ m' → l ≡ l' → r ≡ r' → s ≡ s' → n ≡ n' → t ≡ t' → a ≡ a' → b ≡ b' →
      ◌≡◌ {A = Node K} (record { mark = m; left = l; right = r; size = s; rows = n; waits = t; low = a; high = b })
      (record { mark = m'; left = l'; right = r'; size = s'; rows = n'; waits = t'; low = a'; high = b' })
  same_node m m' l l' r r' s s' n n' t t' a a' b b' e1 e2 e3 e4 e5 e6 e7 e8 = cc

-- a node whose fields fit is the node of its bytes
pub node_back : {K F : Type 0} (k : key.Ghosts K F) (v : Node K) →
    v.left < 2 ^ 16 → v.right < 2 ^ 16 → v.size < 2 ^ 16 → v.rows < 2 ^ 64 → v.waits < 2 ^ 32 →
    length (k.body v.low) ≡ k.wide → length (k.body v.high) ≡ k.wide → k.unbody (k.body v.low) ≡ v.low → k.unbody (k.body v.high) ≡ v.high →
    node_of k (node_bytes k v) ≡ v
node_back k v fl fr fs fn ft ll lh bl bh =
    let w = k.wide in
    let lo = k.body v.low in
    let hi = k.body v.high in
    let e : drop (19 + w) (node_bytes k v) ≡ hi = sym (drop-drop w 19 (node_bytes k v)) ∙ drop_at lo hi w ll in
    same_node _ _ _ _ _ _ _ _ _ _ _ _ _ _ _ _ refl
    (omega arith) (omega arith) (omega arith) (eight v.rows fn) (four v.waits ft)
    (ap k.unbody (take_at lo hi w ll) ∙ bl)
    (ap k.unbody (ap (take w) (e ∙ sym (append-nil hi)) ∙ take_at hi [] w lh) ∙ bh)

pub length_node : {K F : Type 0} (k : key.Ghosts K F) (v : Node K) → length (k.body v.low) ≡ k.wide → length (k.body v.high) ≡ k.wide →
    length (node_bytes k v) ≡ node_width k.wide
length_node k v ll lh = omega (arith, length-append (k.body v.low) (k.body v.high))

-- the parts of a row of 19 + 2 w bytes, put together
whole_row : (w : ℕ) (bs lo hi : List ℕ) → length bs ≡ 19 + 2 * w → AllBytes bs → lo ≡ take w (drop 19 bs) → hi ≡ take w (drop (19 + w) bs) →
    head_bytes (get_or bs 0 0) (number 2 1 bs) (number 2 3 bs) (number 2 5 bs) (number 8 7 bs) (number 4 15 bs) ++ (lo ++ hi) ≡ bs
whole_row w bs lo hi l s el eh =
    let l2 : List ℕ = bytes 2 (number 2 1 bs) in
    let r2 : List ℕ = bytes 2 (number 2 3 bs) in
    let s2 : List ℕ = bytes 2 (number 2 5 bs) in
    let n8 : List ℕ = bytes 8 (number 8 7 bs) in
    let t4 : List ℕ = bytes 4 (number 4 15 bs) in
    let d1 : hi ≡ drop (19 + w) bs = eh ∙ take_all w (drop (19 + w) bs) (simp length-drop (omega arith)) in
    let d2 : lo ++ hi ≡ drop 19 bs = piece w 19 lo bs hi el d1 in
    let d3 : t4 ++ (lo ++ hi) ≡ drop 15 bs = piece 4 15 t4 bs (lo ++ hi) (bytes_at 4 15 bs (omega arith) s) d2 in
    let d4 : n8 ++ (t4 ++ (lo ++ hi)) ≡ drop 7 bs = piece 8 7 n8 bs (t4 ++ (lo ++ hi)) (bytes_at 8 7 bs (omega arith) s) d3 in
    let d5 : s2 ++ (n8 ++ (t4 ++ (lo ++ hi))) ≡ drop 5 bs = piece 2 5 s2 bs (n8 ++ (t4 ++ (lo ++ hi))) (bytes_at 2 5 bs (omega arith) s) d4 in
    let d6 : r2 ++ (s2 ++ (n8 ++ (t4 ++ (lo ++ hi)))) ≡ drop 3 bs = piece 2 3 r2 bs (s2 ++ (n8 ++ (t4 ++ (lo ++ hi)))) (bytes_at 2 3 bs (omega arith) s) d5 in
    let d7 : l2 ++ (r2 ++ (s2 ++ (n8 ++ (t4 ++ (lo ++ hi))))) ≡ drop 1 bs = piece 2 1 l2 bs (r2 ++ (s2 ++ (n8 ++ (t4 ++ (lo ++ hi))))) (bytes_at 2 1 bs (omega arith) s) d6 in
    ap (λ x. get_or bs 0 0 ∷ x) d7 ∙ headed (18 + 2 * w) bs (omega arith)

-- what reading the fields one by one comes to
module _ {K F : Type 0} (k : key.Ghosts K F) (width : ℕ) (bs : List ℕ) (l r s n t : ℕ) (lo hi : K) where
  abbrev pub read_node : Node K
  read_node = record { mark = get_or bs 0 0; left = l; right = r; size = s; rows = n; waits = t; low = lo; high = hi }

  pub decoded : width ≡ k.wide → length bs ≡ node_width k.wide → AllBytes bs →
      l ≡ number 2 1 bs → r ≡ number 2 3 bs → s ≡ number 2 5 bs → n ≡ number 8 7 bs → t ≡ number 4 15 bs →
      lo ≡ k.unbody (take (19 + width - 19) (drop 19 bs)) → hi ≡ k.unbody (take (19 + 2 * width - (19 + width)) (drop (19 + width) bs)) →
      k.body lo ≡ take (19 + width - 19) (drop 19 bs) → k.body hi ≡ take (19 + 2 * width - (19 + width)) (drop (19 + width) bs) →
      node_bytes k read_node ≡ bs
  decoded e len small el er es en et elo ehi blo bhi =
      let w = k.wide in
      let a : take (19 + width - 19) (drop 19 bs) ≡ take w (drop 19 bs) = ap (λ x. take x (drop 19 bs)) (omega arith) in
      let b : take (19 + 2 * width - (19 + width)) (drop (19 + width) bs) ≡ take w (drop (19 + w) bs) =
      ap (λ x. take x (drop (19 + width) bs)) (omega arith) ∙ ap (λ x. take w (drop (19 + x) bs)) e in
      let v : read_node ≡ node_of k bs =
      same_node _ _ _ _ _ _ _ _ _ _ _ _ _ _ _ _ refl el er es en et (elo ∙ ap k.unbody a) (ehi ∙ ap k.unbody b) in
      let bl : k.body (k.unbody (take w (drop 19 bs))) ≡ take w (drop 19 bs) = ap k.body (sym (elo ∙ ap k.unbody a)) ∙ blo ∙ a in
      let bh : k.body (k.unbody (take w (drop (19 + w) bs))) ≡ take w (drop (19 + w) bs) = ap k.body (sym (ehi ∙ ap k.unbody b)) ∙ bhi ∙ b in
      ap (node_bytes k) v ∙ whole_row w bs (k.body (k.unbody (take w (drop 19 bs)))) (k.body (k.unbody (take w (drop (19 + w) bs)))) len small bl bh
