-- Where all from place h on are 0, they are so with one number more, and from the top on with the top one set to 0.
use Rattle.std.proofs.Common.{ℕ, suc, ◌≡◌, ◌-◌, ◌+◌, ◌<◌, ◌≤◌, List, length, drop, replicate, set, length-set, arith}
use Rattle.std.proofs.lemmas.List.{drop-drop, drop-replicate, drop-set, drop-set-lt}
use Rattle.stacks.specs.Padded.{Padded}

further : (h m n : ℕ) (xs : List ℕ) → h ≤ m → drop h xs ≡ replicate (n - h) 0 → drop m xs ≡ replicate (n - m) 0
further h m n xs up blank =
    let on : drop (m - h) (drop h xs) ≡ drop (h + (m - h)) xs = drop-drop (m - h) h xs in
    let there : h + (m - h) ≡ m = omega arith in
    let left : n - h - (m - h) ≡ n - m = omega arith in
    rw (← there) (rw (← on, blank, drop-replicate {X = ℕ} (m - h) (n - h) 0, left, there))

pub one_more : (h n x : ℕ) (xs : List ℕ) → h < n → Padded h n xs → Padded (h + 1) n (set xs h x)
one_more h n x xs room p =
    let below : h < h + 1 = omega arith in
    record {
      small = omega arith;
      long = rw (length-set xs h x) p.long;
      blank = rw (drop-set-lt (h + 1) xs h x below) (further h (h + 1) n xs (omega arith) p.blank);
    }

pub blank_top : (h m n : ℕ) (xs : List ℕ) → 0 < h → h - 1 ≤ m → m ≤ n → Padded h n xs → Padded m n (set xs (h - 1) 0)
blank_top h m n xs some low small p =
    let within : h - 1 < length xs = omega arith in
    let back : h - 1 + 1 ≡ h = omega arith in
    let left : n - (h - 1) ≡ suc (n - h) = omega arith in
    record {
      small = small;
      long = rw (length-set xs (h - 1) 0) p.long;
      blank = further (h - 1) m n (set xs (h - 1) 0) low (rw (drop-set {X = ℕ} xs (h - 1) 0 within, back, p.blank, left));
    }
