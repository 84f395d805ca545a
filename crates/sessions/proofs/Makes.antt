-- The making, and the counts of the pool.
use Rattle.std.proofs.Common.{◌≡◌, ℕ, ◌+◌, ◌-◌, ◌<◌, ◌≤◌, Bool, true, false, cond, eqb, List, length, drop, Ok, Err, sym, ap, ◌∙◌, subst, arith}
use Rattle.std.proofs.lemmas.List.{drop_all}
use Rattle.store.specs.Cells.{Cell, cell_at, mark_of, mark_answer}
use Rattle.store.proofs.Insides.{count_is}
use Rattle.sessions.specs.declared.fault.MakeFault.TheVariants.{Size}
use Rattle.sessions.specs.declared.pool.Counts.{Counts}
use Rattle.sessions.specs.Writings.{nothing_written, Rewritten}
use Rattle.sessions.specs.Making.{can_make, make_answer, every_node, making, marked, pool, pool_counts}
use Rattle.sessions.proofs.Rewriting.{nothing_rewritten}
use Rattle.sessions.proofs.Sweeping.{next_drop, mark_taken, mark_told}

module _ {K : Type 0} (cs : List (Cell K)) where
  pub not_made : (filler : K) → can_make (length cs) ≡ false → Rewritten (making filler (length cs)) cs cs
  not_made filler e = subst (λ b. Rewritten (cond b (every_node filler) nothing_written) cs cs) (sym e) (nothing_rewritten cs)

  pub made : (filler : K) (ds : List (Cell K)) → can_make (length cs) ≡ true → Rewritten (every_node filler) cs ds → Rewritten (making filler (length cs)) cs ds
  made filler ds e h = subst (λ b. Rewritten (cond b (every_node filler) nothing_written) cs ds) (sym e) h

  pub marked_next : (m n : ℕ) → 0 < n → n ≤ length cs → marked m (drop (n - 1) cs) ≡ cond (eqb (mark_of (cell_at cs n)) m) 1 0 + marked m (drop n cs)
  marked_next m n some h = ap (marked m) (next_drop cs n some h)

  pub marked_end : (m i : ℕ) → length cs ≤ i → marked m (drop i cs) ≡ 0
  marked_end m i h = ap (marked m) (drop_all i cs h)

  -- one node more is counted, and one fewer is left
  counted_next : (m n mark before after total : ℕ) → 0 < n → n ≤ length cs → mark ≡ mark_of (cell_at cs n) → after ≡ before + cond (eqb mark m) 1 0 →
      before + marked m (drop (n - 1) cs) ≡ total → after + marked m (drop n cs) ≡ total
  counted_next m n mark before after total some h is more was =
      let more' : after ≡ before + cond (eqb (mark_of (cell_at cs n)) m) 1 0 = subst (λ k. after ≡ before + cond (eqb k m) 1 0) is more in
      omega (arith, marked_next m n some h)

  counted_all : (m i count total : ℕ) → length cs ≤ i → count + marked m (drop i cs) ≡ total → count ≡ total
  counted_all m i count total h was = omega (arith, marked_end m i h)

by_one : (b : Bool) → cond b 1 0 ≤ 1
by_one true = omega arith
by_one false = omega arith

count_bound : (m n mark before after : ℕ) → after ≡ before + cond (eqb mark m) 1 0 → before ≤ n - 1 → 0 < n → after ≤ n
count_bound m n mark before after more h some = omega (arith, by_one (eqb mark m))

abbrev counts_of : ℕ → ℕ → ℕ → Counts
counts_of a b c = record { live = a; waiting = b; free = c }

pub counts_are : (k : Counts) (a b c : ℕ) → k.live ≡ a → k.waiting ≡ b → k.free ≡ c → k ≡ record { live = a; waiting = b; free = c }
counts_are k a b c p q r =
    ap (λ x. counts_of x k.waiting k.free) p ∙ ap (λ x. counts_of a x k.free) q ∙ ap (counts_of a b) r

-- what is counted of the first n nodes and what is left make up the pool, and no count has passed n
pub record Counted {K : Type 0} (cs : List (Cell K)) (n : ℕ) (k : Counts) : Type 0 where
  pub live : k.live + marked 1 (drop n cs) ≡ marked 1 (pool cs)
  pub waiting : k.waiting + marked 2 (drop n cs) ≡ marked 2 (pool cs)
  pub free : k.free + marked 0 (drop n cs) ≡ marked 0 (pool cs)
  pub live_most : k.live ≤ n
  pub waiting_most : k.waiting ≤ n
  pub free_most : k.free ≤ n

abbrev pub one_more : Counts → ℕ → Counts
one_more k mark =
    record { live = k.live + cond (eqb mark 1) 1 0; waiting = k.waiting + cond (eqb mark 2) 1 0; free = k.free + cond (eqb mark 0) 1 0 }

module _ {K : Type 0} (cs : List (Cell K)) where
  pub counting : (n m mark : ℕ) (k after : Counts) → 0 < n → n ≤ length cs → Ok mark ≡ mark_answer cs n → after ≡ one_more k mark →
      Counted cs (n - 1) k → m ≡ n → Counted cs m after
  counting n m mark k after some h told is was same = subst (λ i. Counted cs i after) (sym same) (counted n mark k after some h told is was)
    where
      counted : (n mark : ℕ) (k after : Counts) → 0 < n → n ≤ length cs → Ok mark ≡ mark_answer cs n → after ≡ one_more k mark → Counted cs (n - 1) k → Counted cs n after
      counted n mark k after some h told is was =
          let m = mark_told cs n mark some h told in
          let live = ap (λ c. c.live) is in
          let waiting = ap (λ c. c.waiting) is in
          let free = ap (λ c. c.free) is in
          record {
            live = counted_next cs 1 n mark k.live after.live _ some h m live was.live;
            waiting = counted_next cs 2 n mark k.waiting after.waiting _ some h m waiting was.waiting;
            free = counted_next cs 0 n mark k.free after.free _ some h m free was.free;
            live_most = count_bound 1 n mark k.live after.live live was.live_most some;
            waiting_most = count_bound 2 n mark k.waiting after.waiting waiting was.waiting_most some;
            free_most = count_bound 0 n mark k.free after.free free was.free_most some;
          }

  pub all_counted : (n : ℕ) (k : Counts) → length cs ≤ n → Counted cs n k → k ≡ pool_counts cs
  all_counted n k long was =
      counts_are k _ _ _ (counted_all cs 1 n k.live _ long was.live) (counted_all cs 2 n k.waiting _ long was.waiting) (counted_all cs 0 n k.free _ long was.free)

-- what the making answers
pub refused_size : (n N : ℕ) → n ≡ N → can_make N ≡ false → Err (Size n) ≡ make_answer N
refused_size n N e small = rw (small, e)

pub made_size : (N : ℕ) → can_make N ≡ true → Ok tt ≡ make_answer N
made_size N fits = rw fits

-- what the counting of the pool needs
pub ruleset count_answers = (count_is, mark_taken, counting, all_counted)
