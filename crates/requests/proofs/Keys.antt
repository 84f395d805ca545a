-- Calls that differ only in their keys.
use Rattle.std.proofs.Common.{◌≡◌, ap, ◌∙◌}
use Rattle.requests.specs.declared.call.Call.{Call}
use Rattle.requests.specs.declared.call.Call.TheVariants.{Put, Drop, Split, Advance, Open, Step, Close, Counts}
use Rattle.requests.specs.Keys.{map_keys, Mapped}

module _ {K L : Type 0} (R : K → L → Type 0) (f : K → L) (given : (k : K) (l : L) → R k l → l ≡ f k) where
  -- where the forms are those of a function, the call is mapped by it
  pub by_function : (c : Call K) (d : Call L) → Mapped R c d → d ≡ map_keys f c
  by_function (Put low high rows) d (low', high', l, h, e) = e ∙ ap (λ k. Put k high' rows) (given low low' l) ∙ ap (λ k. Put (f low) k rows) (given high high' h)
  by_function (Drop key) d (key', k, e) = e ∙ ap Drop (given key key' k)
  by_function (Split key lower upper) d (key', k, e) = e ∙ ap (λ x. Split x lower upper) (given key key' k)
  by_function Advance d e = e
  by_function (Open session key) d (key', k, e) = e ∙ ap (Open session) (given key key' k)
  by_function (Step session) d e = e
  by_function (Close session) d e = e
  by_function Counts d e = e
