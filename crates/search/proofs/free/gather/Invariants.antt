use Rattle.std.proofs.Common.{◌≡◌, ◌-◌, ◌≤◌, ◌++◌, length}
use Rattle.stacks.specs.Held.{held}
use Rattle.search.specs.Frees.{frees}
use Rattle.search.proofs.free.gather.Given as goal

abbrev pub invariant-loop-n : goal.invariant-loop-n
invariant-loop-n g l = record {
  within : l.n - l.from ≤ l.to - l.from;
  few : length (held l.numbers) ≤ l.want;
  found : held l.numbers ≡ held l.initial.numbers ++ frees (g.S.Store.cells l.store) l.from (l.n - l.from);
}
