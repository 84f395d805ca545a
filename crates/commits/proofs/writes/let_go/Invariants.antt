use Rattle.std.proofs.Common.{map, take}
use Rattle.drafts.specs.Drafts.{gone_of}
use Rattle.commits.specs.Commits.{Writes, left_behind}
use Rattle.commits.proofs.writes.let_go.Given as goal

abbrev pub invariant-loop-p : goal.invariant-loop-p
invariant-loop-p g l = record {
  writes : Writes (g.S.Store.cells l.initial.store) (map (left_behind l.sessions) (take l.p-index (gone_of l.draft))) (g.S.Store.cells l.store);
  keeps : g.S.Store.fit l.initial.store → g.S.Store.fit l.store;
}
