use Rattle.std.proofs.Common.{◌-◌}
use lib.ListN.{get_or-map}
use Rattle.store.specs.Cells.{shut, cell_at, mark_of}
use Rattle.store.proofs.meanings.closing_all_is_unfit.Goals as goal

pub returns : goal.returns
returns g c = λ cs f n. f.free n (mark_of (cell_at cs n)) (get_or-map (λ x. shut (mark_of x)) cs (n - 1) (shut 0))
