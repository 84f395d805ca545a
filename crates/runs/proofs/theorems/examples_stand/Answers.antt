use Rattle.runs.proofs.Examples.{printed_reads, reopened_reads, untrue_fail}
use Rattle.runs.proofs.theorems.examples_stand.Goals as goal

pub returns : goal.returns
returns c = record { printed = printed_reads; reopened = reopened_reads; untrue = untrue_fail }
