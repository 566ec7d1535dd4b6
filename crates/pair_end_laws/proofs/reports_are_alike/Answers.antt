-- The lemmas.
use Rattle.pair_end_laws.proofs.Alike.{drained_reports_are_alike}
use Rattle.pair_end_laws.proofs.Ending.{reports_are_alike_so_far}
use Rattle.pair_end_laws.proofs.reports_are_alike.Goals as goal

pub returns-clause-so_far : goal.returns-clause-so_far
returns-clause-so_far c = reports_are_alike_so_far

pub returns-clause-drained : goal.returns-clause-drained
returns-clause-drained c = drained_reports_are_alike
