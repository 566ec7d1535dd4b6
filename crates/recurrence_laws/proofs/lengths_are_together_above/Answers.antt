use Rattle.recurrence_laws.proofs.Massey.{lengths_together}
use Rattle.recurrence_laws.proofs.lengths_are_together_above.Goals as goal

pub returns : goal.returns
returns g c = λ ops bs cs s m ring. lengths_together ops ring bs cs s m
