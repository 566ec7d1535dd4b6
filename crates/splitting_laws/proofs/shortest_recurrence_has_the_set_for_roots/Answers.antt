-- The clause is a lemma.
use Rattle.splitting_laws.proofs.Recurrences.{shortest_of_set}
use Rattle.splitting_laws.proofs.shortest_recurrence_has_the_set_for_roots.Goals as goal

pub returns : goal.returns
returns g c = λ ops bits n cs es ring field differ nonzero long shortest. (shortest_of_set ops ring bits field cs es n differ nonzero long shortest).1
