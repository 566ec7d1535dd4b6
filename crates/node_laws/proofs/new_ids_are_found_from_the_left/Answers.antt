-- Each clause is a lemma.
use Rattle.node_laws.proofs.NewIds.{new_ids-known}
use Rattle.node_laws.proofs.new_ids_are_found_from_the_left.Goals as goal

pub returns : goal.returns
returns c = new_ids-known
