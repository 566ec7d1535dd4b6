-- The clause is a lemma.
use Rattle.pool_laws.proofs.Ids.{wtxid-bytes}
use Rattle.pool_laws.proofs.ids_have_32_bytes.Goals as goal

pub returns : goal.returns
returns c = λ tx. wtxid-bytes tx
