use Rattle.id_rules.proofs.Bytes.{are_bytes-IsBytes}
use Rattle.relay_node.proofs.frames.is_tx.Goals as goal

pub returns-then-tx-gt0-clause-bytes : goal.returns-then-tx-gt0-clause-bytes
returns-then-tx-gt0-clause-bytes c = are_bytes-IsBytes c.args.tx.now (λ i. (c.type_inv.tx i).fits)
