use Rattle.id_rules.proofs.Bytes.{are_bytes-IsBytes}
use Rattle.p2p_frame.proofs.writing.is_payload.Goals as goal

pub returns-clause-bytes : goal.returns-clause-bytes
returns-clause-bytes c = are_bytes-IsBytes c.args.payload.now (λ i. (c.type_inv.payload i).fits)
