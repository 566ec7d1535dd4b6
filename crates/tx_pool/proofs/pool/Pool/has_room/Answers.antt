use Rattle.std.proofs.Common.{arith}
use Rattle.id_rules.proofs.Bytes.{are_bytes-IsBytes}
use Rattle.tx_pool.proofs.pool.Pool.has_room.Goals as goal

pub returns-then-len-lt-POOL_LIMIT-clause-bytes : goal.returns-then-len-lt-POOL_LIMIT-clause-bytes
returns-then-len-lt-POOL_LIMIT-clause-bytes c = are_bytes-IsBytes c.args.tx.now (λ i. let byte = c.type_inv.tx i in omega arith)

pub returns-else-len-lt-POOL_LIMIT-clause-bytes : goal.returns-else-len-lt-POOL_LIMIT-clause-bytes
returns-else-len-lt-POOL_LIMIT-clause-bytes c = are_bytes-IsBytes c.args.tx.now (λ i. let byte = c.type_inv.tx i in omega arith)
