use Rattle.std.proofs.Common.{◌≡◌, true, rules}
use Rattle.id_rules.proofs.Bytes.{are_bytes-IsBytes}
use Rattle.id_rules.specs.Bytes.{are_bytes}
use Rattle.duet_tests.proofs.pairs.tx_of.Goals as goal

pub returns-clause-bytes : goal.returns-clause-bytes
returns-clause-bytes g c =
    let h : are_bytes c.args.tx.now ≡ true = are_bytes-IsBytes c.args.tx.now (λ i. (c.type_inv.tx i).fits) in search rules
