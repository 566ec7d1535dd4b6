use Rattle.std.proofs.Common.{length, sym, subst, arith}
use Rattle.id_rules.specs.Bytes.{is_tx_length}
use Rattle.tx_pool.proofs.Reading.{tx_in-sized}
use Rattle.std.proofs.Common.{◌≡◌, true}
use Rattle.tx_pool.proofs.line.tx_in.Goals as goal

pub returns-clause-sized : goal.returns-clause-sized
returns-clause-sized c some =
    subst (λ tx. is_tx_length (length tx) ≡ true) (sym c.from_vec.ensures) (tx_in-sized c.args.digits.now c.in-Ok.tx.items some c.in-Ok.ensures.ok (omega arith))
