use Rattle.std.proofs.Common.{arith}
use Rattle.std.proofs.lemmas.Grind.{common_steps}
use Rattle.std.proofs.KnownBytes.{Consumes-trans}
use Rattle.erlay_base.proofs.reading.read_all.Goals as goal

pub returns-then-is_err-clause-refused : goal.returns-then-is_err-clause-refused
returns-then-is_err-clause-refused g c _ =
    (_, Consumes-trans _ _ _ _ _ c.loop-buf.invariant.done c.in-Ok-read.ensures.bytes.0, grind (arith, common_steps))
