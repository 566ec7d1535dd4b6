use Rattle.std.proofs.Common.{arith}
use Rattle.std.proofs.lemmas.Grind.{common_steps}
use Rattle.std.proofs.KnownBytes.{Appends-trans}
use Rattle.erlay_base.proofs.Pieces.{take_further}
use Rattle.erlay_base.proofs.writing.write_all.Goals as goal

pub loop-at-preserved : goal.loop-at-preserved
loop-at-preserved g c =
    let first = c.loop-at.invariant.done in
    let second = c.in_ok-at.ensures.bytes in
    record {
      within = grind (arith, common_steps);
      done = rw (← take_further c.args.bytes.now c.loop-at.at c.in_ok-at.field-0) (Appends-trans _ _ _ _ _ first second);
      same = omega (arith, c.in_ok-at.ensures.cause.success);
    }
