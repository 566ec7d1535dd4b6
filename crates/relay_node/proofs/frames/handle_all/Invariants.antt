use Rattle.std.proofs.Common.{length}
use Rattle.relay_node.proofs.Loops.{IsHandledUpTo}
use Rattle.relay_node.proofs.frames.handle_all.Given as goal

abbrev pub invariant-loop : goal.invariant-loop
invariant-loop l = IsHandledUpTo l.fn.conversation l.fn.feeder l.conversation l.feeder

abbrev pub decreases-loop : goal.decreases-loop
decreases-loop l = length l.feeder.unread
