use Rattle.std.proofs.Common.{length}
use Rattle.stream_text.proofs.Streams.{IsShownUpTo}
use Rattle.stream_text.proofs.showing.shown_text.Given as goal

abbrev pub invariant-loop-rest : goal.invariant-loop-rest
invariant-loop-rest l = IsShownUpTo l.fn.bytes l.text.items l.offset l.rest

abbrev pub decreases-loop-rest : goal.decreases-loop-rest
decreases-loop-rest l = length l.rest
