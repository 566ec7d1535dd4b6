use Rattle.stream_text.proofs.Packs.{IsPackedUpTo}
use Rattle.stream_text.proofs.packing.packed_frames.Given as goal

abbrev pub invariant-loop-line : goal.invariant-loop-line
invariant-loop-line l = IsPackedUpTo l.text l.frames.items l.line-iterator
