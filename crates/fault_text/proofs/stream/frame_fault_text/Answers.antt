use Rattle.std.proofs.Common.{append_assoc, rules}
use Rattle.protocol_text_rules.specs.Ends.{frame_fault_text}
use Rattle.fault_text.proofs.stream.frame_fault_text.Goals as goal

pub returns-in-TooLong : goal.returns-in-TooLong
unfolding frame_fault_text
returns-in-TooLong c = rw c.in-TooLong.is (simp append_assoc (search rules))

pub returns-in_ok-computed-in-BadChecksum : goal.returns-in_ok-computed-in-BadChecksum
unfolding frame_fault_text
returns-in_ok-computed-in-BadChecksum c = rw c.in-BadChecksum.is (simp append_assoc (search rules))
