-- What the fields of a header, and answers whose frames are lent, are in the words of the definitions.
use Rattle.std.specs.Prelude.{ℕ, Bool, not, Some, None, Ok, Err}
use Rattle.std.specs.declared.option.Option.{Option}
use Rattle.std.specs.declared.result.Result.{Result}
use Rattle.wire_rules.specs.Commands.{is_printable}
use Rattle.wire_rules.specs.Lent.{lent_frame}
use Rattle.wire_rules.specs.Stream.{Header}
use Rattle.wire_rules.specs.declared.frame.Frame.{Frame}
use Rattle.wire_rules.specs.declared.frame.FrameRef.{FrameRef}
use Rattle.wire_rules.specs.declared.frame.FrameFault.{FrameFault}
use Rattle.p2p_frame.specs.declared.header.Header as declared

abbrev pub fields_of : declared.Header → Header
fields_of h = record { magic = h.magic; command = h.command; size = h.size; sum = h.sum }

-- the same answer with a payload of its own
abbrev pub owned_answer : Result (Option FrameRef) FrameFault → Result (Option Frame) FrameFault
owned_answer (Ok None) = Ok None
owned_answer (Ok (Some f)) = Ok (Some (lent_frame f))
owned_answer (Err fault) = Err fault

abbrev pub is_other : ℕ → Bool
is_other b = not (is_printable b)
