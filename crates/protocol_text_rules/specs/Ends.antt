-- The texts of phases, endings, faults of streams, and ends, each without its line end. They are this project's own.
use Rattle.std.specs.Prelude.{ℕ, List, ◌++◌, codes}
use Rattle.std.specs.Fmt.{decimal, signed_decimal}
use Rattle.hex.specs.Hex.{encode_lower}
use Rattle.line_rules.specs.Digits.{eight_digits}
use Rattle.wire_rules.specs.Commands.{word_of}
use Rattle.wire_rules.specs.declared.faults.PayloadFault.{PayloadFault}
use Rattle.wire_rules.specs.declared.faults.PayloadKind.{PayloadKind}
use Rattle.wire_rules.specs.declared.faults.PayloadKind.TheVariants as payload
use Rattle.wire_rules.specs.declared.frame.FrameFault.{FrameFault}
use Rattle.wire_rules.specs.declared.frame.FrameFault.TheVariants as frame
use Rattle.wire_rules.specs.declared.phase.Phase.{Phase}
use Rattle.wire_rules.specs.declared.phase.Phase.TheVariants as phase
use Rattle.pool_rules.specs.declared.report.Ending.{Ending}
use Rattle.pool_rules.specs.declared.report.Ending.TheVariants as ending
use Rattle.node_rules.specs.declared.end.End.{End}
use Rattle.node_rules.specs.declared.end.End.TheVariants as end
use Rattle.pair_rules.specs.declared.side.Side.{Side}
use Rattle.pair_rules.specs.declared.side.Side.TheVariants as side
use Rattle.protocol_text_rules.specs.declared.stream.StreamKind.{StreamKind}
use Rattle.protocol_text_rules.specs.declared.stream.StreamKind.TheVariants as stream

unfoldable pub phase_text : Phase → List ℕ
phase_text phase.Greeting = codes "greeting"
phase_text phase.Greeted = codes "greeted"
phase_text phase.Idle = codes "idle"
phase_text phase.Waiting = codes "waiting"
phase_text phase.WaitingExt = codes "waiting-ext"
phase_text phase.WaitingExt2 = codes "waiting-ext2"
phase_text phase.Barrier = codes "barrier"
phase_text phase.Fetching = codes "fetching"
phase_text phase.Sent = codes "sent"
phase_text phase.SentExt = codes "sent-ext"
phase_text phase.SentExt2 = codes "sent-ext2"

unfoldable pub ending_text : Ending → List ℕ
ending_text ending.First = codes "first"
ending_text ending.Extension = codes "extension"
ending_text ending.Extension2 = codes "extension2"
ending_text ending.Fallback = codes "fallback"

abbrev pub side_text : Side → List ℕ
side_text side.A = codes "a"
side_text side.B = codes "b"

unfoldable pub frame_fault_text : FrameFault → List ℕ
frame_fault_text (frame.BadMagic at) = codes "bad magic at " ++ decimal at
frame_fault_text (frame.BadCommand at) = codes "bad command at " ++ decimal at
frame_fault_text (frame.TooLong at len) = codes "too long at " ++ decimal at ++ codes ": " ++ decimal len
frame_fault_text (frame.BadChecksum at stands computed) =
    codes "bad checksum at " ++ decimal at ++ codes ": " ++ encode_lower stands ++ codes " not " ++ encode_lower computed

unfoldable pub payload_kind_text : PayloadKind → List ℕ
payload_kind_text payload.Short = codes "short"
payload_kind_text payload.Trailing = codes "trailing"
payload_kind_text payload.NotMinimal = codes "not minimal"
payload_kind_text payload.TooMany = codes "too many"
payload_kind_text payload.BadFlag = codes "bad flag"

abbrev pub payload_fault_text : PayloadFault → List ℕ
payload_fault_text f =
    codes "payload of " ++ word_of f.command ++ codes " at " ++ decimal f.at ++ codes ": " ++ payload_kind_text f.kind

-- why a node ended
unfoldable pub end_text : End → List ℕ
end_text (end.Frame f) = frame_fault_text f
end_text (end.Payload f) = payload_fault_text f
end_text (end.OldPeer version) = codes "old peer " ++ signed_decimal version
end_text end.PeerNoRelay = codes "peer no relay"
end_text end.NoWtxidRelay = codes "no wtxidrelay"
end_text end.ZeroReconVersion = codes "zero version"
end_text (end.Handshake command) = codes "handshake " ++ word_of command
end_text (end.Misplaced command p) = codes "misplaced " ++ word_of command ++ codes " in " ++ phase_text p
end_text (end.SketchLength len wanted) = codes "sketch length " ++ decimal len ++ codes " wanted " ++ decimal wanted
end_text (end.UnknownShortId n) = codes "unknown short id " ++ eight_digits n
end_text (end.AskRepeated n) = codes "ask repeated " ++ eight_digits n
end_text (end.AsksOnFailure count) = codes "asks on failure " ++ decimal count
end_text end.PoolFull = codes "pool full"

-- a node that ended, alone and as a side of a pair
abbrev pub refused_text : End → List ℕ
refused_text e = codes "refused " ++ end_text e

abbrev pub side_refused_text : Side → End → List ℕ
side_refused_text s e = codes "refused " ++ side_text s ++ codes " " ++ end_text e

-- what is wrong with a stream of frames, and its fault line
unfoldable pub stream_kind_text : StreamKind → List ℕ
stream_kind_text (stream.Frame f) = frame_fault_text f
stream_kind_text (stream.Payload f) = payload_fault_text f
stream_kind_text stream.CutShort = codes "cut short"

abbrev pub bad_stream_text : ℕ → StreamKind → List ℕ
bad_stream_text offset k = codes "bad input " ++ decimal offset ++ codes ": " ++ stream_kind_text k

-- an input that ended before its session was done
abbrev pub truncated_text : Phase → List ℕ
truncated_text p = codes "truncated " ++ phase_text p

abbrev pub link_fault_text : List ℕ
link_fault_text = codes "link fault"

abbrev pub shelf_fault_text : List ℕ
shelf_fault_text = codes "shelf fault"

-- what an accepter writes once it listens
abbrev pub listening_text : List ℕ
listening_text = codes "listening"
