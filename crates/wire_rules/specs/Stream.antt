-- What a stream of bytes begins with: a frame, part of one, or a fault. The order of faults is magic, command, length,
-- checksum, and then those of the payload.
use Rattle.std.specs.Prelude.{◌≡◌, ℕ, zero, suc, ◌+◌, ◌-◌, ◌^◌, nat_le, min, Bool, true, false, List, [], ◌∷◌, ◌++◌, length, take, drop, slice_range, bytes_eq, Some, None, Ok, Err, flat_map}
use Rattle.std.specs.Int.{w32, from_le_bytes}
use Rattle.std.specs.List.{AllByRecursion}
use Rattle.std.specs.declared.option.Option.{Option}
use Rattle.std.specs.declared.result.Result.{Result}
use Rattle.wire_rules.specs.Commands.{is_command}
use Rattle.wire_rules.specs.Layout.{checksum, frame_bytes, wire_bytes}
use Rattle.wire_rules.specs.Limits.{IsFrame, IsMessage}
use Rattle.wire_rules.specs.Reading.{message_of}
use Rattle.wire_rules.specs.declared.limits.TheConstants.{HEADER_LEN, PAYLOAD_LIMIT}
use Rattle.wire_rules.specs.declared.faults.PayloadFault.{PayloadFault}
use Rattle.wire_rules.specs.declared.frame.Frame.{Frame}
use Rattle.wire_rules.specs.declared.frame.FrameFault.{FrameFault}
use Rattle.wire_rules.specs.declared.frame.FrameFault.TheVariants as fault
use Rattle.wire_rules.specs.declared.message.Message.{Message}

-- the offset n bytes further on. It stays at the greatest number of 64 bits
abbrev pub later_offset : ℕ → ℕ → ℕ
later_offset offset n = min (offset + n) (2 ^ 64 - 1)

pub record Header : Type 0 where
  pub magic : List ℕ
  pub command : List ℕ
  pub size : ℕ
  pub sum : List ℕ

-- the fields of 24 bytes
abbrev pub header_of : List ℕ → Header
header_of bytes = record {
  magic = take 4 bytes;
  command = slice_range bytes 4 16;
  size = from_le_bytes w32 (slice_range bytes 16 20);
  sum = slice_range bytes 20 24;
}

-- the first fault of a header that tells this size, by whether its magic is right, its command sound and its size within
-- the limit
unfoldable pub header_fault : ℕ → ℕ → Bool → Bool → Bool → Option FrameFault
header_fault offset size false sound within = Some (fault.BadMagic offset)
header_fault offset size true false within = Some (fault.BadCommand offset)
header_fault offset size true true false = Some (fault.TooLong offset size)
header_fault offset size true true true = None

abbrev pub fault_of_header : List ℕ → ℕ → Header → Option FrameFault
fault_of_header magic offset h = header_fault offset h.size (bytes_eq magic h.magic) (is_command h.command) (nat_le h.size PAYLOAD_LIMIT)

-- what unread bytes begin with
pub data Front : Type 0 where
  -- fewer bytes than a sound header and its payload have
  PartialFrame : Front
  -- a frame, and how many bytes it has
  WholeFrame : (frame : Frame) → (size : ℕ) → Front
  FaultyFrame : (fault : FrameFault) → Front

-- the payload as a whole frame, by whether its checksum is the one that stands
unfoldable pub front_by_checksum : Bool → ℕ → Header → List ℕ → Front
front_by_checksum false offset h payload = FaultyFrame (fault.BadChecksum offset h.sum (checksum payload))
front_by_checksum true offset h payload = WholeFrame (record { command = h.command; payload = payload }) (HEADER_LEN + h.size)

abbrev pub front_of_payload : ℕ → Header → List ℕ → Front
front_of_payload offset h payload = front_by_checksum (bytes_eq h.sum (checksum payload)) offset h payload

-- by whether the payload is there
unfoldable pub front_by_payload : Bool → ℕ → Header → List ℕ → Front
front_by_payload false offset h behind = PartialFrame
front_by_payload true offset h behind = front_of_payload offset h (take h.size behind)

unfoldable pub front_by_header : Option FrameFault → ℕ → Header → List ℕ → Front
front_by_header (Some f) offset h behind = FaultyFrame f
front_by_header None offset h behind = front_by_payload (nat_le h.size (length behind)) offset h behind

-- by whether the header is there
unfoldable pub front_by_length : Bool → List ℕ → ℕ → List ℕ → Front
front_by_length false magic offset bytes = PartialFrame
front_by_length true magic offset bytes = front_by_header (fault_of_header magic offset (header_of bytes)) offset (header_of bytes) (drop HEADER_LEN bytes)

-- what unread bytes begin with, of which the first has this offset in the whole stream
abbrev pub front_of : List ℕ → ℕ → List ℕ → Front
front_of magic offset bytes = front_by_length (nat_le HEADER_LEN (length bytes)) magic offset bytes

-- no frame and no fault yet
pub record IsUnfinished (magic bytes : List ℕ) : Type 0 where
  pub front : front_of magic 0 bytes ≡ PartialFrame

-- the bytes are one frame after another, and then an unfinished rest
pub record Frames (magic bytes : List ℕ) (frames : List Frame) (rest : List ℕ) : Type 0 where
  pub whole : bytes ≡ flat_map (frame_bytes magic) frames ++ rest
  pub each : AllByRecursion IsFrame frames
  pub partial : IsUnfinished magic rest

-- the bytes, of which the first has this offset, are one frame after another, and then a fault
pub record FrameStop (magic : List ℕ) (offset : ℕ) (bytes : List ℕ) (frames : List Frame) (stop : FrameFault) : Type 0 where
  pub rest : List ℕ
  pub whole : bytes ≡ flat_map (frame_bytes magic) frames ++ rest
  pub each : AllByRecursion IsFrame frames
  pub faulty : front_of magic (later_offset offset (length bytes - length rest)) rest ≡ FaultyFrame stop

-- the bytes are one message after another, and then an unfinished rest
pub record Stream (magic bytes : List ℕ) (messages : List Message) (rest : List ℕ) : Type 0 where
  pub whole : bytes ≡ wire_bytes magic messages ++ rest
  pub each : AllByRecursion IsMessage messages
  pub partial : IsUnfinished magic rest

-- why a stream has no message at an offset
pub data StreamFault : Type 0 where
  StreamFrameFault : (fault : FrameFault) → StreamFault
  StreamPayloadFault : (fault : PayloadFault) → StreamFault

-- the unread bytes begin with this fault: of the frame, or of a whole frame's payload
pub data IsStopAt (magic : List ℕ) (offset : ℕ) (bytes : List ℕ) : StreamFault → Type 0 where
  FrameStopAt : (stop : FrameFault) → front_of magic offset bytes ≡ FaultyFrame stop → IsStopAt magic offset bytes (StreamFrameFault stop)
  PayloadStopAt : (frame : Frame) → (size : ℕ) → (stop : PayloadFault) → front_of magic offset bytes ≡ WholeFrame frame size → message_of frame ≡ Err stop → IsStopAt magic offset bytes (StreamPayloadFault stop)

-- the bytes, of which the first has this offset, are one message after another, and then a fault
pub record Stop (magic : List ℕ) (offset : ℕ) (bytes : List ℕ) (messages : List Message) (stop : StreamFault) : Type 0 where
  pub rest : List ℕ
  pub whole : bytes ≡ wire_bytes magic messages ++ rest
  pub each : AllByRecursion IsMessage messages
  pub faulty : IsStopAt magic (later_offset offset (length bytes - length rest)) rest stop

-- a stream read from its front: the messages, the bytes behind them with the offset of the first, and the fault that
-- these begin with, where they do
pub record StreamRead : Type 0 where
  pub messages : List Message
  pub offset : ℕ
  pub rest : List ℕ
  pub stop : Option StreamFault

abbrev pub stream_end : ℕ → List ℕ → Option StreamFault → StreamRead
stream_end offset bytes stop = record { messages = []; offset = offset; rest = bytes; stop = stop }

abbrev pub with_message : Message → StreamRead → StreamRead
with_message m r = record r { messages = m ∷ r.messages }

unfoldable pub stream_by_message : Result Message PayloadFault → ℕ → ℕ → List ℕ → (ℕ → List ℕ → StreamRead) → StreamRead
stream_by_message (Ok m) size offset bytes next = with_message m (next (later_offset offset size) (drop size bytes))
stream_by_message (Err f) size offset bytes next = stream_end offset bytes (Some (StreamPayloadFault f))

unfoldable pub stream_by_front : Front → ℕ → List ℕ → (ℕ → List ℕ → StreamRead) → StreamRead
stream_by_front PartialFrame offset bytes next = stream_end offset bytes None
stream_by_front (WholeFrame frame size) offset bytes next = stream_by_message (message_of frame) size offset bytes next
stream_by_front (FaultyFrame f) offset bytes next = stream_end offset bytes (Some (StreamFrameFault f))

-- at most n messages of a stream, from the first unread byte on
unfoldable pub stream_from : ℕ → List ℕ → ℕ → List ℕ → StreamRead
stream_from zero magic offset bytes = stream_end offset bytes None
stream_from (suc n) magic offset bytes = stream_by_front (front_of magic offset bytes) offset bytes (stream_from n magic)

-- a whole stream. Each frame has at least one byte, so there are no more messages than bytes
abbrev pub stream_of : List ℕ → List ℕ → StreamRead
stream_of magic bytes = stream_from (length bytes) magic 0 bytes
