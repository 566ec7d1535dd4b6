-- What is made of streams and of lines.
use Rattle.std.specs.Prelude.{◌≡◌, ℕ, ◌≤◌, List, length, drop, Result, Ok, Err}
use Rattle.wire_rules.specs.Stream.{StreamRead, front_of, later_offset, stream_by_front, with_message}
use Rattle.wire_rules.specs.declared.message.Message.{Message}
use Rattle.protocol_text_rules.specs.Works.{StreamStop, messages_to_end, show_text, stop_at}
use Rattle.protocol_text_rules.specs.declared.limits.TheConstants.{MAIN_MAGIC}
use Rattle.recon_messages.specs.declared.fault.DecodeFault.{DecodeFault}
use Rattle.recon_messages.specs.declared.fault.DecodeFault.TheVariants as decode
use Rattle.protocol_text_rules.specs.declared.stream.StreamKind.TheVariants as stream
use Rattle.stream_text.specs.declared.stop.ShowStop.{ShowStop}
use Rattle.stream_text.specs.declared.stop.ShowStop.TheVariants as stop

-- the lines of messages that were read, or the fault in their place
abbrev pub shown_lines : Result (List Message) StreamStop → Result (List ℕ) StreamStop
shown_lines (Ok ms) = Ok (show_text ms)
shown_lines (Err s) = Err s

-- the text of a stream, or its first fault; memory may run out at any stream
abbrev pub IsShowing : {A : Type 0} → (A → List ℕ) → Result (List ℕ) StreamStop → Result A ShowStop → Type 0
IsShowing view said (Ok text) = said ≡ Ok (view text)
IsShowing view said (Err (stop.Fault offset kind)) = said ≡ Err (record { offset = offset; kind = kind })
IsShowing view said (Err stop.OutOfMemory) = Unit {0}

-- what a stream's front leaves to be read behind it: a message in so many bytes, or the fault that ends the stream
abbrev pub read_by_front : ℕ → List ℕ → (ℕ → List ℕ → StreamRead) → StreamRead
read_by_front offset bytes next = stream_by_front (front_of MAIN_MAGIC offset bytes) offset bytes next

-- a message stands in front, in n bytes
pub record HasFirst (offset : ℕ) (bytes : List ℕ) (m : Message) (n : ℕ) : Type 0 where
  pub read : (next : ℕ → List ℕ → StreamRead) → read_by_front offset bytes next ≡ with_message m (next (later_offset offset n) (drop n bytes))
  pub size : n ≤ length bytes
  pub some : 24 ≤ n

-- the first message of a stream that has bytes, or the fault in its place
abbrev pub IsFirst : ℕ → List ℕ → Result (Message × ℕ) ShowStop → Type 0
IsFirst offset bytes (Ok first) = HasFirst offset bytes first.0 first.1
IsFirst offset bytes (Err (stop.Fault at kind)) = (next : ℕ → List ℕ → StreamRead) → messages_to_end (read_by_front offset bytes next) ≡ stop_at at kind
IsFirst offset bytes (Err stop.OutOfMemory) = Unit {0}

-- why a stream with a frame at this offset that isn't decoded isn't shown
abbrev pub stop_of : ℕ → DecodeFault → ShowStop
stop_of offset (decode.Payload f) = stop.Fault offset (stream.Payload f)
stop_of offset decode.OutOfMemory = stop.OutOfMemory
