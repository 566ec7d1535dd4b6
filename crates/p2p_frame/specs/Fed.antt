-- What holds of every feeder, and what one is that was given bytes in pieces, however they were cut.
use Rattle.std.specs.Prelude.{◌≡◌, ℕ, ◌-◌, ◌^◌, ◌<◌, IsTrue, List, [], ◌∷◌, ◌++◌, length, Some, None, Ok, Err, flat_map}
use Rattle.std.specs.List.{AllByRecursion}
use Rattle.std.specs.declared.option.Option.{Option}
use Rattle.std.specs.declared.result.Result.{Result}
use Rattle.id_rules.specs.Bytes.{are_bytes}
use Rattle.wire_rules.specs.Layout.{frame_bytes}
use Rattle.wire_rules.specs.Limits.{IsFrame}
use Rattle.wire_rules.specs.Stream.{FaultyFrame, Frames, FrameStop, later_offset}
use Rattle.wire_rules.specs.declared.frame.Frame.{Frame}
use Rattle.wire_rules.specs.declared.frame.FrameFault.{FrameFault}
use Rattle.stream_laws.specs.FrameReading.{FrameRead}
use Rattle.p2p_frame.specs.Feeding.{Feed, feed_after, feed_front, stop_in}
use Rattle.p2p_frame.specs.declared.stop.FeedStop.{FeedStop}
use Rattle.p2p_frame.specs.declared.stop.FeedStop.TheVariants as stop

-- what holds of every feeder. A fault that was answered stands in front for good
pub record IsFeeder (s : Feed) : Type 0 where
  pub magic : length s.magic ≡ 4
  pub unread : IsTrue (are_bytes s.unread)
  pub place : s.place < 2 ^ 64
  pub kept : (fault : FrameFault) → s.stop ≡ Some fault → feed_front s ≡ FaultyFrame fault

-- a feeder that was given these bytes in all and has passed these frames. Behind a fault that was answered the bytes were
-- passed over
pub record IsFed (s : Feed) (bytes : List ℕ) (frames : List Frame) : Type 0 where
  pub over : List ℕ
  pub whole : bytes ≡ flat_map (frame_bytes s.magic) frames ++ (s.unread ++ over)
  pub each : AllByRecursion IsFrame frames
  pub place : s.place ≡ later_offset 0 (length bytes - length (s.unread ++ over))
  pub going : s.stop ≡ None → over ≡ []

-- what an answer says of all the bytes: none, that they are these frames and the unread rest; a frame, that it comes next;
-- a fault, that they are these frames and then this fault
abbrev pub IsAnswered : Feed → List ℕ → List Frame → Result (Option Frame) FrameFault → Type 0
IsAnswered s bytes frames (Ok None) = Frames s.magic bytes frames s.unread
IsAnswered s bytes frames (Ok (Some f)) = IsFed (feed_after (feed_front s) s) bytes (frames ++ f ∷ [])
IsAnswered s bytes frames (Err fault) = FrameStop s.magic 0 bytes frames fault

-- the same of an answer that passes the frame and keeps the fault
abbrev pub IsPassed : Feed → List ℕ → List Frame → Result (Option Frame) FeedStop → Type 0
IsPassed s bytes frames (Ok None) = IsFed s bytes frames × Frames s.magic bytes frames s.unread
IsPassed s bytes frames (Ok (Some f)) = IsFed s bytes (frames ++ f ∷ [])
IsPassed s bytes frames (Err (stop.Fault fault)) = IsFed s bytes frames × FrameStop s.magic 0 bytes frames fault
IsPassed s bytes frames (Err stop.OutOfMemory) = IsFed s bytes frames

-- a feeder in front of which no frame stands has passed what is read from bytes, up to the same rest or fault
pub record IsReadTo (s : Feed) (frames : List Frame) (r : FrameRead) : Type 0 where
  pub taken : r.frames ≡ frames
  pub offset : r.offset ≡ s.place
  pub fault : r.stop ≡ stop_in (feed_front s)
  pub rest : r.stop ≡ None → r.unread ≡ s.unread
