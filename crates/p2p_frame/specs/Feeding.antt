-- A stream that is fed piece by piece and answered frame by frame.
use Rattle.std.specs.Prelude.{◌≡◌, ℕ, List, ◌++◌, drop, Some, None, Ok, Err}
use Rattle.std.specs.declared.option.Option.{Option}
use Rattle.std.specs.declared.result.Result.{Result}
use Rattle.wire_rules.specs.Stream.{Front, PartialFrame, WholeFrame, FaultyFrame, front_of, later_offset}
use Rattle.wire_rules.specs.declared.frame.Frame.{Frame}
use Rattle.wire_rules.specs.declared.frame.FrameFault.{FrameFault}
use Rattle.p2p_frame.specs.declared.stop.FeedStop.{FeedStop}
use Rattle.p2p_frame.specs.declared.stop.FeedStop.TheVariants as stop

-- the unread bytes of a network's stream, of which the first has this offset, and the fault that was answered
pub record Feed : Type 0 where
  pub magic : List ℕ
  pub unread : List ℕ
  pub place : ℕ
  pub stop : Option FrameFault

abbrev pub feed_front : Feed → Front
feed_front s = front_of s.magic s.place s.unread

-- the frame in front, none yet, or the fault in its place
abbrev pub frame_in : Front → Result (Option Frame) FrameFault
frame_in PartialFrame = Ok None
frame_in (WholeFrame f n) = Ok (Some f)
frame_in (FaultyFrame fault) = Err fault

-- the fault in front, where one stands there
abbrev pub stop_in : Front → Option FrameFault
stop_in (FaultyFrame fault) = Some fault
stop_in other = None

-- a whole frame stands in front
abbrev pub IsWhole : Front → Type 0
IsWhole (WholeFrame f n) = Unit {0}
IsWhole other = ⊥

-- with a piece more. Behind a fault that was answered it is passed over
abbrev pub feed_with_by : Option FrameFault → Feed → List ℕ → Feed
feed_with_by None s piece = record s { unread = s.unread ++ piece }
feed_with_by (Some fault) s piece = s

abbrev pub feed_with : Feed → List ℕ → Feed
feed_with s piece = feed_with_by s.stop s piece

-- past so many bytes
abbrev pub feed_behind : Feed → ℕ → Feed
feed_behind s n = record s { unread = drop n s.unread; place = later_offset s.place n }

-- once what stands in front is answered: a frame is passed, and a fault stays
abbrev pub feed_after : Front → Feed → Feed
feed_after PartialFrame s = s
feed_after (WholeFrame f n) s = feed_behind s n
feed_after (FaultyFrame fault) s = record s { stop = Some fault }

-- the answer, and what is unread behind it. Where memory runs out for a frame nothing changes
abbrev pub IsNext : Feed → Feed → Result (Option Frame) FeedStop → Type 0
IsNext old new (Ok answer) = (frame_in (feed_front old) ≡ Ok answer) × (new ≡ feed_after (feed_front old) old)
IsNext old new (Err (stop.Fault fault)) = (frame_in (feed_front old) ≡ Err fault) × (new ≡ feed_after (feed_front old) old)
IsNext old new (Err stop.OutOfMemory) = IsWhole (feed_front old) × (new ≡ old)
