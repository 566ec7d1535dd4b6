-- Frames read from the front of bytes, all at once or piece by piece.
use Rattle.std.specs.Prelude.{◌≡◌, ℕ, zero, suc, ◌+◌, ◌-◌, List, [], ◌∷◌, ◌++◌, length, drop, Some, None}
use Rattle.std.specs.List.{fold}
use Rattle.std.specs.declared.option.Option.{Option}
use Rattle.wire_rules.specs.Layout.{frame_bytes}
use Rattle.wire_rules.specs.Limits.{IsFrame}
use Rattle.wire_rules.specs.Stream.{Front, PartialFrame, WholeFrame, FaultyFrame, front_of, later_offset}
use Rattle.wire_rules.specs.declared.frame.Frame.{Frame}
use Rattle.wire_rules.specs.declared.frame.FrameFault.{FrameFault}

-- a frame that may be sent stands first, in n bytes
pub record IsFirstFrame (magic bytes : List ℕ) (frame : Frame) (n : ℕ) : Type 0 where
  pub sound : IsFrame frame
  pub size : n ≡ 24 + length frame.payload
  pub whole : bytes ≡ frame_bytes magic frame ++ drop n bytes

-- bytes read from their front: the frames, the bytes behind them with the offset of the first, and the fault that these
-- begin with, where they do
pub record FrameRead : Type 0 where
  pub frames : List Frame
  pub offset : ℕ
  pub unread : List ℕ
  pub stop : Option FrameFault

-- frames up to a rest of the bytes, of which the first has this offset
abbrev pub frames_up_to : List Frame → ℕ → List ℕ → List ℕ → Option FrameFault → FrameRead
frames_up_to fs offset bytes rest stop = record { frames = fs; offset = later_offset offset (length bytes - length rest); unread = rest; stop = stop }

-- none
abbrev pub no_frames : ℕ → List ℕ → Option FrameFault → FrameRead
no_frames offset bytes stop = record { frames = []; offset = offset; unread = bytes; stop = stop }

-- frames in front of what was read
abbrev pub frames_before : List Frame → FrameRead → FrameRead
frames_before fs r = record r { frames = fs ++ r.frames }

-- by what the bytes begin with
abbrev pub frames_by : Front → ℕ → List ℕ → (ℕ → List ℕ → FrameRead) → FrameRead
frames_by PartialFrame offset bytes next = no_frames offset bytes None
frames_by (WholeFrame frame size) offset bytes next = frames_before (frame ∷ []) (next (later_offset offset size) (drop size bytes))
frames_by (FaultyFrame fault) offset bytes next = no_frames offset bytes (Some fault)

-- at most n frames
unfoldable pub frames_from : ℕ → List ℕ → ℕ → List ℕ → FrameRead
frames_from zero magic offset bytes = no_frames offset bytes None
frames_from (suc n) magic offset bytes = frames_by (front_of magic offset bytes) offset bytes (frames_from n magic)

-- all frames, where the first byte has this offset. Each has at least one byte, so there are no more frames than bytes
abbrev pub frames_of : List ℕ → ℕ → List ℕ → FrameRead
frames_of magic offset bytes = frames_from (length bytes) magic offset bytes

-- what was read, with one piece more
abbrev pub frames_with_more : List ℕ → FrameRead → List ℕ → FrameRead
frames_with_more magic r piece = frames_before r.frames (frames_of magic r.offset (r.unread ++ piece))

-- pieces, one after another
abbrev pub frames_of_pieces : List ℕ → ℕ → List (List ℕ) → FrameRead
frames_of_pieces magic offset pieces = fold (frames_with_more magic) (no_frames offset [] None) pieces
