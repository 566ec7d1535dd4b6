-- Frames are items that are read one after another.
use Rattle.std.proofs.Common.{◌≡◌, ℕ, zero, suc, ◌-◌, ◌^◌, ◌<◌, true, List, [], ◌∷◌, ◌++◌, Some, None, length, drop, refl, sym, ap, subst, ◌∙◌, arith, lit<, append_assoc, append-nil}
use Rattle.std.specs.List.{concat, fold}
use Rattle.id_rules.specs.Bytes.{are_bytes}
use Rattle.wire_rules.specs.Layout.{frame_bytes}
use Rattle.wire_rules.specs.Limits.{IsFrame}
use Rattle.wire_rules.specs.Stream.{Front, PartialFrame, WholeFrame, FaultyFrame, Frames, FrameStop, front_of, later_offset}
use Rattle.wire_rules.specs.declared.frame.Frame.{Frame}
use Rattle.wire_rules.specs.declared.frame.FrameFault.{FrameFault}
use Rattle.stream_laws.specs.FrameReading.{FrameRead, frames_before, frames_by, frames_of, frames_of_pieces, frames_from, frames_with_more}
use Rattle.stream_laws.proofs.Fronts.{front_of-frame, frame-length, short_front}
use Rattle.stream_laws.proofs.Stays.{partial-anywhere, whole-stays}
use Rattle.stream_laws.proofs.Found.{bytes_cut, front-found, whole-size}
use Rattle.stream_laws.proofs.Items.{Step, Wait, Take, Halt, Reading, IsStep, IsTaken, IsFound, IsRead, last_step, reading_by, read_items, reading, reading-next, reading-with, read-one, read-same, read-all}

-- ---- a front as a step

abbrev pub step_of : Front → Step Frame FrameFault
step_of PartialFrame = Wait
step_of (WholeFrame f n) = Take f n
step_of (FaultyFrame fault) = Halt fault

abbrev pub frame_step : List ℕ → ℕ → List ℕ → Step Frame FrameFault
frame_step magic p bytes = step_of (front_of magic p bytes)

is_partial : (x : Front) → step_of x ≡ Wait → x ≡ PartialFrame
is_partial PartialFrame e = refl
is_partial (WholeFrame f n) e = absurd (cc)
is_partial (FaultyFrame fault) e = absurd (cc)

is_whole : (x : Front) (f : Frame) (n : ℕ) → step_of x ≡ Take f n → x ≡ WholeFrame f n
is_whole PartialFrame f n e = absurd (cc)
is_whole (WholeFrame g m) f n e = let same : g ≡ f = cc in let size : m ≡ n = cc in λ i. WholeFrame (same i) (size i)
is_whole (FaultyFrame fault) f n e = absurd (cc)

is_faulty : (x : Front) (fault : FrameFault) → step_of x ≡ Halt fault → x ≡ FaultyFrame fault
is_faulty PartialFrame fault e = absurd (cc)
is_faulty (WholeFrame f n) fault e = absurd (cc)
is_faulty (FaultyFrame other) fault e = let same : other ≡ fault = cc in ap FaultyFrame same

abbrev pub as_read : Reading Frame FrameFault → FrameRead
as_read r = record { frames = r.items; offset = r.offset; unread = r.unread; stop = r.stop }

module _ (magic : List ℕ) where
  pub frame-steps : IsStep (frame_step magic)
  frame-steps = record {
    none = λ p. ap step_of (short_front magic p [] (lit< tt));
    size = λ p bytes f n e. let size = whole-size magic p bytes f n (is_whole (front_of magic p bytes) f n e) in let some = size.0 in (omega arith, size.1);
    stays = λ p bytes more f n e. ap step_of (whole-stays magic p bytes more f n (is_whole (front_of magic p bytes) f n e));
  }

  frame-taken : length magic ≡ 4 → IsTaken (frame_step magic) (frame_bytes magic) IsFrame
  frame-taken four p f more sound = ap step_of (front_of-frame magic p f more four sound) ∙ ap (Take f) (sym (frame-length magic f four sound))

  frame-found : IsFound (frame_step magic) (frame_bytes magic) IsFrame
  frame-found p bytes f n sound e = let first = front-found magic p bytes f n sound (is_whole (front_of magic p bytes) f n e) in (first.sound, first.whole, (bytes_cut n bytes sound).1)

  -- ---- frames read from the front

  one_by_one : (x : Front) (p : ℕ) (bytes : List ℕ) (f : ℕ → List ℕ → FrameRead) (g : ℕ → List ℕ → Reading Frame FrameFault) → ((q : ℕ) (rest : List ℕ) → f q rest ≡ as_read (g q rest))
      → frames_by x p bytes f ≡ as_read (reading_by (step_of x) p bytes g)
  one_by_one PartialFrame p bytes f g same = refl
  one_by_one (WholeFrame frame n) p bytes f g same = ap (frames_before (frame ∷ [])) (same (later_offset p n) (drop n bytes))
  one_by_one (FaultyFrame fault) p bytes f g same = refl

  frames-read : (n p : ℕ) (bytes : List ℕ) → frames_from n magic p bytes ≡ as_read (read_items (frame_step magic) n p bytes)
  unfolding frames_from read_items
  frames-read zero p bytes = refl
  frames-read (suc n) p bytes = one_by_one (front_of magic p bytes) p bytes (frames_from n magic) (read_items (frame_step magic) n) (frames-read n)

  pub frames_of-reading : (p : ℕ) (bytes : List ℕ) → frames_of magic p bytes ≡ as_read (reading (frame_step magic) p bytes)
  frames_of-reading p bytes = frames-read (length bytes) p bytes

  -- the first of them, and the others behind it
  pub frames_of-next : (p : ℕ) (bytes : List ℕ) → frames_of magic p bytes ≡ frames_by (front_of magic p bytes) p bytes (frames_of magic)
  frames_of-next p bytes =
      frames_of-reading p bytes
      ∙ (ap as_read (reading-next (frame_step magic) frame-steps p bytes)
      ∙ sym (one_by_one (front_of magic p bytes) p bytes (frames_of magic) (reading (frame_step magic)) frames_of-reading))

  -- one piece more
  pub frames_of-more : (p : ℕ) (bytes piece : List ℕ) → frames_with_more magic (frames_of magic p bytes) piece ≡ frames_of magic p (bytes ++ piece)
  frames_of-more p bytes piece =
      let r = reading (frame_step magic) p bytes in
      ap (λ x. frames_with_more magic x piece) (frames_of-reading p bytes)
      ∙ (ap (frames_before r.items) (frames_of-reading r.offset (r.unread ++ piece))
      ∙ (ap as_read (reading-with (frame_step magic) frame-steps p bytes piece)
      ∙ sym (frames_of-reading p (bytes ++ piece))))

  pieces_on : (p : ℕ) (bytes : List ℕ) (pieces : List (List ℕ)) → fold (frames_with_more magic) (frames_of magic p bytes) pieces ≡ frames_of magic p (bytes ++ concat pieces)
  pieces_on p bytes [] = ap (frames_of magic p) (sym (append-nil bytes))
  pieces_on p bytes (piece ∷ pieces) =
      ap (λ r. fold (frames_with_more magic) r pieces) (frames_of-more p bytes piece)
      ∙ (pieces_on p (bytes ++ piece) pieces ∙ ap (frames_of magic p) (append_assoc bytes piece (concat pieces)))

  -- pieces after one another are read as one
  pub frames_of-pieces : (p : ℕ) (pieces : List (List ℕ)) → frames_of_pieces magic p pieces ≡ frames_of magic p (concat pieces)
  unfolding frames_from
  frames_of-pieces p pieces = pieces_on p [] pieces

  -- ---- what frames and a rest are by the relations

  abbrev pub IsFrameRead : ℕ → List ℕ → Reading Frame FrameFault → Type 0
  IsFrameRead p bytes r = IsRead (frame_step magic) (frame_bytes magic) IsFrame p bytes r

  pub is_read-one : length magic ≡ 4 → (p : ℕ) (bytes : List ℕ) (r : Reading Frame FrameFault) → p < 2 ^ 64 → IsFrameRead p bytes r → frames_of magic p bytes ≡ as_read r
  is_read-one four p bytes r low read = frames_of-reading p bytes ∙ ap as_read (read-one (frame_step magic) (frame_bytes magic) IsFrame frame-steps (frame-taken four) p bytes r low read)

  pub is_read-same : length magic ≡ 4 → (p : ℕ) (bytes : List ℕ) (r s : Reading Frame FrameFault) → IsFrameRead p bytes r → IsFrameRead p bytes s → r ≡ s
  is_read-same four = read-same (frame_step magic) (frame_bytes magic) IsFrame frame-steps (frame-taken four)

  pub is_read-all : (p : ℕ) (bytes : List ℕ) → p < 2 ^ 64 → are_bytes bytes ≡ true → IsFrameRead p bytes (reading (frame_step magic) p bytes)
  is_read-all = read-all (frame_step magic) (frame_bytes magic) IsFrame frame-steps frame-found

  -- so many frames and an unfinished rest
  pub is_read-frames : (p : ℕ) (bytes : List ℕ) (fs : List Frame) (rest : List ℕ) → Frames magic bytes fs rest
      → IsFrameRead p bytes (record { items = fs; offset = later_offset p (length bytes - length rest); unread = rest; stop = None })
  is_read-frames p bytes fs rest frames = record {
    whole = frames.whole;
    each = frames.each;
    offset = refl;
    ends = ap step_of (partial-anywhere magic 0 (later_offset p (length bytes - length rest)) rest frames.partial.front);
  }

  pub frames-is_read : (p : ℕ) (bytes : List ℕ) (r : Reading Frame FrameFault) → IsFrameRead p bytes r → r.stop ≡ None → Frames magic bytes r.items r.unread
  frames-is_read p bytes r read e = record {
    whole = read.whole;
    each = read.each;
    partial = record { front = partial-anywhere magic r.offset 0 r.unread (is_partial (front_of magic r.offset r.unread) (read.ends ∙ ap last_step e)) };
  }

  -- so many frames and a fault
  pub is_read-stop : (p : ℕ) (bytes : List ℕ) (fs : List Frame) (fault : FrameFault) → (s : FrameStop magic p bytes fs fault)
      → IsFrameRead p bytes (record { items = fs; offset = later_offset p (length bytes - length s.rest); unread = s.rest; stop = Some fault })
  is_read-stop p bytes fs fault s = record { whole = s.whole; each = s.each; offset = refl; ends = ap step_of s.faulty }

  pub stop-is_read : (p : ℕ) (bytes : List ℕ) (r : Reading Frame FrameFault) (fault : FrameFault) → IsFrameRead p bytes r → r.stop ≡ Some fault → FrameStop magic p bytes r.items fault
  stop-is_read p bytes r fault read e =
      let at = later_offset p (length bytes - length r.unread) in
      record {
        rest = r.unread;
        whole = read.whole;
        each = read.each;
        faulty = is_faulty (front_of magic at r.unread) fault (subst (λ q. frame_step magic q r.unread ≡ Halt fault) read.offset (read.ends ∙ ap last_step e));
      }
