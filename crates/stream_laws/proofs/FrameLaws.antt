-- Of frames before a rest and frames before a fault exactly one applies to bytes, and both are said of parts one after
-- another.
use Rattle.std.proofs.Common.{◌≡◌, ◌⊎◌, inl, inr, ℕ, ◌-◌, ◌^◌, ◌<◌, true, List, ◌++◌, Option, Some, None, length, refl, sym, subst}
use Rattle.id_rules.specs.Bytes.{are_bytes}
use Rattle.id_rules.proofs.Lists.{all_append}
use Rattle.wire_rules.specs.Layout.{frame_bytes}
use Rattle.wire_rules.specs.Limits.{IsFrame}
use Rattle.wire_rules.specs.Stream.{FaultyFrame, Frames, FrameStop, front_of, later_offset}
use Rattle.wire_rules.specs.declared.frame.Frame.{Frame}
use Rattle.wire_rules.specs.declared.frame.FrameFault.{FrameFault}
use Rattle.stream_laws.specs.FrameReading.{frames_of}
use Rattle.stream_laws.proofs.FrameSteps.{as_read, frame_step, frames_of-reading, is_read-frames, is_read-all, frames-is_read, is_read-one, is_read-same, stop-is_read, is_read-stop}
use Rattle.stream_laws.proofs.Items.{join-offset, join-whole, more-offset, more-whole, Reading, reading, one_fault, no_fault}
use Rattle.stream_laws.proofs.Stays.{fault-stays}

-- a rest of bytes is read, from an offset on
abbrev pub rest_at : ℕ → List ℕ → List Frame → List ℕ → Option FrameFault → Reading Frame FrameFault
rest_at p bytes fs rest stop = record { items = fs; offset = later_offset p (length bytes - length rest); unread = rest; stop = stop }

-- ---- what is read from the front

module _ (magic : List ℕ) (four : length magic ≡ 4) (p : ℕ) (bytes : List ℕ) (fs : List Frame) (low : p < 2 ^ 64) where
  pub frames_of-frames : (rest : List ℕ) → Frames magic bytes fs rest → frames_of magic p bytes ≡ as_read (rest_at p bytes fs rest None)
  frames_of-frames rest frames = is_read-one magic four p bytes (rest_at p bytes fs rest None) low (is_read-frames magic p bytes fs rest frames)

  pub frames_of-stop : (fault : FrameFault) (s : FrameStop magic p bytes fs fault) → frames_of magic p bytes ≡ as_read (rest_at p bytes fs s.rest (Some fault))
  frames_of-stop fault s = is_read-one magic four p bytes (rest_at p bytes fs s.rest (Some fault)) low (is_read-stop magic p bytes fs fault s)

module _ (magic : List ℕ) (p : ℕ) (bytes : List ℕ) (low : p < 2 ^ 64) (sound : are_bytes bytes ≡ true) where
  pub frames-of : (frames_of magic p bytes).stop ≡ None → Frames magic bytes (frames_of magic p bytes).frames (frames_of magic p bytes).unread
  frames-of =
      subst (λ r. r.stop ≡ None → Frames magic bytes r.frames r.unread) (sym (frames_of-reading magic p bytes))
      (frames-is_read magic p bytes (reading (frame_step magic) p bytes) (is_read-all magic p bytes low sound))

  pub stop-of : (fault : FrameFault) → (frames_of magic p bytes).stop ≡ Some fault → FrameStop magic p bytes (frames_of magic p bytes).frames fault
  stop-of fault =
      subst (λ r. r.stop ≡ Some fault → FrameStop magic p bytes r.frames fault) (sym (frames_of-reading magic p bytes))
      (stop-is_read magic p bytes (reading (frame_step magic) p bytes) fault (is_read-all magic p bytes low sound))

  one_of : (o : Option FrameFault) → (frames_of magic p bytes).stop ≡ o
      → ((fs : List Frame) × (rest : List ℕ) × Frames magic bytes fs rest) ⊎ ((fs : List Frame) × (fault : FrameFault) × FrameStop magic p bytes fs fault)
  one_of None e = inl ((frames_of magic p bytes).frames, (frames_of magic p bytes).unread, frames-of e)
  one_of (Some fault) e = inr ((frames_of magic p bytes).frames, fault, stop-of fault e)

  -- one of both applies
  pub frames-or-stop : ((fs : List Frame) × (rest : List ℕ) × Frames magic bytes fs rest) ⊎ ((fs : List Frame) × (fault : FrameFault) × FrameStop magic p bytes fs fault)
  frames-or-stop = one_of (frames_of magic p bytes).stop refl

-- ---- with one value

module _ (magic : List ℕ) (four : length magic ≡ 4) (bytes : List ℕ) (fs gs : List Frame) where
  pub frames-one : (rest left : List ℕ) → Frames magic bytes fs rest → Frames magic bytes gs left → (fs ≡ gs) × (rest ≡ left)
  frames-one rest left a b =
      let same = is_read-same magic four 0 bytes (rest_at 0 bytes fs rest None) (rest_at 0 bytes gs left None) (is_read-frames magic 0 bytes fs rest a) (is_read-frames magic 0 bytes gs left b) in
      (λ i. (same i).items, λ i. (same i).unread)

  pub stop-one : (p : ℕ) (fault other : FrameFault) → FrameStop magic p bytes fs fault → FrameStop magic p bytes gs other → (fs ≡ gs) × (fault ≡ other)
  stop-one p fault other a b =
      let same = is_read-same magic four p bytes (rest_at p bytes fs a.rest (Some fault)) (rest_at p bytes gs b.rest (Some other)) (is_read-stop magic p bytes fs fault a) (is_read-stop magic p bytes gs other b) in
      (λ i. (same i).items, one_fault fault other (λ i. (same i).stop))

  -- not both apply
  pub frames-apart : (p : ℕ) (rest : List ℕ) (fault : FrameFault) → Frames magic bytes fs rest → FrameStop magic p bytes gs fault → ⊥
  frames-apart p rest fault a b =
      let same = is_read-same magic four p bytes (rest_at p bytes fs rest None) (rest_at p bytes gs b.rest (Some fault)) (is_read-frames magic p bytes fs rest a) (is_read-stop magic p bytes gs fault b) in
      no_fault fault (λ i. (same i).stop)

-- ---- parts one after another

module _ (magic p rest q : List ℕ) (fs gs : List Frame) (first : Frames magic p fs rest) where
  pub frames-join : (left : List ℕ) → Frames magic (rest ++ q) gs left → Frames magic (p ++ q) (fs ++ gs) left
  frames-join left second = record {
    whole = join-whole (frame_bytes magic) p rest q left fs gs first.whole second.whole;
    each = all_append IsFrame fs gs first.each second.each;
    partial = second.partial;
  }

  pub stop-join : (offset : ℕ) (fault : FrameFault) → FrameStop magic (later_offset offset (length p - length rest)) (rest ++ q) gs fault → FrameStop magic offset (p ++ q) (fs ++ gs) fault
  stop-join offset fault second = record {
    rest = second.rest;
    whole = join-whole (frame_bytes magic) p rest q second.rest fs gs first.whole second.whole;
    each = all_append IsFrame fs gs first.each second.each;
    faulty = subst (λ at. front_of magic at second.rest ≡ FaultyFrame fault) (join-offset (frame_bytes magic) p rest q second.rest fs gs first.whole second.whole offset) second.faulty;
  }

-- a fault is one whatever follows
pub stop-stays : (magic : List ℕ) (offset : ℕ) (p q : List ℕ) (fs : List Frame) (fault : FrameFault) → FrameStop magic offset p fs fault → FrameStop magic offset (p ++ q) fs fault
stop-stays magic offset p q fs fault s = record {
  rest = s.rest ++ q;
  whole = more-whole (frame_bytes magic) p s.rest q fs s.whole;
  each = s.each;
  faulty = subst (λ at. front_of magic at (s.rest ++ q) ≡ FaultyFrame fault) (more-offset (frame_bytes magic) p s.rest q fs s.whole offset) (fault-stays magic (later_offset offset (length p - length s.rest)) s.rest q fault s.faulty);
}
