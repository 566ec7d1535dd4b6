-- Of messages before a rest and messages before a fault exactly one applies to bytes: the one that is read from their
-- front. Frames say which.
use Rattle.std.proofs.Common.{◌≡◌, ◌⊎◌, inl, inr, ℕ, ◌+◌, ◌-◌, ◌^◌, ◌<◌, true, List, [], ◌∷◌, ◌++◌, Option, Some, None, Ok, Err, length, flat_map, map, refl, sym, ap, subst, ◌∙◌, append_assoc, lit<}
use Rattle.std.specs.List.{AllByRecursion}
use Rattle.std.proofs.lemmas.Grind.{flat_map-append}
use Rattle.id_rules.specs.Bytes.{are_bytes}
use Rattle.id_rules.proofs.Lists.{all_append, all_left, all_right}
use Rattle.wire_rules.specs.Layout.{frame_bytes, wire_bytes, message_bytes}
use Rattle.wire_rules.specs.Limits.{IsFrame, IsMessage}
use Rattle.wire_rules.specs.Reading.{message_of}
use Rattle.wire_rules.specs.Stream.{FrameStopAt, PayloadStopAt, Frames, FrameStop, StreamFrameFault, StreamPayloadFault, Stop, IsStopAt, Stream, StreamFault, later_offset, stream_of}
use Rattle.wire_rules.specs.declared.faults.PayloadFault.{PayloadFault}
use Rattle.wire_rules.specs.declared.frame.Frame.{Frame}
use Rattle.wire_rules.specs.declared.frame.FrameFault.{FrameFault}
use Rattle.wire_rules.specs.declared.message.Message.{Message}
use Rattle.wire_laws.proofs.Said.{message_of-said}
use Rattle.stream_laws.specs.StreamReading.{IsReadAs, IsStoppedAs}
use Rattle.stream_laws.proofs.Fronts.{front_of-frame}
use Rattle.stream_laws.proofs.Items.{join-offset, join-whole, more-offset, more-whole, Reading, reading, one_fault, no_fault}
use Rattle.stream_laws.proofs.MessageSteps.{stops-stay, message_step, stream_of-reading, is_read-stream, is_read-all, stream-is_read, is_read-one, is_read-same, stop-is_read, is_read-stop}

-- a rest of bytes is read, from an offset on
abbrev rest_at : ℕ → List ℕ → List Message → List ℕ → Option StreamFault → Reading Message StreamFault
rest_at p bytes ms rest stop = record { items = ms; offset = later_offset p (length bytes - length rest); unread = rest; stop = stop }

-- ---- what is read from the front

module _ (magic : List ℕ) (bytes : List ℕ) (ms : List Message) (four : length magic ≡ 4) where
  pub stream_of-stream : (rest : List ℕ) → Stream magic bytes ms rest → IsReadAs ms rest (stream_of magic bytes)
  stream_of-stream rest s =
      let same = is_read-one magic four 0 bytes (rest_at 0 bytes ms rest None) (lit< tt) (is_read-stream magic 0 bytes ms rest s) in
      subst (IsReadAs ms rest) (sym (stream_of-reading magic bytes)) (record { messages = λ i. (same i).items; left = λ i. (same i).unread; unstopped = λ i. (same i).stop })

  pub stream_of-stop : (fault : StreamFault) → Stop magic 0 bytes ms fault → IsStoppedAs ms fault (stream_of magic bytes)
  stream_of-stop fault s =
      let same = is_read-one magic four 0 bytes (rest_at 0 bytes ms s.rest (Some fault)) (lit< tt) (is_read-stop magic 0 bytes ms fault s) in
      subst (IsStoppedAs ms fault) (sym (stream_of-reading magic bytes)) (record { messages = λ i. (same i).items; stopped = λ i. (same i).stop })

module _ (magic : List ℕ) (bytes : List ℕ) (sound : are_bytes bytes ≡ true) where
  pub stream-of : (stream_of magic bytes).stop ≡ None → Stream magic bytes (stream_of magic bytes).messages (stream_of magic bytes).rest
  stream-of =
      subst (λ r. r.stop ≡ None → Stream magic bytes r.messages r.rest) (sym (stream_of-reading magic bytes))
      (stream-is_read magic 0 bytes (reading (message_step magic) 0 bytes) (is_read-all magic 0 bytes (lit< tt) sound))

  pub stop-of : (fault : StreamFault) → (stream_of magic bytes).stop ≡ Some fault → Stop magic 0 bytes (stream_of magic bytes).messages fault
  stop-of fault =
      subst (λ r. r.stop ≡ Some fault → Stop magic 0 bytes r.messages fault) (sym (stream_of-reading magic bytes))
      (stop-is_read magic 0 bytes (reading (message_step magic) 0 bytes) fault (is_read-all magic 0 bytes (lit< tt) sound))

module _ (magic : List ℕ) (p : ℕ) (bytes : List ℕ) (low : p < 2 ^ 64) (sound : are_bytes bytes ≡ true) where
  one_of : (r : Reading Message StreamFault) (o : Option StreamFault) → reading (message_step magic) p bytes ≡ r → r.stop ≡ o
      → ((ms : List Message) × (rest : List ℕ) × Stream magic bytes ms rest) ⊎ ((ms : List Message) × (fault : StreamFault) × Stop magic p bytes ms fault)
  one_of r None same e = inl (r.items, r.unread, subst (λ x. x.stop ≡ None → Stream magic bytes x.items x.unread) same (stream-is_read magic p bytes (reading (message_step magic) p bytes) (is_read-all magic p bytes low sound)) e)
  one_of r (Some fault) same e = inr (r.items, fault, subst (λ x. x.stop ≡ Some fault → Stop magic p bytes x.items fault) same (stop-is_read magic p bytes (reading (message_step magic) p bytes) fault (is_read-all magic p bytes low sound)) e)

  -- one of both applies
  pub stream-or-stop : ((ms : List Message) × (rest : List ℕ) × Stream magic bytes ms rest) ⊎ ((ms : List Message) × (fault : StreamFault) × Stop magic p bytes ms fault)
  stream-or-stop = one_of (reading (message_step magic) p bytes) (reading (message_step magic) p bytes).stop refl refl

-- ---- with one value

module _ (magic : List ℕ) (four : length magic ≡ 4) (bytes : List ℕ) (ms ns : List Message) where
  pub stream-one : (rest left : List ℕ) → Stream magic bytes ms rest → Stream magic bytes ns left → (ms ≡ ns) × (rest ≡ left)
  stream-one rest left a b =
      let same = is_read-same magic four 0 bytes (rest_at 0 bytes ms rest None) (rest_at 0 bytes ns left None) (is_read-stream magic 0 bytes ms rest a) (is_read-stream magic 0 bytes ns left b) in
      (λ i. (same i).items, λ i. (same i).unread)

  pub stop-one : (p : ℕ) (fault other : StreamFault) → Stop magic p bytes ms fault → Stop magic p bytes ns other → (ms ≡ ns) × (fault ≡ other)
  stop-one p fault other a b =
      let same = is_read-same magic four p bytes (rest_at p bytes ms a.rest (Some fault)) (rest_at p bytes ns b.rest (Some other)) (is_read-stop magic p bytes ms fault a) (is_read-stop magic p bytes ns other b) in
      (λ i. (same i).items, one_fault fault other (λ i. (same i).stop))

  -- not both apply
  pub stream-apart : (p : ℕ) (rest : List ℕ) (fault : StreamFault) → Stream magic bytes ms rest → Stop magic p bytes ns fault → ⊥
  stream-apart p rest fault a b =
      let same = is_read-same magic four p bytes (rest_at p bytes ms rest None) (rest_at p bytes ns b.rest (Some fault)) (is_read-stream magic p bytes ms rest a) (is_read-stop magic p bytes ns fault b) in
      no_fault fault (λ i. (same i).stop)

-- ---- parts one after another

module _ (magic p rest q : List ℕ) (ms ns : List Message) (first : Stream magic p ms rest) where
  pub stream-join : (left : List ℕ) → Stream magic (rest ++ q) ns left → Stream magic (p ++ q) (ms ++ ns) left
  stream-join left second = record {
    whole = join-whole (message_bytes magic) p rest q left ms ns first.whole second.whole;
    each = all_append IsMessage ms ns first.each second.each;
    partial = second.partial;
  }

  pub stop-join : (offset : ℕ) (fault : StreamFault) → Stop magic (later_offset offset (length p - length rest)) (rest ++ q) ns fault → Stop magic offset (p ++ q) (ms ++ ns) fault
  stop-join offset fault second = record {
    rest = second.rest;
    whole = join-whole (message_bytes magic) p rest q second.rest ms ns first.whole second.whole;
    each = all_append IsMessage ms ns first.each second.each;
    faulty = subst (λ at. IsStopAt magic at second.rest fault) (join-offset (message_bytes magic) p rest q second.rest ms ns first.whole second.whole offset) second.faulty;
  }

-- a fault is one whatever follows
pub stop-stays : (magic : List ℕ) (offset : ℕ) (p q : List ℕ) (ms : List Message) (fault : StreamFault) → Stop magic offset p ms fault → Stop magic offset (p ++ q) ms fault
stop-stays magic offset p q ms fault s = record {
  rest = s.rest ++ q;
  whole = more-whole (message_bytes magic) p s.rest q ms s.whole;
  each = s.each;
  faulty = subst (λ at. IsStopAt magic at (s.rest ++ q) fault) (more-offset (message_bytes magic) p s.rest q ms s.whole offset) (stops-stay magic (later_offset offset (length p - length s.rest)) s.rest q fault s.faulty);
}

-- ---- out of frames

cons_parts : {A : Type 0} (x y : A) (xs ys : List A) → x ∷ xs ≡ y ∷ ys → (x ≡ y) × (xs ≡ ys)
cons_parts x y xs ys e = (cc, cc)

-- frames whose payloads are all read are the messages' frames
all_said : (magic : List ℕ) (fs : List Frame) (ms : List Message) → AllByRecursion IsFrame fs → map message_of fs ≡ map Ok ms → (flat_map (frame_bytes magic) fs ≡ wire_bytes magic ms) × AllByRecursion IsMessage ms
all_said magic [] [] each e = (refl, tt)
all_said magic [] (m ∷ ms) each e = absurd (cc)
all_said magic (f ∷ fs) [] each e = absurd (cc)
all_said magic (f ∷ fs) (m ∷ ms) each e =
    let parts = cons_parts (message_of f) (Ok m) (map message_of fs) (map Ok ms) e in
    let said = message_of-said f m each.0 parts.0 in
    let more = all_said magic fs ms each.1 parts.1 in
    (ap (λ g. frame_bytes magic g ++ flat_map (frame_bytes magic) fs) said.frame ∙ ap (λ xs. message_bytes magic m ++ xs) more.0, (said.sent, more.1))

module _ (magic bytes : List ℕ) (fs : List Frame) (ms : List Message) (read : map message_of fs ≡ map Ok ms) where
  pub frames-stream : (rest : List ℕ) → Frames magic bytes fs rest → Stream magic bytes ms rest
  frames-stream rest frames =
      let said = all_said magic fs ms frames.each read in
      record { whole = frames.whole ∙ ap (λ xs. xs ++ rest) said.0; each = said.1; partial = frames.partial }

  pub frames-stop : (p : ℕ) (fault : FrameFault) → FrameStop magic p bytes fs fault → Stop magic p bytes ms (StreamFrameFault fault)
  frames-stop p fault s =
      let said = all_said magic fs ms s.each read in
      record { rest = s.rest; whole = s.whole ∙ ap (λ xs. xs ++ s.rest) said.0; each = said.1; faulty = FrameStopAt fault s.faulty }

  module _ (p : ℕ) (f : Frame) (gs : List Frame) (fault : PayloadFault) (four : length magic ≡ 4) (first : message_of f ≡ Err fault) where
    payload_stop : (rest : List ℕ) → bytes ≡ flat_map (frame_bytes magic) (fs ++ (f ∷ gs)) ++ rest → AllByRecursion IsFrame (fs ++ (f ∷ gs)) → Stop magic p bytes ms (StreamPayloadFault fault)
    payload_stop rest whole each =
        let said = all_said magic fs ms (all_left IsFrame fs (f ∷ gs) each) read in
        let behind = flat_map (frame_bytes magic) gs ++ rest in
        let left = frame_bytes magic f ++ behind in
        record {
          rest = left;
          whole =
              whole
              ∙ (ap (λ xs. xs ++ rest) (flat_map-append (frame_bytes magic) fs (f ∷ gs))
              ∙ (append_assoc (flat_map (frame_bytes magic) fs) (frame_bytes magic f ++ flat_map (frame_bytes magic) gs) rest
              ∙ ((λ i. said.0 i ++ append_assoc (frame_bytes magic f) (flat_map (frame_bytes magic) gs) rest i))));
          each = said.1;
          faulty = PayloadStopAt f (24 + length f.payload) fault (front_of-frame magic (later_offset p (length bytes - length left)) f behind four (all_right IsFrame fs (f ∷ gs) each).0) first;
        }

    -- the first payload fault ends the stream, whatever is behind it
    pub payload-stop : (rest : List ℕ) → Frames magic bytes (fs ++ (f ∷ gs)) rest → Stop magic p bytes ms (StreamPayloadFault fault)
    payload-stop rest frames = payload_stop rest frames.whole frames.each

    pub payload-first : (other : FrameFault) → FrameStop magic p bytes (fs ++ (f ∷ gs)) other → Stop magic p bytes ms (StreamPayloadFault fault)
    payload-first other s = payload_stop s.rest s.whole s.each
