-- Messages are items that are read one after another.
use Rattle.std.proofs.Common.{◌≡◌, ℕ, zero, suc, ◌+◌, ◌-◌, ◌^◌, ◌<◌, true, List, [], ◌++◌, Some, None, Result, Ok, Err, length, drop, refl, sym, ap, subst, ◌∙◌, arith, lit<}
use Rattle.id_rules.specs.Bytes.{are_bytes}
use Rattle.wire_rules.specs.Layout.{frame_bytes, frame_of, message_bytes}
use Rattle.wire_rules.specs.Limits.{IsMessage}
use Rattle.wire_rules.specs.Reading.{message_of}
use Rattle.wire_rules.specs.Stream.{FrameStopAt, PayloadStopAt, Front, PartialFrame, WholeFrame, FaultyFrame, StreamFrameFault, StreamPayloadFault, Stop, IsStopAt, Stream, StreamFault, StreamRead, with_message, front_of, later_offset, stream_by_front, stream_by_message, stream_from, stream_of}
use Rattle.wire_rules.specs.declared.faults.PayloadFault.{PayloadFault}
use Rattle.wire_rules.specs.declared.frame.Frame.{Frame}
use Rattle.wire_rules.specs.declared.message.Message.{Message}
use Rattle.wire_laws.proofs.Messages.{message_of-frame_of}
use Rattle.wire_laws.proofs.Said.{message_of-said}
use Rattle.wire_laws.proofs.Sound.{frame_of-sound}
use Rattle.stream_laws.proofs.Fronts.{front_of-frame, frame-length, short_front}
use Rattle.stream_laws.proofs.Stays.{fault-stays, partial-anywhere, whole-stays}
use Rattle.stream_laws.proofs.Found.{bytes_cut, front-found, whole-size}
use Rattle.stream_laws.proofs.Items.{Step, Wait, Take, Halt, Reading, IsStep, IsTaken, IsFound, IsRead, last_step, reading_by, read_items, reading, read-one, read-same, read-all}

-- ---- a front as a step

abbrev pub by_payload : Result Message PayloadFault → ℕ → Step Message StreamFault
by_payload (Ok m) n = Take m n
by_payload (Err fault) n = Halt (StreamPayloadFault fault)

abbrev pub step_of : Front → Step Message StreamFault
step_of PartialFrame = Wait
step_of (WholeFrame f n) = by_payload (message_of f) n
step_of (FaultyFrame fault) = Halt (StreamFrameFault fault)

abbrev pub message_step : List ℕ → ℕ → List ℕ → Step Message StreamFault
message_step magic p bytes = step_of (front_of magic p bytes)

payload_wait : (r : Result Message PayloadFault) (n : ℕ) → by_payload r n ≡ Wait → ⊥
payload_wait (Ok m) n e = absurd (cc)
payload_wait (Err fault) n e = absurd (cc)

payload_take : (r : Result Message PayloadFault) (k n : ℕ) (m : Message) → by_payload r k ≡ Take m n → (r ≡ Ok m) × (k ≡ n)
payload_take (Ok x) k n m e = let same : x ≡ m = cc in let size : k ≡ n = cc in (ap (λ y. Ok y) same, size)
payload_take (Err fault) k n m e = absurd (cc)

is_partial : (x : Front) → step_of x ≡ Wait → x ≡ PartialFrame
is_partial PartialFrame e = refl
is_partial (WholeFrame f n) e = absurd (payload_wait (message_of f) n e)
is_partial (FaultyFrame fault) e = absurd (cc)

-- a message is a whole frame's
is_message : (x : Front) (m : Message) (n : ℕ) → step_of x ≡ Take m n → (f : Frame) × (x ≡ WholeFrame f n) × (message_of f ≡ Ok m)
is_message PartialFrame m n e = absurd (cc)
is_message (WholeFrame f k) m n e = let take = payload_take (message_of f) k n m e in (f, ap (WholeFrame f) take.1, take.0)
is_message (FaultyFrame fault) m n e = absurd (cc)

payload_halt : (magic : List ℕ) (p : ℕ) (bytes : List ℕ) (f : Frame) (n : ℕ) (r : Result Message PayloadFault) (fault : StreamFault) → front_of magic p bytes ≡ WholeFrame f n → message_of f ≡ r
    → by_payload r n ≡ Halt fault → IsStopAt magic p bytes fault
payload_halt magic p bytes f n (Ok m) fault front e halt = absurd (cc)
payload_halt magic p bytes f n (Err x) fault front e halt = let same : StreamPayloadFault x ≡ fault = cc in subst (IsStopAt magic p bytes) same (PayloadStopAt f n x front e)

stops_by : (magic : List ℕ) (p : ℕ) (bytes : List ℕ) (x : Front) (fault : StreamFault) → front_of magic p bytes ≡ x → step_of x ≡ Halt fault → IsStopAt magic p bytes fault
stops_by magic p bytes PartialFrame fault front halt = absurd (cc)
stops_by magic p bytes (WholeFrame f n) fault front halt = payload_halt magic p bytes f n (message_of f) fault front refl halt
stops_by magic p bytes (FaultyFrame x) fault front halt = let same : StreamFrameFault x ≡ fault = cc in subst (IsStopAt magic p bytes) same (FrameStopAt x front)

halts : (magic : List ℕ) (p : ℕ) (bytes : List ℕ) (fault : StreamFault) → IsStopAt magic p bytes fault → message_step magic p bytes ≡ Halt fault
halts magic p bytes (StreamFrameFault fault) (FrameStopAt stop front) = ap step_of front
halts magic p bytes (StreamPayloadFault fault) (PayloadStopAt f n stop front e) = ap step_of front ∙ ap (λ r. by_payload r n) e

abbrev pub as_read : Reading Message StreamFault → StreamRead
as_read r = record { messages = r.items; offset = r.offset; rest = r.unread; stop = r.stop }

-- a fault is one whatever follows
pub stops-stay : (magic : List ℕ) (p : ℕ) (bytes more : List ℕ) (fault : StreamFault) → IsStopAt magic p bytes fault → IsStopAt magic p (bytes ++ more) fault
stops-stay magic p bytes more (StreamFrameFault fault) (FrameStopAt stop front) = FrameStopAt stop (fault-stays magic p bytes more stop front)
stops-stay magic p bytes more (StreamPayloadFault fault) (PayloadStopAt f n stop front e) = PayloadStopAt f n stop (whole-stays magic p bytes more f n front) e

module _ (magic : List ℕ) where
  message-steps : IsStep (message_step magic)
  message-steps = record {
    none = λ p. ap step_of (short_front magic p [] (lit< tt));
    size = λ p bytes m n e. let is = is_message (front_of magic p bytes) m n e in let size = whole-size magic p bytes is.0 n is.1 in let some = size.0 in (omega arith, size.1);
    stays = λ p bytes more m n e. let is = is_message (front_of magic p bytes) m n e in ap step_of (whole-stays magic p bytes more is.0 n is.1) ∙ ap (λ r. by_payload r n) is.2;
  }

  message-taken : length magic ≡ 4 → IsTaken (message_step magic) (message_bytes magic) IsMessage
  message-taken four p m more sent =
      let f = frame_of m in
      let sound = frame_of-sound m sent in
      ap step_of (front_of-frame magic p f more four sound)
      ∙ (ap (λ r. by_payload r (24 + length f.payload)) (message_of-frame_of m sent)
      ∙ ap (Take m) (sym (frame-length magic f four sound)))

  message-found : IsFound (message_step magic) (message_bytes magic) IsMessage
  message-found p bytes m n sound e =
      let is = is_message (front_of magic p bytes) m n e in
      let first = front-found magic p bytes is.0 n sound is.1 in
      let said = message_of-said is.0 m first.sound is.2 in
      (said.sent, first.whole ∙ ap (λ f. frame_bytes magic f ++ drop n bytes) said.frame, (bytes_cut n bytes sound).1)

  -- ---- a stream read from its front

  one_message : (r : Result Message PayloadFault) (n p : ℕ) (bytes : List ℕ) (f : ℕ → List ℕ → StreamRead) (g : ℕ → List ℕ → Reading Message StreamFault) → ((q : ℕ) (rest : List ℕ) → f q rest ≡ as_read (g q rest))
      → stream_by_message r n p bytes f ≡ as_read (reading_by (by_payload r n) p bytes g)
  unfolding stream_by_message
  one_message (Ok m) n p bytes f g same = ap (with_message m) (same (later_offset p n) (drop n bytes))
  one_message (Err fault) n p bytes f g same = refl

  one_front : (x : Front) (p : ℕ) (bytes : List ℕ) (f : ℕ → List ℕ → StreamRead) (g : ℕ → List ℕ → Reading Message StreamFault) → ((q : ℕ) (rest : List ℕ) → f q rest ≡ as_read (g q rest))
      → stream_by_front x p bytes f ≡ as_read (reading_by (step_of x) p bytes g)
  unfolding stream_by_front
  one_front PartialFrame p bytes f g same = refl
  one_front (WholeFrame frame n) p bytes f g same = one_message (message_of frame) n p bytes f g same
  one_front (FaultyFrame fault) p bytes f g same = refl

  stream-read : (n p : ℕ) (bytes : List ℕ) → stream_from n magic p bytes ≡ as_read (read_items (message_step magic) n p bytes)
  unfolding stream_from read_items
  stream-read zero p bytes = refl
  stream-read (suc n) p bytes = one_front (front_of magic p bytes) p bytes (stream_from n magic) (read_items (message_step magic) n) (stream-read n)

  pub stream_of-reading : (bytes : List ℕ) → stream_of magic bytes ≡ as_read (reading (message_step magic) 0 bytes)
  stream_of-reading bytes = stream-read (length bytes) 0 bytes

  -- ---- what messages and a rest are by the relations

  abbrev pub IsStreamRead : ℕ → List ℕ → Reading Message StreamFault → Type 0
  IsStreamRead p bytes r = IsRead (message_step magic) (message_bytes magic) IsMessage p bytes r

  pub is_read-one : length magic ≡ 4 → (p : ℕ) (bytes : List ℕ) (r : Reading Message StreamFault) → p < 2 ^ 64 → IsStreamRead p bytes r → reading (message_step magic) p bytes ≡ r
  is_read-one four = read-one (message_step magic) (message_bytes magic) IsMessage message-steps (message-taken four)

  pub is_read-same : length magic ≡ 4 → (p : ℕ) (bytes : List ℕ) (r s : Reading Message StreamFault) → IsStreamRead p bytes r → IsStreamRead p bytes s → r ≡ s
  is_read-same four = read-same (message_step magic) (message_bytes magic) IsMessage message-steps (message-taken four)

  pub is_read-all : (p : ℕ) (bytes : List ℕ) → p < 2 ^ 64 → are_bytes bytes ≡ true → IsStreamRead p bytes (reading (message_step magic) p bytes)
  is_read-all = read-all (message_step magic) (message_bytes magic) IsMessage message-steps message-found

  pub is_read-stream : (p : ℕ) (bytes : List ℕ) (ms : List Message) (rest : List ℕ) → Stream magic bytes ms rest
      → IsStreamRead p bytes (record { items = ms; offset = later_offset p (length bytes - length rest); unread = rest; stop = None })
  is_read-stream p bytes ms rest stream = record {
    whole = stream.whole;
    each = stream.each;
    offset = refl;
    ends = ap step_of (partial-anywhere magic 0 (later_offset p (length bytes - length rest)) rest stream.partial.front);
  }

  pub stream-is_read : (p : ℕ) (bytes : List ℕ) (r : Reading Message StreamFault) → IsStreamRead p bytes r → r.stop ≡ None → Stream magic bytes r.items r.unread
  stream-is_read p bytes r read e = record {
    whole = read.whole;
    each = read.each;
    partial = record { front = partial-anywhere magic r.offset 0 r.unread (is_partial (front_of magic r.offset r.unread) (read.ends ∙ ap last_step e)) };
  }

  pub is_read-stop : (p : ℕ) (bytes : List ℕ) (ms : List Message) (fault : StreamFault) → (s : Stop magic p bytes ms fault)
      → IsStreamRead p bytes (record { items = ms; offset = later_offset p (length bytes - length s.rest); unread = s.rest; stop = Some fault })
  is_read-stop p bytes ms fault s = record { whole = s.whole; each = s.each; offset = refl; ends = halts magic (later_offset p (length bytes - length s.rest)) s.rest fault s.faulty }

  pub stop-is_read : (p : ℕ) (bytes : List ℕ) (r : Reading Message StreamFault) (fault : StreamFault) → IsStreamRead p bytes r → r.stop ≡ Some fault → Stop magic p bytes r.items fault
  stop-is_read p bytes r fault read e =
      let at = later_offset p (length bytes - length r.unread) in
      record {
        rest = r.unread;
        whole = read.whole;
        each = read.each;
        faulty = stops_by magic at r.unread (front_of magic at r.unread) fault refl (subst (λ q. message_step magic q r.unread ≡ Halt fault) read.offset (read.ends ∙ ap last_step e));
      }
