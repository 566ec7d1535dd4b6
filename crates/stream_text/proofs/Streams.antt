-- A stream that is shown message by message.
use Rattle.std.proofs.Common.{◌≡◌, ℕ, zero, suc, ◌+◌, ◌<◌, ◌≤◌, List, [], ◌∷◌, ◌++◌, Option, Some, None, Result, Ok, Err, length, take, drop, nat_le, refl, sym, ap, subst, ◌∙◌, arith, append_assoc, append-nil, length-drop}
use Rattle.std.proofs.lemmas.List.{length-take-le}
use Rattle.line_rules.specs.Lines.{line}
use Rattle.wire_rules.specs.Reading.{message_of}
use Rattle.wire_rules.specs.Shown.{message_text}
use Rattle.wire_rules.specs.Stream.{Front, PartialFrame, WholeFrame, FaultyFrame, StreamFault, StreamRead, front_by_length, front_of, later_offset, stream_by_front, stream_by_message, stream_from, with_message, header_of}
use Rattle.wire_rules.specs.declared.faults.PayloadFault.{PayloadFault}
use Rattle.wire_rules.specs.declared.frame.Frame.{Frame}
use Rattle.wire_rules.specs.declared.frame.FrameFault.{FrameFault}
use Rattle.wire_rules.specs.declared.message.Message.{Message}
use Rattle.stream_laws.proofs.Found.{length_judged, whole-size}
use Rattle.p2p_frame.specs.Feeding.{frame_in}
use Rattle.protocol_text_rules.specs.Works.{StreamStop, messages_in, messages_to_end, stop_at, whole_stream}
use Rattle.protocol_text_rules.specs.declared.limits.TheConstants.{MAIN_MAGIC}
use Rattle.protocol_text_rules.specs.declared.stream.StreamKind.{StreamKind}
use Rattle.protocol_text_rules.specs.declared.stream.StreamKind.TheVariants as stream
use Rattle.recon_messages.specs.Says.{IsDecoded}
use Rattle.recon_messages.specs.declared.fault.DecodeFault.{DecodeFault}
use Rattle.recon_messages.specs.declared.fault.DecodeFault.TheVariants as decode
use Rattle.stream_text.specs.Outcomes.{HasFirst, IsFirst, IsShowing, read_by_front, shown_lines, stop_of}
use Rattle.stream_text.specs.declared.stop.ShowStop.{ShowStop}
use Rattle.stream_text.specs.declared.stop.ShowStop.TheVariants as stop

-- ---- what stands in front

-- by what the front is
whole_of : (front : Front) (f : Frame) → frame_in front ≡ Ok (Some f) → (n : ℕ) × (front ≡ WholeFrame f n)
whole_of PartialFrame f e = absurd (cc)
whole_of (WholeFrame g n) f e = (n, same g f n (one g f e))
  where
    one : (g f : Frame) → frame_in (WholeFrame g n) ≡ Ok (Some f) → g ≡ f
    one g f e = cc

    same : (g f : Frame) (n : ℕ) → g ≡ f → WholeFrame g n ≡ WholeFrame f n
    same g f n e = ap (λ (x : Frame). WholeFrame x n) e
whole_of (FaultyFrame fault) f e = absurd (cc)

partial_of : (front : Front) → frame_in front ≡ Ok None → front ≡ PartialFrame
partial_of PartialFrame e = refl
partial_of (WholeFrame g n) e = absurd (cc)
partial_of (FaultyFrame fault) e = absurd (cc)

faulty_of : (front : Front) (fault : FrameFault) → frame_in front ≡ Err fault → front ≡ FaultyFrame fault
faulty_of PartialFrame fault e = absurd (cc)
faulty_of (WholeFrame g n) fault e = absurd (cc)
faulty_of (FaultyFrame other) fault e = ap (λ (x : FrameFault). FaultyFrame x) (one other fault e)
  where
    one : (a b : FrameFault) → frame_in (FaultyFrame a) ≡ Err b → a ≡ b
    one a b e = cc

-- a whole frame has its header and its payload
whole_length : (offset : ℕ) (bytes : List ℕ) (f : Frame) (n : ℕ) → front_of MAIN_MAGIC offset bytes ≡ WholeFrame f n → n ≡ 24 + length f.payload
whole_length offset bytes f n e =
    let judged = (length_judged (nat_le 24 (length bytes)) MAIN_MAGIC offset bytes f n refl e).1 in
    let size = (header_of bytes).size in
    let enough : size ≤ length (drop 24 bytes) = judged.enough in
    let payload : take size (drop 24 bytes) ≡ f.payload = ap (λ (g : Frame). g.payload) judged.frame in
    let long : length (take size (drop 24 bytes)) ≡ size = length-take-le size (drop 24 bytes) enough in
    omega (arith, judged.size, long, ap length payload)

module _ (offset : ℕ) (bytes : List ℕ) where
  -- a frame that says a message
  pub first_message : (f : Frame) (m : Message) (n : ℕ) → frame_in (front_of MAIN_MAGIC offset bytes) ≡ Ok (Some f) → message_of f ≡ Ok m → n ≡ 24 + length f.payload → HasFirst offset bytes m n
  unfolding stream_by_front stream_by_message
  first_message f m n e said is =
      let front = whole_of (front_of MAIN_MAGIC offset bytes) f e in
      let same : n ≡ front.0 = is ∙ sym (whole_length offset bytes f front.0 front.1) in
      let size = whole-size MAIN_MAGIC offset bytes f front.0 front.1 in
      subst (HasFirst offset bytes m) (sym same) (record {
        read = λ next. ap (λ (x : Front). stream_by_front x offset bytes next) front.1 ∙ ap (λ r. stream_by_message r front.0 offset bytes next) said;
        size = size.1;
        some = size.0;
      })

  -- a frame whose payload has a fault
  pub first_payload_fault : (f : Frame) (fault : PayloadFault) → frame_in (front_of MAIN_MAGIC offset bytes) ≡ Ok (Some f) → message_of f ≡ Err fault → (next : ℕ → List ℕ → StreamRead)
      → messages_to_end (read_by_front offset bytes next) ≡ stop_at offset (stream.Payload fault)
  unfolding stream_by_front stream_by_message whole_stream
  first_payload_fault f fault e said next =
      let front = whole_of (front_of MAIN_MAGIC offset bytes) f e in
      ap (λ (x : Front). messages_to_end (stream_by_front x offset bytes next)) front.1 ∙ ap (λ r. messages_to_end (stream_by_message r front.0 offset bytes next)) said

  -- a frame that isn't decoded
  pub first_undecoded : (f : Frame) (fault : DecodeFault) → frame_in (front_of MAIN_MAGIC offset bytes) ≡ Ok (Some f) → IsDecoded (message_of f) (Err fault) → IsFirst offset bytes (Err (stop_of offset fault))
  first_undecoded f (decode.Payload p) e said = first_payload_fault f p e said
  first_undecoded f decode.OutOfMemory e said = tt

  -- a frame that is faulty
  pub first_frame_fault : (fault : FrameFault) → frame_in (front_of MAIN_MAGIC offset bytes) ≡ Err fault → (next : ℕ → List ℕ → StreamRead)
      → messages_to_end (read_by_front offset bytes next) ≡ stop_at offset (stream.Frame fault)
  unfolding stream_by_front whole_stream
  first_frame_fault fault e next = ap (λ (x : Front). messages_to_end (stream_by_front x offset bytes next)) (faulty_of (front_of MAIN_MAGIC offset bytes) fault e)

-- a frame that is cut short
pub first_cut_short : (offset : ℕ) (bytes : List ℕ) → 0 < length bytes → frame_in (front_of MAIN_MAGIC offset bytes) ≡ Ok None → (next : ℕ → List ℕ → StreamRead)
    → messages_to_end (read_by_front offset bytes next) ≡ stop_at offset stream.CutShort
unfolding stream_by_front whole_stream
first_cut_short offset [] some e next = absurd (omega arith)
first_cut_short offset (b ∷ rest) some e next = ap (λ (x : Front). messages_to_end (stream_by_front x offset (b ∷ rest) next)) (partial_of (front_of MAIN_MAGIC offset (b ∷ rest)) e)

-- ---- one message after another

-- text before what is shown of the rest
abbrev pub text_before : List ℕ → Result (List ℕ) StreamStop → Result (List ℕ) StreamStop
text_before text (Ok more) = Ok (text ++ more)
text_before text (Err s) = Err s

-- what is shown of a stream from here on, of at most n messages
abbrev pub shown_from : ℕ → ℕ → List ℕ → Result (List ℕ) StreamStop
shown_from n offset bytes = shown_lines (messages_to_end (stream_from n MAIN_MAGIC offset bytes))

before_none : (r : Result (List ℕ) StreamStop) → text_before [] r ≡ r
before_none (Ok more) = refl
before_none (Err s) = refl

before_both : (text more : List ℕ) (r : Result (List ℕ) StreamStop) → text_before text (text_before more r) ≡ text_before (text ++ more) r
before_both text more (Ok rest) = let same = append_assoc text more rest in cc
before_both text more (Err s) = refl

-- a message before what is read
message_before : (m : Message) (stop : Option StreamFault) (rest : List ℕ) (r : StreamRead) → shown_lines (whole_stream stop rest (with_message m r)) ≡ text_before (line (message_text m)) (shown_lines (whole_stream stop rest r))
unfolding whole_stream
message_before m (Some f) rest r = refl
message_before m None [] r = refl
message_before m None (b ∷ rest) r = refl

-- what is shown of a whole stream is this text, and then what is shown of its rest
pub record IsShownUpTo (bytes text : List ℕ) (offset : ℕ) (rest : List ℕ) : Type 0 where
  pub fuel : ℕ
  pub enough : length rest ≤ fuel
  pub said : text_before text (shown_from fuel offset rest) ≡ shown_lines (messages_in bytes)

pub shown_none : (bytes : List ℕ) → IsShownUpTo bytes [] 0 bytes
shown_none bytes = record { fuel = length bytes; enough = omega arith; said = before_none (shown_from (length bytes) 0 bytes) }

more_by : (fuel : ℕ) (bytes text next : List ℕ) (offset : ℕ) (rest : List ℕ) (m : Message) (n : ℕ) → 0 < length rest → length rest ≤ fuel → text_before text (shown_from fuel offset rest) ≡ shown_lines (messages_in bytes)
    → HasFirst offset rest m n → next ≡ text ++ line (message_text m) → IsShownUpTo bytes next (later_offset offset n) (drop n rest)
unfolding stream_from
more_by zero bytes text next offset rest m n some enough said first is = absurd (omega arith)
more_by (suc fuel) bytes text next offset rest m n some enough said first is =
    let after = stream_from fuel MAIN_MAGIC (later_offset offset n) (drop n rest) in
    let read : shown_from (suc fuel) offset rest ≡ text_before (line (message_text m)) (shown_lines (messages_to_end after)) =
    ap (λ (r : StreamRead). shown_lines (messages_to_end r)) (first.read (stream_from fuel MAIN_MAGIC)) ∙ message_before m after.stop after.rest after in
    record {
      fuel = fuel;
      enough = let size = first.size in let some = first.some in let short = length-drop n rest in omega arith;
      said = ap (λ (t : List ℕ). text_before t (shown_from fuel (later_offset offset n) (drop n rest))) is
          ∙ (sym (before_both text (line (message_text m)) (shown_from fuel (later_offset offset n) (drop n rest)))
          ∙ (ap (text_before text) (sym read) ∙ said));
    }

pub shown_more : (bytes text next : List ℕ) (offset : ℕ) (rest : List ℕ) (m : Message) (n : ℕ) → 0 < length rest → IsShownUpTo bytes text offset rest → HasFirst offset rest m n → next ≡ text ++ line (message_text m)
    → IsShownUpTo bytes next (later_offset offset n) (drop n rest)
shown_more bytes text next offset rest m n some up first is = more_by up.fuel bytes text next offset rest m n some up.enough up.said first is

all_by : (fuel : ℕ) (bytes text : List ℕ) (offset : ℕ) → text_before text (shown_from fuel offset []) ≡ shown_lines (messages_in bytes) → shown_lines (messages_in bytes) ≡ Ok text
unfolding stream_from stream_by_front whole_stream front_by_length
all_by zero bytes text offset said = sym said ∙ done (append-nil text)
  where
    done : {a b : List ℕ} → a ≡ b → (let r : Result (List ℕ) StreamStop = Ok a in r ≡ Ok b)
    done e = cc
all_by (suc fuel) bytes text offset said = sym said ∙ done (append-nil text)
  where
    done : {a b : List ℕ} → a ≡ b → (let r : Result (List ℕ) StreamStop = Ok a in r ≡ Ok b)
    done e = cc

pub shown_all : (bytes text : List ℕ) (offset : ℕ) (rest : List ℕ) → length rest ≡ 0 → IsShownUpTo bytes text offset rest → shown_lines (messages_in bytes) ≡ Ok text
shown_all bytes text offset [] none up = all_by up.fuel bytes text offset up.said
shown_all bytes text offset (b ∷ rest) none up = absurd (omega arith)

stopped_by : (fuel : ℕ) (bytes text : List ℕ) (offset : ℕ) (rest : List ℕ) (at : ℕ) (kind : StreamKind) → 0 < length rest → length rest ≤ fuel → text_before text (shown_from fuel offset rest) ≡ shown_lines (messages_in bytes)
    → ((next : ℕ → List ℕ → StreamRead) → messages_to_end (read_by_front offset rest next) ≡ stop_at at kind) → shown_lines (messages_in bytes) ≡ Err (record { offset = at; kind = kind })
unfolding stream_from
stopped_by zero bytes text offset rest at kind some enough said first = absurd (omega arith)
stopped_by (suc fuel) bytes text offset rest at kind some enough said first =
    sym said ∙ ap (λ (r : Result (List Message) StreamStop). text_before text (shown_lines r)) (first (stream_from fuel MAIN_MAGIC))

pub shown_stopped : (bytes text : List ℕ) (offset : ℕ) (rest : List ℕ) (at : ℕ) (kind : StreamKind) → 0 < length rest → IsShownUpTo bytes text offset rest
    → ((next : ℕ → List ℕ → StreamRead) → messages_to_end (read_by_front offset rest next) ≡ stop_at at kind) → shown_lines (messages_in bytes) ≡ Err (record { offset = at; kind = kind })
shown_stopped bytes text offset rest at kind some up first = stopped_by up.fuel bytes text offset rest at kind some up.enough up.said first

-- a stop in front ends the whole
pub shown_stop : {A : Type 0} (view : A → List ℕ) (bytes text : List ℕ) (offset : ℕ) (rest : List ℕ) (s : ShowStop) → 0 < length rest → IsShownUpTo bytes text offset rest → IsFirst offset rest (Err s) → IsShowing view (shown_lines (messages_in bytes)) (Err s)
shown_stop view bytes text offset rest (stop.Fault at kind) some up first = shown_stopped bytes text offset rest at kind some up first
shown_stop view bytes text offset rest stop.OutOfMemory some up first = tt
