-- What is kept of a feeder that was given bytes in pieces, and what its answers say of all the bytes.
use Rattle.std.proofs.Common.{◌≡◌, ℕ, ◌+◌, ◌-◌, ◌^◌, ◌<◌, ◌≤◌, true, List, [], ◌∷◌, ◌++◌, Option, Some, None, Ok, Err, OnOk, is_ok, if◌then◌else◌, length, drop, flat_map, refl, sym, ap, subst, ◌∙◌, arith, lit<, append_assoc, append-nil, length-append, length-drop}
use Rattle.std.specs.List.{concat}
use Rattle.std.specs.declared.result.Result.{Result}
use Rattle.std.proofs.lemmas.Grind.{flat_map-append}
use Rattle.std.proofs.lemmas.List.{drop-append-le}
use Rattle.id_rules.proofs.Lists.{all_append}
use Rattle.wire_rules.specs.Layout.{frame_bytes}
use Rattle.wire_rules.specs.Limits.{IsFrame}
use Rattle.wire_rules.specs.Stream.{Front, PartialFrame, WholeFrame, FaultyFrame, Frames, FrameStop, front_of, later_offset}
use Rattle.wire_rules.specs.declared.frame.Frame.{Frame}
use Rattle.wire_rules.specs.declared.frame.FrameFault.{FrameFault}
use Rattle.stream_laws.specs.FrameReading.{IsFirstFrame, frames_of, frames_of_pieces}
use Rattle.stream_laws.proofs.Found.{front-found, whole-size}
use Rattle.stream_laws.proofs.FrameLaws.{frames_of-frames, frames_of-stop}
use Rattle.stream_laws.proofs.FrameSteps.{frames_of-pieces}
use Rattle.stream_laws.proofs.Items.{more-offset, more-whole}
use Rattle.stream_laws.proofs.Stays.{fault-stays, partial-anywhere}
use Rattle.p2p_frame.specs.Fed.{IsAnswered, IsFed, IsFeeder, IsReadTo}
use Rattle.p2p_frame.specs.Feeding.{Feed, IsWhole, feed_after, feed_behind, feed_front, feed_with, feed_with_by, frame_in, stop_in}

-- ---- one piece more

module _ (s : Feed) (bytes : List ℕ) (frames : List Frame) (piece : List ℕ) (fed : IsFed s bytes frames) where
  with_piece : (stop : Option FrameFault) → s.stop ≡ stop → IsFed (feed_with_by stop s piece) (bytes ++ piece) frames
  with_piece None e =
      let rest : (s.unread ++ fed.over) ++ piece ≡ (s.unread ++ piece) ++ [] = ap (λ xs. (s.unread ++ xs) ++ piece) (fed.going e) ∙ (ap (λ xs. xs ++ piece) (append-nil s.unread) ∙ sym (append-nil (s.unread ++ piece))) in
      record {
        over = [];
        whole = more-whole (frame_bytes s.magic) bytes (s.unread ++ fed.over) piece frames fed.whole ∙ ap (λ xs. flat_map (frame_bytes s.magic) frames ++ xs) rest;
        each = fed.each;
        place = fed.place ∙ (more-offset (frame_bytes s.magic) bytes (s.unread ++ fed.over) piece frames fed.whole 0 ∙ ap (λ xs. later_offset 0 (length (bytes ++ piece) - length xs)) rest);
        going = λ _. refl;
      }
  with_piece (Some fault) e =
      let rest : (s.unread ++ fed.over) ++ piece ≡ s.unread ++ (fed.over ++ piece) = append_assoc s.unread fed.over piece in
      record {
        over = fed.over ++ piece;
        whole = more-whole (frame_bytes s.magic) bytes (s.unread ++ fed.over) piece frames fed.whole ∙ ap (λ xs. flat_map (frame_bytes s.magic) frames ++ xs) rest;
        each = fed.each;
        place = fed.place ∙ (more-offset (frame_bytes s.magic) bytes (s.unread ++ fed.over) piece frames fed.whole 0 ∙ ap (λ xs. later_offset 0 (length (bytes ++ piece) - length xs)) rest);
        going = λ none. absurd (let same = sym e ∙ none in cc);
      }

  pub fed-with : IsFed (feed_with_by s.stop s piece) (bytes ++ piece) frames
  fed-with = with_piece s.stop refl

-- where the piece was taken
pub fed-taken : {A E : Type 0} (r : Result A E) (s t : Feed) (bytes : List ℕ) (frames : List Frame) (piece : List ℕ) → t ≡ (if is_ok r then feed_with s piece else s) → IsFed s bytes frames → OnOk r (IsFed t (bytes ++ piece) frames)
fed-taken (Ok a) s t bytes frames piece e fed = subst (λ u. IsFed u (bytes ++ piece) frames) (sym e) (fed-with s bytes frames piece fed)
fed-taken (Err e) s t bytes frames piece same fed = tt

-- ---- what stands in front says of all the bytes

module _ (s : Feed) (bytes : List ℕ) (frames : List Frame) (is : IsFeeder s) (fed : IsFed s bytes frames) where
  passed_frame : (f : Frame) (n : ℕ) → IsFirstFrame s.magic s.unread f n → n ≤ length s.unread → IsFed (feed_behind s n) bytes (frames ++ f ∷ [])
  passed_frame f n first within = record {
    over = fed.over;
    whole = fed.whole ∙ (ap (λ xs. flat_map (frame_bytes s.magic) frames ++ xs) rest ∙ (sym (append_assoc (flat_map (frame_bytes s.magic) frames) (frame_bytes s.magic f) (drop n s.unread ++ fed.over)) ∙ ap (λ xs. xs ++ (drop n s.unread ++ fed.over)) spelled));
    each = all_append IsFrame frames (f ∷ []) fed.each (first.sound, tt);
    place = ap (λ p. later_offset p n) fed.place ∙ offset;
    going = fed.going;
  }
    where
      rest : s.unread ++ fed.over ≡ frame_bytes s.magic f ++ (drop n s.unread ++ fed.over)
      rest = ap (λ xs. xs ++ fed.over) first.whole ∙ append_assoc (frame_bytes s.magic f) (drop n s.unread) fed.over

      spelled : flat_map (frame_bytes s.magic) frames ++ frame_bytes s.magic f ≡ flat_map (frame_bytes s.magic) (frames ++ f ∷ [])
      spelled = ap (λ xs. flat_map (frame_bytes s.magic) frames ++ xs) (sym (append-nil (frame_bytes s.magic f))) ∙ sym (flat_map-append (frame_bytes s.magic) frames (f ∷ []))

      offset : later_offset (later_offset 0 (length bytes - length (s.unread ++ fed.over))) n ≡ later_offset 0 (length bytes - length (drop n s.unread ++ fed.over))
      offset =
          let all = ap length fed.whole ∙ length-append (flat_map (frame_bytes s.magic) frames) (s.unread ++ fed.over) in
          let old = length-append s.unread fed.over in
          let new = length-append (drop n s.unread) fed.over in
          let less = length-drop n s.unread in
          omega arith

  open_stop : (stop : Option FrameFault) → s.stop ≡ stop → feed_front s ≡ PartialFrame → s.stop ≡ None
  open_stop None e partial = e
  open_stop (Some fault) e partial = absurd (let same = sym partial ∙ is.kept fault e in cc)

  passed_rest : feed_front s ≡ PartialFrame → Frames s.magic bytes frames s.unread
  passed_rest partial =
      let none = fed.going (open_stop s.stop refl partial) in
      record {
        whole = fed.whole ∙ ap (λ xs. flat_map (frame_bytes s.magic) frames ++ xs) (ap (λ xs. s.unread ++ xs) none ∙ append-nil s.unread);
        each = fed.each;
        partial = record { front = partial-anywhere s.magic s.place 0 s.unread partial };
      }

  passed_stop : (fault : FrameFault) → feed_front s ≡ FaultyFrame fault → FrameStop s.magic 0 bytes frames fault
  passed_stop fault faulty = record {
    rest = s.unread ++ fed.over;
    whole = fed.whole;
    each = fed.each;
    faulty = subst (λ p. front_of s.magic p (s.unread ++ fed.over) ≡ FaultyFrame fault) fed.place (fault-stays s.magic s.place s.unread fed.over fault faulty);
  }

  answered_by : (x : Front) → feed_front s ≡ x → IsAnswered s bytes frames (frame_in x)
  answered_by PartialFrame e = passed_rest e
  answered_by (WholeFrame f n) e =
      subst (λ x. IsFed (feed_after x s) bytes (frames ++ f ∷ [])) (sym e)
      (passed_frame f n (front-found s.magic s.place s.unread f n is.unread e) (whole-size s.magic s.place s.unread f n e).1)
  answered_by (FaultyFrame fault) e = passed_stop fault e

  pub fed-answered : IsAnswered s bytes frames (frame_in (feed_front s))
  fed-answered = answered_by (feed_front s) refl

  -- ---- what is read from all the bytes

  read_by : (x : Front) → feed_front s ≡ x → (IsWhole x → ⊥) → IsReadTo s frames (frames_of s.magic 0 bytes)
  unfolding passed_stop
  read_by PartialFrame e none =
      let read = frames_of-frames s.magic is.magic 0 bytes frames (lit< tt) s.unread (passed_rest e) in
      let over = fed.going (open_stop s.stop refl e) in
      record {
        taken = λ i. (read i).frames;
        offset = (λ i. (read i).offset) ∙ (sym (ap (λ xs. later_offset 0 (length bytes - length xs)) (ap (λ xs. s.unread ++ xs) over ∙ append-nil s.unread)) ∙ sym fed.place);
        fault = (λ i. (read i).stop) ∙ sym (ap stop_in e);
        rest = λ _. (λ i. (read i).unread);
      }
  read_by (WholeFrame f n) e none = absurd (none tt)
  read_by (FaultyFrame fault) e none =
      let read = frames_of-stop s.magic is.magic 0 bytes frames (lit< tt) fault (passed_stop fault e) in
      record {
        taken = λ i. (read i).frames;
        offset = (λ i. (read i).offset) ∙ sym fed.place;
        fault = (λ i. (read i).stop) ∙ sym (ap stop_in e);
        rest = λ none_stops. absurd (let same = sym (λ i. (read i).stop) ∙ none_stops in cc);
      }

  pub fed-read : (IsWhole (feed_front s) → ⊥) → IsReadTo s frames (frames_of s.magic 0 bytes)
  fed-read none = read_by (feed_front s) refl none

pub fed-pieces : (s : Feed) (pieces : List (List ℕ)) (frames : List Frame) → IsFeeder s → IsFed s (concat pieces) frames → (IsWhole (feed_front s) → ⊥) → IsReadTo s frames (frames_of_pieces s.magic 0 pieces)
fed-pieces s pieces frames is fed none = subst (IsReadTo s frames) (sym (frames_of-pieces s.magic 0 pieces)) (fed-read s (concat pieces) frames is fed none)

-- two cuts of the same bytes
pub fed-cuts : (s t : Feed) (ps qs : List (List ℕ)) (fs gs : List Frame) → s.magic ≡ t.magic → concat ps ≡ concat qs → IsFeeder s → IsFeeder t → IsFed s (concat ps) fs → IsFed t (concat qs) gs
    → (IsWhole (feed_front s) → ⊥) → (IsWhole (feed_front t) → ⊥)
    → (fs ≡ gs) × (s.place ≡ t.place) × (stop_in (feed_front s) ≡ stop_in (feed_front t)) × (stop_in (feed_front s) ≡ None → s.unread ≡ t.unread)
fed-cuts s t ps qs fs gs magic bytes is that fed other none last =
    let a = fed-read s (concat ps) fs is fed none in
    let b = fed-read t (concat qs) gs that other last in
    let same : frames_of s.magic 0 (concat ps) ≡ frames_of t.magic 0 (concat qs) = λ i. frames_of (magic i) 0 (bytes i) in (
      sym a.taken ∙ (ap (λ r. r.frames) same ∙ b.taken),
      sym a.offset ∙ (ap (λ r. r.offset) same ∙ b.offset),
      sym a.fault ∙ (ap (λ r. r.stop) same ∙ b.fault),
      λ e. sym (a.rest (a.fault ∙ e)) ∙ (ap (λ r. r.unread) same ∙ b.rest (sym (ap (λ r. r.stop) same) ∙ (a.fault ∙ e))),
    )
