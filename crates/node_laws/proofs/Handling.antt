-- The messages that stand whole in what a node has received are handled one by one, however many of them may be.
use Rattle.std.proofs.Common.{◌≡◌, ℕ, zero, suc, ◌<◌, ◌≤◌, List, [], ◌++◌, length, Option, Some, None, Result, Ok, Err, refl, sym, ap, subst, ◌∙◌, arith}
use Rattle.std.proofs.lemmas.List.{length-drop, drop-append-le, append_assoc, append-nil}
use Rattle.wire_rules.specs.Reading.{message_of}
use Rattle.wire_rules.specs.Stream.{Front, PartialFrame, WholeFrame, FaultyFrame, IsUnfinished, front_of, later_offset}
use Rattle.wire_rules.specs.declared.faults.PayloadFault.{PayloadFault}
use Rattle.wire_rules.specs.declared.frame.Frame.{Frame}
use Rattle.wire_rules.specs.declared.message.Message.{Message}
use Rattle.stream_laws.proofs.Fronts.{short_front}
use Rattle.stream_laws.proofs.Found.{whole-size}
use Rattle.stream_laws.proofs.Stays.{front-stays, partial-anywhere}
use Rattle.node_rules.specs.State.{Inbox, NodeState}
use Rattle.node_rules.specs.Steps.{on_message, next_unless_ended, turn_sequence, at_message, at_front, on_frames, on_unread, without_unread_by, without_unread_if_ended, with_inbox, with_piece, on_piece_by, on_piece, after_frame}
use Rattle.node_rules.specs.Turns.{Turn, unchanged}
use Rattle.node_rules.specs.declared.end.End.{End}
use Rattle.node_laws.specs.Inboxes.{turn_with_inbox}
use Rattle.node_laws.proofs.Rows.{on_message-step}
use Rattle.node_laws.proofs.Ended.{on_piece-ended}

-- ---- one frame

abbrev pub first_front : NodeState → Front
first_front s = front_of s.config.magic s.inbox.offset s.inbox.unread

-- a message takes nothing from what was received behind it
pub on_message-inbox : (s : NodeState) (m : Message) → (on_message s m).state.inbox ≡ s.inbox
on_message-inbox s m = ap (λ (t : Turn). t.state.inbox) (on_message-step s s.inbox m).same

pub on_message-config : (s : NodeState) (m : Message) → (on_message s m).state.config ≡ s.config
on_message-config s m = (on_message-step s s.inbox m).later.config

-- behind a frame less is unread
left_less : (s : NodeState) (f : Frame) (size : ℕ) (m : Message) → first_front s ≡ WholeFrame f size → length (on_message (after_frame s size) m).state.inbox.unread < length s.inbox.unread
left_less s f size m e =
    let sizes = whole-size s.config.magic s.inbox.offset s.inbox.unread f size e in
    let least = sizes.0 in
    let most = sizes.1 in
    let left = length-drop size s.inbox.unread in
    subst (λ (i : Inbox). length i.unread < length s.inbox.unread) (sym (on_message-inbox (after_frame s size) m)) (omega (arith, least, most, left))

nothing_there : (s : NodeState) → length s.inbox.unread ≤ 0 → first_front s ≡ PartialFrame
nothing_there s h = short_front s.config.magic s.inbox.offset s.inbox.unread (omega (arith, h))

-- ---- it doesn't matter how many may be handled, where they are enough

module _ (f g : NodeState → Turn) where
  next_unless_ended-same : (e : Option End) (t : Turn) → f t.state ≡ g t.state → next_unless_ended e t f ≡ next_unless_ended e t g
  unfolding next_unless_ended
  next_unless_ended-same (Some e) t h = refl
  next_unless_ended-same None t h = ap (turn_sequence t) h

  at_message-same : (r : Result Message PayloadFault) (s : NodeState) → ((m : Message) → f (on_message s m).state ≡ g (on_message s m).state) → at_message r s f ≡ at_message r s g
  unfolding at_message
  at_message-same (Ok m) s h = next_unless_ended-same (on_message s m).state.ended (on_message s m) (h m)
  at_message-same (Err x) s h = refl

  at_front-same : (front : Front) (s : NodeState) → ((frame : Frame) (size : ℕ) (m : Message) → front ≡ WholeFrame frame size → f (on_message (after_frame s size) m).state ≡ g (on_message (after_frame s size) m).state) → at_front front s f ≡ at_front front s g
  unfolding at_front
  at_front-same PartialFrame s h = refl
  at_front-same (FaultyFrame x) s h = refl
  at_front-same (WholeFrame frame size) s h = at_message-same (message_of frame) (after_frame s size) (λ m. h frame size m refl)

-- a node with nothing unread
none_handled : (n : ℕ) (s : NodeState) → length s.inbox.unread ≤ 0 → on_frames n s ≡ unchanged s
unfolding on_frames at_front
none_handled zero s h = refl
none_handled (suc n) s h = ap (λ front. at_front front s (on_frames n)) (nothing_there s h)

pub on_frames-enough : (n m : ℕ) (s : NodeState) → length s.inbox.unread ≤ n → length s.inbox.unread ≤ m → on_frames n s ≡ on_frames m s
unfolding on_frames
on_frames-enough zero m s h k = sym (none_handled m s h)
on_frames-enough (suc n) zero s h k = none_handled (suc n) s k
on_frames-enough (suc n) (suc m) s h k =
    at_front-same (on_frames n) (on_frames m) (first_front s) s (λ frame size x e. let less = left_less s frame size x e in on_frames-enough n m (on_message (after_frame s size) x).state (omega (arith, less, h)) (omega (arith, less, k)))

pub on_frames-all : (n : ℕ) (s : NodeState) → length s.inbox.unread ≤ n → on_frames n s ≡ on_unread s
on_frames-all n s h = on_frames-enough n (length s.inbox.unread) s h (omega arith)

-- one frame after another
pub on_unread-next : (s : NodeState) → on_unread s ≡ at_front (first_front s) s on_unread
unfolding on_frames
on_unread-next s =
    on_frames-enough (length s.inbox.unread) (suc (length s.inbox.unread)) s (omega arith) (omega arith)
    ∙ at_front-same (on_frames (length s.inbox.unread)) on_unread (first_front s) s
    (λ frame size m e. let less = left_less s frame size m e in on_frames-all (length s.inbox.unread) (on_message (after_frame s size) m).state (omega (arith, less)))

-- ---- what is left is unfinished

abbrev Rests : NodeState → Turn → Type 0
Rests s t = t.state.ended ≡ None → IsUnfinished s.config.magic t.state.inbox.unread

module _ (s : NodeState) (next : NodeState → Turn) where
  next_unless_ended-rests : (e : Option End) (t : Turn) → t.state.ended ≡ e → t.state.config ≡ s.config → Rests t.state (next t.state) → Rests s (next_unless_ended e t next)
  unfolding next_unless_ended
  next_unless_ended-rests (Some e) t h c rests going = absurd (let apart : Some e ≡ None = sym h ∙ going in cc)
  next_unless_ended-rests None t h c rests going = subst (λ c. IsUnfinished c.magic (next t.state).state.inbox.unread) c (rests going)

  at_message-rests : (r : Result Message PayloadFault) (u : NodeState) → u.config ≡ s.config → ((m : Message) → Rests (on_message u m).state (next (on_message u m).state)) → Rests s (at_message r u next)
  unfolding at_message
  at_message-rests (Ok m) u c rests going = next_unless_ended-rests (on_message u m).state.ended (on_message u m) refl (on_message-config u m ∙ c) (rests m) going
  at_message-rests (Err f) u c rests going = absurd (cc)

  at_front-rests : (front : Front) → first_front s ≡ front → ((frame : Frame) (size : ℕ) (m : Message) → front ≡ WholeFrame frame size → Rests (on_message (after_frame s size) m).state (next (on_message (after_frame s size) m).state)) → Rests s (at_front front s next)
  unfolding at_front
  at_front-rests PartialFrame e rests going = record { front = partial-anywhere s.config.magic s.inbox.offset 0 s.inbox.unread e }
  at_front-rests (FaultyFrame f) e rests going = absurd (cc)
  at_front-rests (WholeFrame frame size) e rests going = at_message-rests (message_of frame) (after_frame s size) refl (λ m. rests frame size m refl) going

pub on_frames-rests : (n : ℕ) (s : NodeState) → length s.inbox.unread ≤ n → Rests s (on_frames n s)
unfolding on_frames
on_frames-rests zero s h going = record { front = short_front s.config.magic 0 s.inbox.unread (omega (arith, h)) }
on_frames-rests (suc n) s h going =
    at_front-rests s (on_frames n) (first_front s) refl (λ frame size m e. let less = left_less s frame size m e in on_frames-rests n (on_message (after_frame s size) m).state (omega (arith, less, h))) going

-- ---- a piece in two parts

-- what follows what was handled of the first part
abbrev with_more : Turn → List ℕ → Turn
with_more t q = next_unless_ended t.state.ended (record t { state = with_piece t.state q }) on_unread

more_partial : (s : NodeState) (q : List ℕ) → s.ended ≡ None → on_unread (with_piece s q) ≡ with_more (unchanged s) q
unfolding next_unless_ended
more_partial s q h = sym (ap (λ e. next_unless_ended e (unchanged (with_piece s q)) on_unread) h)

unread_piece : (s : NodeState) (size : ℕ) (q : List ℕ) → size ≤ length s.inbox.unread → after_frame (with_piece s q) size ≡ with_piece (after_frame s size) q
unread_piece s size q h = ap (λ xs. with_inbox s (record { unread = xs; offset = later_offset s.inbox.offset size })) (drop-append-le size s.inbox.unread q h)

takes_piece : (s : NodeState) (q : List ℕ) (m : Message) → on_message (with_piece s q) m ≡ record (on_message s m) { state = with_piece (on_message s m).state q }
takes_piece s q m =
    (on_message-step s (record s.inbox { unread = s.inbox.unread ++ q }) m).same
    ∙ ap (λ (i : Inbox). turn_with_inbox (on_message s m) (record i { unread = i.unread ++ q })) (sym (on_message-inbox s m))

followed_assoc : (t u v : Turn) → turn_sequence t (turn_sequence u v) ≡ turn_sequence (turn_sequence t u) v
followed_assoc t u v = ap (λ ms. record { state = v.state; out = ms }) (sym (append_assoc t.out u.out v.out))

-- by whether the node ends in the rest of the first part
more_behind : (e : Option End) (t u : Turn) (q : List ℕ) → u.state.ended ≡ e → turn_sequence t (with_more u q) ≡ with_more (turn_sequence t u) q
unfolding next_unless_ended
more_behind e t u q h = by_end e h
  where
    by_end : (e : Option End) → u.state.ended ≡ e → turn_sequence t (next_unless_ended u.state.ended (record u { state = with_piece u.state q }) on_unread) ≡ next_unless_ended u.state.ended (record (turn_sequence t u) { state = with_piece u.state q }) on_unread
    by_end (Some e) h =
        ap (λ o. turn_sequence t (next_unless_ended o (record u { state = with_piece u.state q }) on_unread)) h
        ∙ sym (ap (λ o. next_unless_ended o (record (turn_sequence t u) { state = with_piece u.state q }) on_unread) h)
    by_end None h =
        ap (λ o. turn_sequence t (next_unless_ended o (record u { state = with_piece u.state q }) on_unread)) h
        ∙ followed_assoc t (record u { state = with_piece u.state q }) (on_unread (with_piece u.state q))
        ∙ sym (ap (λ o. next_unless_ended o (record (turn_sequence t u) { state = with_piece u.state q }) on_unread) h)

module _ (q : List ℕ) (next : NodeState → Turn) where
  next_unless_ended-more : (e : Option End) (t : Turn) → t.state.ended ≡ e → (e ≡ None → on_unread (with_piece t.state q) ≡ with_more (next t.state) q)
      → next_unless_ended e (record t { state = with_piece t.state q }) on_unread ≡ with_more (next_unless_ended e t next) q
  unfolding next_unless_ended
  next_unless_ended-more (Some e) t h more = sym (ap (λ o. next_unless_ended o (record t { state = with_piece t.state q }) on_unread) h)
  next_unless_ended-more None t h more = ap (turn_sequence (record t { state = with_piece t.state q })) (more refl) ∙ more_behind (next t.state).state.ended t (next t.state) q refl

  at_message-more : (r : Result Message PayloadFault) (s : NodeState) → ((m : Message) → (on_message s m).state.ended ≡ None → on_unread (with_piece (on_message s m).state q) ≡ with_more (next (on_message s m).state) q)
      → at_message r (with_piece s q) on_unread ≡ with_more (at_message r s next) q
  unfolding at_message next_unless_ended
  at_message-more (Ok m) s more =
      ap (λ (t : Turn). next_unless_ended t.state.ended t on_unread) (takes_piece s q m)
      ∙ next_unless_ended-more (on_message s m).state.ended (on_message s m) refl (more m)
  at_message-more (Err f) s more = refl

  at_front-more : (front : Front) (s : NodeState) → s.ended ≡ None → first_front s ≡ front
      → ((frame : Frame) (size : ℕ) (m : Message) → front ≡ WholeFrame frame size → (on_message (after_frame s size) m).state.ended ≡ None → on_unread (with_piece (on_message (after_frame s size) m).state q) ≡ with_more (next (on_message (after_frame s size) m).state) q)
      → on_unread (with_piece s q) ≡ with_more (at_front front s next) q
  unfolding at_front next_unless_ended
  at_front-more PartialFrame s going e more = more_partial s q going
  at_front-more (FaultyFrame f) s going e more =
      on_unread-next (with_piece s q)
      ∙ ap (λ front. at_front front (with_piece s q) on_unread) (front-stays s.config.magic s.inbox.offset s.inbox.unread q (λ p. let apart : PartialFrame ≡ FaultyFrame f = sym p ∙ e in absurd (cc)) ∙ e)
  at_front-more (WholeFrame frame size) s going e more =
      on_unread-next (with_piece s q)
      ∙ (ap (λ front. at_front front (with_piece s q) on_unread) (front-stays s.config.magic s.inbox.offset s.inbox.unread q (λ p. let apart : PartialFrame ≡ WholeFrame frame size = sym p ∙ e in absurd (cc)) ∙ e)
      ∙ (ap (λ u. at_message (message_of frame) u on_unread) (unread_piece s size q (whole-size s.config.magic s.inbox.offset s.inbox.unread frame size e).1)
      ∙ at_message-more (message_of frame) (after_frame s size) (λ m. more frame size m refl)))

pub on_frames-more : (n : ℕ) (s : NodeState) (q : List ℕ) → s.ended ≡ None → length s.inbox.unread ≤ n → on_unread (with_piece s q) ≡ with_more (on_frames n s) q
unfolding on_frames
on_frames-more zero s q going h = more_partial s q going
on_frames-more (suc n) s q going h =
    at_front-more q (on_frames n) (first_front s) s going refl
    (λ frame size m e still. let less = left_less s frame size m e in on_frames-more n (on_message (after_frame s size) m).state q still (omega (arith, less, h)))

-- by whether the first part ends the node
settled_more : (e : Option End) (t : Turn) (q : List ℕ) → t.state.ended ≡ e → without_unread_if_ended (with_more t q) ≡ turn_sequence (without_unread_if_ended t) (on_piece (without_unread_if_ended t).state q)
unfolding next_unless_ended without_unread_by on_piece_by
settled_more (Some e) t q h =
    ap (λ o. without_unread_if_ended (next_unless_ended o (record t { state = with_piece t.state q }) on_unread)) h
    ∙ (ap (λ o. without_unread_by o (record t { state = with_piece t.state q })) h
    ∙ (sym (unended-out)
    ∙ sym (ap (λ u. turn_sequence u (on_piece u.state q)) (ap (λ o. without_unread_by o t) h))))
  where
    gone : Turn
    gone = record t { state = with_inbox t.state (record t.state.inbox { unread = [] }) }

    unended-out : turn_sequence gone (on_piece gone.state q) ≡ gone
    unended-out = ap (turn_sequence gone) (on_piece-ended gone.state e q h) ∙ ap (λ ms. record { state = gone.state; out = ms }) (append-nil t.out)
settled_more None t q h =
    ap (λ o. without_unread_if_ended (next_unless_ended o (record t { state = with_piece t.state q }) on_unread)) h
    ∙ (rest (on_unread (with_piece t.state q)).state.ended
    ∙ (ap (turn_sequence t) (sym (ap (λ o. on_piece_by o t.state q) h))
    ∙ sym (ap (λ u. turn_sequence u (on_piece u.state q)) (ap (λ o. without_unread_by o t) h))))
  where
    rest : (o : Option End) → without_unread_by o (turn_sequence t (on_unread (with_piece t.state q))) ≡ turn_sequence t (without_unread_by o (on_unread (with_piece t.state q)))
    rest (Some e) = refl
    rest None = refl

on_piece_by-parts : (e : Option End) (s : NodeState) (p q : List ℕ) → s.ended ≡ e → on_piece s (p ++ q) ≡ turn_sequence (on_piece s p) (on_piece (on_piece s p).state q)
unfolding on_piece_by
on_piece_by-parts (Some e) s p q h =
    on_piece-ended s e (p ++ q) h
    ∙ sym (ap (λ t. turn_sequence t (on_piece t.state q)) (on_piece-ended s e p h) ∙ on_piece-ended s e q h)
on_piece_by-parts None s p q h =
    ap (λ o. on_piece_by o s (p ++ q)) h
    ∙ (ap (λ xs. without_unread_if_ended (on_unread (with_inbox s (record s.inbox { unread = xs })))) (sym (append_assoc s.inbox.unread p q))
    ∙ (ap without_unread_if_ended (on_frames-more (length (with_piece s p).inbox.unread) (with_piece s p) q h (omega arith))
    ∙ (settled_more (on_unread (with_piece s p)).state.ended (on_unread (with_piece s p)) q refl
    ∙ sym (ap (λ o. turn_sequence (on_piece_by o s p) (on_piece (on_piece_by o s p).state q)) h))))

-- a piece that is received in two parts is received alike
pub on_piece-parts : (s : NodeState) (p q : List ℕ) → on_piece s (p ++ q) ≡ turn_sequence (on_piece s p) (on_piece (on_piece s p).state q)
on_piece-parts s p q = on_piece_by-parts s.ended s p q refl
