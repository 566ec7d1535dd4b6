-- What a node makes of the messages that stand whole in what it has received, and of a fault behind them.
use Rattle.std.proofs.Common.{◌≡◌, ℕ, ◌+◌, ◌-◌, ◌^◌, ◌<◌, List, [], ◌∷◌, ◌++◌, length, drop, Option, Some, None, refl, sym, ap, subst, ◌∙◌, arith}
use Rattle.std.specs.List.{AllByRecursion}
use Rattle.std.proofs.lemmas.List.{length-append, append_assoc, append-nil}
use Rattle.wire_rules.specs.Layout.{frame_bytes, frame_of, message_bytes, wire_bytes}
use Rattle.wire_rules.specs.Limits.{IsMessage}
use Rattle.wire_rules.specs.Stream.{PartialFrame, WholeFrame, IsUnfinished, Stream, Stop, IsStopAt, FrameStopAt, PayloadStopAt, StreamFault, StreamFrameFault, StreamPayloadFault, front_of, later_offset}
use Rattle.wire_rules.specs.declared.frame.Frame.{Frame}
use Rattle.wire_rules.specs.declared.message.Message.{Message}
use Rattle.wire_laws.proofs.Messages.{message_of-frame_of}
use Rattle.wire_laws.proofs.Parts.{drop_front}
use Rattle.wire_laws.proofs.Sound.{frame_of-sound}
use Rattle.stream_laws.proofs.Fronts.{front_of-frame, frame-length}
use Rattle.stream_laws.proofs.Offsets.{later_offset-none, later_offset-later_offset, later_offset-low}
use Rattle.stream_laws.proofs.Stays.{partial-anywhere}
use Rattle.node_rules.specs.State.{Inbox, NodeState}
use Rattle.node_rules.specs.Steps.{on_message, on_messages, next_unless_ended, turn_sequence, at_message, at_front, on_unread, without_unread_by, without_unread_if_ended, with_inbox, with_piece, on_piece_by, on_piece, after_frame}
use Rattle.node_rules.specs.Turns.{Turn, refusal}
use Rattle.node_rules.specs.declared.end.End.{End}
use Rattle.node_laws.specs.Inboxes.{turn_with_inbox}
use Rattle.node_laws.specs.Streams.{IsTakenAs, end_for, takes_to_fault}
use Rattle.node_laws.proofs.Rows.{on_message-step}
use Rattle.node_laws.proofs.LaterSteps.{on_messages-later}
use Rattle.node_laws.proofs.Handling.{first_front, on_unread-next, on_frames-rests, on_message-config}

-- ---- other bytes received

module _ (i : Inbox) (ms : List Message) (rest : (s : NodeState) → on_messages (with_inbox s i) ms ≡ turn_with_inbox (on_messages s ms) i) where
  next_unless_ended-inbox : (e : Option End) (t : Turn) → next_unless_ended e (turn_with_inbox t i) (λ u. on_messages u ms) ≡ turn_with_inbox (next_unless_ended e t (λ u. on_messages u ms)) i
  unfolding next_unless_ended
  next_unless_ended-inbox (Some e) t = refl
  next_unless_ended-inbox None t = ap (turn_sequence (turn_with_inbox t i)) (rest t.state)

pub on_messages-inbox : (ms : List Message) (s : NodeState) (i : Inbox) → on_messages (with_inbox s i) ms ≡ turn_with_inbox (on_messages s ms) i
unfolding on_messages
on_messages-inbox [] s i = refl
on_messages-inbox (m ∷ ms) s i =
    ap (λ (t : Turn). next_unless_ended t.state.ended t (λ u. on_messages u ms)) (on_message-step s i m).same
    ∙ next_unless_ended-inbox i ms (λ u. on_messages-inbox ms u i) (on_message s m).state.ended (on_message s m)

-- ---- messages in front

abbrev behind_messages : NodeState → List Message → List ℕ → Inbox
behind_messages s ms rest = record { unread = rest; offset = later_offset s.inbox.offset (length (wire_bytes s.config.magic ms)) }

-- the step u of a node, whose unread bytes begin with the messages
record IsThrough (s : NodeState) (ms : List Message) (rest : List ℕ) (u : Turn) : Type 0 where
  ended : (e : End) → (on_messages s ms).state.ended ≡ Some e → (i : Inbox) × (u ≡ turn_with_inbox (on_messages s ms) i)
  going : (on_messages s ms).state.ended ≡ None → u ≡ turn_sequence (on_messages s ms) (on_unread (with_inbox (on_messages s ms).state (behind_messages s ms rest)))

module _ (s : NodeState) (m : Message) (ms : List Message) (rest : List ℕ) where
  abbrev size : ℕ
  size = 24 + length (frame_of m).payload

  abbrev past : Inbox
  past = record { unread = drop size s.inbox.unread; offset = later_offset s.inbox.offset size }

  abbrev more : NodeState → Turn
  more u = on_messages u ms

  -- by whether the node ends in the first of them
  through_by : (e : Option End) (t u : Turn) → t.state.ended ≡ e → u ≡ next_unless_ended e (turn_with_inbox t past) on_unread → (t.state.ended ≡ None → IsThrough (turn_with_inbox t past).state ms rest (on_unread (turn_with_inbox t past).state))
      → t.state.config ≡ s.config → length (wire_bytes s.config.magic (m ∷ ms)) ≡ size + length (wire_bytes s.config.magic ms)
      → ((x : End) → (next_unless_ended e t more).state.ended ≡ Some x → (i : Inbox) × (u ≡ turn_with_inbox (next_unless_ended e t more) i))
      × ((next_unless_ended e t more).state.ended ≡ None → u ≡ turn_sequence (next_unless_ended e t more) (on_unread (with_inbox (next_unless_ended e t more).state (behind_messages s (m ∷ ms) rest))))
  unfolding next_unless_ended
  through_by (Some x) t u h eq next c long = ((λ y same. (past, eq)), (λ going. absurd (let apart : Some x ≡ None = sym h ∙ going in cc)))
  through_by None t u h eq next c long = (over, on)
    where
      same : on_messages (turn_with_inbox t past).state ms ≡ turn_with_inbox (on_messages t.state ms) past
      same = on_messages-inbox ms t.state past

      offset : later_offset past.offset (length (wire_bytes t.state.config.magic ms)) ≡ later_offset s.inbox.offset (length (wire_bytes s.config.magic (m ∷ ms)))
      offset =
          later_offset-later_offset s.inbox.offset size (length (wire_bytes t.state.config.magic ms))
          ∙ ap (later_offset s.inbox.offset) (ap (λ c. size + length (wire_bytes c.magic ms)) c ∙ sym long)

      over : (x : End) → (turn_sequence t (on_messages t.state ms)).state.ended ≡ Some x → (i : Inbox) × (u ≡ turn_with_inbox (turn_sequence t (on_messages t.state ms)) i)
      over x ended =
          let there = (next h).ended x (ap (λ (v : Turn). v.state.ended) same ∙ ended) in
          (there.0, eq ∙ ap (turn_sequence (turn_with_inbox t past)) (there.1 ∙ ap (λ v. turn_with_inbox v there.0) same))

      on : (turn_sequence t (on_messages t.state ms)).state.ended ≡ None → u ≡ turn_sequence (turn_sequence t (on_messages t.state ms)) (on_unread (with_inbox (on_messages t.state ms).state (behind_messages s (m ∷ ms) rest)))
      on going =
          eq
          ∙ (ap (turn_sequence (turn_with_inbox t past)) ((next h).going (ap (λ (v : Turn). v.state.ended) same ∙ going))
          ∙ (ap (λ (v : Turn). turn_sequence (turn_with_inbox t past) (turn_sequence v (on_unread (with_inbox v.state (behind_messages (turn_with_inbox t past).state ms rest))))) same
          ∙ (ap (λ n. turn_sequence (turn_with_inbox t past) (turn_sequence (on_messages t.state ms) (on_unread (with_inbox (on_messages t.state ms).state (record { unread = rest; offset = n }))))) offset
          ∙ ap (λ out. record { state = (on_unread (with_inbox (on_messages t.state ms).state (behind_messages s (m ∷ ms) rest))).state; out = out })
          (sym (append_assoc t.out (on_messages t.state ms).out (on_unread (with_inbox (on_messages t.state ms).state (behind_messages s (m ∷ ms) rest))).out)))))

on_unread-through : (ms : List Message) (s : NodeState) (rest : List ℕ) → length s.config.magic ≡ 4 → s.inbox.offset < 2 ^ 64 → s.ended ≡ None → AllByRecursion IsMessage ms
    → s.inbox.unread ≡ wire_bytes s.config.magic ms ++ rest → IsThrough s ms rest (on_unread s)
unfolding on_messages at_front at_message
on_unread-through [] s rest four low going each e = record {
  ended = λ x h. absurd (let apart : None ≡ Some x = sym going ∙ h in cc);
  going = λ h. ap on_unread (λ j. with_inbox s (record { unread = e j; offset = sym (later_offset-none s.inbox.offset low) j }));
}
on_unread-through (m ∷ ms) s rest four low going each e =
    let both = through_by s m ms rest (on_message s m).state.ended (on_message s m) (on_unread s) refl first (next (on_unread-through ms)) (on_message-config s m) (length-append (message_bytes s.config.magic m) (wire_bytes s.config.magic ms) ∙ ap (λ n. n + length (wire_bytes s.config.magic ms)) long) in
    record { ended = both.0; going = both.1 }
  where
    f : Frame
    f = frame_of m

    long : length (frame_bytes s.config.magic f) ≡ 24 + length f.payload
    long = frame-length s.config.magic f four (frame_of-sound m each.0)

    whole : s.inbox.unread ≡ frame_bytes s.config.magic f ++ (wire_bytes s.config.magic ms ++ rest)
    whole = e ∙ append_assoc (message_bytes s.config.magic m) (wire_bytes s.config.magic ms) rest

    front : first_front s ≡ WholeFrame f (24 + length f.payload)
    front = ap (front_of s.config.magic s.inbox.offset) whole ∙ front_of-frame s.config.magic s.inbox.offset f (wire_bytes s.config.magic ms ++ rest) four (frame_of-sound m each.0)

    there : Inbox
    there = record { unread = drop (24 + length f.payload) s.inbox.unread; offset = later_offset s.inbox.offset (24 + length f.payload) }

    first : on_unread s ≡ next_unless_ended (on_message s m).state.ended (turn_with_inbox (on_message s m) there) on_unread
    first =
        on_unread-next s
        ∙ (ap (λ x. at_front x s on_unread) front
        ∙ (ap (λ r. at_message r (with_inbox s there) on_unread) (message_of-frame_of m each.0)
        ∙ ap (λ (t : Turn). next_unless_ended t.state.ended t on_unread) (on_message-step s there m).same))

    left : there.unread ≡ wire_bytes s.config.magic ms ++ rest
    left = ap (drop (24 + length f.payload)) whole ∙ drop_front (24 + length f.payload) (frame_bytes s.config.magic f) (wire_bytes s.config.magic ms ++ rest) long

    next : ((u : NodeState) (rest : List ℕ) → length u.config.magic ≡ 4 → u.inbox.offset < 2 ^ 64 → u.ended ≡ None → AllByRecursion IsMessage ms → u.inbox.unread ≡ wire_bytes u.config.magic ms ++ rest → IsThrough u ms rest (on_unread u))
        → (on_message s m).state.ended ≡ None → IsThrough (turn_with_inbox (on_message s m) there).state ms rest (on_unread (turn_with_inbox (on_message s m) there).state)
    next again still =
        again (turn_with_inbox (on_message s m) there).state rest
        (subst (λ c. length c.magic ≡ 4) (sym (on_message-config s m)) four)
        (later_offset-low s.inbox.offset (24 + length f.payload))
        still each.1
        (subst (λ c. there.unread ≡ wire_bytes c.magic ms ++ rest) (sym (on_message-config s m)) left)

-- ---- a piece

-- what is left where nothing stands whole any more
partial_left : (s : NodeState) (t : Turn) (i : Inbox) → t.state.config ≡ s.config → IsUnfinished s.config.magic i.unread → turn_sequence t (on_unread (with_inbox t.state i)) ≡ turn_with_inbox t i
unfolding at_front
partial_left s t i c rests =
    ap (turn_sequence t) (on_unread-next (with_inbox t.state i) ∙ ap (λ x. at_front x (with_inbox t.state i) on_unread) front)
    ∙ ap (λ out. record { state = with_inbox t.state i; out = out }) (append-nil t.out)
  where
    front : front_of t.state.config.magic i.offset i.unread ≡ PartialFrame
    front = ap (λ c. front_of c.magic i.offset i.unread) c ∙ partial-anywhere s.config.magic 0 i.offset i.unread rests.front

-- what is handled where the messages are whole, and a rest isn't
pub on_unread-stream : (s : NodeState) (ms : List Message) (rest : List ℕ) → length s.config.magic ≡ 4 → s.inbox.offset < 2 ^ 64 → s.ended ≡ None → Stream s.config.magic s.inbox.unread ms rest
    → ((e : End) → (on_messages s ms).state.ended ≡ Some e → (i : Inbox) × (on_unread s ≡ turn_with_inbox (on_messages s ms) i))
    × ((on_messages s ms).state.ended ≡ None → on_unread s ≡ turn_with_inbox (on_messages s ms) (behind_messages s ms rest))
on_unread-stream s ms rest four low going stream =
    let through = on_unread-through ms s rest four low going stream.each stream.whole in
    (through.ended, (λ still. through.going still ∙ partial_left s (on_messages s ms) (behind_messages s ms rest) (on_messages-later s ms).config stream.partial))

-- the same where a fault stands behind them
fault_behind : (s : NodeState) (t : Turn) (i : Inbox) (f : StreamFault) → t.state.config ≡ s.config → IsStopAt s.config.magic i.offset i.unread f
    → (j : Inbox) × (turn_sequence t (on_unread (with_inbox t.state i)) ≡ turn_with_inbox (turn_sequence t (refusal t.state (end_for f))) j)
unfolding at_front at_message end_for
fault_behind s t i (StreamFrameFault f) c (FrameStopAt stop front) =
    (i, ap (turn_sequence t) (on_unread-next (with_inbox t.state i) ∙ ap (λ x. at_front x (with_inbox t.state i) on_unread) (ap (λ c. front_of c.magic i.offset i.unread) c ∙ front)))
fault_behind s t i (StreamPayloadFault f) c (PayloadStopAt frame size stop front wrong) = (
  (after_frame (with_inbox t.state i) size).inbox,
  ap (turn_sequence t)
      (on_unread-next (with_inbox t.state i)
      ∙ (ap (λ x. at_front x (with_inbox t.state i) on_unread) (ap (λ c. front_of c.magic i.offset i.unread) c ∙ front)
      ∙ ap (λ r. at_message r (after_frame (with_inbox t.state i) size) on_unread) wrong)),
)

fault_by : (s : NodeState) (t u : Turn) (i : Inbox) (f : StreamFault) (e : Option End) → t.state.ended ≡ e
    → ((x : End) → t.state.ended ≡ Some x → (j : Inbox) × (u ≡ turn_with_inbox t j))
    → (t.state.ended ≡ None → (j : Inbox) × (u ≡ turn_with_inbox (turn_sequence t (refusal t.state (end_for f))) j))
    → (j : Inbox) × (u ≡ turn_with_inbox (next_unless_ended e t (λ v. refusal v (end_for f))) j)
unfolding next_unless_ended
fault_by s t u i f (Some x) h over on = over x h
fault_by s t u i f None h over on = on h

pub on_unread-stop : (s : NodeState) (ms : List Message) (f : StreamFault) → length s.config.magic ≡ 4 → s.inbox.offset < 2 ^ 64 → s.ended ≡ None → Stop s.config.magic s.inbox.offset s.inbox.unread ms f
    → (i : Inbox) × (on_unread s ≡ turn_with_inbox (takes_to_fault s ms f) i)
on_unread-stop s ms f four low going stop =
    let through = on_unread-through ms s stop.rest four low going stop.each stop.whole in
    fault_by s (on_messages s ms) (on_unread s) (behind_messages s ms stop.rest) f (on_messages s ms).state.ended refl through.ended (λ still.
    let there = fault_behind s (on_messages s ms) (behind_messages s ms stop.rest) f (on_messages-later s ms).config (subst (λ n. IsStopAt s.config.magic (later_offset s.inbox.offset n) stop.rest f) offset stop.faulty) in
    (there.0, through.going still ∙ there.1))
  where
    offset : length s.inbox.unread - length stop.rest ≡ length (wire_bytes s.config.magic ms)
    offset = let sum = ap length stop.whole ∙ length-append (wire_bytes s.config.magic ms) stop.rest in omega (arith, sum)

-- ---- with what is dropped at an end

settled_as : (t : Turn) (i : Inbox) (e : Option End) → t.state.ended ≡ e → IsTakenAs t (without_unread_by e (turn_with_inbox t i))
unfolding without_unread_by
settled_as t i (Some x) h = record { inbox = record i { unread = [] }; same = refl; dropped = λ e g. refl }
settled_as t i None h = record { inbox = i; same = refl; dropped = λ e g. absurd (let apart : None ≡ Some e = sym h ∙ g in cc) }

received : (s : NodeState) (piece : List ℕ) → s.ended ≡ None → on_piece s piece ≡ without_unread_if_ended (on_unread (with_piece s piece))
unfolding on_piece_by
received s piece going = ap (λ e. on_piece_by e s piece) going

taken_as : (s : NodeState) (piece : List ℕ) (t : Turn) (i : Inbox) → s.ended ≡ None → on_unread (with_piece s piece) ≡ turn_with_inbox t i → IsTakenAs t (on_piece s piece)
taken_as s piece t i going e = subst (IsTakenAs t) (sym (received s piece going ∙ ap without_unread_if_ended e)) (settled_as t i t.state.ended refl)

on_messages-with : (s : NodeState) (piece : List ℕ) (ms : List Message) → on_messages (with_piece s piece) ms ≡ turn_with_inbox (on_messages s ms) (with_piece s piece).inbox
on_messages-with s piece ms = on_messages-inbox ms s (with_piece s piece).inbox

refused_with : (x : End) (e : Option End) (t : Turn) (i j : Inbox) → turn_with_inbox (next_unless_ended e (turn_with_inbox t j) (λ v. refusal v x)) i ≡ turn_with_inbox (next_unless_ended e t (λ v. refusal v x)) i
unfolding next_unless_ended
refused_with x (Some y) t i j = refl
refused_with x None t i j = refl

fault_with : (s : NodeState) (piece : List ℕ) (ms : List Message) (f : StreamFault) (i : Inbox) → turn_with_inbox (takes_to_fault (with_piece s piece) ms f) i ≡ turn_with_inbox (takes_to_fault s ms f) i
fault_with s piece ms f i =
    ap (λ (u : Turn). turn_with_inbox (next_unless_ended u.state.ended u (λ v. refusal v (end_for f))) i) (on_messages-with s piece ms)
    ∙ refused_with (end_for f) (on_messages s ms).state.ended (on_messages s ms) i (with_piece s piece).inbox

-- the messages of a piece, and what is left of it
stream_by : (s : NodeState) (piece : List ℕ) (ms : List Message) (rest : List ℕ) (e : Option End) → (on_messages s ms).state.ended ≡ e → s.ended ≡ None
    → ((x : End) → (on_messages (with_piece s piece) ms).state.ended ≡ Some x → (i : Inbox) × (on_unread (with_piece s piece) ≡ turn_with_inbox (on_messages (with_piece s piece) ms) i))
    × ((on_messages (with_piece s piece) ms).state.ended ≡ None → on_unread (with_piece s piece) ≡ turn_with_inbox (on_messages (with_piece s piece) ms) (behind_messages s ms rest))
    → IsTakenAs (on_messages s ms) (on_piece s piece)
stream_by s piece ms rest (Some x) h going both =
    let there = both.0 x (ap (λ (u : Turn). u.state.ended) (on_messages-with s piece ms) ∙ h) in
    taken_as s piece (on_messages s ms) there.0 going (there.1 ∙ ap (λ u. turn_with_inbox u there.0) (on_messages-with s piece ms))
stream_by s piece ms rest None h going both =
    let there = both.1 (ap (λ (u : Turn). u.state.ended) (on_messages-with s piece ms) ∙ h) in
    taken_as s piece (on_messages s ms) (behind_messages s ms rest) going (there ∙ ap (λ u. turn_with_inbox u (behind_messages s ms rest)) (on_messages-with s piece ms))

pub on_piece-stream : (s : NodeState) (piece : List ℕ) (ms : List Message) (rest : List ℕ) → length s.config.magic ≡ 4 → s.inbox.offset < 2 ^ 64 → s.ended ≡ None → Stream s.config.magic (s.inbox.unread ++ piece) ms rest
    → IsTakenAs (on_messages s ms) (on_piece s piece)
on_piece-stream s piece ms rest four low going stream =
    stream_by s piece ms rest (on_messages s ms).state.ended refl going (on_unread-stream (with_piece s piece) ms rest four low going stream)

pub on_piece-rest : (s : NodeState) (piece : List ℕ) (ms : List Message) (rest : List ℕ) → length s.config.magic ≡ 4 → s.inbox.offset < 2 ^ 64 → s.ended ≡ None → Stream s.config.magic (s.inbox.unread ++ piece) ms rest
    → (on_messages s ms).state.ended ≡ None → (on_piece s piece).state.inbox ≡ record { unread = rest; offset = later_offset s.inbox.offset (length (wire_bytes s.config.magic ms)) }
unfolding without_unread_by
on_piece-rest s piece ms rest four low going stream still =
    ap (λ (t : Turn). t.state.inbox)
    (received s piece going
    ∙ (ap without_unread_if_ended ((on_unread-stream (with_piece s piece) ms rest four low going stream).1 (ap (λ (u : Turn). u.state.ended) (on_messages-with s piece ms) ∙ still) ∙ ap (λ u. turn_with_inbox u (behind_messages s ms rest)) (on_messages-with s piece ms))
    ∙ ap (λ e. without_unread_by e (turn_with_inbox (on_messages s ms) (behind_messages s ms rest))) still))

pub on_piece-stop : (s : NodeState) (piece : List ℕ) (ms : List Message) (f : StreamFault) → length s.config.magic ≡ 4 → s.inbox.offset < 2 ^ 64 → s.ended ≡ None → Stop s.config.magic s.inbox.offset (s.inbox.unread ++ piece) ms f
    → IsTakenAs (takes_to_fault s ms f) (on_piece s piece)
on_piece-stop s piece ms f four low going stop =
    let there = on_unread-stop (with_piece s piece) ms f four low going stop in
    taken_as s piece (takes_to_fault s ms f) there.0 going (there.1 ∙ fault_with s piece ms f there.0)

-- ---- the end of a piece

rests_by : (s : NodeState) (t : Turn) (e : Option End) → t.state.ended ≡ e → (t.state.ended ≡ None → IsUnfinished s.config.magic t.state.inbox.unread) → (without_unread_by e t).state.ended ≡ None → IsUnfinished s.config.magic (without_unread_by e t).state.inbox.unread
unfolding without_unread_by
rests_by s t (Some x) h rests going = absurd (let apart : Some x ≡ None = sym h ∙ going in cc)
rests_by s t None h rests going = rests going

-- what a node that hasn't ended leaves unread is unfinished
pub on_piece-rests : (s : NodeState) (piece : List ℕ) → s.ended ≡ None → (on_piece s piece).state.ended ≡ None → IsUnfinished s.config.magic (on_piece s piece).state.inbox.unread
on_piece-rests s piece going =
    subst (λ (t : Turn). t.state.ended ≡ None → IsUnfinished s.config.magic t.state.inbox.unread) (sym (received s piece going))
    (rests_by s (on_unread (with_piece s piece)) (on_unread (with_piece s piece)).state.ended refl (on_frames-rests (length (with_piece s piece).inbox.unread) (with_piece s piece) (omega arith)))

drops_by : (t : Turn) (e : Option End) (x : End) → t.state.ended ≡ e → (without_unread_by e t).state.ended ≡ Some x → (without_unread_by e t).state.inbox.unread ≡ []
unfolding without_unread_by
drops_by t (Some y) x h ended = refl
drops_by t None x h ended = absurd (let apart : None ≡ Some x = sym h ∙ ended in cc)

-- one that ends leaves nothing
pub on_piece-drops : (s : NodeState) (piece : List ℕ) (x : End) → s.ended ≡ None → (on_piece s piece).state.ended ≡ Some x → (on_piece s piece).state.inbox.unread ≡ []
on_piece-drops s piece x going =
    subst (λ (t : Turn). t.state.ended ≡ Some x → t.state.inbox.unread ≡ []) (sym (received s piece going))
    (drops_by (on_unread (with_piece s piece)) (on_unread (with_piece s piece)).state.ended x refl)
