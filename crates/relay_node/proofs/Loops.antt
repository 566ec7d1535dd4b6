-- Frame after frame of what a node has received.
use Rattle.std.proofs.Common.{◌≡◌, ℕ, zero, suc, ◌<◌, true, false, List, ◌++◌, length, take, Option, Some, None, Result, Ok, Err, refl, sym, ap, subst, ◌∙◌, append_assoc, append-nil}
use Rattle.std.proofs.lemmas.Grind.{flat_map-append}
use Rattle.wire_rules.specs.Layout.{message_bytes, wire_bytes}
use Rattle.wire_rules.specs.Reading.{message_of}
use Rattle.wire_rules.specs.Stream.{Front, PartialFrame, WholeFrame, FaultyFrame}
use Rattle.wire_rules.specs.declared.faults.PayloadFault.{PayloadFault}
use Rattle.wire_rules.specs.declared.message.Message.{Message}
use Rattle.wire_laws.proofs.Parts.{take_front}
use Rattle.node_rules.specs.Invariant.{IsNode}
use Rattle.node_rules.specs.State.{NodeState, NodeView}
use Rattle.node_rules.specs.Steps.{at_front, at_message, next_unless_ended, on_frames, on_message, on_unread, turn_sequence, without_unread_by, without_unread_if_ended, after_frame}
use Rattle.node_rules.specs.Turns.{Turn, refusal, unchanged}
use Rattle.node_rules.specs.declared.config.Config.{Config}
use Rattle.node_rules.specs.declared.end.End.{End}
use Rattle.node_laws.proofs.Handling.{first_front, on_unread-next}
use Rattle.node_laws.proofs.LaterSteps.{on_frames-later}
use Rattle.p2p_frame.specs.Feeding.{Feed}
use Rattle.conversation.specs.declared.stop.Stop.{Stop}
use Rattle.conversation.specs.declared.stop.Stop.TheVariants as stop
use Rattle.relay_node.specs.Handling.{AreHandled, IsFrontHandled, IsTurnTo}
use Rattle.relay_node.specs.Views.{IsOpen, state_at}
use Rattle.relay_node.specs.declared.link.Link.TheVariants as link
use Rattle.relay_node.proofs.Fronts.{seen-front}

-- ---- some frames, and then the others

abbrev then : Turn → (NodeState → Turn) → Turn
then t next = next_unless_ended t.state.ended t next

module _ (next : NodeState → Turn) (idle : (s : NodeState) → first_front s ≡ PartialFrame → next s ≡ unchanged s) where
  none_then : (s : NodeState) → s.ended ≡ None → then (unchanged s) next ≡ next s
  unfolding next_unless_ended
  none_then s going = ap (λ e. next_unless_ended e (unchanged s) next) going

  then_by : (e : Option End) (t u : Turn) → turn_sequence t (next_unless_ended e u next) ≡ next_unless_ended e (turn_sequence t u) next
  unfolding next_unless_ended
  then_by (Some x) t u = refl
  then_by None t u = λ i. record { state = (next u.state).state; out = sym (append_assoc t.out u.out (next u.state).out) i }

  module _ (f g : NodeState → Turn) (more : (u : NodeState) → u.ended ≡ None → f u ≡ then (g u) next) where
    behind_by : (e : Option End) (t : Turn) → t.state.ended ≡ e → next_unless_ended e t f ≡ then (next_unless_ended e t g) next
    unfolding next_unless_ended
    behind_by (Some x) t h = sym (ap (λ o. next_unless_ended o t next) h)
    behind_by None t h = ap (turn_sequence t) (more t.state h) ∙ then_by (g t.state).state.ended t (g t.state)

    behind_message : (r : Result Message PayloadFault) (s : NodeState) → at_message r s f ≡ then (at_message r s g) next
    unfolding at_message next_unless_ended
    behind_message (Ok m) s = behind_by (on_message s m).state.ended (on_message s m) refl
    behind_message (Err x) s = refl

    behind_front : (x : Front) (s : NodeState) → s.ended ≡ None → first_front s ≡ x → at_front x s f ≡ then (at_front x s g) next
    unfolding at_front next_unless_ended
    behind_front PartialFrame s going e = sym (none_then s going ∙ idle s e)
    behind_front (FaultyFrame fault) s going e = refl
    behind_front (WholeFrame frame size) s going e = behind_message (message_of frame) (after_frame s size)

unread_idle : (s : NodeState) → first_front s ≡ PartialFrame → on_unread s ≡ unchanged s
unfolding at_front
unread_idle s e = on_unread-next s ∙ ap (λ x. at_front x s on_unread) e

frame_idle : (s : NodeState) → first_front s ≡ PartialFrame → on_frames 1 s ≡ unchanged s
unfolding on_frames at_front
frame_idle s e = ap (λ x. at_front x s (on_frames 0)) e

-- all are some and then all others
unread-then : (n : ℕ) (s : NodeState) → s.ended ≡ None → on_unread s ≡ then (on_frames n s) on_unread
unfolding on_frames
unread-then zero s going = sym (none_then on_unread unread_idle s going)
unread-then (suc n) s going = on_unread-next s ∙ behind_front on_unread unread_idle on_unread (on_frames n) (unread-then n) (first_front s) s going refl

-- some and one more
frames-then : (n : ℕ) (s : NodeState) → s.ended ≡ None → on_frames (suc n) s ≡ then (on_frames n s) (on_frames 1)
unfolding on_frames
frames-then zero s going = sym (none_then (on_frames 1) frame_idle s going)
frames-then (suc n) s going = behind_front (on_frames 1) frame_idle (on_frames (suc n)) (on_frames n) (frames-then n) (first_front s) s going refl

-- ---- up to here

wire_bytes-append : (magic : List ℕ) (xs ys : List Message) → wire_bytes magic (xs ++ ys) ≡ wire_bytes magic xs ++ wire_bytes magic ys
wire_bytes-append magic xs ys = flat_map-append (message_bytes magic) xs ys

-- the first frames are handled, up to this conversation and feeder
pub record IsHandledUpTo (old : NodeView) (was : Feed) (v : NodeView) (feed : Feed) : Type 0 where
  pub count : ℕ
  pub turn : IsTurnTo (on_frames count (state_at old.state (link.Open was))) old v (link.Open feed)
  pub is_open : IsOpen v.state feed

pub handled-none : (old : NodeView) (was : Feed) → IsOpen old.state was → IsHandledUpTo old was old was
unfolding on_frames
handled-none old was h = record { count = 0; turn = record { state = refl; outbox = sym (append-nil old.outbox) }; is_open = h }

module _ (old : NodeView) (was : Feed) (v : NodeView) (feed : Feed) (h : IsHandledUpTo old was v feed) where
  abbrev start : NodeState
  start = state_at old.state (link.Open was)

  abbrev done : Turn
  done = on_frames h.count start

  abbrev here : NodeState
  here = state_at v.state (link.Open feed)

  going : done.state.ended ≡ None
  going = ap (λ (s : NodeState). s.ended) h.turn.state

  same_config : v.state.config ≡ old.state.config
  same_config = sym (ap (λ (s : NodeState). s.config) h.turn.state) ∙ (on_frames-later h.count start).config

  goes_on : (next : NodeState → Turn) → then done next ≡ turn_sequence done (next here)
  unfolding next_unless_ended
  goes_on next = ap (λ e. next_unless_ended e done next) going ∙ ap (λ s. turn_sequence done (next s)) h.turn.state

  all_more : on_unread start ≡ turn_sequence done (on_unread here)
  all_more = unread-then h.count start refl ∙ goes_on on_unread

  one_more : on_frames (suc h.count) start ≡ turn_sequence done (on_frames 1 here)
  one_more = frames-then h.count start refl ∙ goes_on (on_frames 1)

  pub handled-more : (new : NodeView) (left : Feed) → IsFrontHandled v feed new left (Ok true) → IsHandledUpTo old was new left
  unfolding IsFrontHandled
  handled-more new left more = record {
    count = suc h.count;
    turn = record {
      state = ap (λ (t : Turn). t.state) one_more ∙ more.0.state;
      outbox =
          more.0.outbox
          ∙ (ap (λ xs. xs ++ wire_bytes v.state.config.magic (on_frames 1 here).out) h.turn.outbox
          ∙ (ap (λ (c : Config). (old.outbox ++ wire_bytes old.state.config.magic done.out) ++ wire_bytes c.magic (on_frames 1 here).out) same_config
          ∙ (append_assoc old.outbox (wire_bytes old.state.config.magic done.out) (wire_bytes old.state.config.magic (on_frames 1 here).out)
          ∙ (ap (λ xs. old.outbox ++ xs) (sym (wire_bytes-append old.state.config.magic done.out (on_frames 1 here).out))
          ∙ ap (λ (t : Turn). old.outbox ++ wire_bytes old.state.config.magic t.out) (sym one_more)))));
    };
    is_open = more.1.0;
  }

  pub handled-shorter : (new : NodeView) (left : Feed) → IsFrontHandled v feed new left (Ok true) → length left.unread < length feed.unread
  unfolding IsFrontHandled
  handled-shorter new left more = more.1.1

  -- nothing more stands whole
  pub handled-all : (new : NodeView) (left : Feed) → IsFrontHandled v feed new left (Ok false) → AreHandled old was new left (Ok tt)
  unfolding IsFrontHandled AreHandled without_unread_by
  handled-all new left last =
      subst (λ (w : NodeView). IsTurnTo (without_unread_if_ended (on_unread start)) old w (link.Open left) × IsOpen w.state left) (sym last.1.0)
      (subst (λ f. IsTurnTo (without_unread_if_ended (on_unread start)) old v (link.Open f) × IsOpen v.state f) (sym last.1.1)
      (subst (λ t. IsTurnTo (without_unread_if_ended t) old v (link.Open feed)) (sym whole) (record { state = refl; outbox = h.turn.outbox }), h.is_open))
    where
      whole : on_unread start ≡ record { state = here; out = done.out }
      whole = all_more ∙ (ap (turn_sequence done) (unread_idle here (seen-front v feed h.is_open ∙ last.0)) ∙ (λ i. record { state = here; out = append-nil done.out i }))

  -- the node ends
  pub handled-ended : (new : NodeView) (left : Feed) (e : End) → IsFrontHandled v feed new left (Err (stop.Ended e)) → AreHandled old was new left (Err (stop.Ended e))
  unfolding IsFrontHandled AreHandled without_unread_by next_unless_ended
  handled-ended new left e last =
      subst (λ (w : NodeView). IsTurnTo (without_unread_if_ended (on_unread start)) old w (link.Ended e left.place) × IsNode w.state) (sym last.1)
      (subst (λ t. IsTurnTo (without_unread_if_ended t) old v (link.Ended e left.place)) (sym whole) (record { state = refl; outbox = h.turn.outbox ∙ ap (λ ms. old.outbox ++ wire_bytes old.state.config.magic ms) (sym (append-nil done.out)) }), h.is_open.node)
    where
      stopped : Turn
      stopped = turn_sequence done (refusal (state_at v.state (link.Open left)) e)

      whole : on_unread start ≡ stopped
      whole = unread-then (suc h.count) start refl ∙ ap (λ t. then t on_unread) (one_more ∙ ap (turn_sequence done) last.0)

  -- memory was refused
  pub handled-starved : (new : NodeView) (left : Feed) → IsFrontHandled v feed new left (Err stop.OutOfMemory) → AreHandled old was new left (Err stop.OutOfMemory)
  unfolding IsFrontHandled AreHandled
  handled-starved new left last = record {
    count = h.count;
    size = length sent;
    pool = last.pool ∙ sym (ap (λ (s : NodeState). s.pool) h.turn.state);
    outbox = last.outbox ∙ (h.turn.outbox ∙ ap (λ xs. old.outbox ++ xs) (sym front));
    config = last.config ∙ same_config;
  }
    where
      sent : List ℕ
      sent = wire_bytes old.state.config.magic done.out

      front : take (length sent) (wire_bytes old.state.config.magic (on_unread start).out) ≡ sent
      front =
          ap (λ (t : Turn). take (length sent) (wire_bytes old.state.config.magic t.out)) all_more
          ∙ (ap (take (length sent)) (wire_bytes-append old.state.config.magic done.out (on_unread here).out)
          ∙ take_front (length sent) sent (wire_bytes old.state.config.magic (on_unread here).out) refl)

  pub handled-stopped : (new : NodeView) (left : Feed) (x : Stop) → IsFrontHandled v feed new left (Err x) → AreHandled old was new left (Err x)
  handled-stopped new left (stop.Ended e) last = handled-ended new left e last
  handled-stopped new left stop.OutOfMemory last = handled-starved new left last
