-- What is made of one frame, and of what stands in front of a node's stream.
use Rattle.std.proofs.Common.{◌≡◌, ℕ, ◌<◌, true, false, List, [], ◌∷◌, ◌++◌, length, Option, Some, None, Result, Ok, Err, refl, sym, ap, subst, ◌∙◌, arith, append-nil, length-drop}
use Rattle.id_rules.specs.Bytes.{is_tx_length}
use Rattle.wire_rules.specs.Commands.{name_at, name_of}
use Rattle.wire_rules.specs.Layout.{wire_bytes}
use Rattle.wire_rules.specs.Limits.{IsFrame, IsMessage}
use Rattle.wire_rules.specs.Reading.{message_by, message_in, message_of, tx_in, with_command}
use Rattle.wire_rules.specs.Stream.{Front, PartialFrame, WholeFrame, FaultyFrame, front_of}
use Rattle.wire_rules.specs.declared.faults.PayloadFault.{PayloadFault}
use Rattle.wire_rules.specs.declared.frame.Frame.{Frame}
use Rattle.wire_rules.specs.declared.frame.FrameFault.{FrameFault}
use Rattle.wire_rules.specs.declared.message.Message.{Message}
use Rattle.wire_rules.specs.declared.message.Message.TheVariants as message
use Rattle.wire_rules.specs.declared.name.Name.TheVariants as name
use Rattle.wire_rules.specs.declared.phase.Phase.{Phase}
use Rattle.wire_rules.specs.declared.phase.Phase.TheVariants as phase
use Rattle.wire_laws.proofs.Said.{message_of-said}
use Rattle.stream_laws.proofs.Found.{bytes_cut, front-found, whole-size}
use Rattle.stream_laws.proofs.Offsets.{later_offset-low}
use Rattle.node_rules.specs.Handshake.{in_greeted, in_greeting}
use Rattle.node_rules.specs.Invariant.{IsNode}
use Rattle.node_rules.specs.State.{Inbox, NodeState, NodeView}
use Rattle.node_rules.specs.Steps.{at_front, at_message, in_phase, in_relay, next_unless_ended, on_frames, on_message, with_inbox}
use Rattle.node_rules.specs.Turns.{Turn, after_turn, refusal, unchanged}
use Rattle.node_rules.specs.declared.config.Config.{Config}
use Rattle.node_rules.specs.declared.end.End.{End}
use Rattle.node_rules.specs.declared.end.End.TheVariants as end
use Rattle.node_laws.specs.Inboxes.{turn_with_inbox}
use Rattle.node_laws.proofs.LaterSteps.{on_message-later}
use Rattle.node_laws.proofs.Rows.{on_message-step}
use Rattle.invariant_laws.proofs.Joined.{on_message-node}
use Rattle.p2p_frame.specs.Feeding.{Feed, feed_after, feed_behind, feed_front, frame_in}
use Rattle.conversation.specs.Handled.{IsHandled, IsStep}
use Rattle.conversation.specs.declared.stop.Stop.{Stop}
use Rattle.conversation.specs.declared.stop.Stop.TheVariants as stop
use Rattle.relay_node.specs.Handling.{IsFrameHandled, IsFrontHandled, turn_of}
use Rattle.relay_node.specs.Views.{IsFeederOf, IsOpen, inbox_of, state_at}
use Rattle.relay_node.specs.declared.link.Link.TheVariants as link
use Rattle.relay_node.proofs.Nodes.{open-state}

-- ---- one frame

last_by : (e : Option End) (t : Turn) → next_unless_ended e t unchanged ≡ t
unfolding next_unless_ended
last_by (Some e) t = refl
last_by None t = λ i. record { state = t.state; out = append-nil t.out i }

-- a message behind which nothing is handled
at_message-last : (s : NodeState) (m : Message) → at_message (Ok m) s unchanged ≡ on_message s m
unfolding at_message
at_message-last s m = last_by (on_message s m).state.ended (on_message s m)

-- its message is taken
pub frame-taken : (f : Frame) (m : Message) (old new : NodeView) (r : Result Unit Stop) → message_of f ≡ Ok m → IsHandled m old new r → IsFrameHandled f old new r
frame-taken f m old new r said h = subst (λ t. IsStep t old new r) (sym (ap (λ x. at_message x old.state unchanged) said ∙ at_message-last old.state m)) h

-- its payload is no message
pub frame-faulty : (f : Frame) (x : PayloadFault) (old : NodeView) → message_of f ≡ Err x → IsFrameHandled f old old (Err (stop.Ended (end.Payload x)))
unfolding at_message IsStep
frame-faulty f x old said = (refl, ap (λ r. at_message r old.state unchanged) said)

-- memory was refused for its message
pub frame-starved : (f : Frame) (old : NodeView) → IsFrameHandled f old old (Err stop.OutOfMemory)
unfolding IsStep
frame-starved f old = record { config = refl; pool = refl; outbox = refl }

-- ---- a frame of an unknown command

other_by : (p : Phase) (s : NodeState) (command payload : List ℕ) → in_phase p s (message.Other command payload) ≡ unchanged s
unfolding in_phase in_greeting in_greeted in_relay name_of
other_by phase.Greeting s command payload = refl
other_by phase.Greeted s command payload = refl
other_by phase.Idle s command payload = refl
other_by phase.Waiting s command payload = refl
other_by phase.WaitingExt s command payload = refl
other_by phase.WaitingExt2 s command payload = refl
other_by phase.Barrier s command payload = refl
other_by phase.Fetching s command payload = refl
other_by phase.Sent s command payload = refl
other_by phase.SentExt s command payload = refl
other_by phase.SentExt2 s command payload = refl

handled_unchanged : (m : Message) (old : NodeView) → on_message old.state m ≡ unchanged old.state → old.state.ended ≡ None → IsHandled m old old (Ok tt)
unfolding IsStep
handled_unchanged m old e unended = (sym (ap (after_turn old) e ∙ (λ i. record old { outbox = append-nil old.outbox i })), ap (λ (t : Turn). t.state.ended) e ∙ unended)

pub frame-other : (f : Frame) (old : NodeView) → name_at f.command ≡ None → old.state.ended ≡ None → IsFrameHandled f old old (Ok tt)
frame-other f old unknown unended =
    let m = message.Other f.command f.payload in
    frame-taken f m old old (Ok tt) (ap (λ n. message_by n f) unknown) (handled_unchanged m old (other_by old.state.machine.phase old.state f.command f.payload) unended)

-- ---- a transaction

tx_read : (payload : List ℕ) → is_tx_length (length payload) ≡ true → tx_in payload ≡ Ok (message.Tx payload)
tx_read [] sized = absurd (cc)
tx_read (b ∷ rest) sized = refl

pub message_of-tx : (f : Frame) → name_at f.command ≡ Some name.Tx → is_tx_length (length f.payload) ≡ true → message_of f ≡ Ok (message.Tx f.payload)
unfolding message_in
message_of-tx f known sized = ap (λ n. message_by n f) known ∙ ap (with_command name.Tx) (tx_read f.payload sized)

-- ---- what stands in front

pub front-whole : (x : Front) (f : Frame) → Ok (Some f) ≡ frame_in x → (n : ℕ) × (x ≡ WholeFrame f n)
front-whole PartialFrame f e = absurd (cc)
front-whole (WholeFrame g n) f e = (n, cc)
front-whole (FaultyFrame fault) f e = absurd (cc)

pub front-partial : (x : Front) → Ok None ≡ frame_in x → x ≡ PartialFrame
front-partial PartialFrame e = refl
front-partial (WholeFrame g n) e = absurd (cc)
front-partial (FaultyFrame fault) e = absurd (cc)

pub front-faulty : (x : Front) (fault : FrameFault) → Err fault ≡ frame_in x → x ≡ FaultyFrame fault
front-faulty PartialFrame fault e = absurd (cc)
front-faulty (WholeFrame g n) fault e = absurd (cc)
front-faulty (FaultyFrame other) fault e = cc

-- ---- a frame at a node that has received other bytes

beside_by : (e : Option End) (t : Turn) (i : Inbox) → next_unless_ended e (turn_with_inbox t i) unchanged ≡ turn_with_inbox (next_unless_ended e t unchanged) i
unfolding next_unless_ended
beside_by (Some e) t i = refl
beside_by None t i = refl

message_beside : (r : Result Message PayloadFault) (s : NodeState) (i : Inbox) → at_message r (with_inbox s i) unchanged ≡ turn_with_inbox (at_message r s unchanged) i
unfolding at_message
message_beside (Ok m) s i = ap (λ (t : Turn). next_unless_ended t.state.ended t unchanged) (on_message-step s i m).same ∙ beside_by (on_message s m).state.ended (on_message s m) i
message_beside (Err x) s i = refl

message_config : (r : Result Message PayloadFault) (s : NodeState) → (at_message r s unchanged).state.config ≡ s.config
unfolding at_message
message_config (Ok m) s = ap (λ (t : Turn). t.state.config) (last_by (on_message s m).state.ended (on_message s m)) ∙ (on_message-later s m).config
message_config (Err x) s = refl

message_node : (r : Result Message PayloadFault) (s : NodeState) → IsNode s → ((m : Message) → r ≡ Ok m → IsMessage m) → (at_message r s unchanged).state.ended ≡ None → IsNode (at_message r s unchanged).state
unfolding at_message
message_node (Ok m) s h sent going = subst (λ (t : Turn). IsNode t.state) (sym (last_by (on_message s m).state.ended (on_message s m))) (on_message-node s h m (sent m refl))
message_node (Err x) s h sent going = absurd (let apart : Some (end.Payload x) ≡ None = going in cc)

module _ (old : NodeView) (was : Feed) (is_open : IsOpen old.state was) where
  pub seen-front : front_of old.state.config.magic was.place was.unread ≡ feed_front was
  seen-front = ap (λ magic. front_of magic was.place was.unread) (sym is_open.feeder.magic)

  pub front-ended : (fault : FrameFault) → feed_front was ≡ FaultyFrame fault → IsFrontHandled old was old was (Err (stop.Ended (end.Frame fault)))
  unfolding IsFrontHandled on_frames at_front
  front-ended fault e = (ap (λ x. at_front x (state_at old.state (link.Open was)) unchanged) (seen-front ∙ e), refl)

  pub front-idle : feed_front was ≡ PartialFrame → IsFrontHandled old was old was (Ok false)
  unfolding IsFrontHandled
  front-idle e = (e, (refl, refl))

  module _ (f : Frame) (n : ℕ) (whole : feed_front was ≡ WholeFrame f n) where
    abbrev left : Feed
    left = feed_behind was n

    abbrev turn : Turn
    turn = turn_of old.state f

    pub front-frame : IsFrame f
    front-frame = (front-found was.magic was.place was.unread f n is_open.feeder.unread whole).sound

    -- the frame is handled at the node as it is by its conversation
    same_turn : on_frames 1 (state_at old.state (link.Open was)) ≡ turn_with_inbox turn (inbox_of left)
    unfolding on_frames at_front
    same_turn =
        ap (λ x. at_front x (state_at old.state (link.Open was)) unchanged) (seen-front ∙ whole)
        ∙ (ap (λ s. at_message (message_of f) s unchanged) (open-state old.state left is_open.unended)
        ∙ message_beside (message_of f) old.state (inbox_of left))

    shorter : length left.unread < length was.unread
    shorter = let sizes = whole-size was.magic was.place was.unread f n whole in let least = sizes.0 in let most = sizes.1 in let less = length-drop n was.unread in omega arith

    still_fed : (s : NodeState) → s.config ≡ old.state.config → IsFeederOf s left
    still_fed s config = record {
      magic = is_open.feeder.magic ∙ sym (ap (λ (c : Config). c.magic) config);
      going = is_open.feeder.going;
      unread = (bytes_cut n was.unread is_open.feeder.unread).1;
      place = later_offset-low was.place n;
    }

    taken : (new : NodeView) → new ≡ after_turn old turn → turn.state.ended ≡ None → IsFrontHandled old was new left (Ok true)
    unfolding IsFrontHandled
    taken new e going = (
      record {
        state = ap (λ (t : Turn). t.state) same_turn ∙ (sym (open-state turn.state left going) ∙ ap (λ (v : NodeView). state_at v.state (link.Open left)) (sym e));
        outbox = ap (λ (v : NodeView). v.outbox) e ∙ (ap (λ (c : Config). old.outbox ++ wire_bytes c.magic turn.out) (message_config (message_of f) old.state) ∙ ap (λ (t : Turn). old.outbox ++ wire_bytes old.state.config.magic t.out) (sym same_turn));
      },
      (
        subst (λ (v : NodeView). IsOpen v.state left) (sym e) (record {
          node = message_node (message_of f) old.state is_open.node (λ m said. (message_of-said f m front-frame said).sent) going;
          unended = going;
          feeder = still_fed turn.state (message_config (message_of f) old.state);
        }),
        shorter,
      ),
    )

    ended : (e : End) → turn ≡ refusal old.state e → on_frames 1 (state_at old.state (link.Open was)) ≡ refusal (state_at old.state (link.Open left)) e
    ended e refused = same_turn ∙ ap (λ t. turn_with_inbox t (inbox_of left)) refused

    passed : (feed : Feed) → feed ≡ feed_after (feed_front was) was → feed ≡ left
    passed feed e = e ∙ ap (λ x. feed_after x was) whole

    stopped : (new : NodeView) (x : Stop) → IsFrameHandled f old new (Err x) → IsFrontHandled old was new left (Err x)
    unfolding IsStep IsFrontHandled
    stopped new (stop.Ended e) h = (ended e h.1, h.0)
    stopped new stop.OutOfMemory h = h

    pub front-taken : (new : NodeView) (feed : Feed) → IsFrameHandled f old new (Ok tt) → feed ≡ feed_after (feed_front was) was → IsFrontHandled old was new feed (Ok true)
    unfolding IsStep
    front-taken new feed h e = subst (λ l. IsFrontHandled old was new l (Ok true)) (sym (passed feed e)) (taken new h.0 h.1)

    pub front-stopped : (new : NodeView) (feed : Feed) (x : Stop) → IsFrameHandled f old new (Err x) → feed ≡ feed_after (feed_front was) was → IsFrontHandled old was new feed (Err x)
    front-stopped new feed x h e = subst (λ l. IsFrontHandled old was new l (Err x)) (sym (passed feed e)) (stopped new x h)
