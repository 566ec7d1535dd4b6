-- All that holds of a node at every moment is kept by each of its steps, also where messages come in pieces of bytes, and
-- what it sends may be sent.
use Rattle.std.proofs.Common.{◌≡◌, ℕ, zero, suc, ◌^◌, ◌<◌, true, List, [], ◌∷◌, ◌++◌, length, take, drop, Option, Some, None, Result, Ok, Err, IsTrue, refl, sym, subst, lit<}
use Rattle.std.specs.List.{AllByRecursion}
use Rattle.std.proofs.lemmas.List.{take-append-drop}
use Rattle.id_rules.specs.Bytes.{are_bytes}
use Rattle.wire_rules.specs.Limits.{IsMessage}
use Rattle.wire_rules.specs.Reading.{message_of}
use Rattle.wire_rules.specs.Stream.{Front, PartialFrame, WholeFrame, FaultyFrame, front_of, later_offset}
use Rattle.wire_rules.specs.declared.faults.PayloadFault.{PayloadFault}
use Rattle.wire_rules.specs.declared.frame.Frame.{Frame}
use Rattle.wire_rules.specs.declared.message.Message.{Message}
use Rattle.wire_laws.proofs.Said.{message_of-said}
use Rattle.id_rules.proofs.Bytes.{bytes_join, bytes_split}
use Rattle.stream_laws.proofs.Found.{front-found}
use Rattle.stream_laws.proofs.Offsets.{later_offset-low}
use Rattle.pool_rules.specs.Pools.{Transaction, IsTransaction, IsPool, transaction_of}
use Rattle.id_rules.proofs.Lists.{all_append}
use Rattle.node_rules.specs.Additions.{on_addition}
use Rattle.node_rules.specs.Invariant.{IsConfig, IsNode, IsStore, IsSetUp, IsConversing, IsBounded, IsReport}
use Rattle.node_rules.specs.State.{Inbox, NodeState, opening_state}
use Rattle.node_rules.specs.Steps.{on_message, on_messages, next_unless_ended, at_message, at_front, on_frames, on_unread, without_unread_by, with_piece, on_piece_by, on_piece, after_frame, on_start}
use Rattle.node_rules.specs.Turns.{Turn, unchanged, refusal}
use Rattle.node_rules.specs.declared.config.Config.{Config}
use Rattle.node_rules.specs.declared.end.End.{End}
use Rattle.node_rules.specs.declared.end.End.TheVariants as end
use Rattle.node_laws.specs.Later.{IsLater}
use Rattle.node_laws.proofs.LaterSteps.{on_message-later, on_addition-later, on_start-later}
use Rattle.invariant_laws.proofs.Bounds.{on_message-bounded, on_addition-bounded, on_start-bounded, opening-bounded}
use Rattle.invariant_laws.proofs.Conversing.{on_message-conversing, on_addition-conversing, on_start-conversing, opening-conversing, beside-conversing}
use Rattle.invariant_laws.proofs.Reports.{on_message-reports, on_addition-reports, on_start-reports}
use Rattle.invariant_laws.proofs.Rows.{EachRow, on_message-rows, on_addition-rows, on_start-rows}
use Rattle.invariant_laws.proofs.Sending.{on_message-sendable}
use Rattle.invariant_laws.proofs.Sets.{on_message-setup, on_addition-setup, on_start-setup, opening-setup}
use Rattle.invariant_laws.proofs.Stores.{on_message-store, on_addition-store, on_start-store, opening-store}

-- ---- what has been received

inbox_rows : (s : NodeState) → EachRow s (λ t. t.state.inbox ≡ s.inbox)
inbox_rows s = record {
  stays = refl;
  ends = λ e. refl;
  version = λ e. refl;
  wtxidrelay = λ e. refl;
  offer = λ o e is none. refl;
  plain = λ e by_id none. refl;
  whole = λ o e by_id some. refl;
  answer = λ n bytes es a e. refl;
  more = λ n bytes a e. refl;
  fallback = λ n bytes a. refl;
  first = λ size q a e. refl;
  extension = λ n a g e. refl;
  difference = λ n success asks a g e m. refl;
  wants = λ es n. refl;
  request = λ es n. refl;
  getdata = λ es past m. refl;
  notfound = λ es past m. refl;
  known = λ t past a p. refl;
  gained = λ t past a p f. refl;
  ping = λ n past m. refl;
  pong = λ r e. refl;
  addition = λ t a. refl;
  announcement = λ t a k past plain. refl;
  member = λ t a k past whole. refl;
  round = λ r idle. refl;
  plain_round = λ r idle plain. refl;
}

-- ---- messages, additions, and the start of a round

module _ (s : NodeState) (h : IsNode s) where
  node_from : (t : Turn) → IsLater s t.state → t.state.inbox ≡ s.inbox → IsStore t.state → IsSetUp t.state → IsConversing t.state → IsBounded t.state.machine t.state.requests → AllByRecursion (IsReport t.state.pool) t.state.machine.reports → IsNode t.state
  node_from t later inbox store setup conversing bounded reports = record {
    config = subst IsConfig (sym later.config) h.config;
    store = store;
    setup = setup;
    conversing = conversing;
    bounded = bounded;
    reports = reports;
    offset = subst (λ (i : Inbox). i.offset < 2 ^ 64) (sym inbox) h.offset;
    unread = subst (λ (i : Inbox). IsTrue (are_bytes i.unread)) (sym inbox) h.unread;
  }

  pub on_message-node : (m : Message) → IsMessage m → IsNode (on_message s m).state
  on_message-node m sound =
      node_from (on_message s m) (on_message-later s m) (on_message-rows s (λ t. t.state.inbox ≡ s.inbox) (inbox_rows s) m sound) (on_message-store s m h.store sound) (on_message-setup s m h.setup h.conversing h.store.pool.distinct sound) (on_message-conversing s m h.conversing sound)
      (on_message-bounded s m h.config h.conversing h.bounded sound) (on_message-reports s h.setup h.bounded h.reports m sound)

  pub on_addition-node : (tx : List ℕ) → IsTransaction (transaction_of tx) → IsNode (on_addition s tx).turn.state
  on_addition-node tx sound =
      node_from (on_addition s tx).turn (on_addition-later s tx) (on_addition-rows s (λ t. t.state.inbox ≡ s.inbox) (inbox_rows s) tx sound) (on_addition-store s tx h.store sound) (on_addition-setup s tx h.setup h.conversing h.store.pool.distinct sound) (on_addition-conversing s tx h.conversing sound)
      (on_addition-bounded s tx h.config h.conversing h.bounded sound) (on_addition-reports s h.setup h.bounded h.reports tx sound)

  pub on_start-node : IsNode (on_start s).turn.state
  on_start-node =
      node_from (on_start s).turn (on_start-later s) (on_start-rows s (λ t. t.state.inbox ≡ s.inbox) (inbox_rows s)) (on_start-store s h.store) (on_start-setup s h.setup h.conversing h.store.pool.distinct) (on_start-conversing s h.conversing) (on_start-bounded s h.config h.conversing h.bounded)
      (on_start-reports s h.setup h.bounded h.reports)

  -- with another inbox, and ended or not
  beside : (i : Inbox) (ended : Option End) → i.offset < 2 ^ 64 → are_bytes i.unread ≡ true → IsNode (record s { inbox = i; ended = ended })
  beside i ended offset unread = record {
    config = h.config;
    store = record {
      pool = h.store.pool;
      wanting = record { once = h.store.wanting.once; unwanted = h.store.wanting.unwanted; room = h.store.wanting.room };
      ids = h.store.ids;
      serving = record { once = h.store.serving.once; pooled = h.store.serving.pooled };
    };
    setup = record { set = h.setup.set; snapshot = h.setup.snapshot; apart = h.setup.apart; unknown = h.setup.unknown };
    conversing = beside-conversing s h.conversing i ended;
    bounded = h.bounded;
    reports = h.reports;
    offset = offset;
    unread = unread;
  }

pub opening-node : (c : Config) (pool : List Transaction) → IsConfig c → IsPool pool → IsNode (opening_state c pool)
opening-node c pool config is = record {
  config = config;
  store = opening-store c pool is;
  setup = opening-setup c pool;
  conversing = opening-conversing c pool;
  bounded = opening-bounded c pool;
  reports = tt;
  offset = lit< tt;
  unread = refl;
}

-- ---- turns

-- a turn that leaves a node and sends what may be sent
pub record IsSoundTurn (t : Turn) : Type 0 where
  pub node : IsNode t.state
  pub sendable : AllByRecursion IsMessage t.out

unchanged-sound : (s : NodeState) → IsNode s → IsSoundTurn (unchanged s)
unchanged-sound s h = record { node = h; sendable = tt }

refusal-sound : (s : NodeState) (e : End) → IsNode s → IsSoundTurn (refusal s e)
refusal-sound s e h = record { node = beside s h s.inbox (Some e) h.offset h.unread; sendable = tt }

on_message-sound : (s : NodeState) (m : Message) → IsNode s → IsMessage m → IsSoundTurn (on_message s m)
on_message-sound s m h sound = record { node = on_message-node s h m sound; sendable = on_message-sendable s h m sound }

-- what may follow a turn
abbrev IsSoundNext : (NodeState → Turn) → Type 0
IsSoundNext next = (u : NodeState) → IsNode u → IsSoundTurn (next u)

next_unless_ended-sound : (e : Option End) (t : Turn) (next : NodeState → Turn) → IsSoundTurn t → IsSoundNext next → IsSoundTurn (next_unless_ended e t next)
unfolding next_unless_ended
next_unless_ended-sound (Some e) t next h f = h
next_unless_ended-sound None t next h f = let behind = f t.state h.node in record { node = behind.node; sendable = all_append IsMessage t.out (next t.state).out h.sendable behind.sendable }

pub on_messages-sound : (s : NodeState) (ms : List Message) → IsNode s → AllByRecursion IsMessage ms → IsSoundTurn (on_messages s ms)
unfolding on_messages
on_messages-sound s [] h sound = unchanged-sound s h
on_messages-sound s (m ∷ ms) h sound = next_unless_ended-sound (on_message s m).state.ended (on_message s m) (λ u. on_messages u ms) (on_message-sound s m h sound.0) (λ u k. on_messages-sound u ms k sound.1)

at_message-sound : (r : Result Message PayloadFault) (s : NodeState) (next : NodeState → Turn) → ((m : Message) → r ≡ Ok m → IsMessage m) → IsNode s → IsSoundNext next → IsSoundTurn (at_message r s next)
unfolding at_message
at_message-sound (Ok m) s next sent h f = next_unless_ended-sound (on_message s m).state.ended (on_message s m) next (on_message-sound s m h (sent m refl)) f
at_message-sound (Err fault) s next sent h f = refusal-sound s (end.Payload fault) h

-- what stands whole in front of the unread bytes is a message that may be sent
message_found : (s : NodeState) (frame : Frame) (size : ℕ) (m : Message) → IsNode s → front_of s.config.magic s.inbox.offset s.inbox.unread ≡ WholeFrame frame size → message_of frame ≡ Ok m → IsMessage m
message_found s frame size m h front said = (message_of-said frame m (front-found s.config.magic s.inbox.offset s.inbox.unread frame size h.unread front).sound said).sent

bytes_behind : (n : ℕ) (bytes : List ℕ) → are_bytes bytes ≡ true → are_bytes (drop n bytes) ≡ true
bytes_behind n bytes h = (bytes_split (take n bytes) (drop n bytes) (subst (λ xs. are_bytes xs ≡ true) (sym (take-append-drop n bytes)) h)).1

at_front-sound : (front : Front) (s : NodeState) (next : NodeState → Turn) → front_of s.config.magic s.inbox.offset s.inbox.unread ≡ front → IsNode s → IsSoundNext next → IsSoundTurn (at_front front s next)
unfolding at_front
at_front-sound PartialFrame s next e h f = unchanged-sound s h
at_front-sound (FaultyFrame fault) s next e h f = refusal-sound s (end.Frame fault) h
at_front-sound (WholeFrame frame size) s next e h f =
    at_message-sound (message_of frame) (after_frame s size) next (λ m said. message_found s frame size m h e said)
    (beside s h (record { unread = drop size s.inbox.unread; offset = later_offset s.inbox.offset size }) s.ended (later_offset-low s.inbox.offset size) (bytes_behind size s.inbox.unread h.unread)) f

pub on_frames-sound : (n : ℕ) (s : NodeState) → IsNode s → IsSoundTurn (on_frames n s)
unfolding on_frames
on_frames-sound zero s h = unchanged-sound s h
on_frames-sound (suc n) s h = at_front-sound (front_of s.config.magic s.inbox.offset s.inbox.unread) s (on_frames n) refl h (on_frames-sound n)

without_unread_by-sound : (e : Option End) (t : Turn) → IsSoundTurn t → IsSoundTurn (without_unread_by e t)
unfolding without_unread_by
without_unread_by-sound (Some e) t h = record { node = beside t.state h.node (record t.state.inbox { unread = [] }) t.state.ended h.node.offset refl; sendable = h.sendable }
without_unread_by-sound None t h = h

piece_node : (s : NodeState) (piece : List ℕ) → IsNode s → are_bytes piece ≡ true → IsNode (with_piece s piece)
piece_node s piece h bytes =
    beside s h (record s.inbox { unread = s.inbox.unread ++ piece }) s.ended h.offset
    (bytes_join s.inbox.unread piece h.unread bytes)

on_piece_by-sound : (e : Option End) (s : NodeState) (piece : List ℕ) → IsNode s → are_bytes piece ≡ true → IsSoundTurn (on_piece_by e s piece)
unfolding on_piece_by
on_piece_by-sound (Some e) s piece h bytes = unchanged-sound s h
on_piece_by-sound None s piece h bytes =
    let v : NodeState = with_piece s piece in
    without_unread_by-sound (on_unread v).state.ended (on_unread v) (on_frames-sound (length v.inbox.unread) v (piece_node s piece h bytes))

pub on_piece-sound : (s : NodeState) (piece : List ℕ) → IsNode s → IsTrue (are_bytes piece) → IsSoundTurn (on_piece s piece)
on_piece-sound s piece h bytes = on_piece_by-sound s.ended s piece h bytes
