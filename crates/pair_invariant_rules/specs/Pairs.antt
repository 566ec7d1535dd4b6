-- The messages on the way between two nodes, whatever part of their bytes was read.
use Rattle.std.specs.Prelude.{◌≡◌, ℕ, ◌^◌, ◌<◌, IsTrue, List, [], ◌∷◌, ◌++◌, length, None}
use Rattle.std.specs.List.{AllByRecursion}
use Rattle.wire_rules.specs.Layout.{wire_bytes}
use Rattle.wire_rules.specs.Limits.{IsMessage}
use Rattle.wire_rules.specs.Stream.{IsUnfinished}
use Rattle.wire_rules.specs.declared.message.Message.{Message}
use Rattle.node_rules.specs.Additions.{on_addition}
use Rattle.node_rules.specs.State.{NodeState, Inbox}
use Rattle.node_rules.specs.Steps.{with_inbox, on_message, on_messages, on_start}
use Rattle.node_rules.specs.Turns.{Turn}
use Rattle.pair_rules.specs.World.{World}
use Rattle.id_rules.specs.Bytes.{is_tx}

-- nothing was received
abbrev pub no_inbox : Inbox
no_inbox = record { unread = []; offset = 0 }

-- a node without what it has received of a message
abbrev pub without_inbox : NodeState → NodeState
without_inbox s = with_inbox s no_inbox

-- the two nodes, the messages on the way to each, and all that each has sent
pub record Pair : Type 0 where
  pub a : NodeState
  pub b : NodeState
  pub to_a : List Message
  pub to_b : List Message
  pub by_a : List Message
  pub by_b : List Message

-- what a reader has received of a message and what is on its wire are, together, the frames of these messages
pub record AreOnTheWay (magic : List ℕ) (received : Inbox) (wire : List ℕ) (ms : List Message) : Type 0 where
  pub offset : received.offset < 2 ^ 64
  pub whole : received.unread ++ wire ≡ wire_bytes magic ms
  pub partial : IsUnfinished magic received.unread

-- what a piece of bytes has brought a node to, where these are left on its wire: it has taken the first of the messages that
-- were on the way, in their order, and the others still are
pub record HasTaken (s : NodeState) (wire : List ℕ) (ms : List Message) (t : Turn) : Type 0 where
  pub taken : List Message
  pub left : List Message
  pub all : ms ≡ taken ++ left
  pub state : without_inbox t.state ≡ (on_messages (without_inbox s) taken).state
  pub out : t.out ≡ (on_messages (without_inbox s) taken).out
  pub way : t.state.ended ≡ None → AreOnTheWay s.config.magic t.state.inbox wire left

-- ---- the steps of a pair

-- behind a step of b that leaves these messages on the way to it
abbrev pub after_b : Pair → Turn → List Message → Pair
after_b p t ms = record p { b = t.state; to_a = p.to_a ++ t.out; to_b = ms; by_b = p.by_b ++ t.out }

abbrev pub after_a : Pair → Turn → List Message → Pair
after_a p t ms = record p { a = t.state; to_b = p.to_b ++ t.out; to_a = ms; by_a = p.by_a ++ t.out }

-- behind a message that b takes, where these are left on the way to it
abbrev pub after_message_b : Pair → Message → List Message → Pair
after_message_b p m ms = after_b p (on_message p.b m) ms

abbrev pub after_message_a : Pair → Message → List Message → Pair
after_message_a p m ms = after_a p (on_message p.a m) ms

abbrev pub after_addition_a : Pair → List ℕ → Pair
after_addition_a p tx = after_a p (on_addition p.a tx).turn p.to_a

abbrev pub after_addition_b : Pair → List ℕ → Pair
after_addition_b p tx = after_b p (on_addition p.b tx).turn p.to_b

abbrev pub after_start_a : Pair → Pair
after_start_a p = after_a p (on_start p.a).turn p.to_a

-- what is kept by every step in which no node ends, and says enough of what is on the way for it to be read
pub record IsInvariant (Kept : Pair → Type 0) : Type 0 where
  pub sound_a : (p : Pair) → Kept p → AllByRecursion IsMessage p.to_a
  pub sound_b : (p : Pair) → Kept p → AllByRecursion IsMessage p.to_b
  pub four : (p : Pair) → Kept p → length p.a.config.magic ≡ 4
  pub one_net : (p : Pair) → Kept p → p.b.config.magic ≡ p.a.config.magic
  pub by_message_a : (p : Pair) (m : Message) (ms : List Message) → Kept p → p.to_a ≡ m ∷ ms → (on_message p.a m).state.ended ≡ None → Kept (after_message_a p m ms)
  pub by_message_b : (p : Pair) (m : Message) (ms : List Message) → Kept p → p.to_b ≡ m ∷ ms → (on_message p.b m).state.ended ≡ None → Kept (after_message_b p m ms)
  pub by_addition_a : (p : Pair) (tx : List ℕ) → IsTrue (is_tx tx) → p.a.ended ≡ None → Kept p → Kept (after_addition_a p tx)
  pub by_addition_b : (p : Pair) (tx : List ℕ) → IsTrue (is_tx tx) → p.b.ended ≡ None → Kept p → Kept (after_addition_b p tx)
  pub by_round : (p : Pair) → p.a.ended ≡ None → Kept p → Kept (after_start_a p)

-- ---- a world of bytes as a pair

abbrev pub pair_of_world : World → List Message → List Message → List Message → List Message → Pair
pair_of_world w to_a to_b by_a by_b = record { a = without_inbox w.a; b = without_inbox w.b; to_a = to_a; to_b = to_b; by_a = by_a; by_b = by_b }

-- the world shows a pair of which this holds, and each side of it has sent so much
pub record HasPair (Kept : Pair → Type 0) (w : World) (by_a by_b : List Message) : Type 0 where
  pub to_a : List Message
  pub to_b : List Message
  pub way_a : AreOnTheWay w.a.config.magic w.a.inbox w.ba to_a
  pub way_b : AreOnTheWay w.b.config.magic w.b.inbox w.ab to_b
  pub kept : Kept (pair_of_world w to_a to_b by_a by_b)
