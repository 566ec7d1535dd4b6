-- How many messages two nodes send.
use Rattle.std.specs.Prelude.{◌≡◌, ℕ, ◌+◌, ◌*◌, ◌≤◌, min, Bool, true, false, List, [], ◌∷◌, ◌++◌, length, filter, flat_map}
use Rattle.base_types.specs.declared.lists.Hash32.{Hash32}
use Rattle.id_rules.specs.Ids.{wtxid}
use Rattle.wire_rules.specs.declared.message.Message.{Message}
use Rattle.wire_rules.specs.declared.message.Message.TheVariants as message
use Rattle.pool_rules.specs.Pools.{Transaction, AreDistinctIds}
use Rattle.node_rules.specs.Handshake.{opening_messages}
use Rattle.node_rules.specs.Steps.{count_of, on_start}
use Rattle.node_rules.specs.declared.config.Config.{Config}
use Rattle.pair_rules.specs.World.{World, Effect, ArePair, IsScript, opening_world, run, effect_of, has_end}
use Rattle.pair_rules.specs.declared.event.Event.{Event}
use Rattle.pair_rules.specs.declared.event.Event.TheVariants as event

-- ---- messages by what they are for

unfoldable pub is_of_handshake : Message → Bool
is_of_handshake (message.Version v) = true
is_of_handshake message.Verack = true
is_of_handshake message.WtxidRelay = true
is_of_handshake (message.SendTxRcncl version salt) = true
is_of_handshake other = false

-- neither of the handshake nor a transaction
unfoldable pub is_of_rounds : Message → Bool
is_of_rounds (message.Version v) = false
is_of_rounds message.Verack = false
is_of_rounds message.WtxidRelay = false
is_of_rounds (message.SendTxRcncl version salt) = false
is_of_rounds (message.Tx tx) = false
is_of_rounds other = true

unfoldable pub is_notfound : Message → Bool
is_notfound (message.NotFound es) = true
is_notfound other = false

unfoldable pub transaction_ids_of : Message → List Hash32
transaction_ids_of (message.Tx tx) = wtxid tx ∷ []
transaction_ids_of other = []

-- the ids of the transactions sent
abbrev pub transaction_ids : List Message → List Hash32
transaction_ids ms = flat_map transaction_ids_of ms

-- ---- what two new nodes have sent

-- all messages of both sides, with what new nodes have to send
abbrev pub all_messages : Config → Config → Effect → List Message
all_messages c d x = (opening_messages c ++ x.by_a) ++ (opening_messages d ++ x.by_b)

-- how many rounds an event begins
unfoldable pub rounds_of_event : World → Event → ℕ
rounds_of_event w event.Round = count_of (on_start w.a).begun
rounds_of_event w other = 0

unfoldable pub rounds_unless_ended : Bool → ℕ → ℕ
rounds_unless_ended true n = 0
rounds_unless_ended false n = n

-- and a script, up to the event in which a node ends
unfoldable pub rounds_of_script : List Event → World → ℕ
rounds_of_script [] w = 0
rounds_of_script (e ∷ es) w = rounds_unless_ended (has_end w) (rounds_of_event w e + rounds_of_script es (effect_of w e).world)

-- the most messages of a round besides `tx`, at a level: `reqrecon`, `sketch`, `reconcildiff`, `inv` and `getdata` of each
-- side, `ping` and `pong`, and two more for each extension
abbrev pub round_messages : ℕ → ℕ
round_messages level = 9 + 2 * level

-- the messages of both sides at a level, where so many rounds were begun
pub record AreBounded (level : ℕ) (sent : List Message) (begun : ℕ) : Type 0 where
  pub handshake : length (filter is_of_handshake sent) ≤ 8
  pub rounds : length (filter is_of_rounds sent) ≤ round_messages level * begun
  pub once : AreDistinctIds (transaction_ids sent)
  pub all_found : filter is_notfound sent ≡ []

-- both sides together send at most 8 messages of the handshake, at most 11 others than transactions for each round begun, or
-- 13 where both offer the second level, each transaction at most once over both directions, and no `notfound`
abbrev pub MessagesAreBounded : Type 0
MessagesAreBounded =
    (c d : Config) (p q : List Transaction) (script : List Event) → ArePair c d p q → IsScript script
    → AreBounded (min c.top d.top) (all_messages c d (run (opening_world c d p q) script)) (rounds_of_script script (opening_world c d p q))
