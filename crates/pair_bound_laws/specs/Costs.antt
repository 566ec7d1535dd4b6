-- How many messages a pair may still send: what each message on the way, and each node, may lead to.
use Rattle.std.specs.Prelude.{ℕ, ◌+◌, ◌*◌, ◌-◌, ◌||◌, Bool, true, false, List, [], ◌∷◌, Some, None}
use Rattle.std.specs.declared.option.Option.{Option}
use Rattle.wire_rules.specs.declared.message.Message.{Message}
use Rattle.wire_rules.specs.declared.message.Message.TheVariants as message
use Rattle.wire_rules.specs.declared.phase.Phase.{Phase}
use Rattle.wire_rules.specs.declared.phase.Phase.TheVariants as phase
use Rattle.node_rules.specs.Stages.{requested_extensions}
use Rattle.node_rules.specs.Barrier.{is_barrier}
use Rattle.node_rules.specs.State.{Machine, extensions_allowed}
use Rattle.node_rules.specs.declared.config.Role.{Role}
use Rattle.node_rules.specs.declared.config.Role.TheVariants as role

unfoldable pub total_weight : (Message → ℕ) → List Message → ℕ
total_weight f [] = 0
total_weight f (m ∷ ms) = f m + total_weight f ms

-- ---- kinds of messages, each as 1 or 0

unfoldable pub handshake_weight : Message → ℕ
handshake_weight (message.Version v) = 1
handshake_weight message.Verack = 1
handshake_weight message.WtxidRelay = 1
handshake_weight (message.SendTxRcncl version salt) = 1
handshake_weight _ = 0

unfoldable pub rounds_weight : Message → ℕ
rounds_weight (message.ReqRecon size q) = 1
rounds_weight (message.Sketch bytes) = 1
rounds_weight message.ReqSketchExt = 1
rounds_weight (message.ReconcilDiff success asks) = 1
rounds_weight (message.Ping n) = 1
rounds_weight (message.Pong n) = 1
rounds_weight (message.Inv es) = 1
rounds_weight (message.GetData es) = 1
rounds_weight _ = 0

unfoldable pub request_weight : Message → ℕ
request_weight (message.ReqRecon size q) = 1
request_weight _ = 0

unfoldable pub inv_weight : Message → ℕ
inv_weight (message.Inv es) = 1
inv_weight _ = 0

unfoldable pub getdata_weight : Message → ℕ
getdata_weight (message.GetData es) = 1
getdata_weight _ = 0

unfoldable pub tx_weight : Message → ℕ
tx_weight (message.Tx tx) = 1
tx_weight _ = 0

-- talk that asks for nothing
unfoldable pub unasking_weight : Message → ℕ
unasking_weight (message.ReqRecon size q) = 1
unasking_weight (message.Sketch bytes) = 1
unasking_weight message.ReqSketchExt = 1
unasking_weight (message.ReconcilDiff success asks) = 1
unasking_weight (message.Ping n) = 1
unasking_weight (message.Pong n) = 1
unasking_weight (message.Inv es) = 1
unasking_weight _ = 0

-- ---- what is still to be sent

unfoldable pub other_role : Role → Role
other_role role.Opener = role.Accepter
other_role role.Accepter = role.Opener

unfoldable pub owed_for_inv : Role → ℕ
owed_for_inv role.Opener = 0
owed_for_inv role.Accepter = 1

-- how many messages a reader of this role answers a message with at most, where its own state doesn't count them
unfoldable pub owed_messages : Role → Message → ℕ
owed_messages r (message.ReqRecon size q) = 1
owed_messages r message.ReqSketchExt = 1
owed_messages r (message.ReconcilDiff success asks) = 1
owed_messages r (message.Ping n) = 1
owed_messages r (message.Inv es) = owed_for_inv r
owed_messages r _ = 0

-- an opener that has asked for n extensions of most: for each that is left the request and the answer's sketch, and then
-- the difference, its announcement, the ping, what is asked for on both sides, the other announcement and the pong
unfoldable pub remaining_by_extensions : Option ℕ → ℕ → ℕ
remaining_by_extensions (Some n) most = 7 + 2 * (most - n)
remaining_by_extensions None most = 0

unfoldable pub remaining_at_barrier : Bool → ℕ
remaining_at_barrier true = 1
remaining_at_barrier false = 0

abbrev pub opener_remaining : Machine → ℕ
opener_remaining m = remaining_by_extensions (requested_extensions m.phase) (extensions_allowed m) + remaining_at_barrier (is_barrier m.phase)

unfoldable pub remaining_messages : Role → Machine → ℕ
remaining_messages role.Opener m = opener_remaining m
remaining_messages role.Accepter m = 0

-- what is left of a node's side of the handshake
unfoldable pub remaining_handshake : Role → Phase → ℕ
remaining_handshake role.Opener phase.Greeting = 3
remaining_handshake role.Accepter phase.Greeting = 4
remaining_handshake r _ = 0

-- ---- announcements behind the last ping

unfoldable pub is_ping : Message → Bool
is_ping (message.Ping n) = true
is_ping _ = false

unfoldable pub has_ping : List Message → Bool
has_ping [] = false
has_ping (m ∷ ms) = is_ping m || has_ping ms

unfoldable pub unpinged_inv_by : Bool → Message → ℕ
unpinged_inv_by true m = 0
unpinged_inv_by false m = inv_weight m

-- how many announcements have no ping behind them
unfoldable pub unpinged_invs : List Message → ℕ
unpinged_invs [] = 0
unpinged_invs (m ∷ ms) = unpinged_inv_by (has_ping ms) m + unpinged_invs ms

unfoldable pub unpinged_invs_of : Role → List Message → ℕ
unpinged_invs_of role.Opener ms = unpinged_invs ms
unpinged_invs_of role.Accepter ms = 0

-- ---- messages that nodes send: inventories have entries, and all commands are known

unfoldable pub HasEntries : Message → Type 0
HasEntries (message.Inv []) = ⊥
HasEntries (message.GetData []) = ⊥
HasEntries (message.Other command payload) = ⊥
HasEntries _ = Unit {0}

pub record IsFilled (m : Message) : Type 0 where
  pub filled : HasEntries m
