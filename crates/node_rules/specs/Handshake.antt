-- The handshake: `version`, `wtxidrelay` (BIP 339), `sendtxrcncl` (BIP 330) and `verack`, from each side.
use Rattle.std.specs.Prelude.{ℕ, ◌==◌, int_lt, min, Bool, true, false, List, [], ◌∷◌, replicate, pos, is_some, codes, Some, None}
use Rattle.std.specs.declared.option.Option.{Option}
use Rattle.id_rules.specs.Ids.{keys_of}
use Rattle.wire_rules.specs.Commands.{name_of}
use Rattle.wire_rules.specs.declared.message.VersionMsg.{VersionMsg}
use Rattle.wire_rules.specs.declared.message.Message.{Message}
use Rattle.wire_rules.specs.declared.message.Message.TheVariants as message
use Rattle.wire_rules.specs.declared.name.Name.{Name}
use Rattle.wire_rules.specs.declared.name.Name.TheVariants as name
use Rattle.wire_rules.specs.declared.phase.Phase.TheVariants as phase
use Rattle.pool_rules.specs.Pools.{pool_ids}
use Rattle.pool_rules.specs.Snapshots.{Member, members}
use Rattle.node_rules.specs.State.{NodeState, Offer, Peer}
use Rattle.node_rules.specs.Turns.{Turn, unchanged, turn_with, refusal, handshake_refusal, inv_of}
use Rattle.node_rules.specs.declared.config.Config.{Config}
use Rattle.node_rules.specs.declared.config.Role.{Role}
use Rattle.node_rules.specs.declared.config.Role.TheVariants as role
use Rattle.node_rules.specs.declared.end.End.TheVariants as end

-- what a node says of itself
abbrev pub own_version : Config → VersionMsg
own_version c = record {
  version = pos 70016;
  services = 0;
  time = c.time;
  receiver = replicate 26 0;
  sender = replicate 26 0;
  nonce = c.nonce;
  agent = codes "/erlay:1/";
  height = pos 0;
  relay = Some 1;
}

-- what a node offers: its highest version of reconciliation, and its salt
abbrev pub own_offer : Config → Offer
own_offer c = record { version = c.top; salt = c.salt }

abbrev pub offer_message : Offer → Message
offer_message o = message.SendTxRcncl o.version o.salt

-- what a node says once the peer's `version` came
abbrev pub introduction : Config → List Message
introduction c = message.WtxidRelay ∷ offer_message (own_offer c) ∷ message.Verack ∷ []

-- what a new node has to send, and what it says before its introduction: the opener speaks first
unfoldable pub opening : Role → Config → List Message
opening role.Opener c = message.Version (own_version c) ∷ []
opening role.Accepter c = []

unfoldable pub reply : Role → Config → List Message
reply role.Opener c = introduction c
reply role.Accepter c = message.Version (own_version c) ∷ introduction c

abbrev pub opening_messages : Config → List Message
opening_messages c = opening c.role c

-- ---- the peer's version

-- whether a peer asks for no transactions
abbrev pub has_no_relay : Option ℕ → Bool
has_no_relay None = false
has_no_relay (Some relay) = relay == 0

abbrev pub greeted_state : NodeState → NodeState
greeted_state s = record s { machine = record s.machine { phase = phase.Greeted } }

-- by whether the peer is too old, and whether it asks for no transactions
unfoldable pub version_by : Bool → Bool → NodeState → VersionMsg → Turn
version_by true silent s v = refusal s (end.OldPeer v.version)
version_by false true s v = refusal s end.PeerNoRelay
version_by false false s v = turn_with (greeted_state s) (reply s.config.role s.config)

abbrev pub on_version : NodeState → VersionMsg → Turn
on_version s v = version_by (int_lt v.version (pos 70016)) (has_no_relay v.relay) s v

-- a message that doesn't belong here; one of another command is passed over
abbrev pub on_unexpected : NodeState → Option Name → Turn
on_unexpected s (Some n) = handshake_refusal s n
on_unexpected s None = unchanged s

-- before the peer's version
unfoldable pub in_greeting : NodeState → Message → Turn
in_greeting s (message.Version v) = on_version s v
in_greeting s (message.Ping n) = unchanged s
in_greeting s (message.Pong n) = unchanged s
in_greeting s other = on_unexpected s (name_of other)

-- ---- the rest of the peer's handshake

abbrev pub with_peer : NodeState → Peer → NodeState
with_peer s peer = record s { peer = peer }

abbrev pub on_wtxidrelay : NodeState → Turn
on_wtxidrelay s = unchanged (with_peer s (record s.peer { relays_by_id = true }))

-- by whether the version is 0, and whether one came before
unfoldable pub offer_by : Bool → Bool → NodeState → Offer → Turn
offer_by true again s offer = refusal s end.ZeroReconVersion
offer_by false true s offer = handshake_refusal s name.SendTxRcncl
offer_by false false s offer = unchanged (with_peer s (record s.peer { offer = Some offer }))

abbrev pub on_sendtxrcncl : NodeState → Offer → Turn
on_sendtxrcncl s offer = offer_by (offer.version == 0) (is_some s.peer.offer) s offer

-- the level of a connection: the lesser of the own highest version and the peer's, and 1 where nothing is reconciled. So a
-- version above the own one counts as that
unfoldable pub level_of : ℕ → Option Offer → ℕ
level_of top (Some offer) = min top offer.version
level_of top None = 1

-- the handshake is over, at this level: the node is plain or isn't, and has this set
abbrev pub after_handshake : NodeState → ℕ → Bool → List Member → NodeState
after_handshake s level plain set = record s { machine = record s.machine { phase = phase.Idle; level = level }; plain = plain; set = set }

-- by whether the peer relays by wtxid, and by its offer. A plain node announces all of its pool, and has no set; the set of
-- another is all of its pool
unfoldable pub verack_by : Bool → Option Offer → NodeState → Turn
verack_by false offer s = refusal s end.NoWtxidRelay
verack_by true None s = turn_with (after_handshake s (level_of s.config.top None) true []) (inv_of (pool_ids s.pool))
verack_by true (Some offer) s =
    unchanged (after_handshake s (level_of s.config.top (Some offer)) false (members (keys_of s.config.salt offer.salt) (pool_ids s.pool)))

abbrev pub on_verack : NodeState → Turn
on_verack s = verack_by s.peer.relays_by_id s.peer.offer s

-- behind the peer's version
unfoldable pub in_greeted : NodeState → Message → Turn
in_greeted s message.WtxidRelay = on_wtxidrelay s
in_greeted s (message.SendTxRcncl version salt) = on_sendtxrcncl s (record { version = version; salt = salt })
in_greeted s message.Verack = on_verack s
in_greeted s (message.Ping n) = unchanged s
in_greeted s (message.Pong n) = unchanged s
in_greeted s other = on_unexpected s (name_of other)
