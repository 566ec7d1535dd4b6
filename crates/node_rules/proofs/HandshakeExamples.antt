-- Worked examples of the handshake: both ways, and each refusal.
use Rattle.std.proofs.Common.{◌≡◌, ℕ, List, [], ◌∷◌, ◌++◌, refl, true, pos, Some, None, replicate, take}
use Rattle.std.specs.Prelude.{codes}
use Rattle.id_rules.specs.Ids.{keys_of}
use Rattle.id_rules.proofs.Samples.{from_digits}
use Rattle.wire_rules.specs.Layout.{wire_bytes}
use Rattle.wire_rules.specs.declared.faults.PayloadKind.TheVariants as payload
use Rattle.wire_rules.specs.declared.frame.FrameFault.TheVariants as frame
use Rattle.wire_rules.specs.declared.message.Message.{Message}
use Rattle.wire_rules.specs.declared.message.Message.TheVariants as message
use Rattle.wire_rules.specs.declared.message.VersionMsg.{VersionMsg}
use Rattle.wire_rules.specs.declared.name.Name.TheVariants as name
use Rattle.wire_rules.specs.declared.phase.Phase.TheVariants as phase
use Rattle.wire_rules.proofs.Samples.{magic}
use Rattle.pool_rules.specs.Snapshots.{members}
use Rattle.node_rules.specs.Handshake.{own_version, introduction, opening_messages}
use Rattle.node_rules.specs.State.{opening_state}
use Rattle.node_rules.specs.Steps.{on_messages, on_piece}
use Rattle.node_rules.specs.Turns.{inv_of}
use Rattle.node_rules.specs.declared.config.Role.TheVariants as role
use Rattle.node_rules.specs.declared.end.End.TheVariants as end
use Rattle.node_rules.proofs.Samples.{stepping, receiving, config_of, config_with, new_opener, new_accepter, hello, abc, introduced, end_of, sent_for}

abbrev v : Message
v = message.Version (own_version (config_of role.Opener 1))

abbrev changed : VersionMsg → Message
changed m = message.Version m

abbrev w : Message
w = message.WtxidRelay

abbrev s : Message
s = message.SendTxRcncl 2 1

abbrev k : Message
k = message.Verack

-- ---- both ways

-- the opener speaks first, the accepter doesn't
opener_first : opening_messages (config_of role.Opener 1) ≡ v ∷ []
unfolding stepping
opener_first = refl

accepter_waits : opening_messages (config_of role.Accepter 2) ≡ []
unfolding stepping
accepter_waits = refl

-- an accepter answers the peer's version with its own and its introduction, and has all of its pool as its set in the end
accepter_says : sent_for (new_accepter (hello ∷ [])) (introduced 1) ≡ message.Version (own_version (config_of role.Accepter 2)) ∷ w ∷ message.SendTxRcncl 2 2 ∷ k ∷ []
unfolding stepping
accepter_says = refl

accepter_through : (on_messages (new_accepter (hello ∷ [])) (introduced 1)).state ≡ record (new_accepter (hello ∷ [])) {
  machine = record (new_accepter []).machine { phase = phase.Idle; level = 2 };
  set = members (keys_of 1 2) (hello.id ∷ []);
  peer = record { relays_by_id = true; offer = Some (record { version = 2; salt = 1 }) };
}
unfolding stepping
accepter_through = refl

-- an opener answers with its introduction
opener_says : sent_for (new_opener []) (introduced 2) ≡ w ∷ s ∷ k ∷ []
unfolding stepping
opener_says = refl

-- without `sendtxrcncl` a node is plain: it has no set, and announces all of its pool
plain : on_messages (new_accepter (hello ∷ abc ∷ [])) (v ∷ w ∷ k ∷ []) ≡ record {
  state = record (new_accepter (hello ∷ abc ∷ [])) {
    machine = record (new_accepter []).machine { phase = phase.Idle };
    plain = true;
    peer = record { relays_by_id = true; offer = None };
  };
  out = message.Version (own_version (config_of role.Accepter 2)) ∷ introduction (config_of role.Accepter 2) ++ inv_of (hello.id ∷ abc.id ∷ []);
}
unfolding stepping
plain = refl

-- the level is the lesser of both highest versions. A version above the own one counts as that
abbrev level_with : ℕ → ℕ → ℕ
level_with own peers = (on_messages (opening_state (config_with own role.Accepter 2) []) (v ∷ w ∷ message.SendTxRcncl peers 1 ∷ k ∷ [])).state.machine.level

levels : (level_with 1 1 ≡ 1) × (level_with 1 2 ≡ 1) × (level_with 2 1 ≡ 1) × (level_with 2 2 ≡ 2) × (level_with 2 3 ≡ 2)
unfolding stepping
levels = (refl, refl, refl, refl, refl)

-- pings and messages of other commands are passed over before the end of the handshake; a repeated `wtxidrelay` is too
passed_over : end_of (new_accepter []) (message.Ping 1 ∷ message.Other (codes "feefilter" ++ replicate 3 0) [] ∷ v ∷ message.Pong 1 ∷ w ∷ w ∷ message.Ping 2 ∷ s ∷ k ∷ []) ≡ None
unfolding stepping
passed_over = refl

-- ---- refusals

-- an old version comes before a relay byte 0
old_peer : end_of (new_accepter []) (changed (record (own_version (config_of role.Opener 1)) { version = pos 70015; relay = Some 0 }) ∷ []) ≡ Some (end.OldPeer (pos 70015))
unfolding stepping
old_peer = refl

no_relay : end_of (new_accepter []) (changed (record (own_version (config_of role.Opener 1)) { relay = Some 0 }) ∷ []) ≡ Some end.PeerNoRelay
unfolding stepping
no_relay = refl

-- an absent relay byte counts as 1
absent_relay : end_of (new_accepter []) (changed (record (own_version (config_of role.Opener 1)) { relay = None }) ∷ []) ≡ None
unfolding stepping
absent_relay = refl

wtxidrelay_first : end_of (new_accepter []) (w ∷ []) ≡ Some (end.Handshake name.WtxidRelay)
unfolding stepping
wtxidrelay_first = refl

-- a version 0 of reconciliation comes before a repeat
zero_version : end_of (new_accepter []) (v ∷ s ∷ message.SendTxRcncl 0 1 ∷ []) ≡ Some end.ZeroReconVersion
unfolding stepping
zero_version = refl

offered_again : end_of (new_accepter []) (v ∷ s ∷ s ∷ []) ≡ Some (end.Handshake name.SendTxRcncl)
unfolding stepping
offered_again = refl

no_wtxidrelay : end_of (new_accepter []) (v ∷ k ∷ []) ≡ Some end.NoWtxidRelay
unfolding stepping
no_wtxidrelay = refl

transaction_too_early : end_of (new_accepter []) (v ∷ message.Tx (1 ∷ []) ∷ []) ≡ Some (end.Handshake name.Tx)
unfolding stepping
transaction_too_early = refl

-- a plain node takes part in no round
plain_reqrecon : end_of (new_accepter []) (v ∷ w ∷ k ∷ message.ReqRecon 0 0 ∷ []) ≡ Some (end.Misplaced name.ReqRecon phase.Idle)
unfolding stepping
plain_reqrecon = refl

version_again : end_of (new_accepter []) (v ∷ w ∷ s ∷ k ∷ v ∷ []) ≡ Some (end.Handshake name.Version)
unfolding stepping
version_again = refl

sketch_to_accepter : end_of (new_accepter []) (introduced 1 ++ message.Sketch [] ∷ []) ≡ Some (end.Misplaced name.Sketch phase.Idle)
unfolding stepping
sketch_to_accepter = refl

-- ---- in bytes: the handshake has 203 of them

-- behind it the header of a `tx` of 4,000,001 bytes is refused once its 24 bytes are there. Neither frame that follows has
-- to be whole, and what was unread is dropped
abbrev too_long_header : List ℕ
too_long_header = from_digits (codes "f9beb4d9747800000000000000000000" ++ codes "01093d0000000000")

too_long : (on_piece (new_accepter []) (wire_bytes magic (introduced 1) ++ too_long_header)).state.ended ≡ Some (end.Frame (frame.TooLong 203 4000001))
unfolding receiving
too_long = refl

too_long_drops : (on_piece (new_accepter []) (wire_bytes magic (introduced 1) ++ too_long_header)).state.inbox.unread ≡ []
unfolding receiving
too_long_drops = refl

waits_for_header : (on_piece (new_accepter []) (wire_bytes magic (introduced 1) ++ take 23 too_long_header)).state.ended ≡ None
unfolding receiving
waits_for_header = refl

-- a `sketch` whose count takes too many bytes is refused for its payload, before it is judged by the phase
not_minimal : (on_piece (new_accepter []) (wire_bytes magic (introduced 1) ++ from_digits (codes "f9beb4d9736b6574636800000000000007000000784d7a22fd040000000000"))).state.ended ≡ Some (end.Payload (record { command = name.Sketch; at = 0; kind = payload.NotMinimal }))
unfolding receiving
not_minimal = refl

-- an ended node takes no more
ended_stays : on_piece (record (new_accepter []) { ended = Some end.PoolFull }) (1 ∷ []) ≡ record { state = record (new_accepter []) { ended = Some end.PoolFull }; out = [] }
unfolding receiving
ended_stays = refl
