-- The handshake of a pair in which no node has ended.
use Rattle.std.specs.Prelude.{◌≡◌, true, false, List, [], ◌∷◌, ◌++◌, Some, None}
use Rattle.std.specs.List.{AllByRecursion}
use Rattle.wire_rules.specs.declared.message.Message.{Message}
use Rattle.wire_rules.specs.declared.message.Message.TheVariants as message
use Rattle.wire_rules.specs.declared.phase.Phase.{Phase}
use Rattle.wire_rules.specs.declared.phase.Phase.TheVariants as phase
use Rattle.node_rules.specs.Handshake.{own_version, own_offer, offer_message, introduction}
use Rattle.node_rules.specs.State.{NodeState, Peer}
use Rattle.node_rules.specs.declared.config.Config.{Config}
use Rattle.pair_invariant_rules.specs.Pairs.{Pair}
use Rattle.pair_invariant_rules.specs.Topics.{IsRelayMessage}

-- what is left of an introduction to be read: all, all behind `wtxidrelay`, `verack` alone, or nothing
pub data Rest : Type 0 where
  WholeRest : Rest
  FromOffer : Rest
  VerackAlone : Rest
  NoRest : Rest

unfoldable pub rest_messages : Rest → Config → List Message
rest_messages WholeRest c = introduction c
rest_messages FromOffer c = offer_message (own_offer c) ∷ message.Verack ∷ []
rest_messages VerackAlone c = message.Verack ∷ []
rest_messages NoRest c = []

-- the reader has noted what was read, and nothing else
unfoldable pub noted_peer : Rest → Config → Peer
noted_peer WholeRest c = record { relays_by_id = false; offer = None }
noted_peer FromOffer c = record { relays_by_id = true; offer = None }
noted_peer VerackAlone c = record { relays_by_id = true; offer = Some (own_offer c) }
noted_peer NoRest c = record { relays_by_id = true; offer = Some (own_offer c) }

pub data Stage : Type 0 where
  New : Stage
  Met : Stage
  Past : Stage

unfoldable pub stage_of : Phase → Stage
stage_of phase.Greeting = New
stage_of phase.Greeted = Met
stage_of other = Past

unfoldable pub stage_by_rest : Rest → Stage
stage_by_rest NoRest = Past
stage_by_rest other = Met

-- behind its introduction a side sends nothing until it has read the peer's, and then nothing of the handshake
unfoldable pub IsBehindIntroduction : Rest → List Message → Type 0
IsBehindIntroduction NoRest ms = AllByRecursion IsRelayMessage ms
IsBehindIntroduction other ms = ms ≡ []

-- one direction, once both versions were read: what is left for the reader, and for the sender on its own side
pub record IsHalfHandshake (left own : Rest) (sender reader : NodeState) (way : List Message) : Type 0 where
  pub stage : stage_of reader.machine.phase ≡ stage_by_rest left
  pub peer : reader.peer ≡ noted_peer left sender.config
  pub whole : reader.plain ≡ false
  pub later : List Message
  pub carries : way ≡ rest_messages left sender.config ++ later
  pub after : IsBehindIntroduction own later

-- a node to which nothing came
pub record IsNew (s : NodeState) : Type 0 where
  pub phase : s.machine.phase ≡ phase.Greeting
  pub peer : s.peer ≡ record { relays_by_id = false; offer = None }
  pub whole : s.plain ≡ false

-- the opener's `version` is on the way
pub record IsCalling (p : Pair) : Type 0 where
  pub a : IsNew p.a
  pub b : IsNew p.b
  pub to_b : p.to_b ≡ message.Version (own_version p.a.config) ∷ []
  pub to_a : p.to_a ≡ []

-- the accepter's `version` and introduction are on the way
pub record IsReplying (p : Pair) : Type 0 where
  pub a : IsNew p.a
  pub b_phase : p.b.machine.phase ≡ phase.Greeted
  pub b_peer : p.b.peer ≡ record { relays_by_id = false; offer = None }
  pub b_whole : p.b.plain ≡ false
  pub to_b : p.to_b ≡ []
  pub to_a : p.to_a ≡ message.Version (own_version p.b.config) ∷ introduction p.b.config

pub data HasHandshake (p : Pair) : Type 0 where
  Calling : IsCalling p → HasHandshake p
  Replying : IsReplying p → HasHandshake p
  -- what is left for b, and for a
  Introducing : (for_b for_a : Rest) → IsHalfHandshake for_b for_a p.a p.b p.to_b → IsHalfHandshake for_a for_b p.b p.a p.to_a → HasHandshake p
