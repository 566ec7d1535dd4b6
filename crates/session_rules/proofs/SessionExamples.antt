-- Worked examples of sessions: what the pieces of a peer make of a new node.
use Rattle.std.proofs.Common.{◌≡◌, ℕ, List, [], ◌∷◌, ◌++◌, refl, true, false, Some, length, take, drop, lit<, lit≤}
use Rattle.id_rules.proofs.Samples.{from_digits}
use Rattle.std.specs.Prelude.{codes}
use Rattle.wire_rules.specs.Layout.{wire_bytes}
use Rattle.wire_rules.specs.declared.message.Message.TheVariants as message
use Rattle.wire_rules.specs.declared.name.Name.TheVariants as name
use Rattle.wire_rules.specs.declared.phase.Phase.TheVariants as phase
use Rattle.wire_rules.proofs.Samples.{magic}
use Rattle.node_rules.specs.declared.end.End.TheVariants as end
use Rattle.link_rules.specs.Links.{new_link}
use Rattle.node_rules.specs.State.{NodeState}
use Rattle.node_rules.specs.declared.config.Config.{Config}
use Rattle.node_rules.specs.declared.config.Role.TheVariants as role
use Rattle.node_rules.proofs.Samples.{config_of, new_opener, new_accepter, introduced}
use Rattle.session_rules.specs.declared.session_end.SessionEnd.TheVariants as session_end
use Rattle.session_rules.specs.Session.{Session, IsSession, IsAnsweredFor, AreInTime, session_start, after_pieces, is_done}
use Rattle.session_rules.proofs.Samples.{sessioning}

-- a new opener has given its version, of 119 bytes, and a new accepter nothing
opener_gives : length (session_start (new_opener [])).given ≡ 119
unfolding sessioning
opener_gives = refl

accepter_gives : (session_start (new_accepter [])).given ≡ []
unfolding sessioning
accepter_gives = refl

-- where nothing comes, an accepter isn't done when its input ends: it is in Greeting
silent : is_done true 0 (session_start (new_accepter [])) ≡ false
unfolding sessioning
silent = refl

-- behind the peer's whole handshake it is
greeted : is_done true 0 (after_pieces 0 (session_start (new_accepter [])) (wire_bytes magic (introduced 1) ∷ [])) ≡ true
unfolding sessioning
greeted = refl

-- a `verack` at once ends it
verack_first : (after_pieces 0 (session_start (new_accepter [])) (from_digits (codes "f9beb4d976657261636b000000000000000000005df6e0e2") ∷ [])).state.ended ≡ Some (end.Handshake name.Verack)
unfolding sessioning
verack_first = refl

-- the pieces of an accepter's handshake, cut in the middle, and the session of an opener of one round that takes them: the
-- round begins with the last byte
abbrev cut : List (List ℕ)
cut = take 100 (wire_bytes magic (introduced 2)) ∷ drop 100 (wire_bytes magic (introduced 2)) ∷ []

abbrev opened : Session
opened = after_pieces 1 (session_start (new_opener [])) cut

begun : opened.begun ≡ 1
unfolding sessioning
begun = refl

asked : opened.state.machine.phase ≡ phase.Waiting
unfolding sessioning
asked = refl

not_done : is_done false 1 opened ≡ false
unfolding sessioning
not_done = refl

-- it has given its version, its introduction and the request
gives : opened.given ≡ wire_bytes magic (introduced 1 ++ message.ReqRecon 0 8192 ∷ [])
unfolding sessioning
gives = refl

-- a round without a sketch, and its pong: then it is done
ended_round : is_done false 1 (after_pieces 1 (session_start (new_opener [])) (cut ++ wire_bytes magic (message.Sketch [] ∷ []) ∷ wire_bytes magic (message.Pong 1 ∷ []) ∷ [])) ≡ true
unfolding sessioning
ended_round = refl

-- what was sent before the first piece: the version, and no more
in_time : AreInTime 1 (session_start (new_opener [])) (record { bytes = take 100 (wire_bytes magic (introduced 2)); sent_before = 119 } ∷ [])
unfolding sessioning
in_time = (record { sent = refl; unended = refl; undone = refl; least = lit< tt; most = lit≤ tt }, tt)

-- ---- whole sessions of an accepter, with their answers

abbrev accepter_config : Config
accepter_config = config_of role.Accepter 2

-- nothing comes: the input ends in Greeting
silent_session : IsSession 0 accepter_config [] (new_link [] []) (record (new_link [] []) { input_ended = true })
    (record { state = new_accepter []; outbox = []; out_of_memory = false }) (session_end.Truncated phase.Greeting)
unfolding sessioning IsAnsweredFor
silent_session = record {
  state = refl;
  given = refl;
  in_time = tt;
  received = refl;
  most = lit≤ tt;
  calls = refl;
  cause = record { undone = record { unended = refl; undone = refl; sent = refl }; input = refl; phase = refl; below = lit< tt };
}

-- a `verack` comes first: the node ends in it, and nothing was sent
abbrev verack_bytes : List ℕ
verack_bytes = from_digits (codes "f9beb4d976657261636b000000000000000000005df6e0e2")

abbrev refused_node : NodeState
refused_node = record (new_accepter []) { ended = Some (end.Handshake name.Verack); inbox = record { unread = []; offset = 24 } }

refused_session : IsSession 0 accepter_config [] (new_link [] verack_bytes) (record (new_link [] []) { pieces = record { bytes = verack_bytes; sent_before = 0 } ∷ [] })
    (record { state = refused_node; outbox = []; out_of_memory = false }) (session_end.Refused (end.Handshake name.Verack))
unfolding sessioning IsAnsweredFor
refused_session = record {
  state = refl;
  given = refl;
  in_time = (record { sent = refl; unended = refl; undone = refl; least = lit< tt; most = lit≤ tt }, tt);
  received = refl;
  most = lit≤ tt;
  calls = refl;
  cause = record { ended = refl; front = []; refused = record { bytes = verack_bytes; sent_before = 0 }; pieces = refl; sent = refl };
}
