-- A node behind the handshake has noted the other's offer, and isn't plain.
use Rattle.std.proofs.Common.{◌≡◌, Bool, true, false, List, [], ◌∷◌, refl, sym, ap, ◌∙◌}
use Rattle.wire_rules.specs.declared.message.Message.{Message}
use Rattle.node_rules.specs.State.{NodeState}
use Rattle.pair_invariant_rules.specs.Pairs.{Pair}
use Rattle.pair_invariant_rules.specs.Topics.{Topic, Handshakes, topic_of, is_handshake, is_round}
use Rattle.pair_invariant_rules.specs.Handshake.{Rest, WholeRest, FromOffer, VerackAlone, NoRest, rest_messages, noted_peer, Met, Past, stage_of, stage_by_rest, IsHalfHandshake, HasHandshake, Calling, Replying, Introducing}
use Rattle.pair_invariant_laws.proofs.PlainTalk.{not_new, not_met}

pub record Known (s other : NodeState) : Type 0 where
  pub stage : stage_of s.machine.phase ≡ Past
  pub peer : s.peer ≡ noted_peer NoRest other.config
  pub whole : s.plain ≡ false

over_past : (l own : Rest) (sender reader : NodeState) (way : List Message) → IsHalfHandshake l own sender reader way → stage_of reader.machine.phase ≡ Past → Known reader sender
unfolding stage_by_rest
over_past NoRest own sender reader way h past = record { stage = past; peer = h.peer; whole = h.whole }
over_past WholeRest own sender reader way h past = absurd (let apart : Met ≡ Past = sym h.stage ∙ past in cc)
over_past FromOffer own sender reader way h past = absurd (let apart : Met ≡ Past = sym h.stage ∙ past in cc)
over_past VerackAlone own sender reader way h past = absurd (let apart : Met ≡ Past = sym h.stage ∙ past in cc)

pub known_a : (p : Pair) → HasHandshake p → stage_of p.a.machine.phase ≡ Past → Known p.a p.b
known_a p (Calling c) past = absurd (not_new p.a.machine.phase c.a.phase past)
known_a p (Replying c) past = absurd (not_new p.a.machine.phase c.a.phase past)
known_a p (Introducing l k h g) past = over_past k l p.b p.a p.to_a g past

pub known_b : (p : Pair) → HasHandshake p → stage_of p.b.machine.phase ≡ Past → Known p.b p.a
known_b p (Calling c) past = absurd (not_new p.b.machine.phase c.b.phase past)
known_b p (Replying c) past = absurd (not_met p.b.machine.phase c.b_phase past)
known_b p (Introducing l k h g) past = over_past l k p.a p.b p.to_b h past

-- a node to which a message of no handshake comes first is behind it
abbrev FirstTalk : List Message → Bool
FirstTalk [] = true
FirstTalk (m ∷ ms) = is_handshake (topic_of m)

half_past : (l own : Rest) (sender reader : NodeState) (way : List Message) → IsHalfHandshake l own sender reader way → FirstTalk way ≡ false → stage_of reader.machine.phase ≡ Past
unfolding stage_by_rest rest_messages topic_of is_handshake
half_past NoRest own sender reader way h talk = h.stage
half_past WholeRest own sender reader way h talk = absurd (let apart : true ≡ false = sym (ap FirstTalk h.carries) ∙ talk in cc)
half_past FromOffer own sender reader way h talk = absurd (let apart : true ≡ false = sym (ap FirstTalk h.carries) ∙ talk in cc)
half_past VerackAlone own sender reader way h talk = absurd (let apart : true ≡ false = sym (ap FirstTalk h.carries) ∙ talk in cc)

round_talk : (t : Topic) → is_round t ≡ true → is_handshake t ≡ false
unfolding is_round is_handshake
round_talk Handshakes h = absurd (cc)
round_talk _ h = refl

pub told_past : (p : Pair) (m : Message) (ms : List Message) → HasHandshake p → p.to_b ≡ m ∷ ms → is_round (topic_of m) ≡ true → stage_of p.b.machine.phase ≡ Past
unfolding topic_of is_handshake
told_past p m ms (Calling c) e round = absurd (let apart : true ≡ false = sym (ap FirstTalk c.to_b) ∙ (ap FirstTalk e ∙ round_talk (topic_of m) round) in cc)
told_past p m ms (Replying c) e round = absurd (let apart : [] ≡ m ∷ ms = sym c.to_b ∙ e in cc)
told_past p m ms (Introducing l k h g) e round = half_past l k p.a p.b p.to_b h (ap FirstTalk e ∙ round_talk (topic_of m) round)

-- ---- the same for both sides, at any message that is no handshake's

pub talk_past_b : (p : Pair) (m : Message) (ms : List Message) → HasHandshake p → p.to_b ≡ m ∷ ms → is_handshake (topic_of m) ≡ false → stage_of p.b.machine.phase ≡ Past
unfolding topic_of is_handshake
talk_past_b p m ms (Calling c) e talk = absurd (let apart : true ≡ false = sym (ap FirstTalk c.to_b) ∙ (ap FirstTalk e ∙ talk) in cc)
talk_past_b p m ms (Replying c) e talk = absurd (let apart : [] ≡ m ∷ ms = sym c.to_b ∙ e in cc)
talk_past_b p m ms (Introducing l k h g) e talk = half_past l k p.a p.b p.to_b h (ap FirstTalk e ∙ talk)

pub talk_past_a : (p : Pair) (m : Message) (ms : List Message) → HasHandshake p → p.to_a ≡ m ∷ ms → is_handshake (topic_of m) ≡ false → stage_of p.a.machine.phase ≡ Past
unfolding topic_of is_handshake
talk_past_a p m ms (Calling c) e talk = absurd (let apart : [] ≡ m ∷ ms = sym c.to_a ∙ e in cc)
talk_past_a p m ms (Replying c) e talk = absurd (let apart : true ≡ false = sym (ap FirstTalk c.to_a) ∙ (ap FirstTalk e ∙ talk) in cc)
talk_past_a p m ms (Introducing l k h g) e talk = half_past k l p.b p.a p.to_a g (ap FirstTalk e ∙ talk)
