-- What the invariant says where nothing is on the way.
use Rattle.std.proofs.Common.{◌≡◌, ℕ, ◌+◌, ◌%◌, ◌^◌, Bool, true, false, List, [], ◌∷◌, ◌++◌, length, refl, sym, ap, ap₂, ◌∙◌, subst, append-nil, add-zero}
use Rattle.std.specs.List.{AllByRecursion}
use Rattle.wire_rules.specs.Layout.{frame_of, wire_bytes, message_bytes}
use Rattle.wire_rules.specs.Limits.{IsMessage}
use Rattle.wire_rules.specs.Stream.{WholeFrame, PartialFrame, front_of}
use Rattle.wire_rules.specs.declared.message.Message.{Message}
use Rattle.wire_rules.specs.declared.phase.Phase.{Phase}
use Rattle.wire_rules.specs.declared.phase.Phase.TheVariants as phase
use Rattle.stream_laws.proofs.Fronts.{front_of-frame}
use Rattle.wire_laws.proofs.Sound.{frame_of-sound}
use Rattle.pool_rules.specs.Pools.{pool_ids}
use Rattle.node_rules.specs.Barrier.{is_barrier}
use Rattle.node_rules.specs.State.{NodeState, Inbox, Round, open_wants}
use Rattle.node_rules.specs.declared.config.Role.TheVariants as role
use Rattle.pair_rules.specs.Rounds.{EachRound}
use Rattle.pair_invariant_rules.specs.Announcements.{AreAnnouncements}
use Rattle.node_rules.specs.Invariant.{is_fetching}
use Rattle.pair_invariant_rules.specs.Pairs.{Pair, AreOnTheWay}
use Rattle.pair_invariant_rules.specs.Handshake.{Rest, WholeRest, FromOffer, VerackAlone, NoRest, rest_messages, Past, stage_of, stage_by_rest, IsHalfHandshake, HasHandshake, Calling, Replying, Introducing}
use Rattle.pair_invariant_rules.specs.Rounds.{RoundCase, Resting, Requested, Sketched, Extending, Resolved, Pinged, Ponged, is_at_rest, IsOpenerIn, IsAccepterIn, round_messages_to_b, round_messages_to_a, IsInCase, AreAgreed, coming_reports, unreported_rounds, HasReports, HasRound, keys_of_pair}
use Rattle.pair_invariant_rules.specs.Topics.{messages_of_rounds}
use Rattle.pair_invariant_rules.specs.Wants.{AreMutualWants, AreWantsOf, carried_transactions, requested_ids}

-- ---- bytes

-- no wire and no whole message is no message at all
pub drained_way : (magic : List ℕ) (received : Inbox) (ms : List Message) → length magic ≡ 4 → AllByRecursion IsMessage ms → AreOnTheWay magic received [] ms → (ms ≡ []) × (received.unread ≡ [])
drained_way magic received [] four each way = (refl, sym (append-nil received.unread) ∙ way.whole)
drained_way magic received (m ∷ ms) four each way =
    let whole : front_of magic 0 (message_bytes magic m ++ wire_bytes magic ms) ≡ WholeFrame (frame_of m) (24 + length (frame_of m).payload) = front_of-frame magic 0 (frame_of m) (wire_bytes magic ms) four (frame_of-sound m each.0) in
    let bytes : received.unread ≡ message_bytes magic m ++ wire_bytes magic ms = sym (append-nil received.unread) ∙ way.whole in
    absurd (let apart : PartialFrame ≡ WholeFrame (frame_of m) (24 + length (frame_of m).payload) = sym way.partial.front ∙ (ap (front_of magic 0) bytes ∙ whole) in cc)

-- ---- the handshake

over_half : (l own : Rest) (sender reader : NodeState) → IsHalfHandshake l own sender reader [] → stage_of reader.machine.phase ≡ Past
unfolding rest_messages stage_by_rest
over_half NoRest own sender reader h = h.stage
over_half WholeRest own sender reader h = absurd (let e = h.carries in cc)
over_half FromOffer own sender reader h = absurd (let e = h.carries in cc)
over_half VerackAlone own sender reader h = absurd (let e = h.carries in cc)

-- both have left the handshake
pub drained_past : (p : Pair) → p.to_a ≡ [] → p.to_b ≡ [] → HasHandshake p → (stage_of p.a.machine.phase ≡ Past) × (stage_of p.b.machine.phase ≡ Past)
drained_past p a b (Calling c) = absurd (let e = sym c.to_b ∙ b in cc)
drained_past p a b (Replying c) = absurd (let e = sym c.to_a ∙ a in cc)
drained_past p a b (Introducing l k h g) = (over_half k l p.b p.a (subst (IsHalfHandshake k l p.b p.a) a g), over_half l k p.a p.b (subst (IsHalfHandshake l k p.a p.b) b h))

-- ---- the round

resting_by : (c : RoundCase) (number : ℕ) (r : Round) → [] ≡ round_messages_to_b c number → [] ≡ round_messages_to_a c number r → c ≡ Resting
unfolding round_messages_to_b round_messages_to_a
resting_by Resting number r b a = refl
resting_by (Requested size q) number r b a = absurd (cc)
resting_by (Sketched n) number r b a = absurd (cc)
resting_by (Extending n) number r b a = absurd (cc)
resting_by (Resolved n success asks) number r b a = absurd (cc)
resting_by Pinged number r b a = absurd (cc)
resting_by Ponged number r b a = absurd (cc)

pub drained_case : (p : Pair) → p.to_a ≡ [] → p.to_b ≡ [] → (r : HasRound p) → r.case ≡ Resting
drained_case p a b r = resting_by r.case p.a.requests.begun p.b.machine.round (sym (ap messages_of_rounds b) ∙ r.position.to_b) (sym (ap messages_of_rounds a) ∙ r.position.to_a)

-- the phases then
rests_accepter : (q : Phase) → is_at_rest role.Accepter q ≡ true → stage_of q ≡ Past → q ≡ phase.Idle
unfolding is_at_rest stage_of
rests_accepter phase.Idle r h = refl
rests_accepter phase.Greeting r h = absurd (cc)
rests_accepter phase.Greeted r h = absurd (cc)
rests_accepter _ r h = absurd (let apart : false ≡ true = r in cc)

rests_opener : (q : Phase) → is_at_rest role.Opener q ≡ true → stage_of q ≡ Past → is_fetching q ≡ false → q ≡ phase.Idle
unfolding is_at_rest stage_of is_fetching
rests_opener phase.Idle r h f = refl
rests_opener phase.Greeting r h f = absurd (cc)
rests_opener phase.Greeted r h f = absurd (cc)
rests_opener phase.Fetching r h f = absurd (let apart : true ≡ false = f in cc)
rests_opener _ r h f = absurd (let apart : false ≡ true = r in cc)

rests_no_barrier : (q : Phase) → is_at_rest role.Opener q ≡ true → is_barrier q ≡ false
unfolding is_at_rest is_barrier
rests_no_barrier phase.Barrier r = absurd (let apart : false ≡ true = r in cc)
rests_no_barrier _ r = refl

not_fetching : (b : Bool) → (b ≡ true → ⊥) → b ≡ false
not_fetching true h = absurd (h refl)
not_fetching false h = refl

-- what a drained pair is
pub record IsRestingPair (p : Pair) : Type 0 where
  pub idle_a : p.a.machine.phase ≡ phase.Idle
  pub idle_b : p.b.machine.phase ≡ phase.Idle
  pub wants_a : open_wants p.a ≡ []
  pub wants_b : open_wants p.b ≡ []
  pub begun : p.a.requests.begun ≡ length p.a.machine.reports % 2 ^ 64
  pub agree : EachRound (AreAgreed (keys_of_pair p)) p.a.machine.reports p.b.machine.reports

no_asks : (reader holder : NodeState) (to_reader to_holder : List Message) → to_reader ≡ [] → to_holder ≡ [] → AreWantsOf reader holder to_reader to_holder → reader.wants.asked ≡ []
no_asks reader holder to_reader to_holder r h w = w.flow ∙ ap₂ (λ xs ys. pool_ids (carried_transactions xs) ++ requested_ids ys) r h

pub drained_rests : (p : Pair) → p.to_a ≡ [] → p.to_b ≡ [] → HasHandshake p → HasRound p → AreMutualWants p.a p.b p.to_a p.to_b → AreAnnouncements p → IsRestingPair p
unfolding IsOpenerIn IsAccepterIn coming_reports unreported_rounds
drained_rests p a b handshake r w n =
    let here = drained_case p a b r in
    let s : IsInCase Resting p = subst (λ c. IsInCase c p) here r.position in
    let q : HasReports Resting p = subst (λ c. HasReports c p) here r.reports_in in
    let past = drained_past p a b handshake in
    let asked_a : p.a.wants.asked ≡ [] = no_asks p.a p.b p.to_a p.to_b a b w.mine in
    let asked_b : p.b.wants.asked ≡ [] = no_asks p.b p.a p.to_b p.to_a b a w.theirs in
    record {
      idle_a = rests_opener p.a.machine.phase s.opener past.0 (not_fetching (is_fetching p.a.machine.phase) (λ f. n.fetching f asked_a));
      idle_b = rests_accepter p.b.machine.phase s.accepter past.1;
      wants_a = ap₂ (λ xs ys. xs ++ ys) (n.unwanted (rests_no_barrier p.a.machine.phase s.opener)) asked_a;
      wants_b = ap₂ (λ xs ys. xs ++ ys) n.accepter asked_b;
      begun = q.begun ∙ ap (λ k. k % 2 ^ 64) (add-zero (length p.a.machine.reports));
      agree = subst (EachRound (AreAgreed (keys_of_pair p)) p.a.machine.reports) (append-nil p.b.machine.reports) q.agree;
    }
