-- Announcements to the opener come before its pong.
use Rattle.std.proofs.Common.{◌≡◌, ◌⊎◌, ⊎_elim, cond, Bool, true, false, List, [], ◌∷◌, ◌++◌, refl, sym, ap, ap₂, ◌∙◌}
use Rattle.std.proofs.lemmas.Bool.{both_ways}
use Rattle.base_types.specs.declared.lists.Hash32.{Hash32}
use Rattle.wire_rules.specs.declared.message.Message.{Message}
use Rattle.node_rules.specs.Barrier.{is_barrier}
use Rattle.node_rules.specs.Turns.{Turn}
use Rattle.pair_invariant_rules.specs.Announcements.{AreAnnouncements, behind_round, behind_round_by}
use Rattle.node_rules.specs.Invariant.{is_fetching}
use Rattle.pair_invariant_rules.specs.Pairs.{Pair, after_a, after_b}
use Rattle.pair_invariant_rules.specs.Topics.{messages_of_rounds, topic_of, is_round}
use Rattle.pair_invariant_rules.specs.Wants.{announced_ids_of, announced_ids}
use Rattle.pair_invariant_laws.proofs.Saying.{announced_append}

-- ---- what is behind a message about a round

pub nothing_left : (xs ys : List Hash32) → xs ++ ys ≡ [] → ys ≡ []
nothing_left [] ys e = e
nothing_left (x ∷ xs) ys e = absurd (let apart : x ∷ (xs ++ ys) ≡ [] = e in cc)

pub nothing_first : (xs ys : List Hash32) → xs ++ ys ≡ [] → xs ≡ []
nothing_first [] ys e = refl
nothing_first (x ∷ xs) ys e = absurd (let apart : x ∷ (xs ++ ys) ≡ [] = e in cc)

behind_more_by : (b : Bool) (ms rest ys rest_ys : List Message) → announced_ids (behind_round_by b ms rest) ≡ [] → announced_ids ys ≡ []
    → (announced_ids rest ≡ [] → announced_ids rest_ys ≡ []) → announced_ids (behind_round_by b (ms ++ ys) rest_ys) ≡ []
unfolding behind_round_by
behind_more_by true ms rest ys rest_ys h none more = announced_append ms ys ∙ ap₂ (λ u v. u ++ v) h none
behind_more_by false ms rest ys rest_ys h none more = more h

silent_tail : (b : Bool) (ms rest : List Message) → announced_ids ms ≡ [] → announced_ids rest ≡ [] → announced_ids (behind_round_by b ms rest) ≡ []
unfolding behind_round_by
silent_tail true ms rest h k = h
silent_tail false ms rest h k = k

-- of messages that announce nothing, those behind one do not either
behind_silent : (ms : List Message) → announced_ids ms ≡ [] → announced_ids (behind_round ms) ≡ []
unfolding behind_round
behind_silent [] h = refl
behind_silent (m ∷ ms) h =
    let rest : announced_ids ms ≡ [] = nothing_left (announced_ids_of m) (announced_ids ms) h in
    silent_tail (is_round (topic_of m)) ms (behind_round ms) rest (behind_silent ms rest)

behind_more : (xs ys : List Message) → announced_ids (behind_round xs) ≡ [] → announced_ids ys ≡ [] → announced_ids (behind_round (xs ++ ys)) ≡ []
unfolding behind_round
behind_more [] ys h none = behind_silent ys none
behind_more (m ∷ ms) ys h none = behind_more_by (is_round (topic_of m)) ms (behind_round ms) ys (behind_round (ms ++ ys)) h none (λ k. behind_more ms ys k none)

-- where nothing is about rounds, nothing is behind
no_rounds_by : (b : Bool) (m : Message) (ms rest : List Message) → is_round (topic_of m) ≡ b → messages_of_rounds (m ∷ ms) ≡ [] → (messages_of_rounds ms ≡ [] → rest ≡ []) → behind_round_by b ms rest ≡ []
unfolding behind_round_by
no_rounds_by true m ms rest e h k = absurd (let apart : m ∷ messages_of_rounds ms ≡ [] = sym (ap (λ b. cond b (m ∷ messages_of_rounds ms) (messages_of_rounds ms)) e) ∙ h in cc)
no_rounds_by false m ms rest e h k = k (sym (ap (λ b. cond b (m ∷ messages_of_rounds ms) (messages_of_rounds ms)) e) ∙ h)

no_rounds : (ms : List Message) → messages_of_rounds ms ≡ [] → behind_round ms ≡ []
unfolding behind_round
no_rounds [] h = refl
no_rounds (m ∷ ms) h = no_rounds_by (is_round (topic_of m)) m ms (behind_round ms) refl h (no_rounds ms)

-- the tail, by whether its head is about a round
pub behind_tail : (b : Bool) (m : Message) (ms : List Message) → is_round (topic_of m) ≡ b → announced_ids (behind_round (m ∷ ms)) ≡ [] → announced_ids (behind_round ms) ≡ []
unfolding behind_round behind_round_by
behind_tail true m ms e h = behind_silent ms (sym (ap (λ b. announced_ids (behind_round_by b ms (behind_round ms))) e) ∙ h)
behind_tail false m ms e h = sym (ap (λ b. announced_ids (behind_round_by b ms (behind_round ms))) e) ∙ h

pub behind_head : (m : Message) (ms : List Message) → is_round (topic_of m) ≡ true → announced_ids (behind_round (m ∷ ms)) ≡ [] → announced_ids ms ≡ []
unfolding behind_round behind_round_by
behind_head m ms e h = sym (ap (λ b. announced_ids (behind_round_by b ms (behind_round ms))) e) ∙ h

-- ---- the accepter's step

-- b says something; where it announces, the opener's ping is out and nothing about a round is on the way to it
pub record Tells (p : Pair) (t : Turn) : Type 0 where
  pub wanted : t.state.wants.wanted ≡ []
  pub silent : (announced_ids t.out ≡ []) ⊎ ((is_barrier p.a.machine.phase ≡ true) × (messages_of_rounds (p.to_a ++ t.out) ≡ []))

pub announcing_b : (p : Pair) (t : Turn) (ms : List Message) → Tells p t → AreAnnouncements p → AreAnnouncements (after_b p t ms)
announcing_b p t ms tells a = record {
  behind = ⊎_elim (λ none. behind_more p.to_a t.out a.behind none) (λ both. ap announced_ids (no_rounds (p.to_a ++ t.out) both.1)) tells.silent;
  silent = λ off. ⊎_elim (λ none. announced_append p.to_a t.out ∙ ap₂ (λ u v. u ++ v) (a.silent off) none) (λ both. absurd (both_ways (is_barrier p.a.machine.phase) off both.0)) tells.silent;
  unwanted = a.unwanted;
  accepter = tells.wanted;
  fetching = a.fetching;
}

-- ---- the opener's

-- a step of the opener by its phase and wants, behind which these are on the way to it
pub announcing_a : (p : Pair) (t : Turn) (ms : List Message) → announced_ids (behind_round ms) ≡ [] → (is_barrier t.state.machine.phase ≡ false → announced_ids ms ≡ [])
    → (is_barrier t.state.machine.phase ≡ false → t.state.wants.wanted ≡ []) → (is_fetching t.state.machine.phase ≡ true → t.state.wants.asked ≡ [] → ⊥) → AreAnnouncements p → AreAnnouncements (after_a p t ms)
announcing_a p t ms behind silent unwanted fetching a = record { behind = behind; silent = silent; unwanted = unwanted; accepter = a.accepter; fetching = fetching }
