-- The numbers of a node's machine stay within their limits.
use Rattle.std.proofs.Common.{◌≡◌, ℕ, zero, suc, ◌+◌, ◌*◌, ◌%◌, ◌^◌, ◌<◌, ◌≤◌, ◌==◌, nat_lt, nat_le, not, Bool, true, false, List, length, Option, Some, None, Ok, if◌then◌else◌, refl, sym, ap, ◌∙◌, subst, arith, lit<, lit≤, mod-lt, mul_assoc, pow-suc, eqb-true}
use Rattle.std.specs.List.{AllByRecursion}
use Rattle.std.proofs.lemmas.Bool.{and_parts, ltb-true, leb-true, not-true, eqb-false}
use Rattle.std.proofs.lemmas.List.{length-append}
use Rattle.sketch_rules.specs.Answers.{Answer, answer_of, answer_at-some}
use Rattle.sketch_rules.specs.Sketches.{sums_in}
use Rattle.sketch_laws.proofs.Bytes.{length-sums_in}
use Rattle.id_rules.specs.Bytes.{are_bytes}
use Rattle.wire_rules.specs.Limits.{IsMessage}
use Rattle.wire_rules.specs.declared.message.Message.{Message}
use Rattle.wire_rules.specs.declared.phase.Phase.{Phase}
use Rattle.wire_rules.specs.declared.phase.Phase.TheVariants as phase
use Rattle.pool_rules.specs.Pools.{Transaction, IsTransaction, transaction_of}
use Rattle.pool_rules.specs.Snapshots.{Member, sketched_shorts}
use Rattle.pool_rules.specs.declared.limits.TheConstants.{FIRST_LIMIT}
use Rattle.pool_rules.specs.declared.report.Report.{Report}
use Rattle.id_rules.proofs.Lists.{all_append}
use Rattle.pool_laws.proofs.Capacity.{next_q-small}
use Rattle.node_rules.specs.Accepter.{round_of_request, extension_sketch}
use Rattle.node_rules.specs.Additions.{on_addition}
use Rattle.node_rules.specs.Handshake.{level_of}
use Rattle.node_rules.specs.Invariant.{IsBounded, IsConfig, IsConversing, IsExtending, IsSketched, IsOffer, IsRoundOf}
use Rattle.node_rules.specs.Opener.{round_after_sketch, answer_to, difference_sketch, length_fault, is_first_length, extension_length, has_extension_left, coefficient_after, remaining_set, extension_request, one_more}
use Rattle.node_rules.specs.Outcomes.{own_short_ids, missing_short_ids}
use Rattle.node_rules.specs.Stages.{waiting_phase, sent_phase, requested_extensions, sent_extensions, capacity_after, is_idle}
use Rattle.node_rules.specs.State.{NodeState, Machine, Requests, Round, Offer, no_round, first_requests, extensions_allowed, initiator_of, opening_state}
use Rattle.node_rules.specs.Steps.{on_message, on_start}
use Rattle.node_rules.specs.Turns.{Turn, after_move}
use Rattle.node_rules.specs.declared.config.Config.{Config}
use Rattle.node_rules.specs.declared.end.End.{End}
use Rattle.node_rules.specs.declared.end.End.TheVariants as end
use Rattle.invariant_laws.proofs.Numbers.{mine_few, sums_small}
use Rattle.invariant_laws.proofs.Rows.{EachRow, IsAwaitingSketch, on_message-rows, on_addition-rows, on_start-rows}
use Rattle.invariant_laws.proofs.Stages.{HasNoSketch, greeting-rests, greeted-rests, idle-rests, barrier-rests, behind-rests, is_idle-rests, is_barrier-rests, phase_after_fetch-asked, phase_after_fetch-sent_extensions, asked-waiting_phase, sent_extensions-waiting_phase, sent_extensions-sent_phase, asked-sent_phase, sent_extensions-unasked, some_is}

-- ---- a sketch that has come

no_fault : (t : Bool) (e : End) → (if t then None else Some e) ≡ None → t ≡ true
no_fault true e h = refl
no_fault false e h = absurd (let apart : Some e ≡ None = h in cc)

-- what was joined has as many sums as n extensions bring, and no more than the limits allow
pub record IsJoined (r : Round) (n : ℕ) : Type 0 where
  pub most : r.capacity ≤ FIRST_LIMIT
  pub sums : length r.sums ≡ capacity_after r.capacity n
  pub numbers : AllByRecursion (λ n. n < 2 ^ 32) r.sums

-- twice as many
double : (c n : ℕ) → capacity_after c n + capacity_after c n ≡ capacity_after c (suc n)
double c n =
    let two : c * 2 ^ n * 2 ≡ c * 2 ^ suc n = mul_assoc c (2 ^ n) 2 ∙ ap (λ x. c * x) (sym (pow-suc 2 n)) in
    omega (arith, two)

extending : (m : Machine) (k : Requests) (n : ℕ) → IsBounded m k → requested_extensions m.phase ≡ Some (suc n) → IsExtending n m.round
unfolding IsRoundOf
extending m k n b e = subst (λ o. IsRoundOf o (sent_extensions m.phase) m.round) e b.round

pub round_after_sketch-is : (n : ℕ) (m : Machine) (k : Requests) (set : List Member) (bytes : List ℕ) → IsBounded m k → requested_extensions m.phase ≡ Some n → length_fault m n (length bytes) ≡ None → are_bytes bytes ≡ true → IsJoined (round_after_sketch m set n bytes) n
unfolding round_after_sketch length_fault
round_after_sketch-is zero m k set bytes b e f ranged =
    let parts = and_parts (length bytes % 4 == 0) (nat_le (length bytes) (4 * FIRST_LIMIT)) (no_fault (is_first_length (length bytes)) (end.SketchLength (length bytes) 0) f) in
    let le = leb-true (length bytes) (4 * FIRST_LIMIT) parts.1 in
    let whole = eqb-true (length bytes % 4) 0 parts.0 in
    let four = length-sums_in bytes whole in
    record { most = omega (arith, le); sums = omega (arith, four, whole); numbers = sums_small bytes ranged }
round_after_sketch-is (suc n) m k set bytes b e f ranged =
    let c : ℕ = capacity_after m.round.capacity n in
    let long : length bytes ≡ 4 * c = eqb-true (length bytes) (4 * c) (no_fault (length bytes == extension_length m.round.capacity n) (end.SketchLength (length bytes) (extension_length m.round.capacity n)) f) in
    let four = length-sums_in bytes (let whole : length bytes % 4 ≡ 0 = omega (arith, long) in whole) in
    let old = extending m k n b e in
    let before = old.sums in
    let both = length-append m.round.sums (sums_in bytes) in
    let two = double m.round.capacity n in
    record { most = old.most; sums = omega (arith, long, four, before, both, two); numbers = all_append (λ n. n < 2 ^ 32) m.round.sums (sums_in bytes) old.numbers (sums_small bytes ranged) }

found_answer : (r : Round) (none : Bool) (es : List ℕ) → (if none then None else answer_of (difference_sketch r)) ≡ Some es → Answer 32 (difference_sketch r) es
found_answer r true es e = absurd (let apart : None ≡ Some es = e in cc)
found_answer r false es e = answer_at-some 32 (difference_sketch r) es e

pub answer-is : (r : Round) (es : List ℕ) → answer_to r ≡ Some es → Answer 32 (difference_sketch r) es
answer-is r es e = found_answer r (r.capacity == 0) es e

-- ---- machines

-- with no round
resting : (m : Machine) (k : Requests) → HasNoSketch m.phase → 1 ≤ m.level → m.level ≤ 2 → m.round ≡ no_round → k.coefficient ≤ 65534 → k.begun < 2 ^ 64 → IsBounded m k
unfolding IsRoundOf
resting m k p least most round coefficient begun = record {
  least = least;
  most = most;
  waited = λ n e. absurd (let apart : None ≡ Some n = sym p.asked ∙ e in cc);
  sent = λ n e. absurd (let apart : None ≡ Some n = sym p.sent ∙ e in cc);
  round = subst (λ o. IsRoundOf o (sent_extensions m.phase) m.round) (sym p.asked) (subst (λ o. IsRoundOf None o m.round) (sym p.sent) round);
  coefficient = coefficient;
  begun = begun;
}

rested : (m : Machine) (k : Requests) → IsBounded m k → HasNoSketch m.phase → m.round ≡ no_round
unfolding IsRoundOf
rested m k b p = subst (λ o. IsRoundOf None o m.round) p.sent (subst (λ o. IsRoundOf o (sent_extensions m.phase) m.round) p.asked b.round)

-- waiting for sketch n
waiting_machine : (m : Machine) (k : Requests) (n : ℕ) → m.phase ≡ waiting_phase n → 1 ≤ m.level → m.level ≤ 2 → n ≤ m.level → IsRoundOf (Some n) None m.round → k.coefficient ≤ 65534 → k.begun < 2 ^ 64 → IsBounded m k
waiting_machine m k n p least most le round coefficient begun =
    let asked : requested_extensions m.phase ≡ Some n = ap requested_extensions p ∙ asked-waiting_phase n (omega (arith, le, most)) in
    let unsent : sent_extensions m.phase ≡ None = ap sent_extensions p ∙ sent_extensions-waiting_phase n in
    record {
      least = least;
      most = most;
      waited = λ i e. subst (λ j. j ≤ m.level) (some_is n i (sym asked ∙ e)) le;
      sent = λ i e. absurd (let apart : None ≡ Some i = sym unsent ∙ e in cc);
      round = subst (λ o. IsRoundOf o (sent_extensions m.phase) m.round) (sym asked) (subst (λ o. IsRoundOf (Some n) o m.round) (sym unsent) round);
      coefficient = coefficient;
      begun = begun;
    }

-- once sketch n was sent
sent_machine : (m : Machine) (k : Requests) (n : ℕ) → m.phase ≡ sent_phase n → 1 ≤ m.level → m.level ≤ 2 → n ≤ m.level → IsSketched m.round → k.coefficient ≤ 65534 → k.begun < 2 ^ 64 → IsBounded m k
unfolding IsRoundOf
sent_machine m k n p least most le round coefficient begun =
    let unasked : requested_extensions m.phase ≡ None = ap requested_extensions p ∙ asked-sent_phase n in
    let given_n : sent_extensions m.phase ≡ Some n = ap sent_extensions p ∙ sent_extensions-sent_phase n (omega (arith, le, most)) in
    record {
      least = least;
      most = most;
      waited = λ i e. absurd (let apart : None ≡ Some i = sym unasked ∙ e in cc);
      sent = λ i e. subst (λ j. j ≤ m.level) (some_is n i (sym given_n ∙ e)) le;
      round = subst (λ o. IsRoundOf o (sent_extensions m.phase) m.round) (sym unasked) (subst (λ o. IsRoundOf None o m.round) (sym given_n) round);
      coefficient = coefficient;
      begun = begun;
    }

pub sketched-round : (m : Machine) (k : Requests) (n : ℕ) → IsBounded m k → sent_extensions m.phase ≡ Some n → IsSketched m.round
unfolding IsRoundOf
sketched-round m k n b e = subst (λ o. IsRoundOf None o m.round) e (subst (λ o. IsRoundOf o (sent_extensions m.phase) m.round) (sent_extensions-unasked m.phase n e) b.round)

-- ---- the rows

module _ (s : NodeState) (b : IsBounded s.machine s.requests) where
  abbrev Bounds : Turn → Type 0
  Bounds t = IsBounded t.state.machine t.state.requests

  -- another phase and another level, with no round before and behind
  still_resting : (next : Phase) (level : ℕ) → HasNoSketch s.machine.phase → HasNoSketch next → 1 ≤ level → level ≤ 2 → IsBounded (record s.machine { phase = next; level = level }) s.requests
  still_resting next level p q least most = resting (record s.machine { phase = next; level = level }) s.requests q least most (rested s.machine s.requests b p) b.coefficient b.begun

  settled_bounded : (next : Phase) → requested_extensions next ≡ requested_extensions s.machine.phase → sent_extensions next ≡ sent_extensions s.machine.phase → IsBounded (record s.machine { phase = next }) s.requests
  settled_bounded next asked sent = record {
    least = b.least;
    most = b.most;
    waited = λ n e. b.waited n (sym asked ∙ e);
    sent = λ n e. b.sent n (sym sent ∙ e);
    round = subst (λ o. IsRoundOf o (sent_extensions next) s.machine.round) (sym asked) (subst (λ o. IsRoundOf (requested_extensions s.machine.phase) o s.machine.round) (sym sent) b.round);
    coefficient = b.coefficient;
    begun = b.begun;
  }

  -- a round is closed
  closed_bounded : (next : Phase) (reports : List Report) (coefficient : ℕ) → HasNoSketch next → coefficient ≤ 65534
      → IsBounded (record s.machine { phase = next; round = no_round; reports = reports }) (record s.requests { coefficient = coefficient })
  closed_bounded next reports coefficient p le = resting (record s.machine { phase = next; round = no_round; reports = reports }) (record s.requests { coefficient = coefficient }) p b.least b.most refl le b.begun

  answer_coefficient : (r : Round) (es : List ℕ) → answer_to r ≡ Some es → coefficient_after r.snapshot es ≤ 65534
  answer_coefficient r es e = next_q-small (length (own_short_ids r.snapshot es)) (length (missing_short_ids r.snapshot es)) (length (sketched_shorts r.snapshot)) (mine_few r.snapshot es (answer-is r es e).rises)

  more_bounded : (n : ℕ) (bytes : List ℕ) → IsAwaitingSketch s n bytes → has_extension_left s.machine (round_after_sketch s.machine s.set n bytes) n ≡ true → Bounds (after_move s (Ok (extension_request (initiator_of s) (round_after_sketch s.machine s.set n bytes) n (remaining_set n s.set))))
  unfolding IsRoundOf
  more_bounded n bytes a may =
      let r : Round = round_after_sketch s.machine s.set n bytes in
      let parts = and_parts (not (r.capacity == 0)) (nat_lt n (extensions_allowed s.machine)) may in
      let lt = ltb-true n (extensions_allowed s.machine) parts.1 in
      let some = eqb-false r.capacity 0 (not-true (r.capacity == 0) parts.0) in
      let j = round_after_sketch-is n s.machine s.requests s.set bytes b a.waits a.fits a.ranged in
      waiting_machine (record s.machine { phase = waiting_phase (suc n); round = r }) s.requests (suc n) refl b.least b.most (omega (arith, lt)) (record { least = omega (arith, some); most = j.most; sums = j.sums; numbers = j.numbers }) b.coefficient b.begun

  first_bounded : (size q : ℕ) → IsBounded (record s.machine { phase = sent_phase 0; round = round_of_request s.set size q }) s.requests
  first_bounded size q =
      let least = b.least in
      sent_machine (record s.machine { phase = sent_phase 0; round = round_of_request s.set size q }) s.requests 0 refl b.least b.most (omega (arith, least)) (record { least = omega arith; most = omega arith; sums = refl }) b.coefficient b.begun

  extension_bounded : (n : ℕ) → sent_extensions s.machine.phase ≡ Some n → nat_lt n (extensions_allowed s.machine) ≡ true → IsBounded (extension_sketch s.machine n).machine s.requests
  extension_bounded n g may =
      let lt = ltb-true n (extensions_allowed s.machine) may in
      sent_machine (record s.machine { phase = sent_phase (suc n) }) s.requests (suc n) refl b.least b.most (omega (arith, lt)) (sketched-round s.machine s.requests n b g) b.coefficient b.begun

  begun_small : (one_more s.requests).begun < 2 ^ 64
  begun_small = mod-lt (s.requests.begun + 1) (lit< tt)

  round_bounded : is_idle s.machine.phase ≡ true → IsBounded (record s.machine { phase = waiting_phase 0 }) (one_more s.requests)
  unfolding IsRoundOf
  round_bounded idle =
      waiting_machine (record s.machine { phase = waiting_phase 0 }) (one_more s.requests) 0 refl b.least b.most (let least = b.least in omega (arith, least)) (rested s.machine s.requests b (is_idle-rests s.machine.phase idle)) b.coefficient begun_small

  plain_round_bounded : is_idle s.machine.phase ≡ true → IsBounded (record s.machine { phase = phase.Barrier }) (one_more s.requests)
  plain_round_bounded idle = resting (record s.machine { phase = phase.Barrier }) (one_more s.requests) barrier-rests b.least b.most (rested s.machine s.requests b (is_idle-rests s.machine.phase idle)) b.coefficient begun_small

-- the level of a connection
level-bounds : (c : Config) (o : Option Offer) → IsConfig c → ((x : Offer) → o ≡ Some x → IsOffer x) → (1 ≤ level_of c.top o) × (level_of c.top o ≤ 2)
unfolding level_of
level-bounds c None h f = (lit≤ tt, lit≤ tt)
level-bounds c (Some x) h f = let own = h.least in let most = h.most in let other = (f x refl).least in (omega (arith, own, other), omega (arith, most))

bounded_rows : (s : NodeState) → IsConfig s.config → IsConversing s → IsBounded s.machine s.requests → EachRow s (λ t. IsBounded t.state.machine t.state.requests)
bounded_rows s config c b = record {
  stays = b;
  ends = λ e. b;
  version = λ e. still_resting s b phase.Greeted s.machine.level (subst HasNoSketch (sym e) greeting-rests) greeted-rests b.least b.most;
  wtxidrelay = λ e. b;
  offer = λ o e is none. b;
  plain = λ e by_id none. let l = level-bounds s.config None config (λ x k. absurd (let apart : None ≡ Some x = k in cc)) in still_resting s b phase.Idle (level_of s.config.top None) (subst HasNoSketch (sym e) greeted-rests) idle-rests l.0 l.1;
  whole = λ o e by_id some. let l = level-bounds s.config (Some o) config (λ x k. c.offer x (some ∙ k)) in still_resting s b phase.Idle (level_of s.config.top (Some o)) (subst HasNoSketch (sym e) greeted-rests) idle-rests l.0 l.1;
  answer = λ n bytes es a e. closed_bounded s b phase.Barrier _ _ barrier-rests (answer_coefficient s b (round_after_sketch s.machine s.set n bytes) es e);
  more = λ n bytes a e. more_bounded s b n bytes a e;
  fallback = λ n bytes a. closed_bounded s b phase.Barrier _ _ barrier-rests (omega arith);
  first = λ size q a e. first_bounded s b size q;
  extension = λ n a g e. extension_bounded s b n g e;
  difference = λ n success asks a g e m. closed_bounded s b phase.Idle _ s.requests.coefficient idle-rests b.coefficient;
  wants = λ es n. b;
  request = λ es n. b;
  getdata = λ es past m. b;
  notfound = λ es past m. settled_bounded s b _ (phase_after_fetch-asked _ s.machine.phase) (phase_after_fetch-sent_extensions _ s.machine.phase);
  known = λ t past a p. settled_bounded s b _ (phase_after_fetch-asked _ s.machine.phase) (phase_after_fetch-sent_extensions _ s.machine.phase);
  gained = λ t past a p f. settled_bounded s b _ (phase_after_fetch-asked _ s.machine.phase) (phase_after_fetch-sent_extensions _ s.machine.phase);
  ping = λ n past m. b;
  pong = λ r e. still_resting s b _ s.machine.level (is_barrier-rests s.machine.phase e) (behind-rests s.wants.wanted) b.least b.most;
  addition = λ t a. b;
  announcement = λ t a k past plain. b;
  member = λ t a k past whole. b;
  round = λ r idle. round_bounded s b idle;
  plain_round = λ r idle plain. plain_round_bounded s b idle;
}

pub on_message-bounded : (s : NodeState) (m : Message) → IsConfig s.config → IsConversing s → IsBounded s.machine s.requests → IsMessage m → IsBounded (on_message s m).state.machine (on_message s m).state.requests
on_message-bounded s m config c b sound = on_message-rows s (λ t. IsBounded t.state.machine t.state.requests) (bounded_rows s config c b) m sound

pub on_addition-bounded : (s : NodeState) (tx : List ℕ) → IsConfig s.config → IsConversing s → IsBounded s.machine s.requests → IsTransaction (transaction_of tx) → IsBounded (on_addition s tx).turn.state.machine (on_addition s tx).turn.state.requests
on_addition-bounded s tx config c b sound = on_addition-rows s (λ t. IsBounded t.state.machine t.state.requests) (bounded_rows s config c b) tx sound

pub on_start-bounded : (s : NodeState) → IsConfig s.config → IsConversing s → IsBounded s.machine s.requests → IsBounded (on_start s).turn.state.machine (on_start s).turn.state.requests
on_start-bounded s config c b = on_start-rows s (λ t. IsBounded t.state.machine t.state.requests) (bounded_rows s config c b)

pub opening-bounded : (c : Config) (pool : List Transaction) → IsBounded (opening_state c pool).machine (opening_state c pool).requests
opening-bounded c pool = resting (opening_state c pool).machine first_requests greeting-rests (lit≤ tt) (lit≤ tt) refl (lit≤ tt) (lit< tt)
