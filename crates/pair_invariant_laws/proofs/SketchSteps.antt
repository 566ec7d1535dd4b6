-- A sketch arrives at the opener: the round is answered, extended, or falls back.
use Rattle.std.proofs.Common.{◌≡◌, ℕ, zero, suc, ◌+◌, ◌*◌, ◌/◌, ◌%◌, ◌^◌, ◌<◌, ◌≤◌, ◌==◌, nat_lt, Bool, true, false, not, if◌then◌else◌, List, [], ◌∷◌, ◌++◌, length, Option, Some, None, Ok, refl, sym, ap, ap₂, ◌∙◌, subst, append-nil, arith, ltb-true, lit<, mul_assoc, pow-suc}
use Rattle.std.specs.List.{AllByRecursion}
use Rattle.std.proofs.lemmas.Bool.{and_parts}
use Rattle.std.proofs.lemmas.List.Elements.{All-from_recursion}
use Rattle.std.proofs.lemmas.Nat.{xor_lt}
use Rattle.base_types.specs.declared.lists.Hash32.{Hash32}
use Rattle.sketch_rules.specs.Answers.{Answer, answer_of, answer_at-some}
use Rattle.field_rules.specs.Elements.{numbers}
use Rattle.field_rules.specs.Ops.{power}
use Rattle.sketch_rules.specs.PowerSums.{power_sum, odd_power_sums}
use Rattle.sketch_rules.specs.Sketches.{bytes_of, sums_in, sketch_sum}
use Rattle.sketch_laws.proofs.Bytes.{sums_in-bytes_of, length-bytes_of}
use Rattle.sketch_laws.proofs.EverySums.{length-odd_power_sums}
use Rattle.sketch_laws.proofs.Parts.{sketch_by-joined}
use Rattle.field_laws.proofs.Products.{product-below}
use Rattle.id_rules.specs.Ids.{KeyPair}
use Rattle.wire_rules.specs.declared.message.Message.{Message}
use Rattle.wire_rules.specs.declared.message.Message.TheVariants as message
use Rattle.pool_rules.specs.Pools.{Transaction}
use Rattle.pool_rules.specs.Snapshots.{Member, members, ids_of, snapshot_sketch, snapshot_sums, sketched_shorts, sketched_members, shorts_of, is_single}
use Rattle.pool_rules.specs.declared.report.Ending.TheVariants as ending
use Rattle.pool_rules.specs.declared.report.Report.{Report}
use Rattle.node_rules.specs.Accepter.{ending_of}
use Rattle.node_rules.specs.Opener.{sketch_by, length_fault, after_sketch, answer_to_sketch, answer_to, difference_sketch, on_decoding, on_no_answer, has_extension_left, on_answer, on_fallback, extension_request, round_after_sketch, remaining_set}
use Rattle.node_rules.specs.Opener.{value_or_fault}
use Rattle.pool_laws.proofs.Ids.{short_id-small}
use Rattle.node_rules.specs.Outcomes.{report_of, missing_short_ids, announcement}
use Rattle.node_rules.specs.Stages.{requested_extensions, answered_ending, extensions_in, capacity_after}
use Rattle.node_rules.specs.State.{initiator_of, Machine, Round, extensions_allowed}
use Rattle.node_rules.specs.Invariant.{IsMember}
use Rattle.node_rules.specs.Steps.{on_message}
use Rattle.node_rules.specs.Turns.{Move, after_move, inv_of}
use Rattle.node_rules.specs.declared.config.Role.TheVariants as role
use Rattle.node_rules.specs.declared.end.End.{End}
use Rattle.pair_rules.specs.Rounds.{EachRound, capacity_by}
use Rattle.pair_invariant_rules.specs.Pairs.{Pair, after_a, after_message_a}
use Rattle.pair_invariant_rules.specs.Topics.{messages_of_rounds, topic_of, is_round}
use Rattle.pair_invariant_rules.specs.Rounds.{Sketched, Extending, Resolved, IsOpenerIn, IsAccepterIn, IsWithinLevel, round_messages_to_b, round_messages_to_a, portion, HasSumsOf, HasSumsIn, IsInCase, IsAnswered, IsAnsweredBy, AreAgreed, coming_reports, unreported_rounds, HasReports, HasRound, keys_of_pair}
use Rattle.pair_invariant_laws.proofs.Idling.{about_append, about_inv}
use Rattle.pair_invariant_laws.proofs.Known.{Known}
use Rattle.id_rules.proofs.Lists.{all_weaker, all_filter}
use Rattle.pair_invariant_laws.proofs.RoundRows.{sketch_row}
use Rattle.invariant_laws.proofs.Stages.{asked-waiting_phase}

-- ---- lists of reports

each-push : (P : Report → Report → Type 0) (xs ys : List Report) (x y : Report) → EachRound P xs ys → P x y → EachRound P (xs ++ x ∷ []) (ys ++ y ∷ [])
unfolding EachRound
each-push P [] [] x y h k = (k, tt)
each-push P [] (v ∷ vs) x y h k = absurd h
each-push P (u ∷ us) [] x y h k = absurd h
each-push P (u ∷ us) (v ∷ vs) x y h k = (h.0, each-push P us vs x y h.1 k)

push-length : (xs : List Report) (x : Report) → length (xs ++ x ∷ []) ≡ length xs + 1
push-length [] x = refl
push-length (y ∷ xs) x = let more = push-length xs x in omega (arith, more)

-- members are told by their ids
pub members_again : (keys : KeyPair) (pool : List Transaction) (ms : List Member) → AllByRecursion (IsMember keys pool) ms → members keys (ids_of ms) ≡ ms
members_again keys pool [] h = refl
members_again keys pool (m ∷ ms) h = ap₂ (λ x xs. x ∷ xs) (sym h.0.short) (members_again keys pool ms h.1)

-- ---- sums

-- powers and their sums are elements
power_small : (e k : ℕ) → e < 2 ^ 32 → power (numbers 32) e k < 2 ^ 32
unfolding power
power_small e zero h = lit< tt
power_small e (suc k) h = product-below 32 (power (numbers 32) e k) e (lit< tt) (power_small e k h) h

power_sum_small : (k : ℕ) (es : List ℕ) → AllByRecursion (λ e. e < 2 ^ 32) es → power_sum (numbers 32) k es < 2 ^ 32
unfolding power_sum
power_sum_small k [] h = lit< tt
power_sum_small k (e ∷ es) h = xor_lt 32 (power (numbers 32) e k) (power_sum (numbers 32) k es) (power_small e k h.0) (power_sum_small k es h.1)

sums_small : (es : List ℕ) (i n : ℕ) → AllByRecursion (λ e. e < 2 ^ 32) es → AllByRecursion (λ s. s < 2 ^ 32) (odd_power_sums (numbers 32) es i n)
unfolding odd_power_sums
sums_small es i zero h = tt
sums_small es i (suc n) h = (power_sum_small (2 * i + 1) es h, sums_small es (i + 1) n h)

-- short ids are elements
short_small : (keys : KeyPair) (pool : List Transaction) (m : Member) → IsMember keys pool m → m.short < 2 ^ 32
short_small keys pool m h = subst (λ x. x < 2 ^ 32) (sym (ap (λ y. y.short) h.short)) (short_id-small keys m.id)

shorts_small : (ms : List Member) → AllByRecursion (λ m. m.short < 2 ^ 32) ms → AllByRecursion (λ e. e < 2 ^ 32) (shorts_of ms)
shorts_small [] h = tt
shorts_small (m ∷ ms) h = (h.0, shorts_small ms h.1)

snapshot_small : (keys : KeyPair) (pool : List Transaction) (ms : List Member) → AllByRecursion (IsMember keys pool) ms → AllByRecursion (λ e. e < 2 ^ 32) (sketched_shorts ms)
snapshot_small keys pool ms h =
    shorts_small (sketched_members ms) (all_filter (λ m. m.short < 2 ^ 32) (λ m. is_single ms m.short) ms (all_weaker (IsMember keys pool) (λ m. m.short < 2 ^ 32) (short_small keys pool) ms h))

unfoldable portion_sums : Round → ℕ → List ℕ
portion_sums r zero = snapshot_sums r.snapshot 0 r.capacity
portion_sums r (suc n) = snapshot_sums r.snapshot (capacity_after r.capacity n) (capacity_after r.capacity n)

portion_is : (r : Round) (n : ℕ) → portion r n ≡ bytes_of (portion_sums r n)
unfolding portion portion_sums
portion_is r zero = refl
portion_is r (suc n) = refl

portion_small : (r : Round) (n : ℕ) → AllByRecursion (λ e. e < 2 ^ 32) (sketched_shorts r.snapshot) → sums_in (bytes_of (portion_sums r n)) ≡ portion_sums r n
unfolding portion_sums
portion_small r zero h = sums_in-bytes_of (portion_sums r zero) (All-from_recursion (λ s. s < 2 ^ 32) (portion_sums r zero) (sums_small (sketched_shorts r.snapshot) 0 r.capacity h))
portion_small r (suc n) h =
    sums_in-bytes_of (portion_sums r (suc n)) (All-from_recursion (λ s. s < 2 ^ 32) (portion_sums r (suc n)) (sums_small (sketched_shorts r.snapshot) (capacity_after r.capacity n) (capacity_after r.capacity n) h))

-- what the opener has then is the accepter's, with its capacity
record IsJoined (mine other : Round) (n : ℕ) : Type 0 where
  pub capacity : mine.capacity ≡ other.capacity
  pub sums : mine.sums ≡ snapshot_sums other.snapshot 0 (capacity_after other.capacity n)

quarter : (c k l : ℕ) → l ≡ 4 * k → k ≡ c → l / 4 ≡ c
quarter c k l e h = omega arith

doubled : (c n : ℕ) → capacity_after c n + capacity_after c n ≡ capacity_after c (suc n)
doubled c n = let two : capacity_after c n * 2 ≡ c * 2 ^ suc n = mul_assoc c (2 ^ n) 2 ∙ ap (λ x. c * x) (sym (pow-suc 2 n)) in omega (arith, two)

one_time : (c : ℕ) → c ≡ capacity_after c 0
one_time c = omega arith

is_joined : (n : ℕ) (m : Machine) (set : List Member) (other : Round) → AllByRecursion (λ e. e < 2 ^ 32) (sketched_shorts other.snapshot) → HasSumsOf n m.round other
    → IsJoined (round_after_sketch m set n (bytes_of (portion_sums other n))) other n
unfolding round_after_sketch portion_sums HasSumsOf
is_joined zero m set other small h = record {
  capacity = quarter other.capacity (length (portion_sums other zero)) (length (bytes_of (portion_sums other zero))) (length-bytes_of (portion_sums other zero)) (length-odd_power_sums (numbers 32) (sketched_shorts other.snapshot) 0 other.capacity);
  sums = portion_small other zero small ∙ ap (snapshot_sums other.snapshot 0) (one_time other.capacity);
}
is_joined (suc n) m set other small h = record {
  capacity = h.0;
  sums =
      ap₂ (λ xs ys. xs ++ ys) h.1 (portion_small other (suc n) small)
      ∙ sketch_by-joined (numbers 32) (sketched_shorts other.snapshot) (capacity_after other.capacity n) (capacity_after other.capacity n)
      ∙ ap (snapshot_sums other.snapshot 0) (doubled other.capacity n);
}

-- ---- the step

pub answered_stage : (n : ℕ) → n ≤ 2 → extensions_in (answered_ending n) ≡ Some n
unfolding extensions_in answered_ending
answered_stage zero h = refl
answered_stage (suc zero) h = refl
answered_stage (suc (suc zero)) h = refl
answered_stage (suc (suc (suc n))) h = absurd (omega arith)

-- what is said behind what is on the way to b
to_b_more : (p : Pair) (out : List Message) (ys : List Message) → messages_of_rounds p.to_b ≡ [] → messages_of_rounds out ≡ ys → messages_of_rounds (p.to_b ++ out) ≡ ys
to_b_more p out ys e h = about_append p.to_b out ∙ ap₂ (λ u v. u ++ v) e h

about_diff : (success : Bool) (asks : List ℕ) (ids : List Hash32) (number : ℕ)
    → messages_of_rounds (message.ReconcilDiff success asks ∷ (inv_of ids ++ message.Ping number ∷ [])) ≡ message.ReconcilDiff success asks ∷ message.Ping number ∷ []
unfolding topic_of is_round
about_diff success asks ids number = ap (λ xs. message.ReconcilDiff success asks ∷ xs) (about_append (inv_of ids) (message.Ping number ∷ []) ∙ ap (λ u. u ++ message.Ping number ∷ []) (about_inv ids))

one_more : (b l m : ℕ) (xs ys : ℕ) → b ≡ (l + 1) % m → xs ≡ l + 1 → b ≡ (xs + 0) % m
one_more b l m xs ys e h = e ∙ ap (λ x. x % m) (sym (let again : xs + 0 ≡ l + 1 = omega arith in again))

module _ (p : Pair) (ms : List Message) (n : ℕ) (s : IsInCase (Sketched n) p) (r : HasReports (Sketched n) p) (few : n ≤ 2) (e : messages_of_rounds ms ≡ []) (x : Round) (set : List Member)
    (j : IsJoined x p.b.machine.round n) (mine : members (keys_of_pair p) (ids_of x.snapshot) ≡ x.snapshot) (theirs : members (keys_of_pair p) (ids_of p.b.machine.round.snapshot) ≡ p.b.machine.round.snapshot) where
  abbrev behind : Move → Pair
  behind m = after_a p (after_move p.a (Ok m)) ms

  -- one report more on each side
  reported_more : (ra : Report) (success : Bool) (asks : List ℕ) (m : Move) → m.initiator.requests.begun ≡ p.a.requests.begun → m.initiator.machine.reports ≡ p.a.machine.reports ++ ra ∷ []
      → AreAgreed (keys_of_pair p) ra (report_of p.b.machine.round (ending_of success n) asks) → HasReports (Resolved n success asks) (behind m)
  unfolding coming_reports unreported_rounds
  reported_more ra success asks m same more agree = record {
    begun =
        same
        ∙ one_more p.a.requests.begun (length p.a.machine.reports) (2 ^ 64) (length m.initiator.machine.reports) 0 r.begun (ap length more ∙ push-length p.a.machine.reports ra);
    agree =
        subst (λ xs. EachRound (AreAgreed (keys_of_pair p)) xs (p.b.machine.reports ++ report_of p.b.machine.round (ending_of success n) asks ∷ [])) (sym more)
        (each-push (AreAgreed (keys_of_pair p)) p.a.machine.reports p.b.machine.reports ra (report_of p.b.machine.round (ending_of success n) asks)
        (subst (EachRound (AreAgreed (keys_of_pair p)) p.a.machine.reports) (append-nil p.b.machine.reports) r.agree) agree);
  }

  capacity_is : capacity_by (extensions_in (answered_ending n)) x.capacity ≡ capacity_after p.b.machine.round.capacity n
  unfolding capacity_by IsWithinLevel
  capacity_is = ap (λ o. capacity_by o x.capacity) (answered_stage n few) ∙ ap (λ c. capacity_after c n) j.capacity

  -- what was answered is the sum of the sketches of both snapshots
  combined_is : difference_sketch x ≡ sketch_sum (snapshot_sketch p.b.machine.round.snapshot (capacity_after p.b.machine.round.capacity n)) (snapshot_sketch x.snapshot (capacity_after p.b.machine.round.capacity n))
  combined_is =
      ap (λ sums. sketch_sum sums (snapshot_sketch x.snapshot (length sums))) j.sums
      ∙ ap (λ c. sketch_sum (snapshot_sketch p.b.machine.round.snapshot (capacity_after p.b.machine.round.capacity n)) (snapshot_sketch x.snapshot c))
      (length-odd_power_sums (numbers 32) (sketched_shorts p.b.machine.round.snapshot) 0 (capacity_after p.b.machine.round.capacity n))

  is_answered : (es : List ℕ) → answer_of (difference_sketch x) ≡ Some es
      → IsAnswered (keys_of_pair p) (report_of x (answered_ending n) es) (report_of p.b.machine.round (ending_of true n) (missing_short_ids x.snapshot es))
  is_answered es found = record {
    answer =
        subst (λ c. Answer 32 (sketch_sum (snapshot_sketch (members (keys_of_pair p) (ids_of p.b.machine.round.snapshot)) c) (snapshot_sketch (members (keys_of_pair p) (ids_of x.snapshot)) c)) es) (sym capacity_is)
        (subst (λ q. Answer 32 (sketch_sum (snapshot_sketch q (capacity_after p.b.machine.round.capacity n)) (snapshot_sketch (members (keys_of_pair p) (ids_of x.snapshot)) (capacity_after p.b.machine.round.capacity n))) es) (sym theirs)
        (subst (λ q. Answer 32 (sketch_sum (snapshot_sketch p.b.machine.round.snapshot (capacity_after p.b.machine.round.capacity n)) (snapshot_sketch q (capacity_after p.b.machine.round.capacity n))) es) (sym mine)
        (subst (λ z. Answer 32 z es) combined_is (answer_at-some 32 (difference_sketch x) es found))));
    asked = ap (λ q. missing_short_ids q es) (sym mine);
  }

  answered_a : (es : List ℕ) → answer_of (difference_sketch x) ≡ Some es → HasRound (behind (on_answer (initiator_of p.a) x n es set))
  unfolding IsOpenerIn IsAccepterIn IsWithinLevel round_messages_to_b round_messages_to_a HasSumsIn IsAnsweredBy
  answered_a es found = record {
    case = Resolved n true (missing_short_ids x.snapshot es);
    position = record {
      within = s.within;
      opener = refl;
      accepter = s.accepter;
      to_b = to_b_more p (message.ReconcilDiff true (missing_short_ids x.snapshot es) ∷ (inv_of (announcement x.snapshot es) ++ message.Ping p.a.requests.begun ∷ [])) _ s.to_b (about_diff true (missing_short_ids x.snapshot es) (announcement x.snapshot es) p.a.requests.begun);
      to_a = e;
      keeps = tt;
    };
    reports_in = reported_more (report_of x (answered_ending n) es) true (missing_short_ids x.snapshot es) (on_answer (initiator_of p.a) x n es set) refl refl (record {
      ending = refl;
      capacity = j.capacity;
      answered = subst (λ o. IsAnsweredBy o (keys_of_pair p) (report_of x (answered_ending n) es) (report_of p.b.machine.round (ending_of true n) (missing_short_ids x.snapshot es))) (sym (answered_stage n few)) (is_answered es found);
    });
  }

  fell_back_a : HasRound (behind (on_fallback (initiator_of p.a) x set))
  unfolding IsOpenerIn IsAccepterIn IsWithinLevel round_messages_to_b round_messages_to_a HasSumsIn IsAnsweredBy extensions_in
  fell_back_a = record {
    case = Resolved n false [];
    position = record {
      within = s.within;
      opener = refl;
      accepter = s.accepter;
      to_b = to_b_more p (message.ReconcilDiff false [] ∷ (inv_of (ids_of x.snapshot) ++ message.Ping p.a.requests.begun ∷ [])) _ s.to_b (about_diff false [] (ids_of x.snapshot) p.a.requests.begun);
      to_a = e;
      keeps = refl;
    };
    reports_in = reported_more (report_of x ending.Fallback []) false [] (on_fallback (initiator_of p.a) x set) refl refl (record { ending = refl; capacity = j.capacity; answered = tt });
  }

  extends_a : has_extension_left p.a.machine x n ≡ true → HasRound (behind (extension_request (initiator_of p.a) x n set))
  unfolding IsOpenerIn IsAccepterIn IsWithinLevel round_messages_to_b round_messages_to_a HasSumsIn HasSumsOf coming_reports unreported_rounds topic_of is_round
  extends_a may = record {
    case = Extending n;
    position = record {
      within = ltb-true n (extensions_allowed p.a.machine) (and_parts (not (x.capacity == 0)) (nat_lt n (extensions_allowed p.a.machine)) may).1;
      opener = refl;
      accepter = s.accepter;
      to_b = to_b_more p (message.ReqSketchExt ∷ []) _ s.to_b refl;
      to_a = e;
      keeps = (j.capacity, j.sums);
    };
    reports_in = record { begun = r.begun; agree = r.agree };
  }

  unanswered_a : (may : Bool) → has_extension_left p.a.machine x n ≡ may → HasRound (behind (on_no_answer may (initiator_of p.a) x n set))
  unfolding on_no_answer
  unanswered_a true may = extends_a may
  unanswered_a false may = fell_back_a

  -- an answer is that of both sketches
  some_answer : (none : Bool) (es : List ℕ) → (if none then None else answer_of (difference_sketch x)) ≡ Some es → answer_of (difference_sketch x) ≡ Some es
  some_answer true es h = absurd (let apart : None ≡ Some es = h in cc)
  some_answer false es h = h

  decided_a : (answer : Option (List ℕ)) → answer_to x ≡ answer → HasRound (behind (on_decoding answer (initiator_of p.a) x n set))
  unfolding on_decoding
  decided_a (Some es) found = answered_a es (some_answer (x.capacity == 0) es found)
  decided_a None found = unanswered_a (has_extension_left p.a.machine x n) refl

-- a move, unless there is a fault
unless_going : (f : Option End) (p : Pair) (m : Move) (ms : List Message) → (after_move p.a (value_or_fault f m)).state.ended ≡ None → HasRound (after_a p (after_move p.a (Ok m)) ms) → HasRound (after_a p (after_move p.a (value_or_fault f m)) ms)
unless_going None p m ms going h = h
unless_going (Some x) p m ms going h = absurd (let apart : Some x ≡ None = going in cc)

joined_members : (keys : KeyPair) (pool : List Transaction) (n : ℕ) (m : Machine) (set : List Member) (bytes : List ℕ) → AllByRecursion (IsMember keys pool) set
    → AllByRecursion (IsMember keys pool) m.round.snapshot → members keys (ids_of (round_after_sketch m set n bytes).snapshot) ≡ (round_after_sketch m set n bytes).snapshot
unfolding round_after_sketch
joined_members keys pool zero m set bytes h k = members_again keys pool set h
joined_members keys pool (suc n) m set bytes h k = members_again keys pool m.round.snapshot k

pub sketched_a : (p : Pair) (ms : List Message) (n : ℕ) → n ≤ 2 → IsInCase (Sketched n) p → HasReports (Sketched n) p → Known p.a p.b → p.a.config.role ≡ role.Opener → messages_of_rounds ms ≡ []
    → (pool : List Transaction) → AllByRecursion (IsMember (keys_of_pair p) pool) p.b.machine.round.snapshot
    → AllByRecursion (IsMember (keys_of_pair p) p.a.pool) p.a.set → AllByRecursion (IsMember (keys_of_pair p) p.a.pool) p.a.machine.round.snapshot
    → (on_message p.a (message.Sketch (portion p.b.machine.round n))).state.ended ≡ None → HasRound (after_message_a p (message.Sketch (portion p.b.machine.round n)) ms)
unfolding sketch_by IsOpenerIn IsWithinLevel HasSumsIn
sketched_a p ms n few s r known opener e pool theirs mine_set mine_round going =
    let bytes : List ℕ = portion p.b.machine.round n in
    let x : Round = round_after_sketch p.a.machine p.a.set n bytes in
    let row = sketch_row p.a bytes known.stage opener known.whole ∙ ap (λ o. after_move p.a (sketch_by (answer_to_sketch o p.a.machine p.a.set bytes) o (initiator_of p.a) p.a.set bytes)) (ap requested_extensions s.opener ∙ asked-waiting_phase n few) in
    let j : IsJoined x p.b.machine.round n =
    subst (λ z. IsJoined (round_after_sketch p.a.machine p.a.set n z) p.b.machine.round n) (sym (portion_is p.b.machine.round n)) (is_joined n p.a.machine p.a.set p.b.machine.round (snapshot_small (keys_of_pair p) pool p.b.machine.round.snapshot theirs) s.keeps) in
    subst (λ t. HasRound (after_a p t ms)) (sym row)
    (unless_going (length_fault p.a.machine n (length bytes)) p (after_sketch (answer_to x) (initiator_of p.a) p.a.set n bytes) ms (sym (ap (λ t. t.state.ended) row) ∙ going)
    (decided_a p ms n s r few e x (remaining_set n p.a.set) j (joined_members (keys_of_pair p) p.a.pool n p.a.machine p.a.set bytes mine_set mine_round) (members_again (keys_of_pair p) pool p.b.machine.round.snapshot theirs) (answer_to x) refl))
