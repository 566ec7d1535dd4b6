-- The reports of a node's rounds: each has ids of its pool, none twice, and short ids, none twice.
use Rattle.std.proofs.Common.{◌≡◌, ℕ, zero, suc, ◌+◌, ◌^◌, ◌≤◌, ◌==◌, nat_eq, Bool, true, false, List, [], ◌∷◌, ◌++◌, length, Option, Some, None, if◌then◌else◌, refl, sym, ap, subst, arith, lit≤}
use Rattle.std.specs.List.{AllByRecursion, IsDistinct}
use Rattle.std.proofs.lemmas.Bool.{or_parts}
use Rattle.sketch_rules.specs.Answers.{IsAscending}
use Rattle.id_rules.specs.Ids.{KeyPair}
use Rattle.wire_rules.specs.Limits.{IsMessage}
use Rattle.wire_rules.specs.declared.message.Message.{Message}
use Rattle.pool_rules.specs.Pools.{Transaction, IsTransaction, transaction_of, is_in_pool}
use Rattle.pool_rules.specs.Snapshots.{Member, shorts_of, sketched_members, sketched_shorts, is_single}
use Rattle.pool_rules.specs.declared.limits.TheConstants.{FIRST_LIMIT}
use Rattle.pool_rules.specs.declared.report.Ending.{Ending}
use Rattle.pool_rules.specs.declared.report.Ending.TheVariants as ending
use Rattle.pool_rules.specs.declared.report.Report.{Report}
use Rattle.pool_laws.proofs.Ids.{short_id-nonzero, short_id-small}
use Rattle.pool_laws.proofs.PoolIds.{in_pool_more}
use Rattle.id_rules.proofs.Lists.{all_append, all_filter, all_weaker}
use Rattle.node_rules.specs.Accepter.{ask_fault, failure_fault, diff_fault, ending_of}
use Rattle.node_rules.specs.Additions.{on_addition}
use Rattle.node_rules.specs.Invariant.{IsReport, IsShort, IsMember, AreMembers, IsSetUp, IsBounded}
use Rattle.node_rules.specs.Opener.{round_after_sketch, answer_to}
use Rattle.node_rules.specs.Outcomes.{is_in, report_of}
use Rattle.node_rules.specs.Stages.{answered_ending, sent_extensions}
use Rattle.node_rules.specs.State.{NodeState, Round, node_keys}
use Rattle.node_rules.specs.Steps.{on_message, on_start}
use Rattle.node_rules.specs.declared.end.End.{End}
use Rattle.node_rules.specs.declared.end.End.TheVariants as end
use Rattle.invariant_laws.proofs.Bounds.{round_after_sketch-is, answer-is, sketched-round}
use Rattle.invariant_laws.proofs.Numbers.{is_in_each, rising_once}
use Rattle.invariant_laws.proofs.Rows.{EachRow, IsAwaitingSketch, on_message-rows, on_addition-rows, on_start-rows}
use Rattle.invariant_laws.proofs.Sets.{pooled_ids}

-- ---- short ids

-- short ids, none twice
record AreShort (ns : List ℕ) : Type 0 where
  pub once : IsDistinct nat_eq ns
  pub each : AllByRecursion IsShort ns

none_short : AreShort []
unfolding IsDistinct
none_short = record { once = tt; each = tt }

rising_each : (low : ℕ) (es : List ℕ) → 1 ≤ low → IsAscending low (2 ^ 32) es → AllByRecursion IsShort es
unfolding IsAscending
rising_each low [] le h = tt
rising_each low (e ∷ es) le h = let from = h.0 in (record { least = omega (arith, le, from); most = h.1 }, rising_each (e + 1) es (omega arith) h.2)

answer_short : (r : Round) (es : List ℕ) → answer_to r ≡ Some es → AreShort es
answer_short r es e = let a = answer-is r es e in record { once = rising_once 1 (2 ^ 32) es a.rises; each = rising_each 1 es (lit≤ tt) a.rises }

-- ---- the short ids of members

member_short : (keys : KeyPair) (pool : List Transaction) (m : Member) → IsMember keys pool m → IsShort m.short
member_short keys pool m h =
    subst IsShort (sym (ap (λ (x : Member). x.short) h.short)) (record { least = let some = short_id-nonzero keys m.id in omega (arith, some); most = short_id-small keys m.id })

shorts_each : (ms : List Member) → AllByRecursion (λ m. IsShort m.short) ms → AllByRecursion IsShort (shorts_of ms)
shorts_each [] h = tt
shorts_each (m ∷ ms) h = (h.0, shorts_each ms h.1)

sketched_each : (keys : KeyPair) (pool : List Transaction) (snapshot : List Member) → AllByRecursion (IsMember keys pool) snapshot → AllByRecursion IsShort (sketched_shorts snapshot)
sketched_each keys pool snapshot h = shorts_each (sketched_members snapshot) (all_filter (λ m. IsShort m.short) (λ m. is_single snapshot m.short) snapshot (all_weaker (IsMember keys pool) (λ m. IsShort m.short) (member_short keys pool) snapshot h))

-- ---- asks without a fault

unfaulted : (sketched again : Bool) (n : ℕ) (rest : Option End) → (if sketched then (if again then Some (end.AskRepeated n) else rest) else Some (end.UnknownShortId n)) ≡ None → (sketched ≡ true) × (again ≡ false) × (rest ≡ None)
unfaulted true true n rest e = absurd (let apart : Some (end.AskRepeated n) ≡ None = e in cc)
unfaulted true false n rest e = (refl, refl, e)
unfaulted false again n rest e = absurd (let apart : Some (end.UnknownShortId n) ≡ None = e in cc)

record AreAsked (shorts before ns : List ℕ) : Type 0 where
  pub once : IsDistinct nat_eq ns
  pub sketched : AllByRecursion (λ n. is_in shorts n ≡ true) ns
  pub first : AllByRecursion (λ n. is_in before n ≡ false) ns

asked_well : (shorts before ns : List ℕ) → ask_fault shorts before ns ≡ None → AreAsked shorts before ns
unfolding ask_fault IsDistinct
asked_well shorts before [] e = record { once = tt; sketched = tt; first = tt }
asked_well shorts before (n ∷ ns) e =
    let now = unfaulted (is_in shorts n) (is_in before n) n (ask_fault shorts (n ∷ before) ns) e in
    let later = asked_well shorts (n ∷ before) ns now.2 in
    record {
      once = (all_weaker (λ m. is_in (n ∷ before) m ≡ false) (λ m. nat_eq n m ≡ false) (λ m k. (or_parts (n == m) (is_in before m) k).0) ns later.first, later.once);
      sketched = (now.0, later.sketched);
      first = (now.1, all_weaker (λ m. is_in (n ∷ before) m ≡ false) (λ m. is_in before m ≡ false) (λ m k. (or_parts (n == m) (is_in before m) k).1) ns later.first);
    }

none_asked : (asks : List ℕ) → failure_fault asks ≡ None → AreShort asks
none_asked [] e = none_short
none_asked (n ∷ ns) e = absurd (let apart : Some (end.AsksOnFailure (length (n ∷ ns))) ≡ None = e in cc)

asks_short : (success : Bool) (keys : KeyPair) (pool : List Transaction) (r : Round) (asks : List ℕ) → AreMembers keys pool r.snapshot → diff_fault success r asks ≡ None → AreShort asks
asks_short true keys pool r asks h e =
    let a = asked_well (sketched_shorts r.snapshot) [] asks e in
    record { once = a.once; each = all_weaker (λ n. is_in (sketched_shorts r.snapshot) n ≡ true) IsShort (λ n k. is_in_each IsShort (sketched_shorts r.snapshot) n (sketched_each keys pool r.snapshot h.each) k) asks a.sketched }
asks_short false keys pool r asks h e = none_asked asks e

-- ---- reports

reported : (keys : KeyPair) (pool : List Transaction) (r : Round) (e : Ending) (ns : List ℕ) → AreMembers keys pool r.snapshot → r.capacity ≤ FIRST_LIMIT → AreShort ns → IsReport pool (report_of r e ns)
reported keys pool r e ns h le a = record { once = h.once; pooled = pooled_ids keys pool r.snapshot h.each; capacity = le; answered_once = a.once; answered = a.each }

larger_pool : (pool more : List Transaction) (rs : List Report) → AllByRecursion (IsReport pool) rs → AllByRecursion (IsReport (pool ++ more)) rs
larger_pool pool more rs h =
    all_weaker (IsReport pool) (IsReport (pool ++ more))
    (λ r k. record { once = k.once; pooled = all_weaker (λ id. is_in_pool pool id ≡ true) (λ id. is_in_pool (pool ++ more) id ≡ true) (in_pool_more pool more) r.snapshot k.pooled; capacity = k.capacity; answered_once = k.answered_once; answered = k.answered })
    rs h

-- ---- the rows

module _ (s : NodeState) (setup : IsSetUp s) (b : IsBounded s.machine s.requests) (h : AllByRecursion (IsReport s.pool) s.machine.reports) where
  joined_members : (n : ℕ) (bytes : List ℕ) → AreMembers (node_keys s) s.pool (round_after_sketch s.machine s.set n bytes).snapshot
  unfolding round_after_sketch
  joined_members zero bytes = setup.set
  joined_members (suc n) bytes = setup.snapshot

  one_more_report : (r : Report) → IsReport s.pool r → AllByRecursion (IsReport s.pool) (s.machine.reports ++ r ∷ [])
  one_more_report r k = all_append (IsReport s.pool) s.machine.reports (r ∷ []) h (k, tt)

  answered_reports : (n : ℕ) (bytes : List ℕ) (e : Ending) (ns : List ℕ) → IsAwaitingSketch s n bytes → AreShort ns → AllByRecursion (IsReport s.pool) (s.machine.reports ++ report_of (round_after_sketch s.machine s.set n bytes) e ns ∷ [])
  answered_reports n bytes e ns a short =
      let r : Round = round_after_sketch s.machine s.set n bytes in
      one_more_report (report_of r e ns) (reported (node_keys s) s.pool r e ns (joined_members n bytes) (round_after_sketch-is n s.machine s.requests s.set bytes b a.waits a.fits a.ranged).most short)

  asked_reports : (n : ℕ) (success : Bool) (asks : List ℕ) → sent_extensions s.machine.phase ≡ Some n → diff_fault success s.machine.round asks ≡ None → AllByRecursion (IsReport s.pool) (s.machine.reports ++ report_of s.machine.round (ending_of success n) asks ∷ [])
  asked_reports n success asks g e =
      let r : Round = s.machine.round in
      one_more_report (report_of r (ending_of success n) asks)
      (reported (node_keys s) s.pool r (ending_of success n) asks setup.snapshot (sketched-round s.machine s.requests n b g).most (asks_short success (node_keys s) s.pool r asks setup.snapshot e))

  report_rows : EachRow s (λ t. AllByRecursion (IsReport t.state.pool) t.state.machine.reports)
  report_rows = record {
    stays = h;
    ends = λ e. h;
    version = λ e. h;
    wtxidrelay = λ e. h;
    offer = λ o e is none. h;
    plain = λ e by_id none. h;
    whole = λ o e by_id some. h;
    answer = λ n bytes es a e. answered_reports n bytes (answered_ending n) es a (answer_short (round_after_sketch s.machine s.set n bytes) es e);
    more = λ n bytes a e. h;
    fallback = λ n bytes a. answered_reports n bytes ending.Fallback [] a none_short;
    first = λ size q a e. h;
    extension = λ n a g e. h;
    difference = λ n success asks a g e m. asked_reports n success asks g e;
    wants = λ es n. h;
    request = λ es n. h;
    getdata = λ es past m. h;
    notfound = λ es past m. h;
    known = λ t past a p. h;
    gained = λ t past a p f. larger_pool s.pool (t ∷ []) s.machine.reports h;
    ping = λ n past m. h;
    pong = λ r e. h;
    addition = λ t a. larger_pool s.pool (t ∷ []) s.machine.reports h;
    announcement = λ t a k past plain. larger_pool s.pool (t ∷ []) s.machine.reports h;
    member = λ t a k past whole. larger_pool s.pool (t ∷ []) s.machine.reports h;
    round = λ r idle. h;
    plain_round = λ r idle plain. h;
  }

  pub on_message-reports : (m : Message) → IsMessage m → AllByRecursion (IsReport (on_message s m).state.pool) (on_message s m).state.machine.reports
  on_message-reports m sound = on_message-rows s (λ t. AllByRecursion (IsReport t.state.pool) t.state.machine.reports) report_rows m sound

  pub on_addition-reports : (tx : List ℕ) → IsTransaction (transaction_of tx) → AllByRecursion (IsReport (on_addition s tx).turn.state.pool) (on_addition s tx).turn.state.machine.reports
  on_addition-reports tx sound = on_addition-rows s (λ t. AllByRecursion (IsReport t.state.pool) t.state.machine.reports) report_rows tx sound

  pub on_start-reports : AllByRecursion (IsReport (on_start s).turn.state.pool) (on_start s).turn.state.machine.reports
  on_start-reports = on_start-rows s (λ t. AllByRecursion (IsReport t.state.pool) t.state.machine.reports) report_rows
