-- A message about a round ends no node but an accepter that is asked for what it hasn't sketched.
use Rattle.std.proofs.Common.{◌≡◌, ◌⊎◌, inl, inr, ⊎_elim, ℕ, zero, suc, ◌+◌, ◌*◌, ◌%◌, ◌^◌, ◌<◌, ◌≤◌, ◌==◌, ◌&&◌, not, if◌then◌else◌, length, Bool, true, false, List, [], ◌∷◌, ◌++◌, filter, Option, Some, None, Ok, refl, sym, ap, ap₂, subst, ◌∙◌, arith, eq-eqb, le-leb, lt-ltb}
use Rattle.std.specs.List.{AllByRecursion}
use Rattle.std.proofs.lemmas.Bool.{cases_lt, cond_both, false_from_ne_true, or_cases, eqb-true}
use Rattle.sketch_rules.specs.Answers.{IsAscending}
use Rattle.field_rules.specs.Elements.{numbers}
use Rattle.sketch_rules.specs.Sketches.{bytes_of}
use Rattle.sketch_laws.proofs.Bytes.{length-bytes_of}
use Rattle.sketch_laws.proofs.EverySums.{length-odd_power_sums}
use Rattle.id_rules.specs.Ids.{KeyPair}
use Rattle.wire_rules.specs.declared.message.Message.{Message}
use Rattle.wire_rules.specs.declared.message.Message.TheVariants as message
use Rattle.wire_rules.specs.declared.phase.Phase.TheVariants as phase
use Rattle.pool_rules.specs.Snapshots.{Member, members, ids_of, sketched_shorts, snapshot_difference, snapshot_sums}
use Rattle.pool_rules.specs.declared.limits.TheConstants.{FIRST_LIMIT}
use Rattle.pool_rules.specs.declared.report.Report.{Report}
use Rattle.node_rules.specs.Accepter.{ask_fault, diff_fault, diff_by, ending_of, first_sketch, round_of_request, extension_sketch}
use Rattle.node_rules.specs.Outcomes.{is_in, missing_short_ids, own_short_ids, report_of}
use Rattle.node_rules.specs.Invariant.{IsMember, IsNode, IsBounded, IsRoundOf, IsSketched}
use Rattle.invariant_laws.proofs.Stages.{asked-waiting_phase, asked-sent_phase, sent_extensions-sent_phase}
use Rattle.node_rules.specs.Opener.{length_fault, is_first_length, extension_length, sketch_by, answer_to_sketch, after_sketch, answer_to, round_after_sketch}
use Rattle.node_rules.specs.Opener.{value_or_fault}
use Rattle.node_rules.specs.Stages.{sent_phase, requested_extensions, sent_extensions, extensions_in, capacity_after}
use Rattle.node_rules.specs.State.{Machine, Requests, Round, extensions_allowed, initiator_of}
use Rattle.node_rules.specs.Steps.{on_message}
use Rattle.node_rules.specs.Turns.{Turn, after_move, after_response}
use Rattle.node_rules.specs.declared.config.Role.TheVariants as role
use Rattle.node_rules.specs.declared.end.End.{End}
use Rattle.node_rules.specs.declared.end.End.TheVariants as end
use Rattle.pair_rules.specs.Rounds.{EachRound}
use Rattle.pair_rules.specs.Rounds.{answering_capacity}
use Rattle.pair_invariant_rules.specs.Pairs.{Pair}
use Rattle.pair_invariant_rules.specs.Topics.{messages_of_rounds, topic_of, is_round}
use Rattle.pair_invariant_rules.specs.Handshake.{Past, stage_of, HasHandshake}
use Rattle.pair_invariant_rules.specs.Rounds.{RoundCase, Requested, Sketched, Extending, Resolved, Pinged, Ponged, IsOpenerIn, IsAccepterIn, IsWithinLevel, round_messages_to_b, round_messages_to_a, portion, HasSumsOf, HasSumsIn, IsInCase, IsAnswered, IsAnsweredBy, AreAgreed, coming_reports, HasReports, HasRound, keys_of_pair}
use Rattle.headline_laws.proofs.AnsweredLists.{asks_of_gap}
use Rattle.headline_laws.proofs.Fitting.{answered_gap}
use Rattle.pair_invariant_laws.proofs.Known.{Known, known_a, known_b, told_past}
use Rattle.id_rules.proofs.Lists.{all_weaker, filter_passed}
use Rattle.pair_invariant_laws.proofs.PlainTalk.{waiting_past}
use Rattle.pair_invariant_laws.proofs.RoundRows.{reqrecon_row, extension_row, diff_row, ping_row, pong_row, sketch_row, rests_idle}
use Rattle.pair_invariant_laws.proofs.Roundings.{front_round, is_first, keys_b}
use Rattle.pair_invariant_laws.proofs.Levels.{levels_agree}
use Rattle.pair_invariant_laws.proofs.SketchSteps.{answered_stage, members_again}
use Rattle.pair_rules.specs.Ends.{HasWrongAnswer}
use Rattle.pair_end_laws.proofs.Filling.{Fills, goes_fills}

-- ---- asks that rise are refused only where one isn't known

rises_from : (low more high : ℕ) (es : List ℕ) → low ≤ more → IsAscending more high es → IsAscending low high es
unfolding IsAscending
rises_from low more high [] le h = tt
rises_from low more high (e ∷ es) le h = let le' = h.0 in (omega arith, h.1, h.2)

filter_rises : (t : ℕ → Bool) (low high : ℕ) (es : List ℕ) → IsAscending low high es → IsAscending low high (filter t es)
unfolding IsAscending
filter_rises t low high [] h = tt
filter_rises t low high (e ∷ es) h =
    let rest = filter_rises t (e + 1) high es h.2 in
    let le = h.0 in
    cond_both (t e) (e ∷ filter t es) (filter t es) (IsAscending low high) (λ k. (h.0, h.1, rest)) (λ k. rises_from low (e + 1) high (filter t es) (omega arith) rest)

below_not_in : (before : List ℕ) (low n : ℕ) → low ≤ n → AllByRecursion (λ b. b < low) before → is_in before n ≡ false
below_not_in before low n le h = false_from_ne_true (is_in before n) (λ e. in_below before h e)
  where
    in_below : (bs : List ℕ) → AllByRecursion (λ b. b < low) bs → is_in bs n ≡ true → ⊥
    in_below [] h e = let apart : false ≡ true = e in cc
    in_below (b ∷ bs) h e =
        let lt = h.0 in
        ⊎_elim (λ here. let same = eqb-true b n here in absurd (omega arith)) (λ later. in_below bs h.1 later) (or_cases (b == n) (is_in bs n) e)

-- the refusal is of one that isn't known, so not all are known
record IsUnknown (shorts ns : List ℕ) (x : End) : Type 0 where
  pub short : ℕ
  pub cause : x ≡ end.UnknownShortId short
  pub unknown : AllByRecursion (λ n. is_in shorts n ≡ true) ns → ⊥

at_ask : (known : Bool) (shorts : List ℕ) (n : ℕ) (ns : List ℕ) (x : End) (further : Option End) → is_in shorts n ≡ known → (if known then further else Some (end.UnknownShortId n)) ≡ Some x
    → (further ≡ Some x → IsUnknown shorts ns x) → IsUnknown shorts (n ∷ ns) x
at_ask true shorts n ns x further e h f = let r = f h in record { short = r.short; cause = r.cause; unknown = λ all. r.unknown all.1 }
at_ask false shorts n ns x further e h f = record {
  short = n;
  cause = let same : x ≡ end.UnknownShortId n = cc in same;
  unknown = λ all. (let apart : false ≡ true = sym e ∙ all.0 in cc);
}

ask_unknown : (shorts before ns : List ℕ) (low high : ℕ) (x : End) → AllByRecursion (λ b. b < low) before → IsAscending low high ns → ask_fault shorts before ns ≡ Some x → IsUnknown shorts ns x
unfolding ask_fault IsAscending
ask_unknown shorts before [] low high x b r e = absurd (let apart : None ≡ Some x = e in cc)
ask_unknown shorts before (n ∷ ns) low high x b r e =
    let new : is_in before n ≡ false = below_not_in before low n r.0 b in
    let le = r.0 in
    at_ask (is_in shorts n) shorts n ns x (ask_fault shorts (n ∷ before) ns) refl
    (ap (λ t. if is_in shorts n then (if t then Some (end.AskRepeated n) else ask_fault shorts (n ∷ before) ns) else Some (end.UnknownShortId n)) (sym new) ∙ e)
    (λ f. ask_unknown shorts (n ∷ before) ns (n + 1) high x (omega arith, all_weaker (λ b. b < low) (λ b. b < n + 1) (λ b lt. omega arith) before b) r.2 f)

-- ---- the opener's last report, where the accepter's is still to come

record IsLast (P : Report → Report → Type 0) (xs : List Report) (y : Report) : Type 0 where
  pub earlier : List Report
  pub last : Report
  pub all : xs ≡ earlier ++ last ∷ []
  pub holds : P last y

each_last : (P : Report → Report → Type 0) (xs ys : List Report) (y : Report) → EachRound P xs (ys ++ y ∷ []) → IsLast P xs y
unfolding EachRound
each_last P [] [] y h = absurd h
each_last P [] (v ∷ vs) y h = absurd h
each_last P (x ∷ []) [] y h = record { earlier = []; last = x; all = refl; holds = h.0 }
each_last P (x ∷ (z ∷ zs)) [] y h = absurd h.1
each_last P (x ∷ xs) (v ∷ vs) y h = let r = each_last P xs vs y h.1 in record { earlier = x ∷ r.earlier; last = r.last; all = ap (λ zs. x ∷ zs) r.all; holds = r.holds }

-- ---- the accepter

abbrev pub CauseB : Pair → Turn → Type 0
CauseB p t = (e : End) → t.state.ended ≡ Some e → (e ≡ end.PoolFull) ⊎ ((short : ℕ) × (e ≡ end.UnknownShortId short) × HasWrongAnswer p.a t.state)

pub fills_cause : (p : Pair) (t : Turn) → Fills t → CauseB p t
fills_cause p t f e h = inl (f e h)

goes_cause : (p : Pair) (t : Turn) → t.state.ended ≡ None → CauseB p t
goes_cause p t going = fills_cause p t (goes_fills t going)

record IsWrong (p : Pair) (x : End) : Type 0 where
  pub short : ℕ
  pub cause : x ≡ end.UnknownShortId short
  pub wrong : HasWrongAnswer p.a p.b

module _ (p : Pair) (theirs : members (keys_of_pair p) (ids_of p.b.machine.round.snapshot) ≡ p.b.machine.round.snapshot) (most : extensions_allowed p.a.machine ≤ 2) (going : p.b.ended ≡ None) where
  abbrev Q : List Member
  Q = p.b.machine.round.snapshot

  -- the report that the accepter would make
  abbrev Coming : ℕ → List ℕ → Report
  Coming n asks = report_of p.b.machine.round (ending_of true n) asks

  -- asks of an answer that is the difference are all known
  known_asks : (n : ℕ) (ra : Report) (asks : List ℕ) → IsAnswered (keys_of_pair p) ra (Coming n asks) → length (snapshot_difference (members (keys_of_pair p) ra.snapshot) Q) ≤ answering_capacity ra
      → AllByRecursion (λ n. is_in (sketched_shorts Q) n ≡ true) asks
  known_asks n ra asks answered fits =
      let keys : KeyPair = keys_of_pair p in
      let P : List Member = members keys ra.snapshot in
      let same : ra.answered ≡ snapshot_difference P (members keys (ids_of Q)) = answered_gap keys ra.snapshot (ids_of Q) (answering_capacity ra) ra.answered answered.answer (subst (λ q. length (snapshot_difference P q) ≤ answering_capacity ra) (sym theirs) fits) in
      let all : asks ≡ own_short_ids Q (snapshot_difference P Q) = answered.asked ∙ (ap (missing_short_ids P) same ∙ (ap (λ q. missing_short_ids P (snapshot_difference P q)) theirs ∙ asks_of_gap P Q)) in
      subst (AllByRecursion (λ n. is_in (sketched_shorts Q) n ≡ true)) (sym all) (filter_passed (λ n. is_in (sketched_shorts Q) n) (snapshot_difference P Q))

  is_wrong : (n : ℕ) (asks : List ℕ) (x : End) → IsInCase (Resolved n true asks) p → HasReports (Resolved n true asks) p → ask_fault (sketched_shorts Q) [] asks ≡ Some x → IsWrong p x
  unfolding coming_reports IsAnsweredBy IsWithinLevel
  is_wrong n asks x s r fault =
      let keys : KeyPair = keys_of_pair p in
      let l : IsLast (AreAgreed keys) p.a.machine.reports (Coming n asks) = each_last (AreAgreed keys) p.a.machine.reports p.b.machine.reports (Coming n asks) r.agree in
      let ra : Report = l.last in
      let stage : extensions_in ra.ending ≡ Some n = ap extensions_in l.holds.ending ∙ answered_stage n (let within = s.within in omega (arith, within, most)) in
      let answered : IsAnswered keys ra (Coming n asks) = subst (λ o. IsAnsweredBy o keys ra (Coming n asks)) stage l.holds.answered in
      let rises : IsAscending 1 (2 ^ 32) asks = subst (IsAscending 1 (2 ^ 32)) (sym answered.asked) (filter_rises (λ k. not (is_in (sketched_shorts (members keys ra.snapshot)) k)) 1 (2 ^ 32) ra.answered answered.answer.rises) in
      let u : IsUnknown (sketched_shorts Q) asks x = ask_unknown (sketched_shorts Q) [] asks 1 (2 ^ 32) x tt rises fault in
      record {
        short = u.short;
        cause = u.cause;
        wrong = record {
          earlier = l.earlier;
          last = ra;
          reports = l.all;
          extensions = n;
          answered = stage;
          larger = ⊎_elim (λ less. less) (λ fits. absurd (u.unknown (known_asks n ra asks answered fits))) (cases_lt (answering_capacity ra) (length (snapshot_difference (members keys ra.snapshot) Q)));
        };
      }

  by_fault : (f : Option End) (n : ℕ) (success : Bool) (asks : List ℕ) → IsInCase (Resolved n success asks) p → HasReports (Resolved n success asks) p → diff_fault success p.b.machine.round asks ≡ f
      → CauseB p (after_response p.b p.b.set (diff_by f p.b.machine n success asks))
  unfolding diff_by HasSumsIn
  by_fault None n success asks s r fault e h = goes_cause p (after_response p.b p.b.set (diff_by None p.b.machine n success asks)) going e h
  by_fault (Some x) n true asks s r fault e h =
      let w : IsWrong p x = is_wrong n asks x s r fault in
      let same : x ≡ e = cc in
      inr (w.short, sym same ∙ w.cause, record { earlier = w.wrong.earlier; last = w.wrong.last; reports = w.wrong.reports; extensions = w.wrong.extensions; answered = w.wrong.answered; larger = w.wrong.larger })
  by_fault (Some x) n false asks s r fault e h =
      absurd (let apart : None ≡ Some x = sym (ap (diff_fault false p.b.machine.round) s.keeps) ∙ fault in cc)

  module _ (level : stage_of p.a.machine.phase ≡ Past → extensions_allowed p.b.machine ≡ extensions_allowed p.a.machine) (known : Known p.b p.a) (accepter : p.b.config.role ≡ role.Accepter) where
    requested_cause : (size q : ℕ) → IsInCase (Requested size q) p → CauseB p (on_message p.b (message.ReqRecon size q))
    unfolding IsAccepterIn
    requested_cause size q s =
        subst (CauseB p) (sym (reqrecon_row p.b known.stage known.whole accepter size q (rests_idle p.b.machine.phase s.accepter known.stage)))
        (goes_cause p (after_response p.b [] (Ok (first_sketch p.b.machine (round_of_request p.b.set size q)))) going)

    extending_cause : (n : ℕ) → IsInCase (Extending n) p → CauseB p (on_message p.b message.ReqSketchExt)
    unfolding IsOpenerIn IsAccepterIn IsWithinLevel
    extending_cause n s =
        let within = s.within in
        let less : n < extensions_allowed p.b.machine = subst (λ k. n < k) (sym (level (ap stage_of s.opener ∙ waiting_past (suc n)))) (omega (arith, within)) in
        subst (CauseB p) (sym (extension_row p.b known.stage known.whole accepter n (ap sent_extensions s.accepter ∙ sent_extensions-sent_phase n (omega (arith, within, most))) (lt-ltb n (extensions_allowed p.b.machine) less)))
        (goes_cause p (after_response p.b p.b.set (Ok (extension_sketch p.b.machine n))) going)

    resolved_cause : (n : ℕ) (success : Bool) (asks : List ℕ) → IsInCase (Resolved n success asks) p → HasReports (Resolved n success asks) p → CauseB p (on_message p.b (message.ReconcilDiff success asks))
    unfolding IsAccepterIn IsWithinLevel
    resolved_cause n success asks s r =
        subst (CauseB p) (sym (diff_row p.b known.stage known.whole accepter n success asks (ap sent_extensions s.accepter ∙ sent_extensions-sent_phase n (let within = s.within in omega (arith, within, most)))))
        (by_fault (diff_fault success p.b.machine.round asks) n success asks s r refl)

    at_cause_b : (c : RoundCase) (m : Message) (ms : List Message) → IsInCase c p → HasReports c p → m ∷ messages_of_rounds ms ≡ round_messages_to_b c p.a.requests.begun → CauseB p (on_message p.b m)
    unfolding round_messages_to_b
    at_cause_b (Requested size q) m ms s r e =
        let f = is_first m (message.ReqRecon size q) (messages_of_rounds ms) [] e in subst (λ m. CauseB p (on_message p.b m)) (sym f.0) (requested_cause size q s)
    at_cause_b (Extending n) m ms s r e =
        let f = is_first m message.ReqSketchExt (messages_of_rounds ms) [] e in subst (λ m. CauseB p (on_message p.b m)) (sym f.0) (extending_cause n s)
    at_cause_b (Resolved n success asks) m ms s r e =
        let f = is_first m (message.ReconcilDiff success asks) (messages_of_rounds ms) (message.Ping p.a.requests.begun ∷ []) e in subst (λ m. CauseB p (on_message p.b m)) (sym f.0) (resolved_cause n success asks s r)
    at_cause_b Pinged m ms s r e =
        let f = is_first m (message.Ping p.a.requests.begun) (messages_of_rounds ms) [] e in
        subst (λ m. CauseB p (on_message p.b m)) (sym f.0) (subst (CauseB p) (sym (ping_row p.b p.a.requests.begun known.stage)) (λ x h. absurd (let apart : None ≡ Some x = sym going ∙ h in cc)))
    at_cause_b _ m ms s r e = absurd (let apart : m ∷ messages_of_rounds ms ≡ [] = e in cc)

-- the members of the accepter's snapshot, under the keys of both
theirs : (p : Pair) → IsNode p.b → Known p.b p.a → members (keys_of_pair p) (ids_of p.b.machine.round.snapshot) ≡ p.b.machine.round.snapshot
theirs p node known = members_again (keys_of_pair p) p.b.pool p.b.machine.round.snapshot (subst (λ k. AllByRecursion (IsMember k p.b.pool) p.b.machine.round.snapshot) (keys_b p known) node.setup.snapshot.each)

pub round_cause_b : (p : Pair) (m : Message) (ms : List Message) → IsNode p.a → IsNode p.b → p.b.ended ≡ None → HasHandshake p → p.b.config.role ≡ role.Accepter → p.to_b ≡ m ∷ ms → HasRound p
    → is_round (topic_of m) ≡ true → CauseB p (on_message p.b m)
round_cause_b p m ms node_a node_b going handshake accepter e r h =
    let known : Known p.b p.a = known_b p handshake (told_past p m ms handshake e h) in
    at_cause_b p (theirs p node_b known) node_a.bounded.most going (λ past. levels_agree p.b p.a node_b node_a known (known_a p handshake past)) known accepter r.case m ms r.position r.reports_in (sym (front_round m ms h) ∙ (ap messages_of_rounds (sym e) ∙ r.position.to_b))

-- ---- the opener

-- a portion has the length that it is to have
sketch_fits : (n : ℕ) (m : Machine) (other : Round) → other.capacity ≤ FIRST_LIMIT → HasSumsOf n m.round other → length_fault m n (length (portion other n)) ≡ None
unfolding length_fault portion HasSumsOf
sketch_fits zero m other few h =
    let bytes = length-bytes_of (snapshot_sums other.snapshot 0 other.capacity) in
    let sums = length-odd_power_sums (numbers 32) (sketched_shorts other.snapshot) 0 other.capacity in
    let len : ℕ = length (bytes_of (snapshot_sums other.snapshot 0 other.capacity)) in
    let whole : len % 4 ≡ 0 = omega arith in
    let small : len ≤ 4 * FIRST_LIMIT = omega arith in
    let both : is_first_length len ≡ true = ap₂ (λ x y. x && y) (eq-eqb (len % 4) 0 whole) (le-leb len (4 * FIRST_LIMIT) small) in
    ap (λ b. if b then None else Some (end.SketchLength len 0)) both
sketch_fits (suc n) m other few h =
    let c : ℕ = capacity_after other.capacity n in
    let bytes = length-bytes_of (snapshot_sums other.snapshot c c) in
    let sums = length-odd_power_sums (numbers 32) (sketched_shorts other.snapshot) c c in
    let len : ℕ = length (bytes_of (snapshot_sums other.snapshot c c)) in
    let long : len ≡ extension_length m.round.capacity n = bytes ∙ (ap (λ k. 4 * k) sums ∙ ap (λ k. 4 * capacity_after k n) (sym h.0)) in
    ap (λ b. if b then None else Some (end.SketchLength len (extension_length m.round.capacity n))) (eq-eqb len (extension_length m.round.capacity n) long)

-- the capacity of an accepter that has sent a sketch
capacity_limited : (m : Machine) (k : Requests) (n : ℕ) → IsBounded m k → m.phase ≡ sent_phase n → n ≤ 2 → m.round.capacity ≤ FIRST_LIMIT
unfolding IsRoundOf
capacity_limited m k n h e le =
    let sketched : IsSketched m.round = subst (λ (o : Option ℕ × Option ℕ). IsRoundOf o.0 o.1 m.round) (ap₂ (λ x y. (x, y)) (ap requested_extensions e ∙ asked-sent_phase n) (ap sent_extensions e ∙ sent_extensions-sent_phase n le)) h.round in
    sketched.most

module _ (p : Pair) (node_a : IsNode p.a) (node_b : IsNode p.b) (going : p.a.ended ≡ None) (opener : p.a.config.role ≡ role.Opener) (known : stage_of p.a.machine.phase ≡ Past → Known p.a p.b) where
  sketched_fills : (n : ℕ) → IsInCase (Sketched n) p → Fills (on_message p.a (message.Sketch (portion p.b.machine.round n)))
  unfolding sketch_by IsOpenerIn IsAccepterIn IsWithinLevel HasSumsIn
  sketched_fills n s =
      let within = s.within in
      let most = node_a.bounded.most in
      let two : n ≤ 2 = omega (arith, within, most) in
      let few : p.b.machine.round.capacity ≤ FIRST_LIMIT = capacity_limited p.b.machine p.b.requests n node_b.bounded s.accepter two in
      let bytes : List ℕ = portion p.b.machine.round n in
      let k : Known p.a p.b = known (ap stage_of s.opener ∙ waiting_past n) in
      let row = sketch_row p.a bytes k.stage opener k.whole ∙ ap (λ o. after_move p.a (sketch_by (answer_to_sketch o p.a.machine p.a.set bytes) o (initiator_of p.a) p.a.set bytes)) (ap requested_extensions s.opener ∙ asked-waiting_phase n two) in
      let fits = ap (λ f. after_move p.a (value_or_fault f (after_sketch (answer_to (round_after_sketch p.a.machine p.a.set n bytes)) (initiator_of p.a) p.a.set n bytes))) (sketch_fits n p.a.machine p.b.machine.round few s.keeps) in
      subst Fills (sym (row ∙ fits)) (goes_fills (after_move p.a (Ok (after_sketch (answer_to (round_after_sketch p.a.machine p.a.set n bytes)) (initiator_of p.a) p.a.set n bytes))) going)

  barrier_past : stage_of phase.Barrier ≡ Past
  unfolding stage_of
  barrier_past = refl

  ponged_fills : IsInCase Ponged p → Fills (on_message p.a (message.Pong p.a.requests.begun))
  unfolding IsOpenerIn
  ponged_fills s =
      let k : Known p.a p.b = known (ap stage_of s.opener ∙ barrier_past) in
      subst Fills (sym (pong_row p.a k.stage opener s.opener)) (λ x h. absurd (let apart : None ≡ Some x = sym going ∙ h in cc))

  at_fills_a : (c : RoundCase) (m : Message) (ms : List Message) → IsInCase c p → m ∷ messages_of_rounds ms ≡ round_messages_to_a c p.a.requests.begun p.b.machine.round → Fills (on_message p.a m)
  unfolding round_messages_to_a
  at_fills_a (Sketched n) m ms s e =
      let f = is_first m (message.Sketch (portion p.b.machine.round n)) (messages_of_rounds ms) [] e in subst (λ m. Fills (on_message p.a m)) (sym f.0) (sketched_fills n s)
  at_fills_a Ponged m ms s e =
      let f = is_first m (message.Pong p.a.requests.begun) (messages_of_rounds ms) [] e in subst (λ m. Fills (on_message p.a m)) (sym f.0) (ponged_fills s)
  at_fills_a _ m ms s e = absurd (let apart : m ∷ messages_of_rounds ms ≡ [] = e in cc)

pub round_fills_a : (p : Pair) (m : Message) (ms : List Message) → IsNode p.a → IsNode p.b → p.a.ended ≡ None → HasHandshake p → p.a.config.role ≡ role.Opener → p.to_a ≡ m ∷ ms → HasRound p
    → is_round (topic_of m) ≡ true → Fills (on_message p.a m)
round_fills_a p m ms node_a node_b going handshake opener e r h =
    at_fills_a p node_a node_b going opener (known_a p handshake) r.case m ms r.position (sym (front_round m ms h) ∙ (ap messages_of_rounds (sym e) ∙ r.position.to_a))
