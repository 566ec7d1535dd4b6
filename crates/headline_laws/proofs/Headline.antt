-- In a drained world every begun round is finished.
use Rattle.std.proofs.Common.{◌≡◌, ⊎_elim, ℕ, ◌||◌, true, false, List, [], ◌∷◌, ◌++◌, length, Option, Some, None, refl, sym, ap, ap₂, ◌∙◌, subst}
use Rattle.std.specs.List.{AllByRecursion}
use Rattle.std.proofs.lemmas.Bool.{or_cases}
use Rattle.base_types.specs.declared.lists.Hash32.{Hash32}
use Rattle.id_rules.specs.Ids.{KeyPair}
use Rattle.wire_rules.specs.declared.message.Message.{Message}
use Rattle.pool_rules.specs.Pools.{is_in_pool, is_listed}
use Rattle.pool_rules.specs.declared.report.Ending.{Ending}
use Rattle.pool_rules.specs.declared.report.Ending.TheVariants as ending
use Rattle.pool_rules.specs.declared.report.Report.{Report}
use Rattle.pool_rules.specs.Snapshots.{members}
use Rattle.node_rules.specs.Outcomes.{announcement}
use Rattle.node_rules.specs.Stages.{extensions_in}
use Rattle.node_rules.specs.State.{NodeState, open_wants}
use Rattle.pair_rules.specs.Headline.{DrainedWorldsAreFinished}
use Rattle.pair_rules.specs.Rounds.{IsReconcilable, IsFitting, HasBothSnapshots, IsInBoth, EachRound, IsFinished, pair_keys, capacity_by, announced_by, announced_of, answering_capacity}
use Rattle.pair_rules.specs.World.{World, IsDrained, opening_world, run}
use Rattle.pair_invariant_rules.specs.Pairs.{Pair, AreOnTheWay, HasPair, pair_of_world, without_inbox}
use Rattle.pair_invariant_rules.specs.Invariant.{IsPair}
use Rattle.pair_invariant_rules.specs.Announced.{IsReaching, IsTold}
use Rattle.pair_invariant_rules.specs.Rounds.{AreAgreed, IsAnsweredBy, IsAnswered}
use Rattle.pair_invariant_rules.specs.Wants.{IsPooled, announced_ids}
use Rattle.pair_invariant_laws.proofs.Bridge.{run_from-kept}
use Rattle.pair_invariant_laws.proofs.Drained.{drained_way, IsRestingPair, drained_rests}
use Rattle.headline_laws.proofs.Fitting.{answered_gap, all_of_p, all_of_q}
use Rattle.pair_invariant_laws.proofs.Keeping.{is_kept}
use Rattle.id_rules.proofs.Lists.{all_weaker}
use Rattle.pair_invariant_laws.proofs.Opening.{opening_kept}

-- what reaches a node to which nothing comes, and that wants nothing, is in its pool
reached_has : (s : NodeState) (ms : List Message) (id : Hash32) → ms ≡ [] → open_wants s ≡ [] → IsReaching s ms id → IsPooled s.pool id
reached_has s ms id none quiet e =
    ⊎_elim (λ h. h) (λ h. absurd (let apart : false ≡ true = sym (ap₂ (λ xs ys. is_listed xs id || is_listed (announced_ids ys) id) quiet none) ∙ h in cc))
    (or_cases (is_in_pool s.pool id) (is_listed (open_wants s) id || is_listed (announced_ids ms) id) e)

told_has : (keys : KeyPair) (sender reader : NodeState) (ms : List Message) (r : Report) → ms ≡ [] → open_wants reader ≡ [] → IsTold keys sender reader ms r → AllByRecursion (IsPooled reader.pool) (announced_of keys r)
told_has keys sender reader ms r none quiet t = all_weaker (IsReaching reader ms) (IsPooled reader.pool) (λ id. reached_has reader ms id none quiet) (announced_of keys r) t.reaches

both_pools : (w : World) (ids : List Hash32) → AllByRecursion (IsPooled w.a.pool) ids → AllByRecursion (IsPooled w.b.pool) ids → AllByRecursion (IsInBoth w) ids
both_pools w [] a b = tt
both_pools w (id ∷ ids) a b = (record { a = a.0; b = b.0 }, both_pools w ids a.1 b.1)

-- ---- one round

fallen : (e : Ending) → extensions_in e ≡ None → e ≡ ending.Fallback
unfolding extensions_in
fallen ending.Fallback h = refl
fallen _ h = absurd (cc)

module _ (keys : KeyPair) (w : World) (ra rb : Report) (agree : AreAgreed keys ra rb)
    (own_a : AllByRecursion (IsPooled w.a.pool) ra.snapshot) (own_b : AllByRecursion (IsPooled w.b.pool) rb.snapshot)
    (told_a : AllByRecursion (IsPooled w.b.pool) (announced_of keys ra)) (told_b : AllByRecursion (IsPooled w.a.pool) (announced_of keys rb)) where
  fell_back_holds : ra.ending ≡ ending.Fallback → HasBothSnapshots w ra rb
  unfolding announced_by extensions_in
  fell_back_holds e =
      let fell : (r : Report) → r.ending ≡ ending.Fallback → announced_of keys r ≡ r.snapshot = λ r h. ap (λ x. announced_by (extensions_in x) keys r) h in
      record {
        of_a = both_pools w ra.snapshot own_a (subst (AllByRecursion (IsPooled w.b.pool)) (fell ra e) told_a);
        of_b = both_pools w rb.snapshot (subst (AllByRecursion (IsPooled w.a.pool)) (fell rb (sym agree.ending ∙ e)) told_b) own_b;
      }

  fitting_by : (o : Option ℕ) → extensions_in ra.ending ≡ o → IsFitting keys ra rb → HasBothSnapshots w ra rb
  unfolding announced_by capacity_by IsAnsweredBy extensions_in
  fitting_by None e fits = fell_back_holds (fallen ra.ending e)
  fitting_by (Some n) e fits =
      let answered : IsAnswered keys ra rb = subst (λ o. IsAnsweredBy o keys ra rb) e agree.answered in
      let gap_is = answered_gap keys ra.snapshot rb.snapshot (answering_capacity ra) ra.answered answered.answer fits.small in
      let says_a = subst (λ o. AllByRecursion (IsPooled w.b.pool) (announced_by o keys ra)) e told_a in
      let says_b = subst (λ o. AllByRecursion (IsPooled w.a.pool) (announced_by o keys rb)) (ap extensions_in (sym agree.ending) ∙ e) told_b in
      record {
        of_a = both_pools w ra.snapshot own_a (all_of_p keys ra.snapshot rb.snapshot ra.answered gap_is fits.apart (IsPooled w.b.pool) says_a own_b);
        of_b = both_pools w rb.snapshot (all_of_q keys ra.snapshot rb.snapshot ra.answered gap_is fits.apart (IsPooled w.a.pool) (subst (λ xs. AllByRecursion (IsPooled w.a.pool) (announcement (members keys rb.snapshot) xs)) answered.asked says_b) own_a) own_b;
      }

  round_holds : IsReconcilable keys ra rb → HasBothSnapshots w ra rb
  round_holds fits = ⊎_elim fell_back_holds (fitting_by (extensions_in ra.ending) refl) fits

-- ---- all rounds

each_holds : (keys : KeyPair) (w : World) (to_a to_b : List Message) → to_a ≡ [] → to_b ≡ [] → open_wants w.a ≡ [] → open_wants w.b ≡ []
    → (ras rbs : List Report) → EachRound (AreAgreed keys) ras rbs → AllByRecursion (IsTold keys w.a w.b to_b) ras → AllByRecursion (IsTold keys w.b w.a to_a) rbs → EachRound (λ ra rb. IsReconcilable keys ra rb → HasBothSnapshots w ra rb) ras rbs
unfolding EachRound
each_holds keys w to_a to_b none_a none_b quiet_a quiet_b [] [] agree ta tb = tt
each_holds keys w to_a to_b none_a none_b quiet_a quiet_b [] (rb ∷ rbs) agree ta tb = absurd agree
each_holds keys w to_a to_b none_a none_b quiet_a quiet_b (ra ∷ ras) [] agree ta tb = absurd agree
each_holds keys w to_a to_b none_a none_b quiet_a quiet_b (ra ∷ ras) (rb ∷ rbs) agree ta tb = (
  round_holds keys w ra rb agree.0 ta.0.pooled tb.0.pooled (told_has keys w.a w.b to_b ra none_b quiet_b ta.0) (told_has keys w.b w.a to_a rb none_a quiet_a tb.0),
  each_holds keys w to_a to_b none_a none_b quiet_a quiet_b ras rbs agree.1 ta.1 tb.1,
)

drained_finished : (w : World) (by_a by_b : List Message) → HasPair IsPair w by_a by_b → IsDrained w → IsFinished w
drained_finished w by_a by_b k d =
    let p : Pair = pair_of_world w k.to_a k.to_b by_a by_b in
    let four_b : length w.b.config.magic ≡ 4 = ap length k.kept.one_net ∙ k.kept.four in
    let none_a = drained_way w.a.config.magic w.a.inbox k.to_a k.kept.four k.kept.to_a (subst (λ xs. AreOnTheWay w.a.config.magic w.a.inbox xs k.to_a) d.ba k.way_a) in
    let none_b = drained_way w.b.config.magic w.b.inbox k.to_b four_b k.kept.to_b (subst (λ xs. AreOnTheWay w.b.config.magic w.b.inbox xs k.to_b) d.ab k.way_b) in
    let r : IsRestingPair p = drained_rests p none_a.0 none_b.0 k.kept.handshake k.kept.rounds k.kept.wants k.kept.announcements in
    record {
      quiet_a = record { idle = r.idle_a; nothing_unread = none_a.1; nothing_wanted = r.wants_a };
      quiet_b = record { idle = r.idle_b; nothing_unread = none_b.1; nothing_wanted = r.wants_b };
      rounds = each_holds (pair_keys w) w k.to_a k.to_b none_a.0 none_b.0 r.wants_a r.wants_b w.a.machine.reports w.b.machine.reports r.agree (told_in w.a w.b k.to_b k.kept.told_a) (told_in w.b w.a k.to_a k.kept.told_b);
      begun = r.begun;
    }
  where
    -- an inbox has no part in what was told
    told_in : (s u : NodeState) (ms : List Message) → AllByRecursion (IsTold (pair_keys w) (without_inbox s) (without_inbox u) ms) s.machine.reports → AllByRecursion (IsTold (pair_keys w) s u ms) s.machine.reports
    told_in s u ms h = all_weaker (IsTold (pair_keys w) (without_inbox s) (without_inbox u) ms) (IsTold (pair_keys w) s u ms) (λ r t. record { reaches = t.reaches; pooled = t.pooled }) s.machine.reports h

pub headline : DrainedWorldsAreFinished
headline c d p q script pair fine going drained =
    let w : World = opening_world c d p q in
    let k = run_from-kept IsPair is_kept script w [] [] fine (λ opening. opening_kept c d p q pair) going in
    drained_finished (run w script).world ([] ++ (run w script).by_a) ([] ++ (run w script).by_b) k drained
