-- The reports of both sides in a drained world.
use Rattle.std.proofs.Common.{◌≡◌, ◌≤◌, lit≤, List, [], ◌∷◌, ◌++◌, length, ap, ◌∙◌, subst}
use Rattle.id_rules.specs.Ids.{KeyPair}
use Rattle.pool_rules.specs.declared.report.Report.{Report}
use Rattle.node_rules.specs.State.{Round}
use Rattle.pair_rules.specs.Rounds.{EachRound, pair_keys}
use Rattle.pair_rules.specs.World.{World, Effect, opening_world, run}
use Rattle.pair_invariant_rules.specs.Pairs.{Pair, AreOnTheWay, pair_of_world}
use Rattle.pair_invariant_rules.specs.Rounds.{RoundCase, Resolved, AreAgreed, IsAnsweredBy, IsAnswered, coming_reports, HasRound, keys_of_pair}
use Rattle.headline_laws.proofs.AnsweredLists.{answered_lists}
use Rattle.pair_invariant_laws.proofs.Drained.{drained_way, IsRestingPair, drained_rests}
use Rattle.pair_invariant_laws.proofs.Worlds.{kept_by_run}
use Rattle.pair_rules.specs.Reports.{AreAlike, AreAlikeSoFar, DrainedReportsAreAlike}

each_weaker : (P Q : Report → Report → Type 0) → ((ra rb : Report) → P ra rb → Q ra rb) → (ras rbs : List Report) → EachRound P ras rbs → EachRound Q ras rbs
unfolding EachRound
each_weaker P Q f [] [] h = tt
each_weaker P Q f [] (rb ∷ rbs) h = absurd h
each_weaker P Q f (ra ∷ ras) [] h = absurd h
each_weaker P Q f (ra ∷ ras) (rb ∷ rbs) h = (f ra rb h.0, each_weaker P Q f ras rbs h.1)

alike : (keys : KeyPair) (ra rb : Report) → AreAgreed keys ra rb → AreAlike keys ra rb
unfolding IsAnsweredBy
alike keys ra rb g = record {
  ending = g.ending;
  capacity = g.capacity;
  answered = λ n e.
      let a : IsAnswered keys ra rb = subst (λ o. IsAnsweredBy o keys ra rb) e g.answered in
      record { asked = a.asked; opener = λ fits. (answered_lists keys ra rb a fits).opener; accepter = λ fits. (answered_lists keys ra rb a fits).accepter };
}

few_coming : (c : RoundCase) (r : Round) → length (coming_reports c r) ≤ 1
unfolding coming_reports
few_coming (Resolved n success asks) r = lit≤ tt
few_coming _ r = lit≤ tt

pub alike_so_far : (p : Pair) → HasRound p → AreAlikeSoFar (keys_of_pair p) p.a.machine.reports p.b.machine.reports
alike_so_far p r = record {
  coming = coming_reports r.case p.b.machine.round;
  few = few_coming r.case p.b.machine.round;
  rounds = each_weaker (AreAgreed (keys_of_pair p)) (AreAlike (keys_of_pair p)) (alike (keys_of_pair p)) p.a.machine.reports (p.b.machine.reports ++ coming_reports r.case p.b.machine.round) r.reports_in.agree;
}

pub drained_reports_are_alike : DrainedReportsAreAlike
drained_reports_are_alike c d p q script pair fine going drained =
    let x : Effect = run (opening_world c d p q) script in
    let w : World = x.world in
    let k = kept_by_run c d p q script pair fine going in
    let four_b : length w.b.config.magic ≡ 4 = ap length k.kept.one_net ∙ k.kept.four in
    let none_a = drained_way w.a.config.magic w.a.inbox k.to_a k.kept.four k.kept.to_a (subst (λ xs. AreOnTheWay w.a.config.magic w.a.inbox xs k.to_a) drained.ba k.way_a) in
    let none_b = drained_way w.b.config.magic w.b.inbox k.to_b four_b k.kept.to_b (subst (λ xs. AreOnTheWay w.b.config.magic w.b.inbox xs k.to_b) drained.ab k.way_b) in
    let r : IsRestingPair (pair_of_world w k.to_a k.to_b x.by_a x.by_b) = drained_rests (pair_of_world w k.to_a k.to_b x.by_a x.by_b) none_a.0 none_b.0 k.kept.handshake k.kept.rounds k.kept.wants k.kept.announcements in
    each_weaker (AreAgreed (pair_keys w)) (AreAlike (pair_keys w)) (alike (pair_keys w)) w.a.machine.reports w.b.machine.reports r.agree
