-- In an answered round that fits, the opener's list is the difference, and the accepter's is its own part of it.
use Rattle.std.proofs.Common.{◌≡◌, ◌==◌, ◌&&◌, ◌||◌, not, ℕ, Bool, true, false, cond, List, [], ◌∷◌, filter, refl, sym, ap, ap₂, ◌∙◌, eq-eqb}
use Rattle.std.specs.List.{AllByRecursion}
use Rattle.std.proofs.lemmas.Bool.{or_left, or_right}
use Rattle.sketch_laws.proofs.Sets.{has, has-difference}
use Rattle.id_rules.specs.Ids.{KeyPair}
use Rattle.pool_rules.specs.Snapshots.{Member, members, sketched_shorts, snapshot_difference}
use Rattle.pool_rules.specs.declared.report.Report.{Report}
use Rattle.node_rules.specs.Outcomes.{missing_short_ids, is_in, own_short_ids}
use Rattle.pair_rules.specs.Rounds.{IsFitting, answering_capacity}
use Rattle.pair_invariant_rules.specs.Rounds.{IsAnswered}
use Rattle.headline_laws.proofs.Fitting.{answered_gap}
use Rattle.id_rules.proofs.Lists.{all_weaker}

filter_same : (t u : ℕ → Bool) (ns : List ℕ) → AllByRecursion (λ n. t n ≡ u n) ns → filter t ns ≡ filter u ns
filter_same t u [] h = refl
filter_same t u (n ∷ ns) h = ap₂ (λ b xs. cond b (n ∷ xs) xs) h.0 (filter_same t u ns h.1)

has_own : (ns : List ℕ) → AllByRecursion (λ n. has ns n ≡ true) ns
has_own [] = tt
has_own (n ∷ ns) = (or_left (n == n) (has ns n) (eq-eqb n n refl), all_weaker (λ k. has ns k ≡ true) (λ k. has (n ∷ ns) k ≡ true) (λ k e. or_right (n == k) (has ns k) e) ns (has_own ns))

exactly_one : (a b : Bool) → ((a && not b) || (b && not a)) ≡ true → not a ≡ b
exactly_one true true h = absurd (let apart : false ≡ true = h in cc)
exactly_one true false h = refl
exactly_one false true h = refl
exactly_one false false h = absurd (let apart : false ≡ true = h in cc)

pub asks_of_gap : (P Q : List Member) → missing_short_ids P (snapshot_difference P Q) ≡ own_short_ids Q (snapshot_difference P Q)
asks_of_gap P Q =
    filter_same (λ n. not (is_in (sketched_shorts P) n)) (λ n. is_in (sketched_shorts Q) n) (snapshot_difference P Q)
    (all_weaker (λ n. has (snapshot_difference P Q) n ≡ true) (λ n. not (is_in (sketched_shorts P) n) ≡ is_in (sketched_shorts Q) n)
    (λ n h. exactly_one (has (sketched_shorts P) n) (has (sketched_shorts Q) n) (sym (has-difference (sketched_shorts P) (sketched_shorts Q) n) ∙ h)) (snapshot_difference P Q) (has_own (snapshot_difference P Q)))

pub record Lists (keys : KeyPair) (ra rb : Report) : Type 0 where
  pub opener : ra.answered ≡ snapshot_difference (members keys ra.snapshot) (members keys rb.snapshot)
  pub accepter : rb.answered ≡ own_short_ids (members keys rb.snapshot) (snapshot_difference (members keys ra.snapshot) (members keys rb.snapshot))

pub answered_lists : (keys : KeyPair) (ra rb : Report) → IsAnswered keys ra rb → IsFitting keys ra rb → Lists keys ra rb
answered_lists keys ra rb a fits =
    let same = answered_gap keys ra.snapshot rb.snapshot (answering_capacity ra) ra.answered a.answer fits.small in
    record { opener = same; accepter = a.asked ∙ ap (missing_short_ids (members keys ra.snapshot)) same ∙ asks_of_gap (members keys ra.snapshot) (members keys rb.snapshot) }
