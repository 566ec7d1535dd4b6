-- Asks that are sketched and stand once have no fault.
use Rattle.std.proofs.Common.{◌≡◌, ◌≢◌, ◌+◌, ◌<◌, ◌≤◌, ℕ, true, false, cond, List, [], ◌∷◌, Some, None, length, get_or, ◌-◌, suc, subst, ⊎_elim, refl, ap, ◌∙◌, arith, rules}
use Rattle.std.proofs.lemmas.List.{get_or_default}
use Rattle.std.proofs.lemmas.Bool.{cases_lt}
use Rattle.std.specs.List.Sorted.{IsNonDecreasing, IsPermutation}
use Rattle.std.proofs.lemmas.List.Sorted.{All-permutation, IsPermutation-sym}
use Rattle.field_rules.specs.Lists.{AreDistinct}
use Rattle.list_laws.proofs.Pairs.{AreDistinct-permutation, distinct_from_neighbours}
use Rattle.node_rules.specs.Outcomes.{is_in}
use Rattle.node_rules.specs.Accepter.{ask_fault}
use Rattle.node_rules.specs.declared.end.End.TheVariants.{UnknownShortId, AskRepeated}
use Rattle.responder.specs.Asks.{AreSketchedOnce}

tail_distinct : (n : ℕ) (ns : List ℕ) → AreDistinct (n ∷ ns) → AreDistinct ns
tail_distinct n ns distinct i j d before j_in = distinct (suc i) (suc j) d (omega (arith, before)) (omega (arith, j_in))

-- behind those before
none_behind : (shorts before asks : List ℕ) → ((k : ℕ) → k < length asks → is_in shorts (get_or asks k 0) ≡ true)
    → ((k : ℕ) → k < length asks → is_in before (get_or asks k 0) ≡ false) → AreDistinct asks → ask_fault shorts before asks ≡ None
unfolding ask_fault
none_behind shorts before [] sketched new distinct = refl
none_behind shorts before (n ∷ ns) sketched new distinct =
    ap (λ b. cond b (cond (is_in before n) (Some (AskRepeated n)) (ask_fault shorts (n ∷ before) ns)) (Some (UnknownShortId n))) (sketched 0 (omega arith))
    ∙ ap (λ b. cond b (Some (AskRepeated n)) (ask_fault shorts (n ∷ before) ns)) (new 0 (omega arith))
    ∙ none_behind shorts (n ∷ before) ns (λ k k_in. sketched (suc k) (omega (arith, k_in))) (λ k k_in. still k k_in) (tail_distinct n ns distinct) where
      apart : (k : ℕ) → k < length ns → n ≢ get_or ns k 0
      apart k k_in = distinct 0 (suc k) 0 (omega arith) (omega (arith, k_in))

      still : (k : ℕ) → k < length ns → is_in (n ∷ before) (get_or ns k 0) ≡ false
      still k k_in = (let late = new (suc k) (omega (arith, k_in)) in let other = apart k k_in in search rules)

pub no_fault : (shorts asks sorted : List ℕ) → IsPermutation asks sorted → AreSketchedOnce shorts sorted → ask_fault shorts [] asks ≡ None
no_fault shorts asks sorted moved sound =
    let back = IsPermutation-sym asks sorted moved in
    none_behind shorts [] asks (λ k k_in. All-permutation (λ n. is_in shorts n ≡ true) sorted asks back sound.0 k 0 k_in) (λ k k_in. refl) (AreDistinct-permutation sorted asks back sound.1)

-- numbers in ascending order
pub all_once : (shorts sorted : List ℕ) (i : ℕ) → IsNonDecreasing sorted → length sorted ≤ i
    → ((k : ℕ) → k < i → is_in shorts (get_or sorted k 0) ≡ true) → ((k : ℕ) → k + 1 < i → get_or sorted k 0 ≢ get_or sorted (k + 1) 0)
    → AreSketchedOnce shorts sorted
all_once shorts sorted i up le sketched apart = (
  λ k d k_in. ap (is_in shorts) (get_or_default sorted k d 0 k_in) ∙ sketched k (omega arith),
  distinct_from_neighbours sorted up (λ k k_in. apart k (omega arith)),
)

-- one number more
pub sketched_to : (shorts sorted : List ℕ) (i : ℕ) → ((k : ℕ) → k < i → is_in shorts (get_or sorted k 0) ≡ true) → is_in shorts (get_or sorted i 0) ≡ true
    → (k : ℕ) → k < i + 1 → is_in shorts (get_or sorted k 0) ≡ true
sketched_to shorts sorted i earlier here k k_in = ⊎_elim
    (λ (before : k < i). earlier k before)
    (λ (behind : i ≤ k). let last : i ≡ k = omega (arith, k_in, behind) in subst (λ m. is_in shorts (get_or sorted m 0) ≡ true) last here)
    (cases_lt k i)

pub apart_to : (sorted : List ℕ) (i : ℕ) → ((k : ℕ) → k + 1 < i → get_or sorted k 0 ≢ get_or sorted (k + 1) 0)
    → (1 ≤ i → get_or sorted (i - 1) 0 ≢ get_or sorted i 0) → (k : ℕ) → k + 1 < i + 1 → get_or sorted k 0 ≢ get_or sorted (k + 1) 0
apart_to sorted i earlier here k k_in = ⊎_elim
    (λ (before : k + 1 < i). earlier k before)
    (λ (behind : i ≤ k + 1).
    let last : i ≡ k + 1 = omega (arith, k_in, behind) in
    let place : i - 1 ≡ k = omega (arith, last) in
    subst (λ m. get_or sorted k 0 ≢ get_or sorted m 0) last (subst (λ m. get_or sorted m 0 ≢ get_or sorted i 0) place (here (omega (arith, last)))))
    (cases_lt (k + 1) i)
