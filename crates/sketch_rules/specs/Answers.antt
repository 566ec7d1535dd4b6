-- Which set a sketch is of.
use Rattle.std.specs.Prelude.{◌≡◌, ◌⊎◌, ℕ, zero, suc, ◌+◌, ◌-◌, ◌^◌, ◌<◌, ◌≤◌, Bool, true, false, if◌then◌else◌, nat_eq, List, [], ◌∷◌, length, Option, Some, None}
use Rattle.std.specs.Cmp.Lexicographic.{pointwise, same_text}
use Rattle.std.proofs.Common.{inl, inr, refl, sym, ap, subst, ◌∙◌, arith}
use Rattle.std.proofs.lemmas.Bool.{cases_eq}
use Rattle.std.proofs.lemmas.Nat.{pow_pos}
use Rattle.std.proofs.lemmas.Cmp.{nat_list_eq_equiv}
use Rattle.sketch_rules.specs.Sketches.{sketch_at}

-- the numbers rise strictly, from low on and below high
unfoldable pub IsAscending : ℕ → ℕ → List ℕ → Type 0
IsAscending low high [] = Unit {0}
IsAscending low high (e ∷ es) = (low ≤ e) × (e < high) × IsAscending (e + 1) high es

-- es is a set of nonzero elements of the field of 2 ^ width elements that has exactly this sketch, and is no larger than
-- its capacity
pub record Answer (width : ℕ) (sums es : List ℕ) : Type 0 where
  pub rises : IsAscending 1 (2 ^ width) es
  pub few : length es ≤ length sums
  pub sketched : sketch_at width es (length sums) ≡ sums

-- ---- the answer itself

-- the first of the two, where there is one
first_of_two : Option (List ℕ) → Option (List ℕ) → Option (List ℕ)
first_of_two (Some es) other = Some es
first_of_two None other = other

-- the list with low in front, where there is one
with_front : ℕ → Option (List ℕ) → Option (List ℕ)
with_front low (Some es) = Some (low ∷ es)
with_front low None = None

-- the empty list, where it passes
abbrev empty_if : Bool → Option (List ℕ)
empty_if passes = if passes then Some [] else None

-- a list that passes the test, among the rising lists of at most few of the n numbers from low on. Those without low are
-- tried first
first_among : (List ℕ → Bool) → ℕ → ℕ → ℕ → Option (List ℕ)
first_among test zero low few = empty_if (test [])
first_among test (suc n) low zero = empty_if (test [])
first_among test (suc n) low (suc few) =
    first_of_two (first_among test n (low + 1) (suc few)) (with_front low (first_among (λ es. test (low ∷ es)) n (low + 1) few))

-- the set that has this sketch, where some set has it. It is found by trying all sets, so nothing can compute it: all that
-- is used of it are the two laws below
pub answer_at : ℕ → List ℕ → Option (List ℕ)
answer_at width sums =
    first_among (λ es. pointwise nat_eq (sketch_at width es (length sums)) sums) (2 ^ width - 1) 1 (length sums)

-- the same for elements of 32 bits
abbrev pub answer_of : List ℕ → Option (List ℕ)
answer_of sums = answer_at 32 sums

-- ---- its two laws

-- the empty list passes or not
empty_passes : (b : Bool) (es : List ℕ) → empty_if b ≡ Some es → (b ≡ true) × (es ≡ [])
empty_passes true es e = (refl, cc)
empty_passes false es e = cc

empty_fails : (b : Bool) → empty_if b ≡ None → b ≡ false
empty_fails true e = cc
empty_fails false e = refl

-- what one of two gives, and where none gives anything
of_two : (a b : Option (List ℕ)) (es : List ℕ) → first_of_two a b ≡ Some es → (a ≡ Some es) ⊎ (b ≡ Some es)
unfolding first_of_two
of_two (Some ds) b es e = inl e
of_two None b es e = inr e

of_none : (a b : Option (List ℕ)) → first_of_two a b ≡ None → (a ≡ None) × (b ≡ None)
unfolding first_of_two
of_none (Some ds) b e = cc
of_none None b e = (refl, e)

-- what stands behind low
behind_front : (low : ℕ) (a : Option (List ℕ)) (es : List ℕ) → with_front low a ≡ Some es → (ds : List ℕ) × ((a ≡ Some ds) × (low ∷ ds ≡ es))
unfolding with_front
behind_front low (Some ds) es e = (ds, (refl, cc))
behind_front low None es e = cc

no_front : (low : ℕ) (a : Option (List ℕ)) → with_front low a ≡ None → a ≡ None
unfolding with_front
no_front low (Some ds) e = cc
no_front low None e = refl

-- what was sought: a list that passes the test, of at most few numbers that rise
record IsAmong (test : List ℕ → Bool) (low high few : ℕ) (es : List ℕ) : Type 0 where
  passes : test es ≡ true
  rises : IsAscending low high es
  fits : length es ≤ few

-- the empty list
among_empty : (test : List ℕ → Bool) (low high few : ℕ) (es : List ℕ) → (test [] ≡ true) × (es ≡ []) → IsAmong test low high few es
unfolding IsAscending
among_empty test low high few es h =
    subst (IsAmong test low high few) (sym h.1) (record { passes = h.0; rises = tt; fits = omega arith })

-- a list without low
among_later : (test : List ℕ → Bool) (low high few : ℕ) (es : List ℕ) → IsAmong test (low + 1) high few es → IsAmong test low high few es
unfolding IsAscending
among_later test low high few [] h = record { passes = h.passes; rises = tt; fits = h.fits }
among_later test low high few (e ∷ es) h = let r = h.rises in record { passes = h.passes; rises = (omega arith, r.1, r.2); fits = h.fits }

-- a list with low
among_front : (test : List ℕ → Bool) (low high few : ℕ) (ds es : List ℕ) → low < high → low ∷ ds ≡ es → IsAmong (λ ds. test (low ∷ ds)) (low + 1) high few ds → IsAmong test low high (suc few) es
unfolding IsAscending
among_front test low high few ds es lt e h = let within = h.fits in
    subst (IsAmong test low high (suc few)) e (record { passes = h.passes; rises = (omega arith, lt, h.rises); fits = omega arith })

-- what is found is among what is sought
first_among-some : (test : List ℕ → Bool) (n low few high : ℕ) → low + n ≡ high → (es : List ℕ) → first_among test n low few ≡ Some es → IsAmong test low high few es
unfolding first_among
first_among-some test zero low few high to es e = among_empty test low high few es (empty_passes (test []) es e)
first_among-some test (suc n) low zero high to es e = among_empty test low high zero es (empty_passes (test []) es e)
first_among-some test (suc n) low (suc few) high to es e =
    elim (of_two (first_among test n (low + 1) (suc few)) (with_front low (first_among (λ ds. test (low ∷ ds)) n (low + 1) few)) es e) [
      | inl later ↦ among_later test low high (suc few) es (first_among-some test n (low + 1) (suc few) high (omega arith) es later)
      | inr front ↦
          let behind = behind_front low (first_among (λ ds. test (low ∷ ds)) n (low + 1) few) es front in
          among_front test low high few behind.0 es (omega arith) behind.1.1 (first_among-some (λ ds. test (low ∷ ds)) n (low + 1) few high (omega arith) behind.0 behind.1.0)
    ]

-- where nothing is found, nothing that is sought passes
first_among-none : (test : List ℕ → Bool) (n low few high : ℕ) → low + n ≡ high → first_among test n low few ≡ None → (es : List ℕ) → IsAscending low high es → length es ≤ few → test es ≡ false
unfolding first_among IsAscending
first_among-none test zero low few high to none [] rises fits = empty_fails (test []) none
first_among-none test zero low few high to none (e ∷ es) rises fits = absurd (omega arith)
first_among-none test (suc n) low zero high to none [] rises fits = empty_fails (test []) none
first_among-none test (suc n) low zero high to none (e ∷ es) rises fits = absurd (omega arith)
first_among-none test (suc n) low (suc few) high to none [] rises fits =
    first_among-none test n (low + 1) (suc few) high (omega arith) (of_none (first_among test n (low + 1) (suc few)) (with_front low (first_among (λ ds. test (low ∷ ds)) n (low + 1) few)) none).0 [] tt fits
first_among-none test (suc n) low (suc few) high to none (e ∷ es) rises fits = elim (cases_eq low e) [
  | inl here ↦
      subst (λ z. test (z ∷ es) ≡ false) here
      (first_among-none (λ ds. test (low ∷ ds)) n (low + 1) few high (omega arith) (no_front low (first_among (λ ds. test (low ∷ ds)) n (low + 1) few) nones.1) es (subst (λ z. IsAscending (z + 1) high es) (sym here) rises.2) (omega arith))
  | inr later ↦ first_among-none test n (low + 1) (suc few) high (omega arith) nones.0 (e ∷ es) (omega arith, rises.1, rises.2) fits
]
  where
    nones : (first_among test n (low + 1) (suc few) ≡ None) × (with_front low (first_among (λ ds. test (low ∷ ds)) n (low + 1) few) ≡ None)
    nones = of_none (first_among test n (low + 1) (suc few)) (with_front low (first_among (λ ds. test (low ∷ ds)) n (low + 1) few)) none

-- the numbers from 1 on, below 2 ^ width
up_to_width : (width : ℕ) → 1 + (2 ^ width - 1) ≡ 2 ^ width
up_to_width width = omega (arith, pow_pos width)

-- what answer_at gives is an answer
pub answer_at-some : (width : ℕ) (sums es : List ℕ) → answer_at width sums ≡ Some es → Answer width sums es
unfolding answer_at
answer_at-some width sums es e =
    let among = first_among-some (λ es. pointwise nat_eq (sketch_at width es (length sums)) sums) (2 ^ width - 1) 1 (length sums) (2 ^ width) (up_to_width width) es e in
    record { rises = among.rises; few = among.fits; sketched = same_text (sketch_at width es (length sums)) sums (sym among.passes) }

-- where it gives none, there is none
pub answer_at-none : (width : ℕ) (sums : List ℕ) → answer_at width sums ≡ None → (es : List ℕ) → Answer width sums es → ⊥
unfolding answer_at
answer_at-none width sums none es answer =
    let fails = first_among-none (λ es. pointwise nat_eq (sketch_at width es (length sums)) sums) (2 ^ width - 1) 1 (length sums) (2 ^ width) (up_to_width width) none es answer.rises answer.few in
    let passes : pointwise nat_eq (sketch_at width es (length sums)) sums ≡ true =
    ap (λ z. pointwise nat_eq z sums) answer.sketched ∙ nat_list_eq_equiv.refl sums in
    cc
