-- Which numbers a list has, of lists without repeats, and the difference of two of them.
use Rattle.std.proofs.Common.{◌≡◌, ◌⊎◌, inl, inr, ℕ, zero, suc, ◌<◌, ◌==◌, Bool, true, false, not, ◌||◌, ◌&&◌, cond, List, [], ◌∷◌, ◌++◌, length, get_or, refl, sym, ap, ◌∙◌, arith, ◌+◌, ◌≤◌, length-append}
use Rattle.std.specs.Prelude.{◌↔◌, nat_lt, filter}
use Rattle.std.specs.List.{AllPairs, Contains, list_any}
use Rattle.std.proofs.lemmas.Bool.{eqb-true, eq-eqb, cases_Bool, or_cases, or_parts, ltb-true}
use Rattle.std.proofs.lemmas.Bool.Decides.{nat_tests}
use Rattle.std.proofs.lemmas.List.Kept.{AllPairs-cons}
use Rattle.std.proofs.lemmas.List.Elements.{Contains-get_or}
use Rattle.field_rules.specs.Lists.{AreDistinct}
use Rattle.sketch_rules.specs.Sets.{relative_complement, sorted_insertion, sorted_numbers, difference}

-- whether the number is in the list
abbrev pub has : List ℕ → ℕ → Bool
has xs n = list_any (λ x. x == n) xs

-- no number stands twice
abbrev pub Apart : List ℕ → Type 0
Apart [] = Unit {0}
Apart (x ∷ xs) = (has xs x ≡ false) × Apart xs

-- each number is below those after it
abbrev pub IsAscending : List ℕ → Type 0
IsAscending [] = Unit {0}
IsAscending (x ∷ xs) = ((n : ℕ) → has xs n ≡ true → x < n) × IsAscending xs

-- ---- membership

pub has-from_Contains : (xs : List ℕ) (n : ℕ) → Contains xs n → has xs n ≡ true
has-from_Contains xs n h = at xs h.0 h.1 h.2
  where
    at : (xs : List ℕ) (k : ℕ) → k < length xs → get_or xs k n ≡ n → has xs n ≡ true
    at [] k inside is = absurd (omega arith)
    at (x ∷ xs) zero inside is = rw (eq-eqb x n is) refl
    at (x ∷ xs) (suc k) inside is = elim (cases_Bool (x == n)) [
      | inl same ↦ rw same refl
      | inr other ↦ rw other (at xs k (omega arith) is)
    ]

pub Contains-from_has : (xs : List ℕ) (n : ℕ) → has xs n ≡ true → Contains xs n
Contains-from_has [] n h = cc h
Contains-from_has (x ∷ xs) n h = elim (cases_Bool (x == n)) [
  | inl same ↦ (0, omega arith, eqb-true x n same)
  | inr other ↦
      let r = Contains-from_has xs n (rw other at h) in
      let inside = r.1 in
      (suc r.0, omega arith, r.2)
]

-- a list without repeats
pub Apart-from_AllPairs : (xs : List ℕ) → AreDistinct xs → Apart xs
Apart-from_AllPairs [] h = tt
Apart-from_AllPairs (x ∷ xs) h = (
  elim (cases_Bool (has xs x)) [
    | inl here ↦ let r = Contains-from_has xs x here in let inside = r.1 in absurd (h 0 (suc r.0) x (omega arith) (omega arith) (sym r.2))
    | inr gone ↦ gone
  ],
  Apart-from_AllPairs xs (λ i j d below within. h (suc i) (suc j) d (omega arith) (omega arith)),
)

-- an ascending list
pub AllPairs-from_IsAscending : (xs : List ℕ) → IsAscending xs → AllPairs (λ a b. a < b) xs
AllPairs-from_IsAscending [] h = λ i j d below within. absurd (omega arith)
AllPairs-from_IsAscending (x ∷ xs) h =
    AllPairs-cons (λ a b. a < b) x xs (λ k d inside. h.0 (get_or xs k d) (has-from_Contains xs (get_or xs k d) (Contains-get_or xs k d inside))) (AllPairs-from_IsAscending xs h.1)

-- ---- what the parts of a list have

pub has-append : (xs ys : List ℕ) (n : ℕ) → has (xs ++ ys) n ≡ (has xs n || has ys n)
has-append [] ys n = refl
has-append (x ∷ xs) ys n = elim (x == n) as (λ b. (b || has (xs ++ ys) n) ≡ ((b || has xs n) || has ys n)) [ true ↦ refl | false ↦ has-append xs ys n ]

-- two tests that fail or pass together with a third
fails_with : (a c d : Bool) → d ≡ false → (a && d) ≡ ((c || a) && d)
fails_with a c true q = cc q
fails_with true true false q = refl
fails_with true false false q = refl
fails_with false true false q = refl
fails_with false false false q = refl

pub has-filter : (t : ℕ → Bool) (xs : List ℕ) (n : ℕ) → has (filter t xs) n ≡ (has xs n && t n)
has-filter t [] n = refl
has-filter t (x ∷ xs) n = elim (cases_Bool (x == n)) [
  | inl same ↦
      let e : x ≡ n = eqb-true x n same in
      elim (cases_Bool (t x)) [
        | inl kept ↦ rw (kept, same) (sym (ap t (sym e) ∙ kept))
        | inr left_out ↦ rw left_out (has-filter t xs n ∙ fails_with (has xs n) (x == n) (t n) (ap t (sym e) ∙ left_out))
      ]
  | inr other ↦
      rw other (elim (t x) as (λ b. has (cond b (x ∷ filter t xs) (filter t xs)) n ≡ (has xs n && t n)) [
        | true ↦ rw other (has-filter t xs n)
        | false ↦ has-filter t xs n
      ])
]

pub has-sorted_insertion : (x : ℕ) (ys : List ℕ) (n : ℕ) → has (sorted_insertion x ys) n ≡ ((x == n) || has ys n)
unfolding sorted_insertion
has-sorted_insertion x [] n = refl
has-sorted_insertion x (y ∷ ys) n = elim (nat_lt x y) as (λ b. has (cond b (x ∷ y ∷ ys) (y ∷ sorted_insertion x ys)) n ≡ ((x == n) || ((y == n) || has ys n))) [
  | true ↦ refl
  | false ↦ ap (λ b. (y == n) || b) (has-sorted_insertion x ys n) ∙ turned (y == n) (x == n) (has ys n)
]
  where
    turned : (a b c : Bool) → (a || (b || c)) ≡ (b || (a || c))
    turned true true c = refl
    turned true false c = refl
    turned false true c = refl
    turned false false c = refl

pub has-sorted_numbers : (xs : List ℕ) (n : ℕ) → has (sorted_numbers xs) n ≡ has xs n
unfolding sorted_numbers
has-sorted_numbers [] n = refl
has-sorted_numbers (x ∷ xs) n = has-sorted_insertion x (sorted_numbers xs) n ∙ ap (λ b. (x == n) || b) (has-sorted_numbers xs n)

-- ---- lists without repeats

pub Apart-filter : (t : ℕ → Bool) (xs : List ℕ) → Apart xs → Apart (filter t xs)
Apart-filter t [] h = tt
Apart-filter t (x ∷ xs) h = elim (t x) as (λ b. Apart (cond b (x ∷ filter t xs) (filter t xs))) [
  | true ↦ (has-filter t xs x ∙ ap (λ b. b && t x) h.0, Apart-filter t xs h.1)
  | false ↦ Apart-filter t xs h.1
]

pub Apart-append : (xs ys : List ℕ) → Apart xs → Apart ys → ((n : ℕ) → has xs n ≡ true → has ys n ≡ false) → Apart (xs ++ ys)
Apart-append [] ys h k disjoint = k
Apart-append (x ∷ xs) ys h k disjoint = (
  has-append xs ys x ∙ ap (λ b. b || has ys x) h.0 ∙ disjoint x (rw (eq-eqb x x refl) refl),
  Apart-append xs ys h.1 k (λ n inside. disjoint n (elim (x == n) as (λ b. (b || has xs n) ≡ true) [ true ↦ refl | false ↦ inside ])),
)

-- which of two different numbers is the lower
lower : (x y : ℕ) → nat_lt x y ≡ false → (y == x) ≡ false → y < x
lower x y high other = grind (arith, nat_tests, high, other)

IsAscending-sorted_insertion : (x : ℕ) (ys : List ℕ) → has ys x ≡ false → IsAscending ys → IsAscending (sorted_insertion x ys)
unfolding sorted_insertion
IsAscending-sorted_insertion x [] gone h = ((λ n inside. cc inside), tt)
IsAscending-sorted_insertion x (y ∷ ys) gone h = elim (cases_Bool (nat_lt x y)) [
  | inl low ↦
      let below : x < y = ltb-true x y low in
      rw low (
        (λ n inside. elim (or_cases (y == n) (has ys n) inside) [
          | inl same ↦ let e = eqb-true y n same in omega arith
          | inr later ↦ let above = h.0 n later in omega arith
        ]),
        h,
      )
  | inr high ↦
      let parts = or_parts (y == x) (has ys x) gone in
      let below : y < x = lower x y high parts.0 in
      rw high (
        (λ n inside. elim (or_cases (x == n) (has ys n) (sym (has-sorted_insertion x ys n) ∙ inside)) [
          | inl same ↦ let e = eqb-true x n same in omega arith
          | inr later ↦ h.0 n later
        ]),
        IsAscending-sorted_insertion x ys parts.1 h.1,
      )
]

IsAscending-sorted_numbers : (xs : List ℕ) → Apart xs → IsAscending (sorted_numbers xs)
unfolding sorted_numbers
IsAscending-sorted_numbers [] h = tt
IsAscending-sorted_numbers (x ∷ xs) h = IsAscending-sorted_insertion x (sorted_numbers xs) (has-sorted_numbers xs x ∙ h.0) (IsAscending-sorted_numbers xs h.1)

-- ---- the difference of two sets

-- a number is in it where it is in one of them alone
pub has-difference : (xs ys : List ℕ) (n : ℕ) → has (difference xs ys) n ≡ ((has xs n && not (has ys n)) || (has ys n && not (has xs n)))
has-difference xs ys n =
    has-sorted_numbers (relative_complement xs ys ++ relative_complement ys xs) n
    ∙ has-append (relative_complement xs ys) (relative_complement ys xs) n
    ∙ ap (λ b. b || has (relative_complement ys xs) n) (has-filter (λ x. not (has ys x)) xs n)
    ∙ ap (λ b. (has xs n && not (has ys n)) || b) (has-filter (λ y. not (has xs y)) ys n)

-- no number is in both parts
parts_disjoint : (xs ys : List ℕ) (n : ℕ) → has (relative_complement xs ys) n ≡ true → has (relative_complement ys xs) n ≡ false
parts_disjoint xs ys n h =
    has-filter (λ y. not (has xs y)) ys n ∙ never (has xs n) (has ys n) (sym (has-filter (λ x. not (has ys x)) xs n) ∙ h)
  where
    never : (a b : Bool) → (a && not b) ≡ true → (b && not a) ≡ false
    never true true e = refl
    never true false e = refl
    never false true e = cc e
    never false false e = refl

-- the difference of two sets is strictly ascending
pub difference-rises : (xs ys : List ℕ) → AreDistinct xs → AreDistinct ys → AllPairs (λ a b. a < b) (difference xs ys)
difference-rises xs ys h k =
    AllPairs-from_IsAscending (difference xs ys) (IsAscending-sorted_numbers (relative_complement xs ys ++ relative_complement ys xs)
    (Apart-append (relative_complement xs ys) (relative_complement ys xs) (Apart-filter (λ x. not (has ys x)) xs (Apart-from_AllPairs xs h)) (Apart-filter (λ y. not (has xs y)) ys (Apart-from_AllPairs ys k)) (parts_disjoint xs ys)))

-- a number that isn't in the list
pub has-from_none : (xs : List ℕ) (n : ℕ) → ¬ Contains xs n → has xs n ≡ false
has-from_none xs n h = elim (cases_Bool (has xs n)) [ inl here ↦ absurd (h (Contains-from_has xs n here)) | inr gone ↦ gone ]

pub none_from_has : (xs : List ℕ) (n : ℕ) → has xs n ≡ false → ¬ Contains xs n
none_from_has xs n h = λ held. (let here = has-from_Contains xs n held in cc (h, here))

-- a number is in the difference exactly where it is in one of the two alone
pub difference-holds : (xs ys : List ℕ) (n : ℕ) → Contains (difference xs ys) n ↔ ((Contains xs n × (¬ Contains ys n)) ⊎ (Contains ys n × (¬ Contains xs n)))
difference-holds xs ys n = (
  λ held. one_alone (cases_Bool (has xs n)) (cases_Bool (has ys n)) (sym (has-difference xs ys n) ∙ has-from_Contains (difference xs ys) n held),
  λ h. Contains-from_has (difference xs ys) n (has-difference xs ys n ∙ held_once h),
)
  where
    one_alone : (has xs n ≡ true) ⊎ (has xs n ≡ false) → (has ys n ≡ true) ⊎ (has ys n ≡ false) → ((has xs n && not (has ys n)) || (has ys n && not (has xs n))) ≡ true
        → (Contains xs n × (¬ Contains ys n)) ⊎ (Contains ys n × (¬ Contains xs n))
    one_alone (inl p) (inl q) e = cc (rw (p, q) at e)
    one_alone (inl p) (inr q) e = inl (Contains-from_has xs n p, none_from_has ys n q)
    one_alone (inr p) (inl q) e = inr (Contains-from_has ys n q, none_from_has xs n p)
    one_alone (inr p) (inr q) e = cc (rw (p, q) at e)

    held_once : (Contains xs n × (¬ Contains ys n)) ⊎ (Contains ys n × (¬ Contains xs n)) → ((has xs n && not (has ys n)) || (has ys n && not (has xs n))) ≡ true
    held_once (inl h) = rw (has-from_Contains xs n h.0, has-from_none ys n h.1) refl
    held_once (inr h) = rw (has-from_Contains ys n h.0, has-from_none xs n h.1) refl

-- what it has, one of the two has
pub difference-from : (xs ys : List ℕ) (n : ℕ) → has (difference xs ys) n ≡ true → (has xs n ≡ true) ⊎ (has ys n ≡ true)
difference-from xs ys n held = one (has xs n) (has ys n) (sym (has-difference xs ys n) ∙ held)
  where
    one : (a b : Bool) → ((a && not b) || (b && not a)) ≡ true → (a ≡ true) ⊎ (b ≡ true)
    one true b e = inl refl
    one false true e = inr refl
    one false false e = inl e

-- where it is empty, both lists have the same numbers
pub same_where_no_difference : (xs ys : List ℕ) → difference xs ys ≡ [] → (n : ℕ) → has xs n ≡ has ys n
same_where_no_difference xs ys none n =
    both (has xs n) (has ys n) (sym (has-difference xs ys n) ∙ ap (λ ds. has ds n) none)
  where
    both : (a b : Bool) → ((a && not b) || (b && not a)) ≡ false → a ≡ b
    both true true e = refl
    both true false e = e
    both false true e = sym e
    both false false e = refl

-- ---- how many numbers it has

filter_within : (t : ℕ → Bool) (xs : List ℕ) → length (filter t xs) ≤ length xs
filter_within t [] = omega arith
filter_within t (x ∷ xs) = let rest = filter_within t xs in elim (t x) as (λ b. length (cond b (x ∷ filter t xs) (filter t xs)) ≤ suc (length xs)) [ true ↦ omega arith | false ↦ omega arith ]

length-sorted_insertion : (x : ℕ) (ys : List ℕ) → length (sorted_insertion x ys) ≡ suc (length ys)
unfolding sorted_insertion
length-sorted_insertion x [] = refl
length-sorted_insertion x (y ∷ ys) = elim (nat_lt x y) as (λ b. length (cond b (x ∷ y ∷ ys) (y ∷ sorted_insertion x ys)) ≡ suc (suc (length ys))) [
  | true ↦ refl
  | false ↦ ap suc (length-sorted_insertion x ys)
]

length-sorted_numbers : (xs : List ℕ) → length (sorted_numbers xs) ≡ length xs
unfolding sorted_numbers
length-sorted_numbers [] = refl
length-sorted_numbers (x ∷ xs) = length-sorted_insertion x (sorted_numbers xs) ∙ ap suc (length-sorted_numbers xs)

-- no more than both lists together
pub difference_within : (xs ys : List ℕ) → length (difference xs ys) ≤ length xs + length ys
difference_within xs ys =
    omega (arith, length-sorted_numbers (relative_complement xs ys ++ relative_complement ys xs), length-append (relative_complement xs ys) (relative_complement ys xs), filter_within (λ x. not (has ys x)) xs, filter_within (λ y. not (has xs y)) ys)
