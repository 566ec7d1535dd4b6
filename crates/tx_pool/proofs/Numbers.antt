-- Decimal digits, read one by one.
use Rattle.std.proofs.Common.{◌≡◌, ℕ, ◌+◌, ◌-◌, ◌*◌, ◌<◌, ◌≤◌, nat_le, ◌&&◌, Bool, true, false, if◌then◌else◌, List, [], ◌∷◌, length, drop, get_or, Option, Some, None, refl, ap, ◌∙◌, arith, add-one, le-leb}
use Rattle.std.specs.Prelude.{bytes_eq, option_and_then}
use Rattle.std.specs.Fmt.{decimal}
use Rattle.std.proofs.Math.Seq.{drop-cons}
use Rattle.std.proofs.lemmas.Bool.{lt-leb}
use Rattle.line_rules.specs.Numbers.{bounded, digits_onto, is_digit, number_of, number_within}

module _ (word : List ℕ) (i : ℕ) (inside : i < length word) where
  cut : drop i word ≡ get_or word i 0 ∷ drop (i + 1) word
  cut = rw add-one (drop-cons word i 0 inside)

  pub digits_onto-digit : (n : ℕ) → is_digit (get_or word i 0) ≡ true → digits_onto n (drop i word) ≡ digits_onto (n * 10 + (get_or word i 0 - 48)) (drop (i + 1) word)
  unfolding digits_onto
  digits_onto-digit n digit = ap (digits_onto n) cut ∙ ap (λ b. if b then digits_onto (n * 10 + (get_or word i 0 - 48)) (drop (i + 1) word) else None) digit

  pub digits_onto-other : (n : ℕ) → is_digit (get_or word i 0) ≡ false → digits_onto n (drop i word) ≡ None
  unfolding digits_onto
  digits_onto-other n other = ap (digits_onto n) cut ∙ ap (λ b. if b then digits_onto (n * 10 + (get_or word i 0 - 48)) (drop (i + 1) word) else None) other

-- more digits make no smaller number
by_digit : (b m n : ℕ) (rest : List ℕ) (digit : Bool) → (if digit then digits_onto (m * 10 + (b - 48)) rest else None) ≡ Some n → (digits_onto (m * 10 + (b - 48)) rest ≡ Some n → m * 10 + (b - 48) ≤ n) → m ≤ n
by_digit b m n rest true e later = omega (arith, later e)
by_digit b m n rest false e later = cc

pub digits_onto-least : (ds : List ℕ) (m n : ℕ) → digits_onto m ds ≡ Some n → m ≤ n
unfolding digits_onto
digits_onto-least [] m n e = let same : m ≡ n = cc in omega arith
digits_onto-least (b ∷ rest) m n e = by_digit b m n rest (is_digit b) e (λ k. digits_onto-least rest (m * 10 + (b - 48)) n k)

-- ---- a number within bounds

module _ (low high : ℕ) (word : List ℕ) where
  pub number_within-spelled : (n : ℕ) (from written : Bool) → number_of word ≡ Some n → n ≤ high → nat_le low n ≡ from → bytes_eq (decimal n) word ≡ written → number_within low high word ≡ (if from && written then Some n else None)
  number_within-spelled n true written is small above e = ap (option_and_then (bounded low high word)) is ∙ (rw (above, le-leb n high small, e) refl)
  number_within-spelled n false written is small below e = ap (option_and_then (bounded low high word)) is ∙ (rw (below) refl)

  pub number_within-none : ((n : ℕ) → number_of word ≡ Some n → high < n) → number_within low high word ≡ None
  number_within-none large = by (number_of word) refl
    where
      by_bounds : (n : ℕ) (from : Bool) → nat_le low n ≡ from → high < n → bounded low high word n ≡ None
      by_bounds n true above past = let beyond : nat_le n high ≡ false = lt-leb n high past in rw (above, beyond) refl
      by_bounds n false below past = rw (below) refl

      by : (o : Option ℕ) → number_of word ≡ o → number_within low high word ≡ None
      by None e = ap (option_and_then (bounded low high word)) e
      by (Some n) e = ap (option_and_then (bounded low high word)) e ∙ by_bounds n (nat_le low n) refl (large n e)
