-- The list of rows, one more at a time.
use Rattle.std.proofs.Common.{◌≡◌, ◌⊎◌, inl, inr, ℕ, ◌+◌, ◌-◌, ◌^◌, ◌<◌, ◌≤◌, List, [], ◌∷◌, ◌++◌, length, get_or, take, drop, replicate, refl, sym, ap, subst, ◌∙◌, arith, add-one, Option, None, true, false}
use Rattle.std.specs.Prelude.{IsSome}
use Rattle.std.proofs.lemmas.List.{length_push, get_or_push, get_or_append_left, drop-take}
use Rattle.field_rules.specs.Lists.{AreDistinct}
use Rattle.field_rules.specs.Ops.{Ops, IsRing}
use Rattle.field_rules.specs.Fields.{IsField, dot_of, conjugate, trace_of, with_multiple}
use Rattle.poly_rules.specs.Polynomials.{degree, IsMonic}
use Rattle.poly_rules.specs.Roots.{with_roots}
use Rattle.poly_laws.proofs.Roots.{with_roots-monic}
use Rattle.sequence_laws.specs.Sequences.{sequence_of, row_of, IsUnit, IsSquareSequence}
use Rattle.sequence_laws.proofs.Rows.{unit_first, unit_next, first_rows, next_row}
use Rattle.sequence_laws.proofs.Powers.{trace_sequence-none, trace_sequence-more, sequence_returns}
use Rattle.sequence_laws.specs.Parts.{IsTraceSequence}
use Rattle.trace_sequences.specs.Rows.{AreRows, AreTraceSequences}

-- an item of a list with one item more is an earlier one or the last
pub pushed : {X : Type 0} (P : ℕ → X → Type 0) (xs more : List X) (x d : X) → more ≡ xs ++ x ∷ [] → ((i : ℕ) → i < length xs → P i (get_or xs i d)) → P (length xs) x
    → (i : ℕ) → i < length more → P i (get_or more i d)
pushed P xs more x d is before last i lt = at (cases i (length xs) (omega (arith, ap length is, length_push xs x)))
  where
    cases : (i j : ℕ) → i < j + 1 → (i < j) ⊎ (i ≡ j)
    cases i j lt = grind arith

    at : (i < length xs) ⊎ (i ≡ length xs) → P i (get_or more i d)
    at (inl inside) = subst (P i) (sym (ap (λ z. get_or z i d) is ∙ get_or_append_left xs (x ∷ []) d i inside)) (before i inside)
    at (inr here) = subst (P i) (sym (ap (λ z. get_or z i d) is ∙ get_or_push xs x d i (sym here))) (subst (λ k. P k x) (sym here) last)

module _ {A : Type 0} (ops : Ops A) where
  pub rows_none : (u : A → A) (es : List A) (rows : List (List A)) → rows ≡ [] → AreRows ops u es rows
  rows_none u es rows is = record { each = λ j lt. absurd (omega (arith, ap length is)) }

  pub rows_pushed : (u : A → A) (es row : List A) (rows more : List (List A)) → AreRows ops u es rows → row ≡ row_of ops u es (length rows) → more ≡ rows ++ row ∷ [] → AreRows ops u es more
  rows_pushed u es row rows more so_far is pushed_is = record { each = pushed (λ j r. r ≡ row_of ops u es j) rows more row [] pushed_is so_far.each is }

module _ {A : Type 0} (ops : Ops A) (ring : IsRing ops) where
  pub size_of_set : (f es : List A) → f ≡ with_roots ops es → length f ≡ length es + 1
  size_of_set f es is = let monic : IsMonic ops (length es) (with_roots ops es) = with_roots-monic ops ring es in ap length is ∙ monic.size

  -- the last row is the first again
  pub rows_return : (bits : ℕ) → IsField ops bits → (u : A → A) (es : List A) (rows : List (List A)) → length rows ≡ bits + 1 → AreRows ops u es rows → get_or rows 0 [] ≡ get_or rows bits []
  rows_return bits field u es rows count are =
      are.each 0 (omega arith) ∙ sym (are.each bits (omega arith) ∙ sequence_returns ops ring bits field u es (length es))

module _ {A : Type 0} (ops : Ops A) (ring : IsRing ops) (u : A → A) (es : List A) where
  -- the unit's sums with one more, where s' is what the call was given
  pub sums_pushed : (f s s' more : List A) (i n : ℕ) (x : A) → IsUnit ops u es → f ≡ with_roots ops es → n ≡ length f - 1 → 1 ≤ i → i ≤ n → s ≡ sequence_of ops u es (length es - 1) i → s' ≡ s
      → x ≡ dot_of ops (take (n - (n - i)) (drop (n - i) f)) s' → more ≡ s ++ x ∷ [] → more ≡ sequence_of ops u es (length es - 1) (i + 1)
  sums_pushed f s s' more i n x unit is n_is some within so_far same x_is pushed_is =
      pushed_is
      ∙ ap (λ z. s ++ z ∷ []) (x_is ∙ ap (dot_of ops (take (n - (n - i)) (drop (n - i) f))) same ∙ ap (λ z. dot_of ops z s) part)
      ∙ unit_next ops ring u es unit f s i is some (omega (arith, all)) so_far
    where
      all : n ≡ length es
      all = omega (arith, n_is, size_of_set ops ring f es is)

      part : take (n - (n - i)) (drop (n - i) f) ≡ drop (length es - i) (take (length es) f)
      part =
          sym (drop-take (n - i) (n - (n - i)) f)
          ∙ (let there : n - i + (n - (n - i)) ≡ n = omega arith in ap (λ k. drop (n - i) (take k f)) there)
          ∙ ap (λ k. drop (k - i) (take k f)) all

  pub first_sum : (f pushed : List A) (x : A) (s : List A) → IsUnit ops u es → f ≡ with_roots ops es → 1 ≤ degree f → s ≡ [] → x ≡ ops.one → pushed ≡ s ++ x ∷ [] → pushed ≡ sequence_of ops u es (length es - 1) 1
  first_sum f pushed x s unit is some empty one pushed_is =
      pushed_is ∙ ap (λ z. z ++ x ∷ []) empty ∙ ap (λ z. z ∷ []) one
      ∙ unit_first ops ring u es unit (length es - 1)
      (omega (arith, some, size_of_set ops ring f es is))

  -- a row that stands in the unit's sums
  pub row_read : (sums row : List A) (j n power : ℕ) → IsUnit ops u es → length es ≡ n → power ≡ 2 ^ j → power < length sums → length sums ≤ n → sums ≡ sequence_of ops u es (length es - 1) (length sums)
      → row ≡ replicate (n - 1 - power) ops.zero ++ take (power + 1) sums → row ≡ row_of ops u es j
  row_read sums row j n power unit size power_is below fits sums_is row_is =
      row_is
      ∙ ap (λ p. replicate (n - 1 - p) ops.zero ++ take (p + 1) sums) power_is
      ∙ first_rows ops ring u es unit j n (length sums) sums size (omega (arith, power_is)) (omega (arith, power_is)) (sums_is ∙ ap (λ k. sequence_of ops u es (k - 1) (length sums)) size)

  -- and one that is the square of the last, where s is what the call was given
  pub row_squared : (bits : ℕ) → IsField ops bits → (f s t : List A) (rows : List (List A)) → AreDistinct es → f ≡ with_roots ops es → IsUnit ops u es → 1 ≤ length rows → AreRows ops u es rows
      → s ≡ get_or rows (length rows - 1) [] → IsSquareSequence ops f s t → t ≡ row_of ops u es (length rows)
  row_squared bits field f s t rows differ is unit some so_far s_is made =
      next_row ops ring bits field u es f s t (length rows - 1) differ is unit (s_is ∙ so_far.each (length rows - 1) (omega arith)) made
      ∙ ap (row_of ops u es) (omega arith)

  -- a trace's sequence with one more row, where power' and row are what the call was given
  pub trace_added : (b power : A) (acc row more : List A) (rows : List (List A)) (m : ℕ) → power ≡ conjugate ops m b
      → acc ≡ sequence_of ops (λ e. ops.times (trace_of ops m (ops.times b e)) (u e)) es 0 (length es) → m < length rows → AreRows ops u es rows → row ≡ get_or rows m []
      → more ≡ with_multiple ops acc power row → more ≡ sequence_of ops (λ e. ops.times (trace_of ops (m + 1) (ops.times b e)) (u e)) es 0 (length es)
  trace_added b power acc row more rows m is so_far lt are row_is more_is =
      more_is
      ∙ trace_sequence-more ops ring b power u es acc row (length es) m is so_far (row_is ∙ are.each m lt)
      ∙ ap (λ j. sequence_of ops (λ e. ops.times (trace_of ops j (ops.times b e)) (u e)) es 0 (length es)) (sym (add-one m))

  -- before the first
  pub trace_started : (b : A) (acc : List A) → acc ≡ replicate (length acc) ops.zero → length es ≡ length acc → acc ≡ sequence_of ops (λ e. ops.times (trace_of ops 0 (ops.times b e)) (u e)) es 0 (length es)
  trace_started b acc is size = is ∙ ap (λ n. replicate n ops.zero) (sym size) ∙ trace_sequence-none ops ring b u es (length es)

-- where there is no first row to be read, there is one before
never : {X : Type 0} → false ≡ true → X
never none = cc none

pub some_before : {X Y : Type 0} (rows : List X) (o : Option Y) → o ≡ None → (length rows ≡ 0 → IsSome o) → 1 ≤ length rows
some_before [] o none some = never (subst IsSome none (some refl))
some_before (x ∷ rows) o none some = omega arith

-- the sequence of the next exponent's traces
pub traces_pushed : {A : Type 0} (ops : Ops A) (bits_of : A → ℕ) (width first : ℕ) (u : A → A) (es : List A) → ((a b : A) → bits_of a ≡ bits_of b → a ≡ b) → (b : A) (sequences more : List (List A)) (s : List A)
    → AreTraceSequences ops bits_of width first u es sequences → bits_of b ≡ 2 ^ (first + length sequences)
    → s ≡ sequence_of ops (λ e. ops.times (trace_of ops width (ops.times b e)) (u e)) es 0 (length es) → more ≡ sequences ++ s ∷ [] → AreTraceSequences ops bits_of width first u es more
traces_pushed ops bits_of width first u es same b sequences more s before bits is pushed_is =
    pushed (λ j t. IsTraceSequence ops bits_of width (first + j) u es t) sequences more s [] pushed_is before
    (λ d also. is ∙ ap (λ z. sequence_of ops (λ e. ops.times (trace_of ops width (ops.times z e)) (u e)) es 0 (length es)) (same b d (bits ∙ sym also)))
