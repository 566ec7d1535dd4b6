-- The sums of all powers, one sum of an odd power at a time.
use Rattle.std.proofs.Common.{◌≡◌, ◌⊎◌, inl, inr, ℕ, ◌+◌, ◌*◌, ◌<◌, ◌≤◌, List, [], ◌∷◌, ◌++◌, length, get_or, take, sym, ap, ◌∙◌, arith, length-append}
use Rattle.std.proofs.Math.ListN.{get_or-append}
use Rattle.std.proofs.Math.Seq.{get_or-append_seam}
use Rattle.std.proofs.lemmas.List.{get_or-take, get_or_default, length-take-le}
use Rattle.std.proofs.lemmas.Bool.{cases_lt}
use Rattle.field_rules.specs.Ops.{Ops}
use Rattle.sketch_rules.specs.PowerSums.{IsAllSums}

module _ {A : Type 0} (ops : Ops A) (xs s : List A) (i : ℕ) (x half : A) (all : IsAllSums ops (take i xs) s) (inside : i < length xs) (x_is : x ≡ get_or xs i x) (half_is : half ≡ get_or (s ++ x ∷ []) i half) where
  -- what was there, the sum x, and the square of half
  abbrev longer : List A
  longer = (s ++ x ∷ []) ++ ops.times half half ∷ []

  begun : length (take i xs) ≡ i
  begun = length-take-le i xs (omega arith)

  done : length (take (i + 1) xs) ≡ i + 1
  done = length-take-le (i + 1) xs (omega arith)

  size : length s ≡ 2 * i
  size = omega (arith, all.size, begun)

  with_x : length (s ++ x ∷ []) ≡ 2 * i + 1
  with_x = omega (arith, length-append s (x ∷ []), size)

  -- what was there stays
  kept : (j : ℕ) → j < 2 * i → get_or longer j ops.zero ≡ get_or s j ops.zero
  kept j lt =
      get_or-append (s ++ x ∷ []) (ops.times half half ∷ []) ops.zero j (omega (arith, with_x))
      ∙ get_or-append s (x ∷ []) ops.zero j (omega (arith, size))

  -- the sum stands at index 2 i
  sum_at : get_or longer (2 * i) ops.zero ≡ get_or (take (i + 1) xs) i ops.zero
  sum_at =
      get_or-append (s ++ x ∷ []) (ops.times half half ∷ []) ops.zero (2 * i) (omega (arith, with_x))
      ∙ ap (λ j. get_or (s ++ x ∷ []) j ops.zero) (sym size)
      ∙ get_or-append_seam s x [] ops.zero
      ∙ x_is
      ∙ get_or_default xs i x ops.zero inside
      ∙ sym (get_or-take (i + 1) xs i ops.zero (omega arith))

  -- the half at index i
  half_at : get_or longer i ops.zero ≡ half
  half_at =
      get_or-append (s ++ x ∷ []) (ops.times half half ∷ []) ops.zero i (omega (arith, with_x))
      ∙ sym (half_is ∙ get_or_default (s ++ x ∷ []) i half ops.zero (omega (arith, with_x)))

  -- and its square at index 2 i + 1
  square_at : get_or longer (2 * i + 1) ops.zero ≡ ops.times (get_or longer i ops.zero) (get_or longer i ops.zero)
  square_at =
      ap (λ j. get_or longer j ops.zero) (sym with_x)
      ∙ get_or-append_seam (s ++ x ∷ []) (ops.times half half) [] ops.zero
      ∙ ap (λ z. ops.times z z) (sym half_at)

  odd : (j : ℕ) → j < i + 1 → (j < i) ⊎ (i ≤ j) → get_or longer (2 * j) ops.zero ≡ get_or (take (i + 1) xs) j ops.zero
  odd j lt (inl before) =
      kept (2 * j) (omega arith)
      ∙ all.odd j (omega (arith, begun))
      ∙ get_or-take i xs j ops.zero before
      ∙ sym (get_or-take (i + 1) xs j ops.zero lt)
  odd j lt (inr last) = let here : j ≡ i = omega arith in rw here sum_at

  even : (j : ℕ) → j < i + 1 → (j < i) ⊎ (i ≤ j) → get_or longer (2 * j + 1) ops.zero ≡ ops.times (get_or longer j ops.zero) (get_or longer j ops.zero)
  even j lt (inl before) =
      kept (2 * j + 1) (omega arith)
      ∙ all.even j (omega (arith, begun))
      ∙ ap (λ z. ops.times z z) (sym (kept j (omega arith)))
  even j lt (inr last) = let here : j ≡ i = omega arith in rw here square_at

  -- one more sum of an odd power, and the even one behind it
  pub all_sums-more : IsAllSums ops (take (i + 1) xs) longer
  all_sums-more = record {
    size = omega (arith, length-append (s ++ x ∷ []) (ops.times half half ∷ []), with_x, done);
    odd = λ j lt. odd j (omega (arith, done)) (cases_lt j i);
    even = λ j lt. even j (omega (arith, done)) (cases_lt j i);
  }
