-- A multiple of a list that is added to a part of another, item by item.
use Rattle.std.proofs.Common.{◌≡◌, ℕ, zero, suc, ◌+◌, ◌-◌, ◌<◌, ◌≤◌, List, [], ◌∷◌, ◌++◌, length, get_or, take, drop, refl, sym, ◌∙◌, ap, arith, length-drop, length-append}
use Rattle.std.proofs.Math.ListN.{get_or-append}
use Rattle.std.proofs.lemmas.List.{length-take-le, get_or-take, get_or-drop, get_or-append_right}
use Rattle.std.proofs.lemmas.Slice.{drop-put_mid}
use borrow.Rule.Slice.PartMut.{mid_of, put_mid}
use Rattle.field_rules.specs.Ops.{Ops}
use Rattle.field_rules.specs.Fields.{with_multiple}

module _ {A : Type 0} (ops : Ops A) where
  pub length-with_multiple : (acc : List A) (k : A) (xs : List A) → length (with_multiple ops acc k xs) ≡ length acc
  unfolding with_multiple
  length-with_multiple [] k xs = refl
  length-with_multiple (a ∷ acc) k [] = refl
  length-with_multiple (a ∷ acc) k (x ∷ xs) = ap suc (length-with_multiple acc k xs)

  -- the item at an index
  pub get_or-with_multiple : (acc : List A) (k : A) (xs : List A) (j : ℕ) (d : A) → j < length acc → j < length xs
      → get_or (with_multiple ops acc k xs) j d ≡ ops.plus (get_or acc j d) (ops.times k (get_or xs j d))
  unfolding with_multiple
  get_or-with_multiple [] k xs j d lt inside = absurd (omega arith)
  get_or-with_multiple (a ∷ acc) k [] j d lt inside = absurd (omega arith)
  get_or-with_multiple (a ∷ acc) k (x ∷ xs) zero d lt inside = refl
  get_or-with_multiple (a ∷ acc) k (x ∷ xs) (suc j) d lt inside = get_or-with_multiple acc k xs j d (omega arith) (omega arith)

  -- and beyond the other list
  pub get_or-with_multiple_beyond : (acc : List A) (k : A) (xs : List A) (j : ℕ) (d : A) → length xs ≤ j → get_or (with_multiple ops acc k xs) j d ≡ get_or acc j d
  unfolding with_multiple
  get_or-with_multiple_beyond [] k xs j d le = refl
  get_or-with_multiple_beyond (a ∷ acc) k [] j d le = refl
  get_or-with_multiple_beyond (a ∷ acc) k (x ∷ xs) zero d le = absurd (omega arith)
  get_or-with_multiple_beyond (a ∷ acc) k (x ∷ xs) (suc j) d le = get_or-with_multiple_beyond acc k xs j d (omega arith)

  -- ---- a multiple that is added to w items from index m on

  module _ (acc xs part : List A) (k : A) (m w : ℕ) (d : A) (fits : m + w ≤ length acc) (size : length xs ≡ w) (is : part ≡ with_multiple ops (mid_of m w acc) k xs) where
    mid_size : length (mid_of m w acc) ≡ w
    mid_size = length-take-le w (drop m acc) (omega (arith, length-drop m acc))

    part_size : length part ≡ w
    part_size = ap length is ∙ length-with_multiple (mid_of m w acc) k xs ∙ mid_size

    before_size : length (take m acc) ≡ m
    before_size = length-take-le m acc (omega arith)

    pub part_before : (j : ℕ) → j < m → get_or (put_mid m w acc part) j d ≡ get_or acc j d
    part_before j lt = get_or-append (take m acc) _ d j (omega (arith, before_size)) ∙ get_or-take m acc j d lt

    pub part_inside : (i : ℕ) → i < w → get_or (put_mid m w acc part) (m + i) d ≡ ops.plus (get_or acc (m + i) d) (ops.times k (get_or xs i d))
    part_inside i lt =
        let index : m + i - m ≡ i = omega arith in
        get_or-append_right (take m acc) _ m (m + i) d before_size (omega arith)
        ∙ ap (λ n. get_or (part ++ drop w (drop m acc)) n d) index
        ∙ get_or-append part _ d i (omega (arith, part_size))
        ∙ ap (λ l. get_or l i d) is
        ∙ get_or-with_multiple (mid_of m w acc) k xs i d (omega (arith, mid_size)) (omega (arith, size))
        ∙ ap (λ z. ops.plus z (ops.times k (get_or xs i d))) (get_or-take w (drop m acc) i d lt ∙ get_or-drop m acc i d)

    pub part_after : (j : ℕ) → m + w ≤ j → get_or (put_mid m w acc part) j d ≡ get_or acc j d
    part_after j le =
        let index : j + 0 ≡ j = omega arith in
        ap (λ n. get_or (put_mid m w acc part) n d) (sym index)
        ∙ sym (get_or-drop j (put_mid m w acc part) 0 d)
        ∙ ap (λ l. get_or l 0 d) (drop-put_mid m w acc part j le (omega arith) part_size)
        ∙ get_or-drop j acc 0 d
        ∙ ap (λ n. get_or acc n d) index

    pub size_after : length (put_mid m w acc part) ≡ length acc
    size_after =
        length-append (take m acc) (part ++ drop w (drop m acc))
        ∙ ap (λ n. length (take m acc) + n) (length-append part (drop w (drop m acc)))
        ∙ (let rest : length (drop w (drop m acc)) ≡ length acc - m - w = length-drop w (drop m acc) ∙ ap (λ n. n - w) (length-drop m acc) in
        let all : length (take m acc) + (length part + length (drop w (drop m acc))) ≡ length acc = omega (arith, before_size, part_size, rest, fits) in all)
