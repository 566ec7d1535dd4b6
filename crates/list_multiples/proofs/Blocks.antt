-- Sums of lists, block by block.
use Rattle.std.proofs.Common.{◌≡◌, ℕ, zero, suc, ◌+◌, ◌≤◌, List, [], ◌∷◌, ◌++◌, length, map, take, drop, fold, refl, sym, ap, ap₂, ◌∙◌, append_assoc, arith, length-append, length-drop}
use Rattle.std.proofs.lemmas.List.{length-take-le, take-append-drop, drop-drop}
use Rattle.std.proofs.lemmas.Slice.{take-put_mid, drop-put_mid}
use borrow.Rule.Slice.PartMut.{mid_of, put_mid}
use Rattle.field_rules.specs.Ops.{Ops}
use Rattle.field_rules.specs.Lists.{sums_of_both}
use Rattle.list_multiples.proofs.Sums.{sums_from, length-both}

-- the parts of lists of n items each from the index m on, of w items
pub data AreParts {A : Type 0} (m w n : ℕ) : List (List A) → List (List A) → Type 0 where
  NoPart : AreParts m w n [] []
  OnePart : {part xs : List A} {parts lists : List (List A)} → length xs ≡ n → part ≡ take w (drop m xs) → AreParts m w n parts lists → AreParts m w n (part ∷ parts) (xs ∷ lists)

pub parts_are : {A : Type 0} (m w n : ℕ) (parts lists : List (List A)) → AreParts m w n parts lists → parts ≡ map (λ xs. take w (drop m xs)) lists
parts_are m w n [] [] NoPart = refl
parts_are m w n [] (xs ∷ lists) are = elim are [ ]
parts_are m w n (part ∷ parts) [] are = elim are [ ]
parts_are m w n (part ∷ parts) (xs ∷ lists) (OnePart size is are) = ap₂ (λ y ys. y ∷ ys) is (parts_are m w n parts lists are)

module _ {A : Type 0} (ops : Ops A) where
  take-both : (w : ℕ) (xs ys : List A) → take w (sums_of_both ops xs ys) ≡ sums_of_both ops (take w xs) (take w ys)
  unfolding sums_of_both
  take-both zero xs ys = refl
  take-both (suc w) [] ys = refl
  take-both (suc w) (x ∷ xs) [] = refl
  take-both (suc w) (x ∷ xs) (y ∷ ys) = ap (λ zs. ops.plus x y ∷ zs) (take-both w xs ys)

  pub drop-both : (w : ℕ) (xs ys : List A) → drop w (sums_of_both ops xs ys) ≡ sums_of_both ops (drop w xs) (drop w ys)
  unfolding sums_of_both
  drop-both zero xs ys = refl
  drop-both (suc w) [] ys = refl
  drop-both (suc w) (x ∷ xs) [] = none (drop w xs)
    where
      none : (zs : List A) → [] ≡ sums_of_both ops zs []
      none [] = refl
      none (z ∷ zs) = refl
  drop-both (suc w) (x ∷ xs) (y ∷ ys) = drop-both w xs ys

  -- the sums of some lists, and those in two parts
  take-all : (w : ℕ) (xs : List A) (lists : List (List A)) → take w (fold (sums_of_both ops) xs lists) ≡ fold (sums_of_both ops) (take w xs) (map (take w) lists)
  take-all w xs [] = refl
  take-all w xs (ys ∷ lists) = take-all w (sums_of_both ops xs ys) lists ∙ ap (λ z. fold (sums_of_both ops) z (map (take w) lists)) (take-both w xs ys)

  drop-all : (w : ℕ) (xs : List A) (lists : List (List A)) → drop w (fold (sums_of_both ops) xs lists) ≡ fold (sums_of_both ops) (drop w xs) (map (drop w) lists)
  drop-all w xs [] = refl
  drop-all w xs (ys ∷ lists) = drop-all w (sums_of_both ops xs ys) lists ∙ ap (λ z. fold (sums_of_both ops) z (map (drop w) lists)) (drop-both w xs ys)

  in_two : (w : ℕ) (xs : List A) (lists : List (List A))
      → fold (sums_of_both ops) xs lists ≡ fold (sums_of_both ops) (take w xs) (map (take w) lists) ++ fold (sums_of_both ops) (drop w xs) (map (drop w) lists)
  in_two w xs lists = sym (take-append-drop w (fold (sums_of_both ops) xs lists)) ∙ ap₂ (λ y z. y ++ z) (take-all w xs lists) (drop-all w xs lists)

  -- the same of lists from an index on
  taken : (m w : ℕ) (lists : List (List A)) → map (take w) (map (drop m) lists) ≡ map (λ xs. take w (drop m xs)) lists
  taken m w [] = refl
  taken m w (xs ∷ lists) = ap (λ z. take w (drop m xs) ∷ z) (taken m w lists)

  left : (m w : ℕ) (lists : List (List A)) → map (drop w) (map (drop m) lists) ≡ map (drop (m + w)) lists
  left m w [] = refl
  left m w (xs ∷ lists) = ap₂ (λ y z. y ∷ z) (drop-drop w m xs) (left m w lists)

  pub sums_in_two : (m w : ℕ) (xs : List A) (parts lists : List (List A)) (n : ℕ) → AreParts m w n parts lists → sums_from ops m xs lists ≡ fold (sums_of_both ops) (mid_of m w xs) parts ++ sums_from ops (m + w) xs lists
  sums_in_two m w xs parts lists n are =
      in_two w (drop m xs) (map (drop m) lists)
      ∙ ap₂ (λ y z. y ++ z) (ap (fold (sums_of_both ops) (take w (drop m xs))) (taken m w lists ∙ sym (parts_are m w n parts lists are)))
      (ap₂ (fold (sums_of_both ops)) (drop-drop w m xs) (left m w lists))

  -- as many sums as items
  length-all : (m w n : ℕ) (xs : List A) (parts lists : List (List A)) → m + w ≤ n → length xs ≡ w → AreParts m w n parts lists → length (fold (sums_of_both ops) xs parts) ≡ w
  length-all m w n xs [] [] fits size NoPart = size
  length-all m w n xs [] (ys ∷ lists) fits size are = elim are [ ]
  length-all m w n xs (part ∷ parts) [] fits size are = elim are [ ]
  length-all m w n xs (part ∷ parts) (ys ∷ lists) fits size (OnePart whole is are) =
      let part_size : length part ≡ w = ap length is ∙ length-take-le w (drop m ys) (omega (arith, length-drop m ys, whole)) in
      length-all m w n (sums_of_both ops xs part) parts lists fits (length-both ops xs part (size ∙ sym part_size) ∙ size) are

  -- w items from the index m on are done, and the rest are still to come
  pub block_added : (m w n : ℕ) (acc new : List A) (parts lists : List (List A)) → m + w ≤ n → length acc ≡ n → AreParts m w n parts lists → new ≡ fold (sums_of_both ops) (mid_of m w acc) parts
      → (length (put_mid m w acc new) ≡ n)
      × (take (m + w) (put_mid m w acc new) ++ sums_from ops (m + w) (put_mid m w acc new) lists ≡ take m acc ++ sums_from ops m acc lists)
  block_added m w n acc new parts lists fits size are is = (
    ap length (sym (take-append-drop (m + w) (put_mid m w acc new))) ∙ whole,
    ap₂ (λ y z. y ++ fold (sums_of_both ops) z (map (drop (m + w)) lists)) done later
        ∙ append_assoc (take m acc) new (sums_from ops (m + w) acc lists)
        ∙ ap (λ z. take m acc ++ (z ++ sums_from ops (m + w) acc lists)) is
        ∙ ap (λ z. take m acc ++ z) (sym (sums_in_two m w acc parts lists n are)),
  )
    where
      new_size : length new ≡ w
      new_size = ap length is ∙ length-all m w n (mid_of m w acc) parts lists fits (length-take-le w (drop m acc) (omega (arith, length-drop m acc, size))) are

      done : take (m + w) (put_mid m w acc new) ≡ take m acc ++ new
      done = take-put_mid m w acc new (m + w) (omega (arith, new_size, size)) (omega arith)

      later : drop (m + w) (put_mid m w acc new) ≡ drop (m + w) acc
      later = drop-put_mid m w acc new (m + w) (omega (arith, size)) (omega arith) new_size

      whole : length (take (m + w) (put_mid m w acc new) ++ drop (m + w) (put_mid m w acc new)) ≡ n
      whole =
          length-append (take (m + w) (put_mid m w acc new)) (drop (m + w) (put_mid m w acc new))
          ∙ ap₂ ◌+◌ (ap length done ∙ length-append (take m acc) new) (ap length later ∙ length-drop (m + w) acc)
          ∙ omega (arith, length-take-le m acc (omega (arith, size)), new_size, size)
