-- Rows in one list.
use Rattle.std.proofs.Common.{◌≡◌, ℕ, ◌+◌, ◌-◌, ◌*◌, ◌<◌, ◌≤◌, List, [], ◌++◌, length, take, drop, sym, ap, subst, ◌∙◌, arith, below_more, length-append, length-drop}
use Rattle.std.proofs.Math.Nat.{mul-le-mul_right}
use Rattle.std.proofs.lemmas.List.{take-append-le, drop-append-le, drop_at, drop-drop, drop-take, take_all, take-take}
use Rattle.field_rules.specs.Ops.{Ops}
use Rattle.list_multiples.specs.Rows.{row_of, factor, IsRow, AreRows}

-- a row before lies within
pub within : (n r m : ℕ) → r < m → r * n + n ≤ m * n
within n r m lt = let next : r + 1 ≤ m = omega arith in subst (λ z. z ≤ m * n) (more r) (mul-le-mul_right n next)
  where
    more : (r : ℕ) → (r + 1) * n ≡ r * n + n
    more r = omega arith

module _ {A : Type 0} where
  pub within_rows : (n r m : ℕ) (rows : List A) → length rows ≡ m * n → r < m → r * n + n ≤ length rows
  within_rows n r m rows size lt = subst (λ z. r * n + n ≤ z) (sym size) (within n r m lt)

  -- a row before the one that is added
  row_before : (n m q : ℕ) (rows row : List A) → length rows ≡ m * n → q < m → row_of n (rows ++ row) q ≡ row_of n rows q
  row_before n m q rows row size lt =
      let inside : q * n + n ≤ m * n = within n q m lt in
      ap (take n) (drop-append-le (q * n) rows row (omega arith)) ∙ take-append-le n (drop (q * n) rows) row (omega (arith, length-drop (q * n) rows))

  -- and the row itself
  row_added : (n m : ℕ) (rows row : List A) → length rows ≡ m * n → length row ≡ n → row_of n (rows ++ row) m ≡ row
  row_added n m rows row size same = ap (take n) (drop_at rows row (m * n) size) ∙ take_all n row (omega arith)

  -- a part of a row
  pub part_of_row : (n r from size : ℕ) (rows : List A) → from + size ≤ n → take size (drop (r * n + from) rows) ≡ take size (drop from (row_of n rows r))
  part_of_row n r from size rows fits =
      let length_is : from + (n - from) ≡ n = omega arith in
      let shorter : size ≤ n - from = omega arith in
      sym
      (ap (λ z. take size (drop from (take z (drop (r * n) rows)))) (sym length_is)
      ∙ ap (take size) (drop-take from (n - from) (drop (r * n) rows))
      ∙ take-take size (n - from) (drop from (drop (r * n) rows)) shorter
      ∙ ap (take size) (drop-drop from (r * n) rows))

module _ {A : Type 0} (ops : Ops A) (bits_of : A → ℕ) (list : List A) where
  pub no_rows : (rows : List A) → rows ≡ [] → AreRows ops bits_of 0 list rows
  no_rows rows is = record { size = (let none : 0 * length list ≡ 0 = omega arith in ap length is ∙ sym none); each = λ r lt. absurd (omega arith) }

  -- one row more
  pub row_more : (m : ℕ) (rows row more : List A) → AreRows ops bits_of m list rows → IsRow ops bits_of (factor m) list row → more ≡ rows ++ row → AreRows ops bits_of (m + 1) list more
  row_more m rows row more are is pushed = record {
    size = ap length pushed ∙ length-append rows row ∙ grown (length list) are.size is.size;
    each = below_more (λ r. IsRow ops bits_of (factor r) list (row_of (length list) more r)) m
        (λ r lt. subst (IsRow ops bits_of (factor r) list) (sym (ap (λ z. row_of (length list) z r) pushed ∙ row_before (length list) m r rows row are.size lt)) (are.each r lt))
        (subst (IsRow ops bits_of (factor m) list) (sym (ap (λ z. row_of (length list) z m) pushed ∙ row_added (length list) m rows row are.size is.size)) is);
  }
    where
      grown : (n : ℕ) → length rows ≡ m * n → length row ≡ n → length rows + length row ≡ (m + 1) * n
      grown n e f = let next : (m + 1) * n ≡ m * n + n = omega arith in omega (arith, e, f, next)
