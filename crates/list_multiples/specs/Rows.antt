-- The multiples of a list by the values of each four bits of an element, as rows in one list.
use Rattle.std.specs.Prelude.{◌≡◌, ℕ, ◌+◌, ◌*◌, ◌/◌, ◌%◌, ◌<◌, ◌^◌, List, length, map, take, drop}
use Rattle.field_rules.specs.Ops.{Ops}

-- the row at index r of rows of n items each, one after the other
abbrev pub row_of : {A : Type 0} → ℕ → List A → ℕ → List A
row_of n rows r = take n (drop (r * n) rows)

-- how many rows: sixteen for each four bits, where the bits of an element are filled up to a multiple of 32
abbrev pub row_count : ℕ → ℕ
row_count bits = 128 * ((bits + 31) / 32)

-- the bits of what the row at index r = 16 w + v has the multiples by: v * x ^ (4 w)
abbrev pub factor : ℕ → ℕ
factor r = r % 16 * 2 ^ (4 * (r / 16))

-- the row has the products of the list's items and the element of these bits, where there is one
pub record IsRow {A : Type 0} (ops : Ops A) (bits_of : A → ℕ) (bits : ℕ) (list row : List A) : Type 0 where
  pub size : length row ≡ length list
  pub products : (k : A) → bits_of k ≡ bits → row ≡ map (ops.times k) list

-- the first m rows of a list
pub record AreRows {A : Type 0} (ops : Ops A) (bits_of : A → ℕ) (m : ℕ) (list rows : List A) : Type 0 where
  pub size : length rows ≡ m * length list
  pub each : (r : ℕ) → r < m → IsRow ops bits_of (factor r) list (row_of (length list) rows r)

-- all rows of the list that is the one at index 1, of n items
pub record AreAllRows {A : Type 0} (ops : Ops A) (bits_of : A → ℕ) (bits n : ℕ) (rows : List A) : Type 0 where
  pub size : length (row_of n rows 1) ≡ n
  pub are : AreRows ops bits_of (row_count bits) (row_of n rows 1) rows
