-- What is computed of a width, so that the numbers below 2 ^ width are a field: three tests and a table.
use Rattle.std.specs.Prelude.{◌≡◌, ℕ, zero, suc, ◌+◌, ◌-◌, ◌*◌, ◌^◌, ◌<◌, ◌==◌, ◌&&◌, Bool, true, List, [], ◌∷◌, bit_xor}
use Rattle.std.specs.Int.{bit_at}
use Rattle.field_rules.specs.Elements.{IsWidth, product, numbers}
use Rattle.field_rules.specs.Fields.{conjugate, trace_of}

-- the exclusive or of the table's numbers at the bits at which v has a 1, where the first of them stands at bit i
unfoldable pub bit_selection : ℕ → List ℕ → ℕ → ℕ
bit_selection i [] v = 0
bit_selection i (t ∷ table) v = bit_xor (bit_at v i * t) (bit_selection (i + 1) table v)

-- e ^ 2 + e over numbers
abbrev pub square_plus_element : ℕ → ℕ → ℕ
square_plus_element width e = bit_xor (product width e e) e

-- the table gives x ^ j back from x ^ (2j) + x ^ j, for each j from 1 to n
unfoldable pub is_inverse_table : ℕ → List ℕ → ℕ → Bool
is_inverse_table width table zero = true
is_inverse_table width table (suc j) = (bit_selection 0 table (square_plus_element width (2 ^ suc j)) == 2 ^ suc j) && is_inverse_table width table j

-- x squared width times is x; the table undoes e ^ 2 + e but for the lowest bit; and some element has trace 1
pub record Certificate (width : ℕ) : Type 0 where
  pub is_width : IsWidth width
  pub table : List ℕ
  pub element : ℕ
  pub small : element < 2 ^ width
  pub x_returns : conjugate (numbers width) width 2 ≡ 2
  pub solved : is_inverse_table width table (width - 1) ≡ true
  pub trace_one : trace_of (numbers width) width element ≡ 1
