-- The tests of the field of 2 ^ 32 elements. The table and the element are those that bench/tables.py prints.
use Rattle.std.proofs.Common.{◌≡◌, ℕ, true, List, [], ◌∷◌, refl, lit<}
use Rattle.field_rules.specs.Elements.{carryless_product, remainder, product, numbers}
use Rattle.field_rules.specs.Fields.{conjugate, trace_of}
use Rattle.field_laws.specs.Certified.{bit_selection, is_inverse_table, Certificate}

-- undoes e ^ 2 + e, but for the lowest bit
abbrev pub table_32 : List ℕ
table_32 =
    0x54FD1264 ∷ 0xC26FCD64 ∷ 0xC26FCD66 ∷ 0x238A7462 ∷ 0xC26FCD62 ∷ 0x973BCCAA ∷ 0x238A746A ∷ 0x77766712
    ∷ 0xC26FCD72 ∷ 0xC1BDD556 ∷ 0x973BCC8A ∷ 0x572A094C ∷ 0x238A742A ∷ 0xB693BE84 ∷ 0x77766792 ∷ 0x9555C03E
    ∷ 0xC26FCC72 ∷ 0x568419F8 ∷ 0xC1BDD756 ∷ 0x96C3D2CA ∷ 0x973BC88A ∷ 0x54861FDC ∷ 0x572A014C ∷ 0xB79BADC4
    ∷ 0x238A642A ∷ 0x0 ∷ 0xB6939E84 ∷ 0xC519FA86 ∷ 0x77762792 ∷ 0xB9B99FE0 ∷ 0x9555403E ∷ 0x377627BA ∷ []

-- x, squared 32 times, is x
pub x_returns_32 : conjugate (numbers 32) 32 2 ≡ 2
unfolding conjugate product remainder carryless_product
x_returns_32 = refl

-- the table does what it is for
pub solved_32 : is_inverse_table 32 table_32 31 ≡ true
unfolding is_inverse_table bit_selection product remainder carryless_product
solved_32 = refl

-- x ^ 25 has trace 1
pub trace_one_32 : trace_of (numbers 32) 32 0x2000000 ≡ 1
unfolding trace_of conjugate product remainder carryless_product
trace_one_32 = refl

-- the three tests together
abbrev pub certificate_32 : Certificate 32
certificate_32 = record {
  is_width = lit< tt;
  table = table_32;
  element = 0x2000000;
  small = lit< tt;
  x_returns = x_returns_32;
  solved = solved_32;
  trace_one = trace_one_32;
}
