-- Worked examples, computed from the definitions alone.
use Rattle.std.proofs.Common.{◌≡◌, refl}
use Rattle.field_rules.specs.Elements.{carryless_product, remainder, product}

-- x ^ 32 is the low terms of the modulus
turned : product 32 0x80000000 2 ≡ 0x8D
unfolding product remainder carryless_product
turned = refl

-- the square and the cube of x ^ 31
square : product 32 0x80000000 0x80000000 ≡ 0x40001037
unfolding product remainder carryless_product
square = refl

cube : product 32 0x40001037 0x80000000 ≡ 0x20046D72
unfolding product remainder carryless_product
cube = refl
