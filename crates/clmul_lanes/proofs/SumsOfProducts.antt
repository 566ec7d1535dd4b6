-- Sums of products that are reduced once, at the end.
use Rattle.std.proofs.Common.{◌≡◌, ℕ, suc, ◌+◌, ◌^◌, ◌<◌, ◌≤◌, List, [], length, get_or, drop, add-one}
use Rattle.std.specs.Int.Bits.{bit_xor, xor_assoc, xor_zero_r}
use Rattle.std.proofs.Math.Seq.{drop-cons}
use Rattle.std.proofs.Math.ListN.{drop_of_length-le}
use Rattle.field_rules.specs.Elements.{carryless_product, product, remainder}
use Rattle.field_rules.specs.Fields.{dot_of}
use Rattle.clmul_lanes.specs.declared.lane32.Lane32.{Lane32}
use Rattle.clmul_lanes.specs.Lane32.{ops, bits_of}
use Rattle.field_core.proofs.Reductions.{remainder-xor}

-- one carryless product more
pub sum_more : (sum p : ℕ) (a b : Lane32) (i : ℕ) (xs ys : List Lane32) → sum < 2 ^ 64 → p < 2 ^ 64 → i < length xs → i < length ys
    → p ≡ carryless_product 32 (bits_of (get_or xs i a)) (bits_of (get_or ys i b))
    → bit_xor (remainder 32 32 (bit_xor sum p)) (bits_of (dot_of ops (drop (i + 1) xs) (drop (i + 1) ys)))
    ≡ bit_xor (remainder 32 32 sum) (bits_of (dot_of ops (drop i xs) (drop i ys)))
unfolding dot_of product
sum_more sum p a b i xs ys fits_sum fits inside within is =
    rw (drop-cons xs i a inside, drop-cons ys i b within, add-one i, remainder-xor sum p fits_sum fits, is)
    (xor_assoc (remainder 32 32 sum) (product 32 (bits_of (get_or xs i a)) (bits_of (get_or ys i b))) (bits_of (dot_of ops (drop (suc i) xs) (drop (suc i) ys))))

-- past the last index no product is left
pub sum_done : (sum i : ℕ) (xs ys : List Lane32) → length xs ≤ i → bit_xor (remainder 32 32 sum) (bits_of (dot_of ops (drop i xs) ys)) ≡ remainder 32 32 sum
unfolding dot_of
sum_done sum i xs ys le =
    let empty : drop i xs ≡ [] = drop_of_length-le xs {i = i} le in
    rw empty (xor_zero_r (remainder 32 32 sum))
