-- Pieces of the bytes that a source has left and a sink has taken.
use Rattle.std.proofs.Common.{◌≡◌, ℕ, ◌+◌, ◌-◌, ◌≤◌, ◌<◌, min, List, [], ◌∷◌, ◌++◌, length, take, drop, arith, refl, sym, take_all, length-drop}
use Rattle.std.proofs.lemmas.Grind.{common_steps}
use Rattle.std.proofs.Math.Seq.{take-add}

-- what stands in a buffer after the first n bytes of xs were copied to its front, and the rest of xs
pub front_and_rest : (xs buf : List ℕ) (n : ℕ) → n ≤ length xs → xs ≡ take n (take n xs ++ drop n buf) ++ drop n xs
front_and_rest xs buf n h = grind (arith, common_steps)

-- no byte is left where a read that had room gave none
pub none_left : (xs : List ℕ) (n cut room : ℕ) → 1 ≤ cut → 0 < room → n ≡ min cut (min room (length xs)) → n ≡ 0 → drop n xs ≡ []
none_left [] n cut room c b e none = rw none refl
none_left (x ∷ xs) n cut room c b e none = absurd (omega arith)

-- what `&xs[at..]` is
pub whole_rest : (xs : List ℕ) (at : ℕ) → take (length xs - at) (drop at xs) ≡ drop at xs
whole_rest xs at = grind (arith, common_steps, take_all, length-drop)

-- n further bytes of xs
pub take_further : (xs : List ℕ) (at n : ℕ) → take at xs ++ take n (take (length xs - at) (drop at xs)) ≡ take (at + n) xs
take_further xs at n = rw whole_rest (sym (take-add at n xs))
