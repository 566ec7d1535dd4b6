-- Lists of elements that are told by their bits, and lists of numbers.
use Rattle.std.proofs.Common.{◌≡◌, ℕ, suc, ◌^◌, ◌<◌, List, [], ◌∷◌, map, refl, ap, arith}
use Rattle.std.specs.List.{All, AllPairs}
use Rattle.std.proofs.lemmas.List.{length-map, get_or-map}
use Rattle.field_rules.specs.Ops.{Ops}
use Rattle.field_rules.specs.Numbered.{IsNumbered}
use Rattle.field_rules.specs.Lists.{AreDistinct}

module _ {A : Type 0} (ops : Ops A) (bits_of : A → ℕ) (width : ℕ) (numbered : IsNumbered ops bits_of width) where
  -- the elements of these bits
  pub elements_of : (ns : List ℕ) → All (λ n. n < 2 ^ width) ns → (es : List A) × (map bits_of es ≡ ns)
  elements_of [] fit = ([], refl)
  elements_of (n ∷ ns) fit =
      let first = numbered.filled n (fit 0 n (omega arith)) in
      let rest = elements_of ns (λ k d lt. fit (suc k) d (omega arith)) in
      (first.0 ∷ rest.0, rw (first.1, rest.1) refl)

  -- two lists with the same bits are the same
  pub same_elements : (xs ys : List A) → map bits_of xs ≡ map bits_of ys → xs ≡ ys
  same_elements [] [] e = refl
  same_elements [] (y ∷ ys) e = cc
  same_elements (x ∷ xs) [] e = cc
  same_elements (x ∷ xs) (y ∷ ys) e =
      let first : x ≡ y = numbered.same x y cc in
      let rest : xs ≡ ys = same_elements xs ys cc in
      cc

  -- elements whose bits rise are distinct
  pub distinct : (es : List A) → AllPairs (λ a b. a < b) (map bits_of es) → AreDistinct es
  distinct es rises i j d below within same =
      let less = rises i j (bits_of d) below (omega (arith, length-map es bits_of)) in
      let one = get_or-map bits_of es i d (bits_of d) (omega arith) in
      let other = get_or-map bits_of es j d (bits_of d) within in
      omega (arith, ap bits_of same)
