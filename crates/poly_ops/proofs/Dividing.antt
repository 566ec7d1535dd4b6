-- A turn of long division on a list, which leaves the quotient above what is left.
use Rattle.std.proofs.Common.{◌≡◌, ℕ, zero, suc, ◌+◌, ◌-◌, ◌<◌, ◌≤◌, List, [], ◌∷◌, ◌++◌, min, length, get_or, take, drop, replicate, refl, sym, ap, subst, ◌∙◌, arith, length-drop, append_assoc}
use Rattle.std.proofs.Math.Seq.{drop-cons, drop-length}
use Rattle.std.proofs.lemmas.List.{take_more, take_all, take_min, drop_min, take-take, drop-take, take-append-drop, length-take, length-take-le, length-map}
use Rattle.std.proofs.lemmas.Slice.{take-put_mid, drop-put_mid}
use borrow.Rule.Slice.PartMut.{mid_of, put_mid}
use Rattle.field_rules.specs.Ops.{Ops, IsRing}
use Rattle.field_rules.specs.Fields.{with_multiple}
use Rattle.poly_rules.specs.Polynomials.{degree, IsSamePolynomial, IsMonic, sum_of, scalar_multiple, product_of}
use Rattle.poly_laws.specs.Rests.{IsQuotient}
use Rattle.poly_laws.proofs.Sums.{same_self, same_back, same_along, same_of, same_none, sum_same}
use Rattle.poly_laws.proofs.Products.{product_same_l}
use Rattle.poly_laws.proofs.Division.{length-sum, with_multiple-sum, quotient_step}

module _ {A : Type 0} (ops : Ops A) where
  -- where the coefficients from top on are those of the quotient by f of degree n, and those below are left
  abbrev pub IsDivided : (f whole rest : List A) (n top : ℕ) → Type 0
  IsDivided f whole rest n top = IsSamePolynomial ops whole (sum_of ops (product_of ops (replicate (top - n) ops.zero ++ drop top rest) f) (take top rest))

module _ {A : Type 0} (ops : Ops A) (ring : IsRing ops) where
  zero_joined : (m : ℕ) (l : List A) → replicate (suc m) ops.zero ++ l ≡ replicate m ops.zero ++ ops.zero ∷ l
  zero_joined zero l = refl
  zero_joined (suc m) l = ap (λ z. ops.zero ∷ z) (zero_joined m l)

  zeros_none : (m : ℕ) → IsSamePolynomial ops (replicate m ops.zero ++ []) []
  zeros_none zero = same_self ops []
  zeros_none (suc m) = same_none ops ops.zero refl (zeros_none m)

  -- nothing is divided yet
  pub divided_none : (f whole : List A) (n : ℕ) → IsDivided ops f whole whole n (length whole)
  unfolding product_of sum_of
  divided_none f whole n =
      same_back ops (sum_same ops ring
      (product_same_l ops ring f (same_along ops (same_of ops (ap (λ z. replicate (length whole - n) ops.zero ++ z) (drop-length whole))) (zeros_none (length whole - n))))
      (same_of ops (take_all (length whole) whole (omega arith))))

  -- the coefficient x at i stays as the quotient's, and x times f's lower ones are added to the n below it, which begin at
  -- the index a
  turned : (f whole rest part : List A) (n a i : ℕ) (x : A) → IsMonic ops n f → i ≡ a + n → i < length rest → x ≡ get_or rest i x
      → part ≡ with_multiple ops (mid_of a n rest) x (take n f) → IsDivided ops f whole rest n (i + 1)
      → IsDivided ops f whole (put_mid a n rest part) n i
  turned f whole rest part n a i x monic index lt is part_is h =
      subst (λ z. IsSamePolynomial ops whole (sum_of ops (product_of ops (replicate (i - n) ops.zero ++ z) f) (take i (put_mid a n rest part)))) (sym quotient)
      (subst (λ z. IsSamePolynomial ops whole (sum_of ops (product_of ops (replicate (i - n) ops.zero ++ x ∷ drop (i + 1) rest) f) z)) (sym (after ∙ ap (λ z. take a rest ++ z) part_sum))
      (subst (λ z. IsSamePolynomial ops whole (sum_of ops (product_of ops (replicate z ops.zero ++ x ∷ drop (i + 1) rest) f) (take a rest ++ sum_of ops (mid_of a n rest) (scalar_multiple ops x (take n f))))) (front ∙ low)
      (quotient_step ops ring n whole f (take a rest) (mid_of a n rest) (drop (i + 1) rest) x monic size
      (subst (λ z. IsSamePolynomial ops whole (sum_of ops (product_of ops z f) (take a rest ++ (mid_of a n rest ++ x ∷ [])))) above
      (subst (λ z. IsSamePolynomial ops whole (sum_of ops (product_of ops (replicate (i + 1 - n) ops.zero ++ drop (i + 1) rest) f) z)) parts h)))))
    where
      front : length (take a rest) ≡ a
      front = length-take-le a rest (omega arith)

      low : a ≡ i - n
      low = omega arith

      above : replicate (i + 1 - n) ops.zero ++ drop (i + 1) rest ≡ replicate (length (take a rest)) ops.zero ++ ops.zero ∷ drop (i + 1) rest
      above =
          (let count : i + 1 - n ≡ suc (length (take a rest)) = omega (arith, front) in ap (λ z. replicate z ops.zero ++ drop (i + 1) rest) count)
          ∙ zero_joined (length (take a rest)) (drop (i + 1) rest)

      size : length (mid_of a n rest) ≡ n
      size = length-take-le n (drop a rest) (omega (arith, length-drop a rest))

      lower : length (take n f) ≡ n
      lower = length-take-le n f (omega (arith, monic.size))

      below : take i rest ≡ take a rest ++ mid_of a n rest
      below =
          sym (take-append-drop a (take i rest))
          ∙ ap (λ z. z ++ drop a (take i rest)) (take-take a i rest (omega arith))
          ∙ ap (λ z. take a rest ++ drop a (take z rest)) index
          ∙ ap (λ z. take a rest ++ z) (drop-take a n rest)

      parts : take (i + 1) rest ≡ take a rest ++ (mid_of a n rest ++ x ∷ [])
      parts =
          take_more rest i x lt
          ∙ ap (λ z. take i rest ++ z ∷ []) (sym is)
          ∙ ap (λ z. z ++ x ∷ []) below
          ∙ append_assoc (take a rest) (mid_of a n rest) (x ∷ [])

      part_sum : part ≡ sum_of ops (mid_of a n rest) (scalar_multiple ops x (take n f))
      part_sum = part_is ∙ with_multiple-sum ops x (mid_of a n rest) (take n f) (omega (arith, size, lower))

      part_size : length part ≡ n
      part_size =
          ap length part_sum
          ∙ length-sum ops (mid_of a n rest) (scalar_multiple ops x (take n f)) (omega (arith, size, lower, length-map (take n f) (λ b. ops.times x b)))
          ∙ size

      after : take i (put_mid a n rest part) ≡ take a rest ++ part
      after = take-put_mid a n rest part i (omega (arith, part_size)) (omega arith)

      quotient : drop i (put_mid a n rest part) ≡ x ∷ drop (i + 1) rest
      quotient =
          drop-put_mid a n rest part i (omega arith) (omega arith) part_size
          ∙ drop-cons rest i x lt
          ∙ ap (λ z. z ∷ drop (suc i) rest) (sym is)
          ∙ (let next : suc i ≡ i + 1 = omega arith in ap (λ z. x ∷ drop z rest) next)

  -- the same, by the numbers that the code has
  pub divided : (f whole rest part : List A) (n top k : ℕ) (x : A) → IsMonic ops n f → n < top → top ≤ length rest → k ≡ n → x ≡ get_or rest (top - 1) x
      → part ≡ with_multiple ops (mid_of (top - 1 - n) k rest) x (take n f) → IsDivided ops f whole rest n top
      → IsDivided ops f whole (put_mid (top - 1 - n) k rest part) n (top - 1)
  divided f whole rest part n top k x monic above within same is part_is h =
      let one_more : top - 1 + 1 ≡ top = omega arith in
      subst (λ z. IsDivided ops f whole (put_mid (top - 1 - n) z rest part) n (top - 1)) (sym same)
      (turned f whole rest part n (top - 1 - n) (top - 1) x monic (omega arith) (omega arith) is
      (subst (λ z. part ≡ with_multiple ops (mid_of (top - 1 - n) z rest) x (take n f)) same part_is)
      (subst (λ z. IsDivided ops f whole rest n z) (sym one_more) h))

  -- at the end, the degree
  pub divided_all : (f whole rest : List A) (n top : ℕ) → top ≡ min n (length rest) → IsDivided ops f whole rest n top
      → IsSamePolynomial ops whole (sum_of ops (product_of ops (drop n rest) f) (take n rest))
  divided_all f whole rest n top is h =
      subst (λ z. IsSamePolynomial ops whole (sum_of ops (product_of ops (drop n rest) f) z)) (ap (λ z. take z rest) is ∙ take_min n rest)
      (subst (λ z. IsSamePolynomial ops whole (sum_of ops (product_of ops z f) (take top rest))) (ap (λ z. drop z rest) is ∙ drop_min n rest)
      (let none : top - n ≡ 0 = omega arith in subst (λ z. IsSamePolynomial ops whole (sum_of ops (product_of ops (replicate z ops.zero ++ drop top rest) f) (take top rest))) none h))

  -- what stands above is the quotient
  pub quotient_is : (f whole rest q : List A) → IsSamePolynomial ops whole (sum_of ops (product_of ops (drop (degree f) rest) f) (take (degree f) rest)) → IsSamePolynomial ops q (drop (degree f) rest)
      → IsQuotient ops whole f q
  quotient_is f whole rest q divided same = record {
    rest = take (degree f) rest;
    short = omega (arith, length-take (degree f) rest);
    divides = same_along ops divided (sum_same ops ring (product_same_l ops ring f (same_back ops same)) (same_self ops (take (degree f) rest)));
  }

-- the items from the index n on, where there are any
pub items_from : {A : Type 0} (items s xs : List A) (n start : ℕ) → items ≡ take (length s - start) (drop start s) → s ≡ xs → start ≡ min n (length xs) → items ≡ drop n xs
items_from items s xs n start is same begins =
    is
    ∙ take_all (length s - start) (drop start s) (omega (arith, length-drop start s))
    ∙ ap (λ z. drop start z) same
    ∙ ap (λ z. drop z xs) begins
    ∙ drop_min n xs
