-- Values from the top down, and zeros put between.
use Rattle.std.proofs.Common.{◌≡◌, ℕ, suc, ◌+◌, ◌-◌, ◌<◌, ◌≤◌, List, [], ◌∷◌, ◌++◌, length, get_or, take, drop, refl, sym, ap, ◌∙◌, arith, append_assoc}
use Rattle.std.proofs.Math.Seq.{drop-cons}
use Rattle.std.proofs.lemmas.List.{take_more}
use Rattle.field_rules.specs.Ops.{Ops}
use Rattle.poly_rules.specs.Polynomials.{value_at}
use Rattle.poly_laws.specs.Squares.{with_zeros}

-- one coefficient more, of those from the top
pub value_at-more : {A : Type 0} (ops : Ops A) (f : List A) (i : ℕ) (a x : A) → 0 < i → i ≤ length f → a ≡ get_or f (i - 1) a
    → ops.plus a (ops.times x (value_at ops (drop i f) x)) ≡ value_at ops (drop (i - 1) f) x
unfolding value_at
value_at-more ops f i a x some within is =
    let one_more : suc (i - 1) ≡ i = omega arith in
    let split : drop (i - 1) f ≡ a ∷ drop i f = drop-cons f (i - 1) a (omega arith) ∙ ap (λ z. z ∷ drop (suc (i - 1)) f) (sym is) ∙ ap (λ z. a ∷ drop z f) one_more in
    sym (ap (λ z. value_at ops z x) split)

-- no coefficient has the value zero
pub value_at-past : {A : Type 0} (ops : Ops A) (f : List A) (x : A) → value_at ops (drop (length f) f) x ≡ ops.zero
unfolding value_at
value_at-past ops [] x = refl
value_at-past ops (a ∷ f) x = value_at-past ops f x

module _ {A : Type 0} (z : A) where
  with_zeros-append : (xs ys : List A) → with_zeros z (xs ++ ys) ≡ with_zeros z xs ++ with_zeros z ys
  unfolding with_zeros
  with_zeros-append [] ys = refl
  with_zeros-append (a ∷ xs) ys = ap (λ l. a ∷ z ∷ l) (with_zeros-append xs ys)

  -- one item more
  pub with_zeros-more : (xs : List A) (i : ℕ) (a : A) → i < length xs → a ≡ get_or xs i a → (with_zeros z (take i xs) ++ a ∷ []) ++ z ∷ [] ≡ with_zeros z (take (i + 1) xs)
  unfolding with_zeros
  with_zeros-more xs i a lt is =
      append_assoc (with_zeros z (take i xs)) (a ∷ []) (z ∷ [])
      ∙ sym (ap (with_zeros z) (take_more xs i a lt ∙ ap (λ v. take i xs ++ v ∷ []) (sym is)) ∙ with_zeros-append (take i xs) (a ∷ []))

  pub with_zeros-none : with_zeros z [] ≡ []
  unfolding with_zeros
  with_zeros-none = refl
