-- Lists of elements that are equal are told to be so.
use Rattle.std.proofs.Common.{◌≡◌, ℕ, Bool, true, List, [], ◌∷◌, refl, subst, ◌∙◌}
use Rattle.std.specs.Prelude.{nat_eq}
use Rattle.std.proofs.lemmas.Bool.{eq-eqb}
use lib.Pointwise.{pointwise}

pub pointwise-self : {A : Type 0} (E : A → A → Bool) (bits_of : A → ℕ) → ((a b : A) → E a b ≡ nat_eq (bits_of a) (bits_of b)) → (xs : List A) → pointwise E xs xs ≡ true
pointwise-self E bits_of equal [] = refl
pointwise-self E bits_of equal (x ∷ xs) = let here : E x x ≡ true = equal x x ∙ eq-eqb (bits_of x) (bits_of x) refl in rw (here, pointwise-self E bits_of equal xs) refl

pub pointwise-same : {A : Type 0} (E : A → A → Bool) (bits_of : A → ℕ) → ((a b : A) → E a b ≡ nat_eq (bits_of a) (bits_of b)) → (xs ys : List A) → xs ≡ ys → pointwise E xs ys ≡ true
pointwise-same E bits_of equal xs ys same = subst (λ z. pointwise E xs z ≡ true) same (pointwise-self E bits_of equal xs)
