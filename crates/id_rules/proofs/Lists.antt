-- Lists of which each item has a property, and filters.
use Rattle.std.proofs.Common.{◌≡◌, ◌≤◌, List, [], ◌∷◌, ◌++◌, length, filter, Bool, true, false, cond, refl, sym, ap, ◌∙◌, arith}
use Rattle.std.specs.List.{AllByRecursion}

-- ---- each item has a property

pub all_append : {X : Type 0} (P : X → Type 0) (xs ys : List X) → AllByRecursion P xs → AllByRecursion P ys → AllByRecursion P (xs ++ ys)
all_append P [] ys h k = k
all_append P (x ∷ xs) ys h k = (h.0, all_append P xs ys h.1 k)

pub all_left : {X : Type 0} (P : X → Type 0) (xs ys : List X) → AllByRecursion P (xs ++ ys) → AllByRecursion P xs
all_left P [] ys h = tt
all_left P (x ∷ xs) ys h = (h.0, all_left P xs ys h.1)

pub all_right : {X : Type 0} (P : X → Type 0) (xs ys : List X) → AllByRecursion P (xs ++ ys) → AllByRecursion P ys
all_right P [] ys h = h
all_right P (x ∷ xs) ys h = all_right P xs ys h.1

pub all_weaker : {X : Type 0} (P Q : X → Type 0) → ((x : X) → P x → Q x) → (xs : List X) → AllByRecursion P xs → AllByRecursion Q xs
all_weaker P Q f [] h = tt
all_weaker P Q f (x ∷ xs) h = (f x h.0, all_weaker P Q f xs h.1)

all_kept : {X : Type 0} (P : X → Type 0) (b : Bool) (x : X) (xs : List X) → P x → AllByRecursion P xs → AllByRecursion P (cond b (x ∷ xs) xs)
all_kept P true x xs h k = (h, k)
all_kept P false x xs h k = k

pub all_filter : {X : Type 0} (P : X → Type 0) (t : X → Bool) (xs : List X) → AllByRecursion P xs → AllByRecursion P (filter t xs)
all_filter P t [] h = tt
all_filter P t (x ∷ xs) h = all_kept P (t x) x (filter t xs) h.0 (all_filter P t xs h.1)

passed_kept : {X : Type 0} (b : Bool) (t : X → Bool) (x : X) (xs : List X) → t x ≡ b → AllByRecursion (λ y. t y ≡ true) xs → AllByRecursion (λ y. t y ≡ true) (cond b (x ∷ xs) xs)
passed_kept true t x xs e h = (e, h)
passed_kept false t x xs e h = h

pub filter_passed : {X : Type 0} (t : X → Bool) (xs : List X) → AllByRecursion (λ y. t y ≡ true) (filter t xs)
filter_passed t [] = tt
filter_passed t (x ∷ xs) = passed_kept (t x) t x (filter t xs) refl (filter_passed t xs)

few_kept : {X : Type 0} (b : Bool) (x : X) (xs ys : List X) → length xs ≤ length ys → length (cond b (x ∷ xs) xs) ≤ length (x ∷ ys)
few_kept true x xs ys le = omega arith
few_kept false x xs ys le = omega arith

pub filter_few : {X : Type 0} (t : X → Bool) (xs : List X) → length (filter t xs) ≤ length xs
filter_few t [] = omega arith
filter_few t (x ∷ xs) = few_kept (t x) x (filter t xs) xs (filter_few t xs)

-- ---- two filters

module _ {A : Type 0} (p : A → Bool) where
  pub filter_yes : (x : A) (xs : List A) → p x ≡ true → filter p (x ∷ xs) ≡ x ∷ filter p xs
  filter_yes x xs h = ap (λ b. cond b (x ∷ filter p xs) (filter p xs)) h

  pub filter_no : (x : A) (xs : List A) → p x ≡ false → filter p (x ∷ xs) ≡ filter p xs
  filter_no x xs h = ap (λ b. cond b (x ∷ filter p xs) (filter p xs)) h

module _ {A : Type 0} (p q : A → Bool) where
  both_filters : (a b : Bool) (x : A) (xs : List A) → p x ≡ a → q x ≡ b → filter p (filter q xs) ≡ filter q (filter p xs)
      → filter p (filter q (x ∷ xs)) ≡ filter q (filter p (x ∷ xs))
  both_filters true true x xs ea eb e =
      ap (filter p) (filter_yes q x xs eb) ∙ (filter_yes p x (filter q xs) ea ∙ (ap (λ ys. x ∷ ys) e ∙ sym (ap (filter q) (filter_yes p x xs ea) ∙ filter_yes q x (filter p xs) eb)))
  both_filters true false x xs ea eb e =
      ap (filter p) (filter_no q x xs eb) ∙ (e ∙ sym (ap (filter q) (filter_yes p x xs ea) ∙ filter_no q x (filter p xs) eb))
  both_filters false true x xs ea eb e =
      ap (filter p) (filter_yes q x xs eb) ∙ (filter_no p x (filter q xs) ea ∙ (e ∙ sym (ap (filter q) (filter_no p x xs ea))))
  both_filters false false x xs ea eb e = ap (filter p) (filter_no q x xs eb) ∙ (e ∙ sym (ap (filter q) (filter_no p x xs ea)))

  -- two filters in either order
  pub filter_swap : (xs : List A) → filter p (filter q xs) ≡ filter q (filter p xs)
  filter_swap [] = refl
  filter_swap (x ∷ xs) = both_filters (p x) (q x) x xs refl refl (filter_swap xs)

module _ {A : Type 0} (p : A → Bool) where
  filter_same : (b : Bool) (x : A) (xs : List A) → p x ≡ b → filter p (filter p xs) ≡ filter p xs → filter p (filter p (x ∷ xs)) ≡ filter p (x ∷ xs)
  filter_same true x xs h e = ap (filter p) (filter_yes p x xs h) ∙ (filter_yes p x (filter p xs) h ∙ (ap (λ ys. x ∷ ys) e ∙ sym (filter_yes p x xs h)))
  filter_same false x xs h e = ap (filter p) (filter_no p x xs h) ∙ (e ∙ sym (filter_no p x xs h))

  -- one filter twice
  pub filter_twice : (xs : List A) → filter p (filter p xs) ≡ filter p xs
  filter_twice [] = refl
  filter_twice (x ∷ xs) = filter_same (p x) x xs refl (filter_twice xs)
