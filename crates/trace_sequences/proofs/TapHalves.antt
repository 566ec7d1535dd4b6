-- Correlations by halves of the taps.
use Rattle.std.proofs.Common.{◌≡◌, ◌⊎◌, inl, inr, ℕ, zero, suc, ◌+◌, ◌-◌, ◌*◌, ◌<◌, ◌≤◌, List, [], ◌∷◌, ◌++◌, length, take, drop, refl, sym, ap, ap₂, ◌∙◌, arith, length-append, length-drop}
use Rattle.std.proofs.lemmas.Bool.{cases_lt}
use Rattle.std.proofs.lemmas.List.{length-take-le, drop-drop, get_or_append_left, get_or-append_right}
use Rattle.field_rules.specs.Ops.{Ops, IsRing}
use Rattle.field_rules.specs.Fields.{dot_of}
use Rattle.field_rules.specs.Lists.{sums_of_both}
use Rattle.field_laws.proofs.RingFacts.{zero_plus, distributes_left, plus_swap, plus_again}
use Rattle.poly_rules.specs.Polynomials.{coefficient}
use Rattle.list_multiples.proofs.Sums.{length-both}
use Rattle.list_multiples.proofs.Blocks.{drop-both}
use Rattle.recurrence_laws.proofs.Applied.{dot_of-prefix}
use Rattle.splitting_laws.specs.Parts.{IsCorrelation}

module _ {A : Type 0} (ops : Ops A) where
  -- at an index
  coefficient-both : (xs ys : List A) (k : ℕ) → length xs ≡ length ys → k < length xs → coefficient ops (sums_of_both ops xs ys) k ≡ ops.plus (coefficient ops xs k) (coefficient ops ys k)
  unfolding sums_of_both
  coefficient-both [] ys k same lt = absurd (omega arith)
  coefficient-both (x ∷ xs) [] k same lt = absurd (omega arith)
  coefficient-both (x ∷ xs) (y ∷ ys) zero same lt = refl
  coefficient-both (x ∷ xs) (y ∷ ys) (suc k) same lt = coefficient-both xs ys k (omega arith) (omega arith)

module _ {A : Type 0} (ops : Ops A) (ring : IsRing ops) where
  -- a sum of products, with a list in two parts
  pub dot_of-append : (f g s : List A) → dot_of ops (f ++ g) s ≡ ops.plus (dot_of ops f s) (dot_of ops g (drop (length f) s))
  unfolding dot_of
  dot_of-append [] g s = sym (zero_plus ops ring (dot_of ops g s))
  dot_of-append (a ∷ f) g [] = sym (zero_plus ops ring (dot_of ops g []) ∙ none g)
    where
      none : (g : List A) → dot_of ops g [] ≡ ops.zero
      none [] = refl
      none (b ∷ g) = refl
  dot_of-append (a ∷ f) g (x ∷ s) = ap (ops.plus (ops.times a x)) (dot_of-append f g s) ∙ sym (ring.plus_assoc (ops.times a x) (dot_of ops f s) (dot_of ops g (drop (length f) s)))

  -- with the sums of two lists, on either side
  dot_of-both : (f g s : List A) → length f ≡ length g → dot_of ops (sums_of_both ops f g) s ≡ ops.plus (dot_of ops f s) (dot_of ops g s)
  unfolding dot_of sums_of_both
  dot_of-both [] [] s same = sym (zero_plus ops ring ops.zero)
  dot_of-both [] (b ∷ g) s same = absurd (omega arith)
  dot_of-both (a ∷ f) [] s same = absurd (omega arith)
  dot_of-both (a ∷ f) (b ∷ g) [] same = sym (zero_plus ops ring ops.zero)
  dot_of-both (a ∷ f) (b ∷ g) (x ∷ s) same =
      ap₂ ops.plus (distributes_left ops ring a b x) (dot_of-both f g s (omega arith)) ∙ plus_swap ops ring (ops.times a x) (ops.times b x) (dot_of ops f s) (dot_of ops g s)

  dot_with-both : (f s t : List A) → length f ≤ length s → length f ≤ length t → dot_of ops f (sums_of_both ops s t) ≡ ops.plus (dot_of ops f s) (dot_of ops f t)
  unfolding dot_of sums_of_both
  dot_with-both [] s t le within = sym (zero_plus ops ring ops.zero)
  dot_with-both (a ∷ f) [] t le within = absurd (omega arith)
  dot_with-both (a ∷ f) (x ∷ s) [] le within = absurd (omega arith)
  dot_with-both (a ∷ f) (x ∷ s) (y ∷ t) le within =
      ap₂ ops.plus (ring.distributes a x y) (dot_with-both f s t (omega arith) (omega arith)) ∙ plus_swap ops ring (ops.times a x) (ops.times a y) (dot_of ops f s) (dot_of ops f t)

  -- with the sums of the items and those h places behind
  dot_with-later : (f s d : List A) (h k : ℕ) → d ≡ sums_of_both ops (take (length s - h) s) (drop h s) → k + (length f + h) ≤ length s
      → dot_of ops f (drop k d) ≡ ops.plus (dot_of ops f (drop k s)) (dot_of ops f (drop (h + k) s))
  dot_with-later f s d h k is within =
      ap (λ z. dot_of ops f (drop k z)) is
      ∙ ap (dot_of ops f) (drop-both ops k (take (length s - h) s) (drop h s))
      ∙ dot_with-both f (drop k (take (length s - h) s)) (drop k (drop h s)) (omega (arith, length-drop k (take (length s - h) s), front)) (omega (arith, length-drop k (drop h s), length-drop h s))
      ∙ ap₂ ops.plus (dot_of-prefix ops k (length s - h) f s (omega arith)) (ap (dot_of ops f) (drop-drop k h s ∙ ap (λ z. drop z s) (omega arith)))
    where
      front : length (take (length s - h) s) ≡ length s - h
      front = length-take-le (length s - h) s (omega arith)

  -- a + b and what has a again
  again : (a b c : A) → ops.plus (ops.plus c a) (ops.plus a b) ≡ ops.plus c b
  again a b c = ring.plus_assoc c a (ops.plus a b) ∙ ap (ops.plus c) (plus_again ops ring a b)

  -- the correlation of f and g behind it, each of h items
  module _ (f g s d both one two v : List A) (h : ℕ) (size_f : length f ≡ h) (size_g : length g ≡ h) (fits : 2 * (2 * h) ≤ length s + 1) (later : d ≡ sums_of_both ops (take (length s - h) s) (drop h s))
      (is_both : IsCorrelation ops (sums_of_both ops f g) (drop h s) h both) (is_one : IsCorrelation ops f d h one) (is_two : IsCorrelation ops g (drop h d) h two) where
    at_both : (k : ℕ) → k < h → coefficient ops both k ≡ ops.plus (dot_of ops f (drop (h + k) s)) (dot_of ops g (drop (h + k) s))
    at_both k lt =
        is_both.each k lt
        ∙ dot_of-both f g (drop k (drop h s)) (size_f ∙ sym size_g)
        ∙ ap (λ z. ops.plus (dot_of ops f z) (dot_of ops g z)) (drop-drop k h s ∙ ap (λ z. drop z s) (omega arith))

    whole_at : (k : ℕ) → dot_of ops (f ++ g) (drop k s) ≡ ops.plus (dot_of ops f (drop k s)) (dot_of ops g (drop (h + k) s))
    whole_at k = dot_of-append f g (drop k s) ∙ ap (λ z. ops.plus (dot_of ops f (drop k s)) (dot_of ops g z)) (drop-drop (length f) k s ∙ ap (λ z. drop z s) (omega (arith, size_f)))

    first_half : (k : ℕ) → k < h → ops.plus (coefficient ops one k) (coefficient ops both k) ≡ dot_of ops (f ++ g) (drop k s)
    first_half k lt =
        ap₂ ops.plus (is_one.each k lt ∙ dot_with-later f s d h k later (omega (arith, size_f, fits))) (at_both k lt)
        ∙ again (dot_of ops f (drop (h + k) s)) (dot_of ops g (drop (h + k) s)) (dot_of ops f (drop k s))
        ∙ sym (whole_at k)

    second_half : (k : ℕ) → k < h → ops.plus (coefficient ops two k) (coefficient ops both k) ≡ dot_of ops (f ++ g) (drop (h + k) s)
    second_half k lt =
        ap₂ ops.plus
        (is_two.each k lt
        ∙ ap (dot_of ops g) (drop-drop k h d ∙ ap (λ z. drop z d) (omega arith))
        ∙ dot_with-later g s d h (h + k) later (omega (arith, size_g, fits))
        ∙ ring.plus_comm (dot_of ops g (drop (h + k) s)) (dot_of ops g (drop (h + (h + k)) s)))
        (at_both k lt ∙ ring.plus_comm (dot_of ops f (drop (h + k) s)) (dot_of ops g (drop (h + k) s)))
        ∙ again (dot_of ops g (drop (h + k) s)) (dot_of ops f (drop (h + k) s)) (dot_of ops g (drop (h + (h + k)) s))
        ∙ ring.plus_comm (dot_of ops g (drop (h + (h + k)) s)) (dot_of ops f (drop (h + k) s))
        ∙ sym (whole_at (h + k))

    pub by_halves : v ≡ sums_of_both ops one both ++ sums_of_both ops two both → IsCorrelation ops (f ++ g) s (2 * h) v
    by_halves is = record {
      size = ap length is ∙ length-append first second ∙ ap₂ ◌+◌ first_size second_size ∙ omega arith;
      each = λ k lt. ap (λ z. coefficient ops z k) is ∙ at k lt (cases_lt k h);
    }
      where
        first : List A
        first = sums_of_both ops one both

        second : List A
        second = sums_of_both ops two both

        first_size : length first ≡ h
        first_size = length-both ops one both (is_one.size ∙ sym is_both.size) ∙ is_one.size

        second_size : length second ≡ h
        second_size = length-both ops two both (is_two.size ∙ sym is_both.size) ∙ is_two.size

        at : (k : ℕ) → k < 2 * h → (k < h) ⊎ (h ≤ k) → coefficient ops (first ++ second) k ≡ dot_of ops (f ++ g) (drop k s)
        at k lt (inl before) =
            get_or_append_left first second ops.zero k (omega (arith, first_size))
            ∙ coefficient-both ops one both k (is_one.size ∙ sym is_both.size) (omega (arith, is_one.size))
            ∙ first_half k before
        at k lt (inr behind) =
            let place : h + (k - h) ≡ k = omega arith in
            get_or-append_right first second h k ops.zero first_size behind
            ∙ coefficient-both ops two both (k - h) (is_two.size ∙ sym is_both.size) (omega (arith, is_two.size))
            ∙ second_half (k - h) (omega arith)
            ∙ ap (λ z. dot_of ops (f ++ g) (drop z s)) place
