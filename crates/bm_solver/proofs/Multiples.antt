-- Parts of lists: a multiple of a polynomial that is added to one, and what stands in one at an index.
use Rattle.std.proofs.Common.{◌≡◌, ℕ, ◌+◌, ◌-◌, ◌<◌, ◌≤◌, List, [], ◌∷◌, ◌++◌, length, get_or, take, drop, replicate, refl, sym, ap, ◌∙◌, arith, length-append, length-drop}
use Rattle.std.proofs.lemmas.List.{take-append-drop, length-take-le, length-map, get_or-take, get_or-drop, get_or-append_right, get_or_append_left}
use borrow.Rule.Slice.PartMut.{mid_of, put_mid}
use Rattle.field_rules.specs.Ops.{Ops, IsRing}
use Rattle.field_rules.specs.Fields.{with_multiple}
use Rattle.poly_rules.specs.Polynomials.{coefficient, sum_of, scalar_multiple}
use Rattle.poly_laws.proofs.Sums.{sum_none, coefficient-sum, coefficient-scalar_multiple}
use Rattle.poly_laws.proofs.Division.{length-sum, with_multiple-sum}

module _ {A : Type 0} where
  -- what stands in a part that was written
  pub put_mid_at : (acc part : List A) (a n j : ℕ) (d : A) → a ≤ length acc → a ≤ j → j - a < length part → get_or (put_mid a n acc part) j d ≡ get_or part (j - a) d
  put_mid_at acc part a n j d within from lt =
      get_or-append_right (take a acc) (part ++ drop n (drop a acc)) a j d (length-take-le a acc within) from
      ∙ get_or_append_left part (drop n (drop a acc)) d (j - a) lt

  -- and in one that is read
  pub mid_of_at : (xs : List A) (a n i : ℕ) (d : A) → i < n → get_or (mid_of a n xs) i d ≡ get_or xs (a + i) d
  mid_of_at xs a n i d lt = get_or-take n (drop a xs) i d lt ∙ get_or-drop a xs i d

  -- a part that is written by one as long
  pub length-put_mid : (acc part : List A) (a n : ℕ) → a + n ≤ length acc → length part ≡ n → length (put_mid a n acc part) ≡ length acc
  length-put_mid acc part a n within size =
      omega (arith, length-append (take a acc) (part ++ drop n (drop a acc)), length-append part (drop n (drop a acc)), length-take-le a acc (omega arith), length-drop n (drop a acc), length-drop a acc)

  -- and by the same part of another list
  module _ (acc part xs : List A) (a n m : ℕ) (count : n ≡ length acc - a) (same_count : m ≡ n) (within : a ≤ length acc) (size : length xs ≡ length acc) (is : part ≡ mid_of a m xs) where
    part_size : length part ≡ n
    part_size = ap length is ∙ length-take-le m (drop a xs) (omega (arith, length-drop a xs)) ∙ same_count

    pub length-copied : length (put_mid a n acc part) ≡ length acc
    length-copied = length-put_mid acc part a n (omega arith) part_size

    pub copied_at : (j : ℕ) (d : A) → a ≤ j → j < length acc → get_or (put_mid a n acc part) j d ≡ get_or xs j d
    copied_at j d from lt =
        put_mid_at acc part a n j d within from (omega (arith, part_size))
        ∙ ap (λ z. get_or z (j - a) d) is
        ∙ mid_of_at xs a m (j - a) d (omega arith)
        ∙ (let here : a + (j - a) ≡ j = omega arith in ap (λ z. get_or xs z d) here)

module _ {A : Type 0} (ops : Ops A) (ring : IsRing ops) where
  -- a sum with a list that begins with zeros
  sum_behind : (u v g : List A) → sum_of ops (u ++ v) (replicate (length u) ops.zero ++ g) ≡ u ++ sum_of ops v g
  unfolding sum_of
  sum_behind [] v g = refl
  sum_behind (a ∷ u) v g = ap (λ z. z ∷ sum_of ops (u ++ v) (replicate (length u) ops.zero ++ g)) (ring.plus_zero a) ∙ ap (λ z. a ∷ z) (sum_behind u v g)

  -- a sum with a list that is no longer than the first part
  sum_before : (u v g : List A) → length g ≤ length u → sum_of ops (u ++ v) g ≡ sum_of ops u g ++ v
  unfolding sum_of
  sum_before [] v [] le = sum_none ops ring v
  sum_before [] v (b ∷ g) le = absurd (omega arith)
  sum_before (a ∷ u) v [] le = refl
  sum_before (a ∷ u) v (b ∷ g) le = ap (λ z. ops.plus a b ∷ z) (sum_before u v g (omega arith))

  -- the n items from index a on have the multiple of f
  pub multiple_added : (acc part f : List A) (a n : ℕ) (k : A) → a + n ≤ length acc → length f ≡ n → part ≡ with_multiple ops (mid_of a n acc) k f
      → put_mid a n acc part ≡ sum_of ops acc (replicate a ops.zero ++ scalar_multiple ops k f)
  multiple_added acc part f a n k within size is =
      ap (λ z. take a acc ++ (z ++ drop n (drop a acc))) (is ∙ with_multiple-sum ops k (mid_of a n acc) f (omega (arith, middle, size)))
      ∙ ap (λ z. take a acc ++ z) (sym (sum_before (mid_of a n acc) (drop n (drop a acc)) (scalar_multiple ops k f) (omega (arith, length-map f (ops.times k), middle, size))))
      ∙ sym (sum_behind (take a acc) (mid_of a n acc ++ drop n (drop a acc)) (scalar_multiple ops k f))
      ∙ ap (λ z. sum_of ops (take a acc ++ (mid_of a n acc ++ drop n (drop a acc))) (replicate z ops.zero ++ scalar_multiple ops k f)) front
      ∙ ap (λ z. sum_of ops z (replicate a ops.zero ++ scalar_multiple ops k f)) parts
    where
      front : length (take a acc) ≡ a
      front = length-take-le a acc (omega arith)

      middle : length (mid_of a n acc) ≡ n
      middle = length-take-le n (drop a acc) (omega (arith, length-drop a acc))

      parts : take a acc ++ (mid_of a n acc ++ drop n (drop a acc)) ≡ acc
      parts = ap (λ z. take a acc ++ z) (take-append-drop n (drop a acc)) ∙ take-append-drop a acc

  -- each item from index a on has k times the one as far behind b
  pub multiple_at : (acc part xs : List A) (a b n m j : ℕ) (k : A) → n ≡ length acc - a → m ≡ n → b ≤ a → length xs ≡ length acc
      → part ≡ with_multiple ops (mid_of a n acc) k (mid_of b m xs) → a ≤ j → j < length acc
      → coefficient ops (put_mid a n acc part) j ≡ ops.plus (coefficient ops acc j) (ops.times k (coefficient ops xs (b + (j - a))))
  multiple_at acc part xs a b n m j k count same_count below size is from lt =
      put_mid_at acc part a n j ops.zero (omega arith) from (omega (arith, part_size))
      ∙ ap (λ z. coefficient ops z (j - a)) sum
      ∙ coefficient-sum ops ring (mid_of a n acc) (scalar_multiple ops k (mid_of b m xs)) (j - a)
      ∙ ap (ops.plus (coefficient ops (mid_of a n acc) (j - a))) (coefficient-scalar_multiple ops ring k (mid_of b m xs) (j - a))
      ∙ ap (λ z. ops.plus (coefficient ops (mid_of a n acc) (j - a)) (ops.times k z)) (mid_of_at xs b m (j - a) ops.zero (omega arith))
      ∙ ap (λ z. ops.plus z (ops.times k (coefficient ops xs (b + (j - a))))) (mid_of_at acc a n (j - a) ops.zero (omega arith) ∙ (let here : a + (j - a) ≡ j = omega arith in ap (coefficient ops acc) here))
    where
      first : length (mid_of a n acc) ≡ n
      first = length-take-le n (drop a acc) (omega (arith, length-drop a acc))

      second : length (mid_of b m xs) ≡ m
      second = length-take-le m (drop b xs) (omega (arith, length-drop b xs))

      sum : part ≡ sum_of ops (mid_of a n acc) (scalar_multiple ops k (mid_of b m xs))
      sum = is ∙ with_multiple-sum ops k (mid_of a n acc) (mid_of b m xs) (omega (arith, first, second))

      part_size : length part ≡ n
      part_size =
          ap length sum
          ∙ length-sum ops (mid_of a n acc) (scalar_multiple ops k (mid_of b m xs)) (omega (arith, first, second, length-map (mid_of b m xs) (ops.times k)))
          ∙ first
