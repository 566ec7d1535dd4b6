-- The lists of taps that are halved, and the zeros behind them.
use Rattle.std.proofs.Common.{◌≡◌, ◌⊎◌, inl, inr, ℕ, zero, suc, ◌+◌, ◌-◌, ◌*◌, ◌/◌, ◌^◌, ◌<◌, ◌≤◌, List, [], ◌∷◌, ◌++◌, length, take, drop, reverse, replicate, get_or, refl, sym, ap, ap₂, subst, ◌∙◌, arith, add-one, length-append, length-drop}
use Rattle.std.proofs.Math.Nat.{pow-suc}
use Rattle.std.proofs.lemmas.Bool.{cases_lt}
use Rattle.std.proofs.lemmas.List.{length-take-le, get_or-take, take_at, drop_at, take-append-drop, take-append-le, take-take, take_all}
use Rattle.field_rules.specs.Ops.{Ops, IsRing}
use Rattle.field_rules.specs.Fields.{dot_of}
use Rattle.field_rules.specs.Lists.{sums_of_both}
use Rattle.field_laws.proofs.RingFacts.{zero_plus, zero_times}
use Rattle.list_multiples.proofs.Sums.{length-both}
use Rattle.recurrence_laws.proofs.Applied.{dot_of-prefix}
use Rattle.splitting_laws.specs.Parts.{IsCorrelation}
use Rattle.trace_sequences.specs.Halved.{AreForHalves, AreLists}
use Rattle.trace_sequences.proofs.TapHalves.{dot_of-append}

-- a power of 3 is no 0
pub three_positive : (n : ℕ) → 1 ≤ 3 ^ n
three_positive zero = omega arith
three_positive (suc n) = let below : 1 ≤ 3 ^ n = three_positive n in omega (arith, below, pow-suc 3 n)

-- half of taps in equal parts
pub half_of_parts : (depth below n part : ℕ) → depth ≡ below + 1 → n ≡ part * 2 ^ depth → (n / 2 ≡ part * 2 ^ below) × (n ≡ 2 * (n / 2))
half_of_parts depth below n part is n_is = let doubled : n ≡ part * 2 ^ below * 2 = n_is ∙ ap (λ d. part * 2 ^ d) (is ∙ add-one below) ∙ ap (λ p. part * p) (pow-suc 2 below) ∙ regroup part (2 ^ below) in
    (omega (arith, doubled), omega (arith, doubled))
  where
    regroup : (a b : ℕ) → a * (b * 2) ≡ a * b * 2
    regroup a b = omega arith

-- a third of the lists
pub third_of_lists : (depth below n : ℕ) → depth ≡ below + 1 → n ≡ 3 ^ depth → n / 3 ≡ 3 ^ below
third_of_lists depth below n is n_is = let tripled : n ≡ 3 ^ below * 3 = n_is ∙ ap (λ d. 3 ^ d) (is ∙ add-one below) ∙ pow-suc 3 below in omega (arith, tripled)

module _ {A : Type 0} (ops : Ops A) where
  -- how many lists there are
  pub count_of_lists : (depth : ℕ) (t : List A) (lists : List (List A)) → AreLists ops depth t lists → length lists ≡ 3 ^ depth
  unfolding AreLists
  count_of_lists zero t lists are = ap length are.1
  count_of_lists (suc depth) t lists are =
      let last : length (drop (3 ^ depth) (drop (3 ^ depth) lists)) ≡ 3 ^ depth = count_of_lists depth are.second (drop (3 ^ depth) (drop (3 ^ depth) lists)) are.for_second in
      omega (arith, last, three_positive depth, length-drop (3 ^ depth) (drop (3 ^ depth) lists), length-drop (3 ^ depth) lists, pow-suc 3 depth)

  -- of taps that aren't halved
  pub lone_list : (depth : ℕ) (t m : List A) → depth ≡ 0 → 1 ≤ length t → m ≡ reverse t → AreLists ops depth t (m ∷ [])
  unfolding AreLists
  lone_list depth t m none some is = subst (λ d. AreLists ops d t (m ∷ [])) (sym none) (some, ap (λ z. z ∷ []) is)

  pub lone : (depth : ℕ) (t : List A) (lists : List (List A)) → depth ≡ 0 → AreLists ops depth t lists → (1 ≤ length t) × (lists ≡ reverse t ∷ [])
  unfolding AreLists
  lone depth t lists none are = subst (λ d. AreLists ops d t lists) none are

  -- of taps that are
  pub halved : (depth below : ℕ) (t : List A) (lists : List (List A)) → depth ≡ below + 1 → AreLists ops depth t lists → AreForHalves ops (AreLists ops below) (3 ^ below) t lists
  unfolding AreLists
  halved depth below t lists is are = subst (λ d. AreLists ops d t lists) (is ∙ add-one below) are

  -- those of the sum of the halves and of both, one after the other
  pub lists_of_halves : (depth below h : ℕ) (t sums : List A) (more for_sum for_first for_second : List (List A)) → depth ≡ below + 1 → length t ≡ 2 * h → sums ≡ sums_of_both ops (take (length t - h) t) (drop h t)
      → AreLists ops below sums for_sum → AreLists ops below (take h t) for_first → AreLists ops below (drop h t) for_second → more ≡ for_sum ++ (for_first ++ for_second) → AreLists ops depth t more
  unfolding AreLists
  lists_of_halves depth below h t sums more for_sum for_first for_second is size sums_is are_sum are_first are_second more_is =
      subst (λ d. AreLists ops d t more) (sym (is ∙ add-one below))
      record {
        first = take h t;
        second = drop h t;
        whole = sym (take-append-drop h t);
        alike = length-take-le h t (omega (arith, size)) ∙ sym (length-drop h t ∙ omega (arith, size));
        for_sum = subst (λ z. AreLists ops below z (take (3 ^ below) more)) (sums_is ∙ ap (λ z. sums_of_both ops (take z t) (drop h t)) (omega (arith, size)))
            (subst (AreLists ops below sums) (sym (ap (take (3 ^ below)) more_is ∙ take_at for_sum (for_first ++ for_second) (3 ^ below) count_sum)) are_sum);
        for_first = subst (AreLists ops below (take h t)) (sym (ap (take (3 ^ below)) rest ∙ take_at for_first for_second (3 ^ below) count_first)) are_first;
        for_second = subst (AreLists ops below (drop h t)) (sym (ap (drop (3 ^ below)) rest ∙ drop_at for_first for_second (3 ^ below) count_first)) are_second;
      }
    where
      count_sum : length for_sum ≡ 3 ^ below
      count_sum = count_of_lists below sums for_sum are_sum

      count_first : length for_first ≡ 3 ^ below
      count_first = count_of_lists below (take h t) for_first are_first

      rest : drop (3 ^ below) more ≡ for_first ++ for_second
      rest = ap (drop (3 ^ below)) more_is ∙ drop_at for_sum (for_first ++ for_second) (3 ^ below) count_sum

  -- the list that is left of taps that aren't halved
  pub lone_is : (depth : ℕ) (t m : List A) (lists : List (List A)) → depth ≡ 0 → AreLists ops depth t lists → m ≡ get_or lists 0 m → m ≡ reverse t
  lone_is depth t m lists none are is = is ∙ ap (λ z. get_or z 0 m) (lone depth t lists none are).1

  -- how many sums there are of items and those h places behind
  pub length-later : (h : ℕ) (s : List A) → h ≤ length s → length (sums_of_both ops (take (length s - h) s) (drop h s)) ≡ length s - h
  length-later h s le = let front : length (take (length s - h) s) ≡ length s - h = length-take-le (length s - h) s (omega arith) in
      length-both ops (take (length s - h) s) (drop h s) (front ∙ sym (length-drop h s)) ∙ front

  -- the lists in thirds
  pub record AreThirds (below half : ℕ) (t : List A) (for_sum for_first for_second : List (List A)) : Type 0 where
    pub first : List A
    pub second : List A
    pub whole : t ≡ first ++ second
    pub first_size : length first ≡ half
    pub second_size : length second ≡ half
    pub both_size : length (sums_of_both ops first second) ≡ half
    pub is_sum : AreLists ops below (sums_of_both ops first second) for_sum
    pub is_first : AreLists ops below first for_first
    pub is_second : AreLists ops below second for_second

  pub in_thirds : (depth below size : ℕ) (t : List A) (lists for_sum rest for_first for_second : List (List A)) → depth ≡ below + 1 → AreLists ops depth t lists → length t ≡ size
      → for_sum ≡ take (length lists / 3) lists → rest ≡ drop (length lists / 3) lists → for_first ≡ take (length lists / 3) rest → for_second ≡ drop (length lists / 3) rest
      → AreThirds below (size / 2) t for_sum for_first for_second × (size ≡ 2 * (size / 2))
  in_thirds depth below size t lists for_sum rest for_first for_second is are size_is sum_is rest_is first_is second_is = (
    record {
      first = halves.first;
      second = halves.second;
      whole = halves.whole;
      first_size = half_is;
      second_size = sym halves.alike ∙ half_is;
      both_size = length-both ops halves.first halves.second halves.alike ∙ half_is;
      is_sum = subst (AreLists ops below (sums_of_both ops halves.first halves.second)) (sym (sum_is ∙ ap (λ z. take z lists) third)) halves.for_sum;
      is_first = subst (AreLists ops below halves.first) (sym (first_is ∙ ap₂ take third (rest_is ∙ ap (λ z. drop z lists) third))) halves.for_first;
      is_second = subst (AreLists ops below halves.second) (sym (second_is ∙ ap₂ drop third (rest_is ∙ ap (λ z. drop z lists) third))) halves.for_second;
    },
    omega (arith, whole_size, halves.alike, size_is),
  )
    where
      halves : AreForHalves ops (AreLists ops below) (3 ^ below) t lists
      halves = halved depth below t lists is are

      third : length lists / 3 ≡ 3 ^ below
      third = third_of_lists depth below (length lists) is (count_of_lists depth t lists are)

      whole_size : length t ≡ length halves.first + length halves.second
      whole_size = ap length halves.whole ∙ length-append halves.first halves.second

      half_is : length halves.first ≡ size / 2
      half_is = omega (arith, whole_size, halves.alike, size_is)

module _ {A : Type 0} (ops : Ops A) (ring : IsRing ops) where
  dot_of-no : (z : ℕ) (s : List A) → dot_of ops (replicate z ops.zero) s ≡ ops.zero
  unfolding dot_of
  dot_of-no zero s = refl
  dot_of-no (suc z) [] = refl
  dot_of-no (suc z) (x ∷ s) = ap (λ y. ops.plus y (dot_of ops (replicate z ops.zero) s)) (zero_times ops ring x) ∙ zero_plus ops ring (dot_of ops (replicate z ops.zero) s) ∙ dot_of-no z s

  -- zeros behind the taps, and behind the other list, add nothing
  pub without_zeros : (t s w v : List A) (z size n : ℕ) → length t + z ≡ size → w ≡ take (2 * size) s ++ replicate (2 * size - length s) ops.zero → n ≤ size → n + length t ≤ length s + 1
      → IsCorrelation ops (t ++ replicate z ops.zero) w size v → IsCorrelation ops t s n (take n v)
  without_zeros t s w v z size n size_is w_is fewer fits h = record {
    size = length-take-le n v (omega (arith, h.size));
    each = λ k lt. get_or-take n v k ops.zero lt ∙ h.each k (omega arith) ∙ at k lt;
  }
    where
      front : (m : ℕ) → m ≤ 2 * size → m ≤ length s → (2 * size ≤ length s) ⊎ (length s ≤ 2 * size) → take m w ≡ take m s
      front m le within (inl less) =
          ap (take m) w_is
          ∙ take-append-le m (take (2 * size) s) (replicate (2 * size - length s) ops.zero) (omega (arith, length-take-le (2 * size) s less))
          ∙ take-take m (2 * size) s le
      front m le within (inr more) =
          ap (take m) w_is
          ∙ take-append-le m (take (2 * size) s) (replicate (2 * size - length s) ops.zero) (omega (arith, ap length (take_all (2 * size) s more)))
          ∙ take-take m (2 * size) s le

      either : (2 * size < length s) ⊎ (length s ≤ 2 * size) → (2 * size ≤ length s) ⊎ (length s ≤ 2 * size)
      either (inl less) = inl (omega arith)
      either (inr more) = inr more

      at : (k : ℕ) → k < n → dot_of ops (t ++ replicate z ops.zero) (drop k w) ≡ dot_of ops t (drop k s)
      at k lt =
          dot_of-append ops ring t (replicate z ops.zero) (drop k w)
          ∙ ap (ops.plus (dot_of ops t (drop k w))) (dot_of-no z (drop (length t) (drop k w)))
          ∙ ring.plus_zero (dot_of ops t (drop k w))
          ∙ sym (dot_of-prefix ops k (k + length t) t w (omega arith))
          ∙ ap (λ y. dot_of ops t (drop k y)) (front (k + length t) (omega arith) (omega arith) (either (cases_lt (2 * size) (length s))))
          ∙ dot_of-prefix ops k (k + length t) t s (omega arith)
