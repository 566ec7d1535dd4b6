-- Sums of odd powers, added to a list.
use Rattle.std.proofs.Common.{◌≡◌, ◌≢◌, ℕ, zero, suc, ◌+◌, ◌*◌, ◌<◌, ◌≤◌, List, [], ◌∷◌, ◌++◌, length, get_or, set, take, drop, refl, sym, ◌∙◌, ap, ap₂, arith, get_or-set_same, get_or-set_other, length-set, below_more}
use Rattle.std.proofs.lemmas.List.{ext_get_or, take_all}
use Rattle.std.proofs.Math.Seq.{take-add}
use Rattle.field_rules.specs.Ops.{Ops, IsRing, power}
use Rattle.field_rules.specs.Lists.{sums_of_both}
use Rattle.field_laws.proofs.RingFacts.{zero_plus}
use Rattle.sketch_rules.specs.PowerSums.{power_sum, odd_power_sums}
use Rattle.sketch_laws.proofs.EverySums.{length-odd_power_sums, get_or-odd_power_sums}

module _ {A : Type 0} (ops : Ops A) where
  -- the items of new below index i have the sums added to those of old, and the others are those of old
  pub record AreAddedBelow (es : List A) (i : ℕ) (old new : List A) : Type 0 where
    pub size : length new ≡ length old
    pub done : (j : ℕ) → j < i → j < length old → get_or new j ops.zero ≡ ops.plus (get_or old j ops.zero) (power_sum ops (2 * j + 1) es)
    pub rest : (j : ℕ) → i ≤ j → get_or new j ops.zero ≡ get_or old j ops.zero

  pub none_added : (es acc : List A) → AreAddedBelow es 0 acc acc
  none_added es acc = record { size = refl; done = λ j lt inside. absurd (omega arith); rest = λ j le. refl }

  -- one item more
  pub one_added : (es : List A) (i : ℕ) (old new : List A) (v : A) → i < length new → v ≡ ops.plus (get_or new i ops.zero) (power_sum ops (2 * i + 1) es) → AreAddedBelow es i old new
      → AreAddedBelow es (i + 1) old (set new i v)
  one_added es i old new v lt is added = record {
    size = length-set new i v ∙ added.size;
    done = below_more (λ j. j < length old → get_or (set new i v) j ops.zero ≡ ops.plus (get_or old j ops.zero) (power_sum ops (2 * j + 1) es)) i
        (λ j below inside. let other : j ≢ i = omega arith in get_or-set_other new i j v ops.zero other ∙ added.done j below inside)
        (λ inside. get_or-set_same new i v ops.zero lt ∙ is ∙ ap (λ z. ops.plus z (power_sum ops (2 * i + 1) es)) (added.rest i (omega arith)));
    rest = λ j le. let other : j ≢ i = omega arith in get_or-set_other new i j v ops.zero other ∙ added.rest j (omega arith);
  }

  length-sums_of_both : (xs ys : List A) → length xs ≡ length ys → length (sums_of_both ops xs ys) ≡ length xs
  unfolding sums_of_both
  length-sums_of_both [] ys same = refl
  length-sums_of_both (x ∷ xs) [] same = sym same
  length-sums_of_both (x ∷ xs) (y ∷ ys) same = ap suc (length-sums_of_both xs ys (omega arith))

  get_or-sums_of_both : (xs ys : List A) → length xs ≡ length ys → (j : ℕ) (d : A) → j < length xs → get_or (sums_of_both ops xs ys) j d ≡ ops.plus (get_or xs j d) (get_or ys j d)
  unfolding sums_of_both
  get_or-sums_of_both [] ys same j d lt = absurd (omega arith)
  get_or-sums_of_both (x ∷ xs) [] same j d lt = absurd (omega arith)
  get_or-sums_of_both (x ∷ xs) (y ∷ ys) same zero d lt = refl
  get_or-sums_of_both (x ∷ xs) (y ∷ ys) same (suc j) d lt = get_or-sums_of_both xs ys (omega arith) j d (omega arith)

  -- all items are done
  pub all_added : (es : List A) (i : ℕ) (old new : List A) → length old ≤ i → AreAddedBelow es i old new → new ≡ sums_of_both ops old (odd_power_sums ops es 0 (length old))
  all_added es i old new past added =
      ext_get_or ops.zero new (sums_of_both ops old (odd_power_sums ops es 0 (length old))) (added.size ∙ sym (length-sums_of_both old (odd_power_sums ops es 0 (length old)) (sym (length-odd_power_sums ops es 0 (length old)))))
      (λ j lt.
      let inside : j < length old = omega (arith, added.size) in
      let index : 2 * (0 + j) + 1 ≡ 2 * j + 1 = omega arith in
      added.done j (omega arith) inside
      ∙ ap (λ z. ops.plus (get_or old j ops.zero) (power_sum ops z es)) (sym index)
      ∙ ap (ops.plus (get_or old j ops.zero)) (sym (get_or-odd_power_sums ops es 0 (length old) j ops.zero inside))
      ∙ sym (get_or-sums_of_both old (odd_power_sums ops es 0 (length old)) (sym (length-odd_power_sums ops es 0 (length old))) j ops.zero inside))

  -- ---- one part of the elements after the other

  pub power_sum-append : IsRing ops → (k : ℕ) (xs ys : List A) → power_sum ops k (xs ++ ys) ≡ ops.plus (power_sum ops k xs) (power_sum ops k ys)
  unfolding power_sum
  power_sum-append ring k [] ys = sym (zero_plus ops ring (power_sum ops k ys))
  power_sum-append ring k (x ∷ xs) ys = ap (ops.plus (power ops x k)) (power_sum-append ring k xs ys) ∙ sym (ring.plus_assoc (power ops x k) (power_sum ops k xs) (power_sum ops k ys))

  both-append : IsRing ops → (acc xs ys : List A) (i n : ℕ) → sums_of_both ops (sums_of_both ops acc (odd_power_sums ops xs i n)) (odd_power_sums ops ys i n) ≡ sums_of_both ops acc (odd_power_sums ops (xs ++ ys) i n)
  unfolding sums_of_both odd_power_sums
  both-append ring [] xs ys i n = refl
  both-append ring (a ∷ acc) xs ys i zero = refl
  both-append ring (a ∷ acc) xs ys i (suc n) =
      ap₂ (λ z zs. z ∷ zs)
      (ring.plus_assoc a (power_sum ops (2 * i + 1) xs) (power_sum ops (2 * i + 1) ys) ∙ ap (ops.plus a) (sym (power_sum-append ring (2 * i + 1) xs ys)))
      (both-append ring acc xs ys (i + 1) n)

  pub length-added : (acc es : List A) → length (sums_of_both ops acc (odd_power_sums ops es 0 (length acc))) ≡ length acc
  length-added acc es = length-sums_of_both acc (odd_power_sums ops es 0 (length acc)) (sym (length-odd_power_sums ops es 0 (length acc)))

  -- the elements from index m on, w of them, after those before
  pub part_added : IsRing ops → (acc mid es part new : List A) (m w k : ℕ) → mid ≡ sums_of_both ops acc (odd_power_sums ops (take m es) 0 (length acc)) → part ≡ take w (drop m es) → k ≡ m + w
      → new ≡ sums_of_both ops mid (odd_power_sums ops part 0 (length mid)) → new ≡ sums_of_both ops acc (odd_power_sums ops (take k es) 0 (length acc))
  part_added ring acc mid es part new m w k before is index after =
      after
      ∙ ap (λ z. sums_of_both ops mid (odd_power_sums ops part 0 z)) (ap length before ∙ length-added acc (take m es))
      ∙ ap (λ z. sums_of_both ops z (odd_power_sums ops part 0 (length acc))) before
      ∙ both-append ring acc (take m es) part 0 (length acc)
      ∙ ap (λ z. sums_of_both ops acc (odd_power_sums ops z 0 (length acc))) (ap (λ z. take m es ++ z) is ∙ sym (take-add m w es) ∙ ap (λ z. take z es) (sym index))

  -- the rest of the elements, after the first m
  pub rest_added : IsRing ops → (acc mid es part new : List A) (n m w : ℕ) → mid ≡ sums_of_both ops acc (odd_power_sums ops (take n es) 0 (length acc)) → n ≡ m → part ≡ take w (drop m es) → length es ≤ m + w
      → new ≡ sums_of_both ops mid (odd_power_sums ops part 0 (length mid)) → new ≡ sums_of_both ops acc (odd_power_sums ops es 0 (length acc))
  rest_added ring acc mid es part new n m w before same is whole after =
      part_added ring acc mid es part new m w (m + w) (before ∙ ap (λ k. sums_of_both ops acc (odd_power_sums ops (take k es) 0 (length acc))) same) is refl after
      ∙ ap (λ l. sums_of_both ops acc (odd_power_sums ops l 0 (length acc))) (take_all (m + w) es whole)
