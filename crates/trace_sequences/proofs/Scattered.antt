-- Correlations item by item: each is added, times the list turned round, where it has a part.
use Rattle.std.proofs.Common.{◌≡◌, ◌⊎◌, inl, inr, ℕ, zero, suc, ◌+◌, ◌-◌, ◌<◌, ◌≤◌, List, [], ◌∷◌, ◌++◌, length, get_or, take, drop, reverse, replicate, refl, sym, ap, ◌∙◌, arith, length-append, length-drop}
use Rattle.std.proofs.lemmas.Bool.{cases_lt}
use Rattle.std.proofs.lemmas.List.{length-take-le, length-replicate, length-reverse, get_or-replicate, get_or-reverse, get_or-take, get_or-drop, get_or-append_right, get_or_append_left, get_or_past, take_more, drop_all, drop-append-le}
use borrow.Rule.Slice.PartMut.{mid_of, put_mid}
use Rattle.field_rules.specs.Ops.{Ops, IsRing}
use Rattle.field_rules.specs.Fields.{with_multiple, dot_of}
use Rattle.field_laws.proofs.RingFacts.{times_zero}
use Rattle.poly_rules.specs.Polynomials.{coefficient}
use Rattle.recurrence_laws.proofs.Applied.{dot_of-prefix}
use Rattle.splitting_laws.specs.Parts.{IsCorrelation}

module _ {A : Type 0} (ops : Ops A) (ring : IsRing ops) where
  -- a sum of products with one item more
  dot_of-push : (t ys : List A) (x : A) → dot_of ops t (ys ++ x ∷ []) ≡ ops.plus (dot_of ops t ys) (ops.times x (coefficient ops t (length ys)))
  unfolding dot_of
  dot_of-push [] [] x = sym (ap (ops.plus ops.zero) (times_zero ops ring x) ∙ ring.plus_zero ops.zero)
  dot_of-push [] (y ∷ ys) x = sym (ap (ops.plus ops.zero) (times_zero ops ring x) ∙ ring.plus_zero ops.zero)
  dot_of-push (a ∷ t) [] x = ring.plus_comm (ops.times a x) (dot_of ops t []) ∙ none t
    where
      none : (t : List A) → ops.plus (dot_of ops t []) (ops.times a x) ≡ ops.plus ops.zero (ops.times x a)
      none [] = ap (ops.plus ops.zero) (ring.times_comm a x)
      none (b ∷ t) = ap (ops.plus ops.zero) (ring.times_comm a x)
  dot_of-push (a ∷ t) (y ∷ ys) x =
      ap (ops.plus (ops.times a y)) (dot_of-push t ys x)
      ∙ sym (ring.plus_assoc (ops.times a y) (dot_of ops t ys) (ops.times x (coefficient ops t (length ys))))

  dot_of-next : (t s : List A) (j k : ℕ) (x : A) → k ≤ j → j < length s → x ≡ get_or s j x
      → dot_of ops t (drop k (take (j + 1) s)) ≡ ops.plus (dot_of ops t (drop k (take j s))) (ops.times x (coefficient ops t (j - k)))
  dot_of-next t s j k x le lt is =
      ap (λ z. dot_of ops t (drop k z)) (take_more s j x lt ∙ ap (λ z. take j s ++ z ∷ []) (sym is))
      ∙ ap (dot_of ops t) (drop-append-le k (take j s) (x ∷ []) (omega (arith, size)))
      ∙ dot_of-push t (drop k (take j s)) x
      ∙ ap (λ n. ops.plus (dot_of ops t (drop k (take j s))) (ops.times x (coefficient ops t n))) (omega (arith, size, length-drop k (take j s)))
    where
      size : length (take j s) ≡ j
      size = length-take-le j s (omega arith)

  -- a multiple of a list that may be longer, at an index
  multiple_at : (acc : List A) (k : A) (xs : List A) (i : ℕ) → i < length acc → i < length xs
      → coefficient ops (with_multiple ops acc k xs) i ≡ ops.plus (coefficient ops acc i) (ops.times k (coefficient ops xs i))
  unfolding with_multiple
  multiple_at [] k xs i lt within = absurd (omega arith)
  multiple_at (a ∷ acc) k [] i lt within = absurd (omega arith)
  multiple_at (a ∷ acc) k (x ∷ xs) zero lt within = refl
  multiple_at (a ∷ acc) k (x ∷ xs) (suc i) lt within = multiple_at acc k xs i (omega arith) (omega arith)

  length-multiple : (acc : List A) (k : A) (xs : List A) → length (with_multiple ops acc k xs) ≡ length acc
  unfolding with_multiple
  length-multiple [] k xs = refl
  length-multiple (a ∷ acc) k [] = refl
  length-multiple (a ∷ acc) k (x ∷ xs) = ap suc (length-multiple acc k xs)

  dot_of-none : (t : List A) → dot_of ops t [] ≡ ops.zero
  unfolding dot_of
  dot_of-none [] = refl
  dot_of-none (a ∷ t) = refl

  -- no item
  pub scattered_none : (t : List A) (n : ℕ) (v : List A) → v ≡ replicate n ops.zero → IsCorrelation ops t [] n v
  scattered_none t n v is = record {
    size = ap length is ∙ length-replicate n ops.zero;
    each = λ k lt. ap (λ z. get_or z k ops.zero) is ∙ get_or-replicate n k ops.zero ops.zero lt ∙ sym (dot_of-none t) ∙ ap (dot_of ops t) (sym (drop_all k [] (omega arith)));
  }

  -- one item more, which is at index j: the list turned round is added from the index `from` on, at `first` and behind it
  pub scattered_more : (t rev items v part w : List A) (n j first end m from : ℕ) (x : A) → rev ≡ reverse t → n + length t ≤ length items + 1 → 1 ≤ length t → j + 1 < n + length t → x ≡ get_or items j x
      → first ≡ j + 1 - length t → (end ≤ n) × (end ≤ j + 1) × ((n ≤ end) ⊎ (j + 1 ≤ end)) → first + m ≡ end → from + (j - first) + 1 ≡ length t
      → IsCorrelation ops t (take j items) n v → part ≡ with_multiple ops (mid_of first m v) x (drop from rev) → w ≡ put_mid first m v part
      → IsCorrelation ops t (take (j + 1) items) n w
  scattered_more t rev items v part w n j first end m from x rev_is fits some below x_is first_is ends middle from_is h part_is w_is = record {
    size = ap length w_is ∙ whole;
    each = λ k lt. ap (λ z. coefficient ops z k) w_is ∙ by k lt (cases_lt k first) (cases_lt k end);
  }
    where
      inside : j < length items
      inside = omega arith

      mid_size : length (mid_of first m v) ≡ m
      mid_size = length-take-le m (drop first v) (omega (arith, length-drop first v, h.size, ends.0))

      part_size : length part ≡ m
      part_size = ap length part_is ∙ length-multiple (mid_of first m v) x (drop from rev) ∙ mid_size

      rev_size : length rev ≡ length t
      rev_size = ap length rev_is ∙ length-reverse t

      whole : length (put_mid first m v part) ≡ n
      whole =
          omega (
            arith,
            length-append (take first v) (part ++ drop m (drop first v)),
            length-append part (drop m (drop first v)),
            length-take-le first v (omega (arith, h.size, ends.0)),
            length-drop m (drop first v),
            length-drop first v,
            part_size,
            h.size,
            ends.0,
          )

      by : (k : ℕ) → k < n → (k < first) ⊎ (first ≤ k) → (k < end) ⊎ (end ≤ k) → coefficient ops (put_mid first m v part) k ≡ dot_of ops t (drop k (take (j + 1) items))
      by k lt (inl before) c =
          get_or_append_left (take first v) (part ++ drop m (drop first v)) ops.zero k (omega (arith, length-take-le first v (omega (arith, h.size, ends.0))))
          ∙ get_or-take first v k ops.zero before
          ∙ h.each k lt
          ∙ sym (ring.plus_zero (dot_of ops t (drop k (take j items))))
          ∙ ap (ops.plus (dot_of ops t (drop k (take j items)))) (sym (ap (ops.times x) (get_or_past t (j - k) ops.zero (omega arith)) ∙ times_zero ops ring x))
          ∙ sym (dot_of-next t items j k x (omega arith) inside x_is)
      by k lt (inr from_first) (inl before_end) =
          get_or-append_right (take first v) (part ++ drop m (drop first v)) first k ops.zero (length-take-le first v (omega (arith, h.size, ends.0))) from_first
          ∙ get_or_append_left part (drop m (drop first v)) ops.zero (k - first) (omega (arith, part_size))
          ∙ ap (λ z. coefficient ops z (k - first)) part_is
          ∙ multiple_at (mid_of first m v) x (drop from rev) (k - first) (omega (arith, mid_size)) (omega (arith, length-drop from rev, rev_size))
          ∙ ap (λ z. ops.plus z (ops.times x (coefficient ops (drop from rev) (k - first))))
          (get_or-take m (drop first v) (k - first) ops.zero (omega arith) ∙ get_or-drop first v (k - first) ops.zero ∙ ap (coefficient ops v) (omega arith) ∙ h.each k lt)
          ∙ ap (λ z. ops.plus (dot_of ops t (drop k (take j items))) (ops.times x z)) tap
          ∙ sym (dot_of-next t items j k x (omega arith) inside x_is)
        where
          tap : coefficient ops (drop from rev) (k - first) ≡ coefficient ops t (j - k)
          tap =
              get_or-drop from rev (k - first) ops.zero
              ∙ ap (λ z. coefficient ops z (from + (k - first))) rev_is
              ∙ get_or-reverse t (from + (k - first)) ops.zero (omega arith)
              ∙ ap (coefficient ops t) (omega arith)
      by k lt (inr from_first) (inr behind) =
          get_or-append_right (take first v) (part ++ drop m (drop first v)) first k ops.zero (length-take-le first v (omega (arith, h.size, ends.0))) from_first
          ∙ get_or-append_right part (drop m (drop first v)) m (k - first) ops.zero part_size (omega arith)
          ∙ get_or-drop m (drop first v) (k - first - m) ops.zero
          ∙ get_or-drop first v (m + (k - first - m)) ops.zero
          ∙ ap (coefficient ops v) (omega arith)
          ∙ h.each k lt
          ∙ ap (dot_of ops t) (drop_all k (take j items) (omega (arith, length-take-le j items (omega arith))) ∙ sym (drop_all k (take (j + 1) items) (omega (arith, length-take-le (j + 1) items (omega arith), past ends.2))))
        where
          past : (n ≤ end) ⊎ (j + 1 ≤ end) → j + 1 ≤ k
          past (inl all) = absurd (omega arith)
          past (inr e) = omega arith

  -- the items behind those that are used don't matter
  pub scattered_all : (t items v : List A) (n used : ℕ) → n + length t ≤ used + 1 → IsCorrelation ops t (take used items) n v → IsCorrelation ops t items n v
  scattered_all t items v n used enough h = record {
    size = h.size;
    each = λ k lt. h.each k lt ∙ dot_of-prefix ops k used t items (omega arith);
  }
