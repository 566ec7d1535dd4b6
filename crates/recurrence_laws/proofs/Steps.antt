-- One item more in the search for the shortest recurrence.
use Rattle.std.proofs.Common.{◌≡◌, ◌⊎◌, inl, inr, ℕ, ◌+◌, ◌-◌, ◌<◌, ◌≤◌, List, [], ◌∷◌, ◌++◌, length, drop, replicate, refl, sym, ap, subst, ◌∙◌, arith}
use Rattle.std.proofs.lemmas.List.{drop-drop, get_or_past, get_or-append-add, length-append, length-map, length-replicate}
use Rattle.field_rules.specs.Ops.{Ops, IsRing}
use Rattle.field_rules.specs.Fields.{dot_of}
use Rattle.poly_rules.specs.Polynomials.{coefficient, degree, IsMonic, sum_of, scalar_multiple}
use Rattle.field_laws.proofs.RingFacts.{times_zero}
use Rattle.poly_laws.proofs.Sums.{coefficient-sum}
use Rattle.poly_laws.proofs.Division.{length-sum}
use Rattle.recurrence_laws.specs.Solving.{IsSolving}
use Rattle.recurrence_laws.proofs.Applied.{dot_of-sum, dot_of-scalar_multiple, dot_of-shifts}

module _ {A : Type 0} (ops : Ops A) where
  -- the current one and k times the saved one, put further up so that both end at one index
  abbrev pub mended : List A → List A → ℕ → A → List A
  mended current saved n k = sum_of ops current (replicate (degree current - (n - degree current) - 1) ops.zero ++ scalar_multiple ops k saved)

  -- the same where it is the current one that is put further up
  abbrev pub grown : List A → List A → ℕ → A → List A
  grown current saved n k = sum_of ops (replicate (n - degree current - degree current + 1) ops.zero ++ current) (scalar_multiple ops k saved)

module _ {A : Type 0} (ops : Ops A) (ring : IsRing ops) where
  -- ---- what the sums give

  -- a polynomial, and k times another that is multiplied by x ^ m
  pub dot_of-added : (k : A) (m j : ℕ) (f g s : List A) → dot_of ops (sum_of ops f (replicate m ops.zero ++ scalar_multiple ops k g)) (drop j s) ≡ ops.plus (dot_of ops f (drop j s)) (ops.times k (dot_of ops g (drop (j + m) s)))
  dot_of-added k m j f g s =
      dot_of-sum ops ring f (replicate m ops.zero ++ scalar_multiple ops k g) (drop j s)
      ∙ ap (ops.plus (dot_of ops f (drop j s)))
      (dot_of-shifts ops ring m (scalar_multiple ops k g) (drop j s)
      ∙ dot_of-scalar_multiple ops ring k g (drop m (drop j s))
      ∙ ap (λ z. ops.times k (dot_of ops g z)) (drop-drop m j s))

  -- a polynomial that is multiplied by x ^ m, and k times another
  pub dot_of-raised : (k : A) (m j : ℕ) (f g s : List A) → dot_of ops (sum_of ops (replicate m ops.zero ++ f) (scalar_multiple ops k g)) (drop j s) ≡ ops.plus (dot_of ops f (drop (j + m) s)) (ops.times k (dot_of ops g (drop j s)))
  dot_of-raised k m j f g s =
      dot_of-sum ops ring (replicate m ops.zero ++ f) (scalar_multiple ops k g) (drop j s)
      ∙ ap (λ z. ops.plus z (dot_of ops (scalar_multiple ops k g) (drop j s))) (dot_of-shifts ops ring m f (drop j s) ∙ ap (dot_of ops f) (drop-drop m j s))
      ∙ ap (ops.plus (dot_of ops f (drop (j + m) s))) (dot_of-scalar_multiple ops ring k g (drop j s))

  both_zero : (k a b : A) → a ≡ ops.zero → b ≡ ops.zero → ops.plus a (ops.times k b) ≡ ops.zero
  both_zero k a b zero_a zero_b =
      ap (λ z. ops.plus z (ops.times k b)) zero_a
      ∙ ap (λ z. ops.plus ops.zero (ops.times k z)) zero_b
      ∙ ap (ops.plus ops.zero) (times_zero ops ring k)
      ∙ ring.plus_zero ops.zero

  -- d and d / b times b
  cancelled : (d b inverse : A) → ops.times b inverse ≡ ops.one → ops.plus d (ops.times (ops.times d inverse) b) ≡ ops.zero
  cancelled d b inverse is =
      ap (ops.plus d) (ring.times_assoc d inverse b ∙ ap (ops.times d) (ring.times_comm inverse b ∙ is) ∙ ring.times_one d) ∙ ring.plus_self d

  -- ---- the highest coefficient

  -- a sum with a shorter polynomial stays monic
  monic_sum : (n : ℕ) (f g : List A) → IsMonic ops n f → length g ≤ n → IsMonic ops n (sum_of ops f g)
  monic_sum n f g monic short = record {
    size = length-sum ops f g (omega (arith, monic.size)) ∙ monic.size;
    top =
        coefficient-sum ops ring f g n
        ∙ ap (ops.plus (coefficient ops f n)) (get_or_past g n ops.zero short)
        ∙ ring.plus_zero (coefficient ops f n)
        ∙ monic.top;
  }

  -- and so does one that is put further up
  monic_raised : (m n : ℕ) (f : List A) → IsMonic ops n f → IsMonic ops (m + n) (replicate m ops.zero ++ f)
  monic_raised m n f monic = record {
    size = omega (arith, length-append (replicate m ops.zero) f, length-replicate m ops.zero, monic.size);
    top =
        ap (λ z. coefficient ops (replicate m ops.zero ++ f) (z + n)) (sym (length-replicate m ops.zero))
        ∙ get_or-append-add (replicate m ops.zero) f n ops.zero
        ∙ monic.top;
  }

  -- ---- the search

  module _ (s current saved : List A) (n : ℕ) (k inverse : A) (so_far : IsSolving ops s n current saved inverse) where
    monic-mended : n - degree current < degree current → IsMonic ops (degree current) (mended ops current saved n k)
    monic-mended long = monic_sum (degree current) current (replicate (degree current - (n - degree current) - 1) ops.zero ++ scalar_multiple ops k saved) so_far.monic short
      where
        short : length (replicate (degree current - (n - degree current) - 1) ops.zero ++ scalar_multiple ops k saved) ≤ degree current
        short = omega (arith, length-append (replicate (degree current - (n - degree current) - 1) ops.zero) (scalar_multiple ops k saved), length-replicate (degree current - (n - degree current) - 1) ops.zero, length-map saved (ops.times k), so_far.room, so_far.some)

    pub degree-mended : n - degree current < degree current → degree (mended ops current saved n k) ≡ degree current
    degree-mended long = omega (arith, (monic-mended long).size)

    monic-grown : degree current ≤ n - degree current → IsMonic ops (n - degree current - degree current + 1 + degree current) (grown ops current saved n k)
    monic-grown short =
        monic_sum (n - degree current - degree current + 1 + degree current) (replicate (n - degree current - degree current + 1) ops.zero ++ current) (scalar_multiple ops k saved)
        (monic_raised (n - degree current - degree current + 1) (degree current) current so_far.monic)
        (omega (arith, length-map saved (ops.times k), so_far.room, so_far.some))

    pub degree-grown : degree current ≤ n - degree current → degree (grown ops current saved n k) + degree current ≡ n + 1
    degree-grown short = omega (arith, (monic-grown short).size, so_far.room)

  -- before the first item
  pub solving_none : (s : List A) → IsSolving ops s 0 (ops.one ∷ []) (ops.one ∷ []) ops.one
  solving_none s = record {
    monic = record { size = refl; top = refl };
    holds = λ k lt. absurd (omega arith);
    some = omega arith;
    room = omega arith;
    saved_holds = λ k lt. absurd (omega arith);
    saved_fails = λ k e. absurd (omega arith);
  }

  meets : (i j : ℕ) → i < j + 1 → (i < j) ⊎ (i ≡ j)
  meets i j lt = grind arith

  -- an item that is as the recurrence foretells
  pub solving_kept : (s current saved : List A) (n : ℕ) (inverse : A) → IsSolving ops s n current saved inverse → dot_of ops current (drop (n - degree current) s) ≡ ops.zero
      → IsSolving ops s (n + 1) current saved inverse
  solving_kept s current saved n inverse so_far foretold = record {
    monic = so_far.monic;
    holds = λ k lt. at k (meets (k + degree current) n lt);
    some = so_far.some;
    room = omega (arith, so_far.room);
    saved_holds = so_far.saved_holds;
    saved_fails = so_far.saved_fails;
  }
    where
      at : (k : ℕ) → (k + degree current < n) ⊎ (k + degree current ≡ n) → dot_of ops current (drop k s) ≡ ops.zero
      at k (inl lt) = so_far.holds k lt
      at k (inr e) = let index : k ≡ n - degree current = omega arith in ap (λ z. dot_of ops current (drop z s)) index ∙ foretold

  -- an item that isn't, where the recurrence is long enough: a multiple of the saved one mends it
  pub solving_mended : (s current saved : List A) (n : ℕ) (d inverse : A) → IsSolving ops s n current saved inverse → d ≡ dot_of ops current (drop (n - degree current) s) → n - degree current < degree current
      → IsSolving ops s (n + 1) (mended ops current saved n (ops.times d inverse)) saved inverse
  solving_mended s current saved n d inverse so_far is long = record {
    monic = subst (λ z. IsMonic ops z (mended ops current saved n (ops.times d inverse))) (sym same_degree) (monic-mended s current saved n (ops.times d inverse) inverse so_far long);
    holds = λ k lt. at k (meets (k + degree current) n (omega (arith, same_degree)));
    some = so_far.some;
    room = omega (arith, so_far.room, same_degree);
    saved_holds = λ k lt. so_far.saved_holds k (omega (arith, same_degree));
    saved_fails = λ k e. so_far.saved_fails k (omega (arith, same_degree));
  }
    where
      shift : ℕ
      shift = degree current - (n - degree current) - 1

      same_degree : degree (mended ops current saved n (ops.times d inverse)) ≡ degree current
      same_degree = degree-mended s current saved n (ops.times d inverse) inverse so_far long

      at : (k : ℕ) → (k + degree current < n) ⊎ (k + degree current ≡ n) → dot_of ops (mended ops current saved n (ops.times d inverse)) (drop k s) ≡ ops.zero
      at k (inl lt) =
          dot_of-added (ops.times d inverse) shift k current saved s
          ∙ both_zero (ops.times d inverse) (dot_of ops current (drop k s)) (dot_of ops saved (drop (k + shift) s)) (so_far.holds k lt) (so_far.saved_holds (k + shift) (omega arith))
      at k (inr e) =
          let index : k ≡ n - degree current = omega arith in
          dot_of-added (ops.times d inverse) shift k current saved s
          ∙ ap (λ z. ops.plus z (ops.times (ops.times d inverse) (dot_of ops saved (drop (k + shift) s)))) (ap (λ z. dot_of ops current (drop z s)) index ∙ sym is)
          ∙ cancelled d (dot_of ops saved (drop (k + shift) s)) inverse (so_far.saved_fails (k + shift) (omega arith))

  -- and where it isn't: it is put further up, and what it was is saved
  pub solving_grown : (s current saved : List A) (n : ℕ) (d inverse next : A) → IsSolving ops s n current saved inverse → d ≡ dot_of ops current (drop (n - degree current) s) → degree current ≤ n - degree current
      → ops.times d next ≡ ops.one
      → IsSolving ops s (n + 1) (grown ops current saved n (ops.times d inverse)) current next
  solving_grown s current saved n d inverse next so_far is short is_next = record {
    monic = subst (λ z. IsMonic ops z (grown ops current saved n (ops.times d inverse))) (sym new_degree) monic;
    holds = λ k lt. at k (meets (k + 1) (degree current) (omega (arith, new_degree)));
    some = omega (arith, so_far.monic.size);
    room = omega (arith, so_far.room, new_degree);
    saved_holds = λ k lt. so_far.holds k (omega (arith, new_degree));
    saved_fails = λ k e. let index : k ≡ n - degree current = omega (arith, new_degree) in ap (λ z. ops.times (dot_of ops current (drop z s)) next) index ∙ ap (λ z. ops.times z next) (sym is) ∙ is_next;
  }
    where
      shift : ℕ
      shift = n - degree current - degree current + 1

      monic : IsMonic ops (shift + degree current) (grown ops current saved n (ops.times d inverse))
      monic = monic-grown s current saved n (ops.times d inverse) inverse so_far short

      new_degree : degree (grown ops current saved n (ops.times d inverse)) ≡ shift + degree current
      new_degree = omega (arith, monic.size)

      at : (k : ℕ) → (k + 1 < degree current) ⊎ (k + 1 ≡ degree current) → dot_of ops (grown ops current saved n (ops.times d inverse)) (drop k s) ≡ ops.zero
      at k (inl lt) =
          dot_of-raised (ops.times d inverse) shift k current saved s
          ∙ both_zero (ops.times d inverse) (dot_of ops current (drop (k + shift) s)) (dot_of ops saved (drop k s)) (so_far.holds (k + shift) (omega arith)) (so_far.saved_holds k lt)
      at k (inr e) =
          let index : k + shift ≡ n - degree current = omega arith in
          dot_of-raised (ops.times d inverse) shift k current saved s
          ∙ ap (λ z. ops.plus z (ops.times (ops.times d inverse) (dot_of ops saved (drop k s)))) (ap (λ z. dot_of ops current (drop z s)) index ∙ sym is)
          ∙ cancelled d (dot_of ops saved (drop k s)) inverse (so_far.saved_fails k e)
