-- The halves of a list, and two lists in turn, item by item.
use Rattle.std.proofs.Common.{◌≡◌, ◌⊎◌, inl, inr, ℕ, zero, suc, ◌+◌, ◌-◌, ◌*◌, ◌/◌, ◌<◌, ◌≤◌, List, [], ◌∷◌, ◌++◌, length, get_or, take, drop, refl, sym, ap, subst, ◌∙◌, arith}
use Rattle.std.proofs.lemmas.List.{take_more, take_all, length_push, length-take-le, get_or_push, get_or_append_left}
use Rattle.field_rules.specs.Ops.{Ops}
use Rattle.field_rules.specs.Fields.{dot_of}
use Rattle.poly_rules.specs.Polynomials.{coefficient}
use Rattle.splitting_laws.specs.Parts.{IsCorrelation}
use Rattle.sequence_laws.specs.Halves.{evens, odds}
use Rattle.sequence_laws.specs.Sequences.{squares_of, IsSquareSequence}
use Rattle.sequence_laws.proofs.Halves.{length-halves, halves_even}
use Rattle.trace_sequences.specs.Woven.{AreWoven}

module _ {A : Type 0} where
  get_or-evens : (f : List A) (i : ℕ) (d : A) → get_or (evens f) i d ≡ get_or f (2 * i) d
  unfolding evens
  get_or-evens [] i d = refl
  get_or-evens (a ∷ []) zero d = refl
  get_or-evens (a ∷ []) (suc i) d = let up : suc (suc (2 * i)) ≡ 2 * suc i = omega arith in ap (λ k. get_or (a ∷ []) k d) up
  get_or-evens (a ∷ b ∷ f) zero d = refl
  get_or-evens (a ∷ b ∷ f) (suc i) d = let up : suc (suc (2 * i)) ≡ 2 * suc i = omega arith in get_or-evens f i d ∙ ap (λ k. get_or (a ∷ b ∷ f) k d) up

  get_or-odds : (f : List A) (i : ℕ) (d : A) → get_or (odds f) i d ≡ get_or f (2 * i + 1) d
  unfolding odds
  get_or-odds [] i d = refl
  get_or-odds (a ∷ []) i d = let up : suc (2 * i) ≡ 2 * i + 1 = omega arith in ap (λ k. get_or (a ∷ []) k d) up
  get_or-odds (a ∷ b ∷ f) zero d = refl
  get_or-odds (a ∷ b ∷ f) (suc i) d = let up : suc (suc (2 * i + 1)) ≡ 2 * suc i + 1 = omega arith in get_or-odds f i d ∙ ap (λ k. get_or (a ∷ b ∷ f) k d) up

  -- one item more
  pub next_even : (f t u : List A) (i : ℕ) (x : A) → 2 * i < length f → x ≡ get_or f (2 * i) x → t ≡ take i (evens f) → u ≡ t ++ x ∷ [] → u ≡ take (i + 1) (evens f)
  next_even f t u i x lt is so_far pushed =
      pushed
      ∙ ap (λ z. z ++ x ∷ []) so_far
      ∙ ap (λ z. take i (evens f) ++ z ∷ []) (is ∙ sym (get_or-evens f i x))
      ∙ sym (take_more (evens f) i x (omega (arith, length-halves f, (halves_even f).0, (halves_even f).1)))

  pub next_odd : (f t u : List A) (i : ℕ) (x : A) → 2 * i + 1 < length f → x ≡ get_or f (2 * i + 1) x → t ≡ take i (odds f) → u ≡ t ++ x ∷ [] → u ≡ take (i + 1) (odds f)
  next_odd f t u i x lt is so_far pushed =
      pushed
      ∙ ap (λ z. z ++ x ∷ []) so_far
      ∙ ap (λ z. take i (odds f) ++ z ∷ []) (is ∙ sym (get_or-odds f i x))
      ∙ sym (take_more (odds f) i x (omega (arith, length-halves f, (halves_even f).0, (halves_even f).1)))

  -- all of them
  pub all_even : (f t : List A) (i : ℕ) → length f ≤ 2 * i → t ≡ take i (evens f) → t ≡ evens f
  all_even f t i le is = is ∙ take_all i (evens f) (omega (arith, length-halves f, (halves_even f).0, (halves_even f).1))

  pub all_odd : (f t : List A) (i : ℕ) → length f ≤ 2 * i + 1 → t ≡ take i (odds f) → t ≡ odds f
  all_odd f t i le is = is ∙ take_all i (odds f) (omega (arith, length-halves f, (halves_even f).0, (halves_even f).1))

module _ {A : Type 0} (ops : Ops A) where
  -- no item yet
  pub woven_none : (first second t : List A) → t ≡ [] → AreWoven ops (take 0 first) (take 0 second) t
  woven_none first second t is = record { size = ap length is; at_even = λ m lt. absurd (omega arith); at_odd = λ m lt. absurd (omega arith) }

  -- an item of the first list
  woven_first : (first second t u : List A) (x : A) → length first ≡ length second → AreWoven ops first second t → u ≡ t ++ x ∷ [] → AreWoven ops (first ++ x ∷ []) second u
  woven_first first second t u x even woven pushed = record {
    size = ap length pushed ∙ omega (arith, length_push t x, length_push first x, woven.size);
    at_even = λ m lt. by_index m (cases m (length first) (omega (arith, length_push first x)));
    at_odd = λ m lt. ap (λ z. coefficient ops z (m + m + 1)) pushed ∙ get_or_append_left t (x ∷ []) ops.zero (m + m + 1) (omega (arith, woven.size)) ∙ woven.at_odd m lt;
  }
    where
      cases : (i j : ℕ) → i < j + 1 → (i < j) ⊎ (i ≡ j)
      cases i j lt = grind arith

      by_index : (m : ℕ) → (m < length first) ⊎ (m ≡ length first) → coefficient ops u (m + m) ≡ coefficient ops (first ++ x ∷ []) m
      by_index m (inl lt) =
          ap (λ z. coefficient ops z (m + m)) pushed
          ∙ get_or_append_left t (x ∷ []) ops.zero (m + m) (omega (arith, woven.size))
          ∙ woven.at_even m lt
          ∙ sym (get_or_append_left first (x ∷ []) ops.zero m lt)
      by_index m (inr here) =
          ap (λ z. coefficient ops z (m + m)) pushed
          ∙ get_or_push t x ops.zero (m + m) (omega (arith, woven.size))
          ∙ sym (get_or_push first x ops.zero m (sym here))

  -- and one of the second
  woven_second : (first second t u : List A) (x : A) → length first ≡ length second + 1 → AreWoven ops first second t → u ≡ t ++ x ∷ [] → AreWoven ops first (second ++ x ∷ []) u
  woven_second first second t u x even woven pushed = record {
    size = ap length pushed ∙ omega (arith, length_push t x, length_push second x, woven.size);
    at_even = λ m lt. ap (λ z. coefficient ops z (m + m)) pushed ∙ get_or_append_left t (x ∷ []) ops.zero (m + m) (omega (arith, woven.size)) ∙ woven.at_even m lt;
    at_odd = λ m lt. by_index m (cases m (length second) (omega (arith, length_push second x)));
  }
    where
      cases : (i j : ℕ) → i < j + 1 → (i < j) ⊎ (i ≡ j)
      cases i j lt = grind arith

      by_index : (m : ℕ) → (m < length second) ⊎ (m ≡ length second) → coefficient ops u (m + m + 1) ≡ coefficient ops (second ++ x ∷ []) m
      by_index m (inl lt) =
          ap (λ z. coefficient ops z (m + m + 1)) pushed
          ∙ get_or_append_left t (x ∷ []) ops.zero (m + m + 1) (omega (arith, woven.size))
          ∙ woven.at_odd m lt
          ∙ sym (get_or_append_left second (x ∷ []) ops.zero m lt)
      by_index m (inr here) =
          ap (λ z. coefficient ops z (m + m + 1)) pushed
          ∙ get_or_push t x ops.zero (m + m + 1) (omega (arith, woven.size))
          ∙ sym (get_or_push second x ops.zero m (sym here))

  pub woven_both : (first second t u v : List A) (i : ℕ) (x y : A) → i < length first → i < length second → x ≡ get_or first i x → y ≡ get_or second i y
      → AreWoven ops (take i first) (take i second) t → u ≡ t ++ x ∷ [] → v ≡ u ++ y ∷ [] → AreWoven ops (take (i + 1) first) (take (i + 1) second) v
  woven_both first second t u v i x y lt_x lt_y is_x is_y woven pushed_x pushed_y =
      subst (λ z. AreWoven ops z (take (i + 1) second) v) (sym more_x)
      (subst (λ z. AreWoven ops (take i first ++ x ∷ []) z v) (sym more_y)
      (woven_second (take i first ++ x ∷ []) (take i second) u v y
      (omega (arith, length_push (take i first) x, length-take-le i first (omega arith), length-take-le i second (omega arith)))
      (woven_first (take i first) (take i second) t u x (omega (arith, length-take-le i first (omega arith), length-take-le i second (omega arith))) woven pushed_x)
      pushed_y))
    where
      more_x : take (i + 1) first ≡ take i first ++ x ∷ []
      more_x = take_more first i x lt_x ∙ ap (λ z. take i first ++ z ∷ []) (sym is_x)

      more_y : take (i + 1) second ≡ take i second ++ y ∷ []
      more_y = take_more second i y lt_y ∙ ap (λ z. take i second ++ z ∷ []) (sym is_y)

  -- at the end of both, and with one item of the first left
  pub woven_all : (first second t : List A) (i : ℕ) → length first ≤ i → length second ≤ i → AreWoven ops (take i first) (take i second) t → AreWoven ops first second t
  woven_all first second t i le_x le_y woven =
      subst (λ z. AreWoven ops z second t) (take_all i first le_x) (subst (λ z. AreWoven ops (take i first) z t) (take_all i second le_y) woven)

  pub woven_last : (first second t u : List A) (i : ℕ) (x : A) → i < length first → length first ≤ i + 1 → length second ≡ i → x ≡ get_or first i x
      → AreWoven ops (take i first) (take i second) t → u ≡ t ++ x ∷ [] → AreWoven ops first second u
  woven_last first second t u i x lt le same is woven pushed =
      subst (λ z. AreWoven ops z second u) whole
      (subst (λ z. AreWoven ops (take i first ++ x ∷ []) z u) (take_all i second (omega arith))
      (woven_first (take i first) (take i second) t u x (omega (arith, length-take-le i first (omega arith), length-take-le i second (omega arith))) woven pushed))
    where
      whole : take i first ++ x ∷ [] ≡ first
      whole = ap (λ z. take i first ++ z ∷ []) is ∙ sym (take_more first i x lt) ∙ take_all (i + 1) first le

  -- the correlations of the halves in turn
  pub square_of_woven : (f s squares first second t : List A) → squares ≡ squares_of ops s → IsCorrelation ops (odds f) squares (length s - length s / 2) first → IsCorrelation ops (evens f) squares (length s / 2) second
      → AreWoven ops first second t → IsSquareSequence ops f s t
  square_of_woven f s squares first second t is odd even woven = record {
    size = omega (arith, woven.size, odd.size, even.size);
    at_even = λ m lt. (let within : m < length s - length s / 2 = omega arith in woven.at_even m (omega (arith, odd.size)) ∙ odd.each m within ∙ ap (λ z. dot_of ops (odds f) (drop m z)) is);
    at_odd = λ m lt. (let within : m < length s / 2 = omega arith in woven.at_odd m (omega (arith, even.size)) ∙ even.each m within ∙ ap (λ z. dot_of ops (evens f) (drop m z)) is);
  }
