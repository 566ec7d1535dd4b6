-- Sequences: the sums of w e * e ^ k over a set, for k from a place on.
use Rattle.std.proofs.Common.{◌≡◌, ℕ, zero, suc, ◌+◌, ◌-◌, ◌<◌, ◌≤◌, List, [], ◌∷◌, ◌++◌, length, get_or, take, drop, refl, sym, ap, ◌∙◌, arith}
use Rattle.std.proofs.Math.Nat.{suc-add}
use Rattle.std.proofs.lemmas.List.{ext_get_or}
use Rattle.field_rules.specs.Ops.{Ops, IsRing}
use Rattle.field_rules.specs.Fields.{dot_of}
use Rattle.poly_rules.specs.Polynomials.{coefficient, value_at}
use Rattle.field_laws.proofs.RingFacts.{times_zero}
use Rattle.sequence_laws.specs.Sequences.{weighted, sequence_of}
use Rattle.sequence_laws.proofs.Weighing.{weighted-zero}
use Rattle.splitting_laws.specs.Parts.{IsCorrelation}
use Rattle.sequence_laws.proofs.Weighing.{weighted-same, weighted-next, weighted-joined}

module _ {A : Type 0} (ops : Ops A) (ring : IsRing ops) where
  pub length-sequence_of : (w : A → A) (es : List A) (k n : ℕ) → length (sequence_of ops w es k n) ≡ n
  unfolding sequence_of
  length-sequence_of w es k zero = refl
  length-sequence_of w es k (suc n) = ap suc (length-sequence_of w es (k + 1) n)

  pub get_or-sequence_of : (w : A → A) (es : List A) (k n j : ℕ) (d : A) → j < n → get_or (sequence_of ops w es k n) j d ≡ weighted ops w (k + j) es
  unfolding sequence_of
  get_or-sequence_of w es k zero j d lt = absurd (omega arith)
  get_or-sequence_of w es k (suc n) zero d lt = let here : k ≡ k + 0 = omega arith in ap (λ i. weighted ops w i es) here
  get_or-sequence_of w es k (suc n) (suc j) d lt =
      let there : k + 1 + j ≡ k + suc j = omega arith in
      get_or-sequence_of w es (k + 1) n j d (omega arith) ∙ ap (λ i. weighted ops w i es) there

  drop_first : (w : A → A) (es : List A) (k j m : ℕ) → drop j (sequence_of ops w es k (j + m)) ≡ sequence_of ops w es (k + j) m
  unfolding sequence_of
  drop_first w es k zero m =
      let same : 0 + m ≡ m = omega arith in
      let there : k ≡ k + 0 = omega arith in
      ap (sequence_of ops w es k) same ∙ ap (λ i. sequence_of ops w es i m) there
  drop_first w es k (suc j) m =
      let there : k + 1 + j ≡ k + suc j = omega arith in
      ap (λ n. drop (suc j) (sequence_of ops w es k n)) (suc-add j m)
      ∙ drop_first w es (k + 1) j m
      ∙ ap (λ i. sequence_of ops w es i m) there

  pub drop-sequence_of : (w : A → A) (es : List A) (k j n : ℕ) → j ≤ n → drop j (sequence_of ops w es k n) ≡ sequence_of ops w es (k + j) (n - j)
  drop-sequence_of w es k j n le =
      let whole : n ≡ j + (n - j) = omega arith in
      ap (λ z. drop j (sequence_of ops w es k z)) whole ∙ drop_first w es k j (n - j)

  pub take-sequence_of : (w : A → A) (es : List A) (k m n : ℕ) → m ≤ n → take m (sequence_of ops w es k n) ≡ sequence_of ops w es k m
  unfolding sequence_of
  take-sequence_of w es k zero n le = refl
  take-sequence_of w es k (suc m) zero le = absurd (omega arith)
  take-sequence_of w es k (suc m) (suc n) le = ap (λ z. weighted ops w k es ∷ z) (take-sequence_of w es (k + 1) m n (omega arith))

  -- the first m items and those behind them
  pub sequence_of-append : (w : A → A) (es : List A) (k m n : ℕ) → sequence_of ops w es k (m + n) ≡ sequence_of ops w es k m ++ sequence_of ops w es (k + m) n
  unfolding sequence_of
  sequence_of-append w es k zero n =
      let same : 0 + n ≡ n = omega arith in
      let here : k ≡ k + 0 = omega arith in
      ap (sequence_of ops w es k) same ∙ ap (λ i. sequence_of ops w es i n) here
  sequence_of-append w es k (suc m) n =
      let there : k + 1 + m ≡ k + suc m = omega arith in
      ap (sequence_of ops w es k) (suc-add m n)
      ∙ ap (λ z. weighted ops w k es ∷ z) (sequence_of-append w es (k + 1) m n ∙ ap (λ i. sequence_of ops w es (k + 1) m ++ sequence_of ops w es i n) there)

  -- a list with these items
  pub is_sequence : (w : A → A) (es : List A) (n : ℕ) (s : List A) → length s ≡ n → ((k : ℕ) → k < n → coefficient ops s k ≡ weighted ops w k es) → s ≡ sequence_of ops w es 0 n
  is_sequence w es n s size each =
      ext_get_or ops.zero s (sequence_of ops w es 0 n) (size ∙ sym (length-sequence_of w es 0 n))
      (λ k lt. let here : 0 + k ≡ k = omega arith in each k (omega arith) ∙ sym (get_or-sequence_of w es 0 n k ops.zero (omega arith) ∙ ap (λ j. weighted ops w j es) here))

  pub sequence_of-at : (w : A → A) (es : List A) (n k : ℕ) → k < n → coefficient ops (sequence_of ops w es 0 n) k ≡ weighted ops w k es
  sequence_of-at w es n k lt = let here : 0 + k ≡ k = omega arith in get_or-sequence_of w es 0 n k ops.zero lt ∙ ap (λ j. weighted ops w j es) here

  -- sequences of two weights whose sums are the same
  pub sequence_of-same : (v w : A → A) (es fs : List A) (n : ℕ) → ((k : ℕ) → k < n → weighted ops v k es ≡ weighted ops w k fs) → sequence_of ops v es 0 n ≡ sequence_of ops w fs 0 n
  sequence_of-same v w es fs n same = is_sequence w fs n (sequence_of ops v es 0 n) (length-sequence_of v es 0 n) (λ k lt. sequence_of-at v es n k lt ∙ same k lt)

  -- ---- dots

  -- the dot of f with the sequence of w from k on is the sum of w(e) * f(e) * e ^ k
  pub dot_of-sequence : (f es : List A) (w : A → A) (k n : ℕ) → length f ≤ n
      → dot_of ops f (sequence_of ops w es k n) ≡ weighted ops (λ e. ops.times (w e) (value_at ops f e)) k es
  unfolding dot_of sequence_of value_at
  dot_of-sequence [] es w k n le =
      sym (weighted-zero ops ring (λ e. ops.times (w e) (value_at ops [] e)) k es (λ i d lt. times_zero ops ring (w (get_or es i d))))
  dot_of-sequence (a ∷ f) es w k zero le = absurd (omega arith)
  dot_of-sequence (a ∷ f) es w k (suc n) le =
      ap (ops.plus (ops.times a (weighted ops w k es)))
      (dot_of-sequence f es w (k + 1) n (omega arith)
      ∙ weighted-next ops ring (λ e. ops.times (w e) (value_at ops f e)) k es
      ∙ weighted-same ops ring (λ e. ops.times (ops.times (w e) (value_at ops f e)) e) (λ e. ops.times (w e) (ops.times e (value_at ops f e))) k es
      (λ i d lt. ring.times_assoc (w (get_or es i d)) (value_at ops f (get_or es i d)) (get_or es i d)
      ∙ ap (ops.times (w (get_or es i d))) (ring.times_comm (value_at ops f (get_or es i d)) (get_or es i d))))
      ∙ weighted-joined ops ring a w (λ e. ops.times e (value_at ops f e)) k es

  pub dot_of-from : (f es : List A) (w : A → A) (k n : ℕ) → k + length f ≤ n
      → dot_of ops f (drop k (sequence_of ops w es 0 n)) ≡ weighted ops (λ e. ops.times (w e) (value_at ops f e)) k es
  dot_of-from f es w k n le =
      let here : 0 + k ≡ k = omega arith in
      ap (dot_of ops f) (drop-sequence_of w es 0 k n (omega arith))
      ∙ dot_of-sequence f es w (0 + k) (n - k) (omega arith)
      ∙ ap (λ j. weighted ops (λ e. ops.times (w e) (value_at ops f e)) j es) here

  -- the correlation of f with a sequence is the sequence of w times f
  pub correlation_of_sequence : (f es : List A) (w : A → A) (m n : ℕ) (u : List A) → m + length f ≤ n + 1 → IsCorrelation ops f (sequence_of ops w es 0 n) m u
      → u ≡ sequence_of ops (λ e. ops.times (w e) (value_at ops f e)) es 0 m
  correlation_of_sequence f es w m n u le windows =
      is_sequence (λ e. ops.times (w e) (value_at ops f e)) es m u windows.size (λ k lt. windows.each k lt ∙ dot_of-from f es w k n (omega arith))
