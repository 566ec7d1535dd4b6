-- A recurrence c_1, .., c_L as the monic polynomial c_L, .., c_1, 1.
use Rattle.std.proofs.Common.{◌≡◌, ℕ, zero, suc, ◌+◌, ◌<◌, List, [], ◌∷◌, ◌++◌, length, drop, reverse, refl, sym, ap, ◌∙◌, arith}
use Rattle.std.proofs.lemmas.List.{get_or-drop, get_or_push, length-reverse}
use Rattle.std.proofs.lemmas.Grind.{reverse_onto}
use Rattle.field_rules.specs.Ops.{Ops, IsRing}
use Rattle.field_rules.specs.Fields.{dot_of}
use Rattle.poly_rules.specs.Polynomials.{coefficient, IsMonic}
use Rattle.poly_rules.specs.Recurrences.{IsRecurrence}
use Rattle.field_laws.proofs.RingFacts.{zero_plus, one_times, same_of_sum}
use Rattle.recurrence_laws.proofs.Applied.{dot_of-nil}

module _ {A : Type 0} (ops : Ops A) (ring : IsRing ops) where
  -- the monic form is monic, and its degree is the length
  pub monic_form : (cs : List A) → IsMonic ops (length cs) (reverse (ops.one ∷ cs))
  monic_form cs = record {
    size = omega (arith, length-reverse (ops.one ∷ cs));
    top = ap (λ z. coefficient ops z (length cs)) (reverse_onto cs ops.one []) ∙ get_or_push (reverse cs) ops.one ops.zero (length cs) (length-reverse cs);
  }

  -- the factors of the second list meet the items past the first's
  dot_of-append : (f g s : List A) → dot_of ops (f ++ g) s ≡ ops.plus (dot_of ops f s) (dot_of ops g (drop (length f) s))
  unfolding dot_of
  dot_of-append [] g s = sym (zero_plus ops ring (dot_of ops g s))
  dot_of-append (a ∷ f) g [] = sym (ring.plus_zero ops.zero) ∙ ap (ops.plus ops.zero) (sym (dot_of-nil ops g))
  dot_of-append (a ∷ f) g (x ∷ s) =
      ap (ops.plus (ops.times a x)) (dot_of-append f g s)
      ∙ sym (ring.plus_assoc (ops.times a x) (dot_of ops f s) (dot_of ops g (drop (length f) s)))

  -- a 1 alone meets the item itself
  pub dot_of-one : (i : ℕ) (s : List A) → dot_of ops (ops.one ∷ []) (drop i s) ≡ coefficient ops s i
  unfolding dot_of
  dot_of-one zero [] = refl
  dot_of-one zero (x ∷ s) = ring.plus_zero (ops.times ops.one x) ∙ one_times ops ring x
  dot_of-one (suc i) [] = refl
  dot_of-one (suc i) (x ∷ s) = dot_of-one i s

  -- a 1 behind the factors meets the item past them
  pub dot_of-end : (f s : List A) → dot_of ops (f ++ ops.one ∷ []) s ≡ ops.plus (dot_of ops f s) (coefficient ops s (length f))
  dot_of-end f s = dot_of-append f (ops.one ∷ []) s ∙ ap (ops.plus (dot_of ops f s)) (dot_of-one (length f) s)

  -- what the monic form gives: the sum of what the recurrence foretells and of what stands there
  dot_of-monic : (cs s : List A) (k : ℕ) → dot_of ops (reverse (ops.one ∷ cs)) (drop k s) ≡ ops.plus (dot_of ops (reverse cs) (drop k s)) (coefficient ops s (k + length cs))
  dot_of-monic cs s k =
      ap (λ z. dot_of ops z (drop k s)) (reverse_onto cs ops.one [])
      ∙ dot_of-end (reverse cs) (drop k s)
      ∙ ap (ops.plus (dot_of ops (reverse cs) (drop k s))) (ap (coefficient ops (drop k s)) (length-reverse cs) ∙ get_or-drop k s (length cs) ops.zero)

  -- where the recurrence holds, the monic form gives zero
  pub monic_from_recurs : (cs s : List A) → IsRecurrence ops cs s → (k : ℕ) → k + length cs < length s → dot_of ops (reverse (ops.one ∷ cs)) (drop k s) ≡ ops.zero
  monic_from_recurs cs s recurs k lt =
      dot_of-monic cs s k
      ∙ ap (ops.plus (dot_of ops (reverse cs) (drop k s))) (recurs.each k lt)
      ∙ ring.plus_self (dot_of ops (reverse cs) (drop k s))

  -- and the other way about
  pub recurs_from_monic : (cs s : List A) → ((k : ℕ) → k + length cs < length s → dot_of ops (reverse (ops.one ∷ cs)) (drop k s) ≡ ops.zero) → IsRecurrence ops cs s
  recurs_from_monic cs s zeros = record {
    each = λ k lt. sym (same_of_sum ops ring (dot_of ops (reverse cs) (drop k s)) (coefficient ops s (k + length cs)) (sym (dot_of-monic cs s k) ∙ zeros k lt));
  }
