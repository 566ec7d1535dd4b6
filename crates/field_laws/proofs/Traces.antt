-- Traces: they keep sums, and where a ^ (2 ^ n) is a, a trace is its own square.
use Rattle.std.proofs.Common.{◌≡◌, ℕ, zero, suc, ◌+◌, refl, sym, ap, ◌∙◌, add-one}
use Rattle.field_rules.specs.Ops.{Ops, IsRing}
use Rattle.field_rules.specs.Fields.{conjugate, trace_of}
use Rattle.field_laws.proofs.RingFacts.{zero_times, plus_swap, plus_cancels, square_plus}
use Rattle.field_laws.proofs.Conjugates.{conjugate-next, conjugate-plus}

module _ {A : Type 0} (ops : Ops A) (ring : IsRing ops) where
  -- no term gives 0
  pub trace_of-none : (a : A) → trace_of ops 0 a ≡ ops.zero
  unfolding trace_of
  trace_of-none a = refl

  -- one term more
  pub trace_of-next : (n : ℕ) (a : A) → trace_of ops (suc n) a ≡ ops.plus (trace_of ops n a) (conjugate ops n a)
  unfolding trace_of
  trace_of-next n a = refl

  -- one term more, as code counts
  pub trace_of-more : (n : ℕ) (a s p : A) → s ≡ trace_of ops n a → p ≡ conjugate ops n a → ops.plus s p ≡ trace_of ops (n + 1) a
  trace_of-more n a s p sum_is power_is =
      ap (λ z. ops.plus z p) sum_is ∙ ap (ops.plus (trace_of ops n a)) power_is ∙ sym (trace_of-next n a) ∙ ap (λ k. trace_of ops k a) (sym (add-one n))

  -- the trace of a sum
  pub trace_of-plus : (n : ℕ) (a b : A) → trace_of ops n (ops.plus a b) ≡ ops.plus (trace_of ops n a) (trace_of ops n b)
  unfolding trace_of
  trace_of-plus zero a b = sym (ring.plus_zero ops.zero)
  trace_of-plus (suc n) a b =
      ap (λ z. ops.plus z (conjugate ops n (ops.plus a b))) (trace_of-plus n a b)
      ∙ ap (ops.plus (ops.plus (trace_of ops n a) (trace_of ops n b))) (conjugate-plus ops ring n a b)
      ∙ plus_swap ops ring (trace_of ops n a) (trace_of ops n b) (conjugate ops n a) (conjugate ops n b)

  -- the trace of 0
  pub trace_of-zero : (n : ℕ) → trace_of ops n ops.zero ≡ ops.zero
  trace_of-zero n =
      sym (ap (trace_of ops n) (ring.plus_self ops.zero)) ∙ trace_of-plus n ops.zero ops.zero ∙ ring.plus_self (trace_of ops n ops.zero)

  -- the square of a trace is the trace of the square
  pub trace_of-square : (n : ℕ) (a : A) → ops.times (trace_of ops n a) (trace_of ops n a) ≡ trace_of ops n (ops.times a a)
  unfolding trace_of conjugate
  trace_of-square zero a = zero_times ops ring ops.zero
  trace_of-square (suc n) a =
      square_plus ops ring (trace_of ops n a) (conjugate ops n a)
      ∙ ap (λ z. ops.plus z (ops.times (conjugate ops n a) (conjugate ops n a))) (trace_of-square n a)
      ∙ ap (ops.plus (trace_of ops n (ops.times a a))) (sym (conjugate-next ops n a))

  -- the first term, and those of the square
  pub trace_of-first : (n : ℕ) (a : A) → ops.plus a (trace_of ops n (ops.times a a)) ≡ trace_of ops (suc n) a
  unfolding trace_of conjugate
  trace_of-first zero a = ring.plus_comm a ops.zero
  trace_of-first (suc n) a =
      sym (ring.plus_assoc a (trace_of ops n (ops.times a a)) (conjugate ops n (ops.times a a)))
      ∙ ap (λ z. ops.plus z (conjugate ops n (ops.times a a))) (trace_of-first n a)

  -- where squaring n times gives a back, its trace is its own square
  pub trace_of-own : (n : ℕ) (a : A) → conjugate ops n a ≡ a → ops.times (trace_of ops n a) (trace_of ops n a) ≡ trace_of ops n a
  trace_of-own n a returns =
      trace_of-square n a
      ∙ plus_cancels ops ring a (trace_of ops n (ops.times a a)) (trace_of ops n a)
      (trace_of-first n a ∙ trace_of-next n a ∙ ap (ops.plus (trace_of ops n a)) returns ∙ ring.plus_comm (trace_of ops n a) a)
