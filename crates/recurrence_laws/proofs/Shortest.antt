-- The search ends with a shortest recurrence.
use Rattle.std.proofs.Common.{◌≡◌, ◌≢◌, ◌⊎◌, inl, inr, ℕ, ◌+◌, ◌-◌, ◌<◌, ◌≤◌, List, ◌∷◌, length, take, drop, reverse, sym, ap, subst, ◌∙◌, arith}
use Rattle.std.proofs.lemmas.List.{length-take-le}
use Rattle.field_rules.specs.Ops.{Ops, IsRing}
use Rattle.field_rules.specs.Fields.{dot_of}
use Rattle.poly_rules.specs.Polynomials.{degree}
use Rattle.poly_rules.specs.Recurrences.{IsRecurrence, IsShortest}
use Rattle.field_laws.proofs.RingFacts.{zero_times}
use Rattle.recurrence_laws.specs.Solving.{IsSolving}
use Rattle.recurrence_laws.proofs.Monic.{monic_form, monic_from_recurs, recurs_from_monic}
use Rattle.recurrence_laws.proofs.Applied.{dot_of-prefix}
use Rattle.recurrence_laws.proofs.Massey.{holds_on}

module _ {A : Type 0} (ops : Ops A) where
  -- any list as long as s is a recurrence of it, since it foretells no item
  pub shortest_within : (s cs : List A) → IsShortest ops cs s → length cs ≤ length s
  shortest_within s cs h = h.least s (record { each = λ k lt. absurd (omega arith) })

module _ {A : Type 0} (ops : Ops A) (ring : IsRing ops) where
  -- after the last item none is shorter: it would make the saved one hold where it failed
  pub solved : (s current saved cs : List A) (inverse : A) → ops.one ≢ ops.zero → IsSolving ops s (length s) current saved inverse → current ≡ reverse (ops.one ∷ cs) → IsShortest ops cs s
  solved s current saved cs inverse apart so_far is = record {
    holds = recurs_from_monic ops ring cs s (λ k lt. ap (λ z. dot_of ops z (drop k s)) (sym is) ∙ so_far.holds k (omega (arith, same_degree)));
    least = λ ds recurs. by_lengths ds recurs (cases (length cs) (length ds));
  }
    where
      same_degree : degree current ≡ length cs
      same_degree = omega (arith, ap length is, (monic_form ops ring cs).size)

      cases : (i j : ℕ) → (i ≤ j) ⊎ (j < i)
      cases i j = grind arith

      by_lengths : (ds : List A) → IsRecurrence ops ds s → (length cs ≤ length ds) ⊎ (length ds < length cs) → length cs ≤ length ds
      by_lengths ds recurs (inl le) = le
      by_lengths ds recurs (inr shorter) = absurd (apart (sym fails ∙ ap (λ z. ops.times z inverse) held ∙ zero_times ops ring inverse))
        where
          index : ℕ
          index = length cs - 1 - length ds

          fails : ops.times (dot_of ops saved (drop (index + length ds) s)) inverse ≡ ops.one
          fails = so_far.saved_fails (index + length ds) (omega (arith, same_degree))

          held : dot_of ops saved (drop (index + length ds) s) ≡ ops.zero
          held =
              holds_on ops ring saved (reverse (ops.one ∷ ds)) s (length ds) index (monic_form ops ring ds)
              (λ i lt. so_far.saved_holds (index + i) (omega (arith, same_degree)))
              (λ i lt. monic_from_recurs ops ring ds s recurs (index + i) (omega (arith, same_degree, so_far.room)))

  -- what is kept speaks of the first n items alone
  solving_front : (s current saved : List A) (n : ℕ) (inverse : A) → IsSolving ops s n current saved inverse → IsSolving ops (take n s) n current saved inverse
  solving_front s current saved n inverse h = record {
    monic = h.monic;
    holds = λ k lt. dot_of-prefix ops k n current s (omega (arith, h.monic.size)) ∙ h.holds k lt;
    some = h.some;
    room = h.room;
    saved_holds = λ k lt. dot_of-prefix ops k n saved s (omega (arith, h.room, h.some)) ∙ h.saved_holds k lt;
    saved_fails = λ k e. ap (λ z. ops.times z inverse) (dot_of-prefix ops k n saved s (omega (arith, h.room, h.some))) ∙ h.saved_fails k e;
  }

  -- so after the first n items the search has a shortest recurrence of these
  pub solved_front : (s current saved cs : List A) (n : ℕ) (inverse : A) → ops.one ≢ ops.zero → n ≤ length s → IsSolving ops s n current saved inverse → current ≡ reverse (ops.one ∷ cs) → IsShortest ops cs (take n s)
  solved_front s current saved cs n inverse apart le h is =
      solved (take n s) current saved cs inverse apart
      (let size : n ≡ length (take n s) = sym (length-take-le n s le) in subst (λ z. IsSolving ops (take n s) z current saved inverse) size (solving_front s current saved n inverse h))
      is
