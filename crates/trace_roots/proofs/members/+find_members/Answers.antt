use Rattle.std.proofs.Common.{◌≡◌, ◌+◌, List, [], ◌∷◌, ◌++◌, length, get_or, true, false, sym, ap, subst, ◌∙◌, arith}
use Rattle.std.specs.Prelude.{IsSome}
use Rattle.std.specs.List.Sorted.{IsPermutation}
use Rattle.std.proofs.lemmas.Result.{on_ok_weaker}
use Rattle.std.proofs.lemmas.List.Sorted.{IsPermutation-refl}
use Rattle.splitting_laws.specs.Alike.{IsAlike}
use Rattle.sequence_laws.specs.Parts.{IsHalf}
use Rattle.sequence_laws.proofs.Steps.{lone_member}
use Rattle.trace_roots.proofs.Found.{at_some, end_of_basis, found_of_both, never}
use Rattle.trace_roots.proofs.Stepping.{IsPartOf, IsSplitOf, next_part, next_told}
use Rattle.trace_roots.proofs.members.+find_members.Goals as goal

pub returns-then-coeffs-eq2-clause-members : goal.returns-then-coeffs-eq2-clause-members
returns-then-coeffs-eq2-clause-members g n c u es part alike =
    let lone : es ≡ c.index-coeffs-0.result ∷ [] =
    lone_member g.F.Field.ops g.met.F.Field.ring g.F.Field.bits_of g.F.Field.BITS g.met.F.Field.field g.met.F.Field.numbered c.args.exponent u es c.args.part.locator c.args.part.traces.items c.index-coeffs-0.result part
    (sym (ap length c.coeffs.ensures.value) ∙ c.if-coeffs-eq2.true) ∙ ap (λ z. z ∷ []) (sym (c.index-coeffs-0.is ∙ ap (λ z. get_or z 0 c.index-coeffs-0.result) c.coeffs-then-coeffs-eq2.ensures.value)) in
    (es, IsPermutation-refl es, c.in_ok-push.ensures.items ∙ ap (λ z. c.args.found.now.items ++ z) (sym lone))

pub returns-then-exponent-BITS : goal.returns-then-exponent-BITS
returns-then-exponent-BITS g n c = record {
  all = λ u es part alike. absurd (one_left u es part alike);
  members = λ u es part alike. absurd (one_left u es part alike);
}
  where
    one_left : (u : _ → _) (es : List _) → IsPartOf g.F.Field.ops g.met.F.Field.ring g.F.Field.bits_of g.F.Field.BITS g.met.F.Field.numbered c.args.exponent u es c.args.part → IsAlike g.F.Field.ops g.F.Field.bits_of g.F.Field.BITS c.args.exponent es → ⊥
    one_left u es part alike =
        c.if-coeffs-eq2.false
        (ap length c.coeffs.ensures.value
        ∙ end_of_basis g.F.Field.ops g.met.F.Field.ring g.F.Field.bits_of g.F.Field.BITS g.met.F.Field.separates c.args.exponent u es c.args.part.locator c.args.part.traces.items c.requires.fits part
        (omega (arith, c.requires.exponent, c.if-exponent-BITS.true, c.BITS.ensures)) alike)

pub returns-in_default-3 : goal.returns-in_default-3
returns-in_default-3 g n c = record {
  all = λ u es part alike. let next = unparted u es part alike in c.find_members.ensures.all u es next.0 next.1;
  members = λ u es part alike. let next = unparted u es part alike in c.find_members.ensures.members u es next.0 next.1;
}
  where
    unparted : (u : _ → _) (es : List _) → IsPartOf g.F.Field.ops g.met.F.Field.ring g.F.Field.bits_of g.F.Field.BITS g.met.F.Field.numbered c.args.exponent u es c.args.part → IsAlike g.F.Field.ops g.F.Field.bits_of g.F.Field.BITS c.args.exponent es → IsPartOf g.F.Field.ops g.met.F.Field.ring g.F.Field.bits_of g.F.Field.BITS g.met.F.Field.numbered (c.args.exponent + 1) u es c.in-Some-2.part × IsAlike g.F.Field.ops g.F.Field.bits_of g.F.Field.BITS (c.args.exponent + 1) es
    unparted u es part alike = (
      next_part g.F.Field.ops g.met.F.Field.ring g.F.Field.bits_of g.F.Field.BITS g.met.F.Field.numbered c.args.exponent (omega (arith, c.if-exponent-BITS.false, c.BITS.ensures)) u es c.in-Some-2.trace c.in-Some-2.part c.in-Some-2.is
          (c.in_ok-trace.ensures.trace u es part) (c.in_ok-trace.ensures.part u es part) c.in_ok-trace.ensures.size,
      next_told g.F.Field.ops g.met.F.Field.ring g.F.Field.bits_of g.F.Field.BITS g.met.F.Field.numbered c.args.exponent (omega (arith, c.if-exponent-BITS.false, c.BITS.ensures)) u es c.in-Some-2.trace c.in-Some-2.part c.in-Some-2.is
          (c.in_ok-trace.ensures.trace u es part) (c.in_ok-trace.ensures.part u es part) c.in_ok-trace.ensures.size
          c.as_slice.result.now c.as_slice.ensures
          (λ b bits differ unit size traced. c.in_ok-half.ensures.none c.args.exponent b u es bits differ unit size traced alike c.in_default-3.is),
    )

pub returns-in_default-4 : goal.returns-in_default-4
returns-in_default-4 g n c = record {
  all = λ u es part alike. none u es part alike;
  members = λ u es part alike. never (none u es part alike);
}
  where
    none : (u : _ → _) (es : List _) → IsPartOf g.F.Field.ops g.met.F.Field.ring g.F.Field.bits_of g.F.Field.BITS g.met.F.Field.numbered c.args.exponent u es c.args.part → IsAlike g.F.Field.ops g.F.Field.bits_of g.F.Field.BITS c.args.exponent es → false ≡ true
    none u es part alike =
        let half : IsHalf g.F.Field.ops g.F.Field.bits_of g.F.Field.BITS (c.args.exponent + 1) es c.in-Some-3.half =
        at_some (IsHalf g.F.Field.ops g.F.Field.bits_of g.F.Field.BITS (c.args.exponent + 1) es) c.in-Some-3.is
        (next_told g.F.Field.ops g.met.F.Field.ring g.F.Field.bits_of g.F.Field.BITS g.met.F.Field.numbered c.args.exponent (omega (arith, c.if-exponent-BITS.false, c.BITS.ensures)) u es c.in-Some-2.trace c.in-Some-2.part c.in-Some-2.is
        (c.in_ok-trace.ensures.trace u es part) (c.in_ok-trace.ensures.part u es part) c.in_ok-trace.ensures.size
        c.as_slice.result.now c.as_slice.ensures
        (λ b bits differ unit size traced. c.in_ok-half.ensures.half c.args.exponent b u es bits differ unit size traced alike)) in
        subst IsSome c.in_default-4.is
        (c.in_ok-first.ensures.found (c.args.exponent + 1) u es
        (next_part g.F.Field.ops g.met.F.Field.ring g.F.Field.bits_of g.F.Field.BITS g.met.F.Field.numbered c.args.exponent (omega (arith, c.if-exponent-BITS.false, c.BITS.ensures)) u es c.in-Some-2.trace c.in-Some-2.part c.in-Some-2.is
        (c.in_ok-trace.ensures.trace u es part) (c.in_ok-trace.ensures.part u es part) c.in_ok-trace.ensures.size) half)

pub returns-then-not-branch : goal.returns-then-not-branch
returns-then-not-branch g n c = record {
  all = λ u es part alike. none u es part alike;
  members = λ u es part alike. never (none u es part alike);
}
  where
    halved : (u : _ → _) (es : List _) → IsPartOf g.F.Field.ops g.met.F.Field.ring g.F.Field.bits_of g.F.Field.BITS g.met.F.Field.numbered c.args.exponent u es c.args.part → IsAlike g.F.Field.ops g.F.Field.bits_of g.F.Field.BITS c.args.exponent es
        → IsSplitOf g.F.Field.ops g.met.F.Field.ring g.F.Field.bits_of g.F.Field.BITS g.met.F.Field.numbered (c.args.exponent + 1) es c.in-Some-4.first c.in-Some-4.second
    halved u es part alike =
        let half : IsHalf g.F.Field.ops g.F.Field.bits_of g.F.Field.BITS (c.args.exponent + 1) es c.in-Some-3.half =
        at_some (IsHalf g.F.Field.ops g.F.Field.bits_of g.F.Field.BITS (c.args.exponent + 1) es) c.in-Some-3.is
        (next_told g.F.Field.ops g.met.F.Field.ring g.F.Field.bits_of g.F.Field.BITS g.met.F.Field.numbered c.args.exponent (omega (arith, c.if-exponent-BITS.false, c.BITS.ensures)) u es c.in-Some-2.trace c.in-Some-2.part c.in-Some-2.is
        (c.in_ok-trace.ensures.trace u es part) (c.in_ok-trace.ensures.part u es part) c.in_ok-trace.ensures.size
        c.as_slice.result.now c.as_slice.ensures
        (λ b bits differ unit size traced. c.in_ok-half.ensures.half c.args.exponent b u es bits differ unit size traced alike)) in
        at_some (λ p. IsSplitOf g.F.Field.ops g.met.F.Field.ring g.F.Field.bits_of g.F.Field.BITS g.met.F.Field.numbered (c.args.exponent + 1) es p.0 p.1) c.in-Some-4.is
        (c.in_ok-first.ensures.parts (c.args.exponent + 1) u es
        (next_part g.F.Field.ops g.met.F.Field.ring g.F.Field.bits_of g.F.Field.BITS g.met.F.Field.numbered c.args.exponent (omega (arith, c.if-exponent-BITS.false, c.BITS.ensures)) u es c.in-Some-2.trace c.in-Some-2.part c.in-Some-2.is
        (c.in_ok-trace.ensures.trace u es part) (c.in_ok-trace.ensures.part u es part) c.in_ok-trace.ensures.size) half)

    none : (u : _ → _) (es : List _) → IsPartOf g.F.Field.ops g.met.F.Field.ring g.F.Field.bits_of g.F.Field.BITS g.met.F.Field.numbered c.args.exponent u es c.args.part → IsAlike g.F.Field.ops g.F.Field.bits_of g.F.Field.BITS c.args.exponent es → false ≡ true
    none u es part alike = let parts = halved u es part alike in sym c.if-not-branch.true ∙ c.in_ok-find_members.ensures.all parts.left_unit parts.left parts.left_part parts.left_alike

pub returns : goal.returns
returns g n c = record {
  all = λ u es part alike. let parts = halved u es part alike in c.find_members-3.ensures.all parts.right_unit parts.right parts.right_part parts.right_alike;
  members = λ u es part alike.
      let parts = halved u es part alike in
      let first : (ms : List _) × IsPermutation parts.left ms × (c.find_members-2.new.found.items ≡ c.args.found.now.items ++ ms) =
      c.in_ok-find_members.ensures.members parts.left_unit parts.left parts.left_part parts.left_alike in
      on_ok_weaker c.find_members-3.result
      (λ second.
      let both : IsPermutation es (first.0 ++ second.0) × (c.find_members-3.new.found.items ≡ c.args.found.now.items ++ (first.0 ++ second.0)) =
      found_of_both es parts.left parts.right first.0 second.0 c.args.found.now.items c.find_members-2.new.found.items c.find_members-3.new.found.items parts.together first.1 second.1 first.2 second.2 in
      (first.0 ++ second.0, both.0, both.1))
      (c.find_members-3.ensures.members parts.right_unit parts.right parts.right_part parts.right_alike);
}
  where
    halved : (u : _ → _) (es : List _) → IsPartOf g.F.Field.ops g.met.F.Field.ring g.F.Field.bits_of g.F.Field.BITS g.met.F.Field.numbered c.args.exponent u es c.args.part → IsAlike g.F.Field.ops g.F.Field.bits_of g.F.Field.BITS c.args.exponent es
        → IsSplitOf g.F.Field.ops g.met.F.Field.ring g.F.Field.bits_of g.F.Field.BITS g.met.F.Field.numbered (c.args.exponent + 1) es c.in-Some-4.first c.in-Some-4.second
    halved u es part alike =
        let half : IsHalf g.F.Field.ops g.F.Field.bits_of g.F.Field.BITS (c.args.exponent + 1) es c.in-Some-3.half =
        at_some (IsHalf g.F.Field.ops g.F.Field.bits_of g.F.Field.BITS (c.args.exponent + 1) es) c.in-Some-3.is
        (next_told g.F.Field.ops g.met.F.Field.ring g.F.Field.bits_of g.F.Field.BITS g.met.F.Field.numbered c.args.exponent (omega (arith, c.if-exponent-BITS.false, c.BITS.ensures)) u es c.in-Some-2.trace c.in-Some-2.part c.in-Some-2.is
        (c.in_ok-trace.ensures.trace u es part) (c.in_ok-trace.ensures.part u es part) c.in_ok-trace.ensures.size
        c.as_slice.result.now c.as_slice.ensures
        (λ b bits differ unit size traced. c.in_ok-half.ensures.half c.args.exponent b u es bits differ unit size traced alike)) in
        at_some (λ p. IsSplitOf g.F.Field.ops g.met.F.Field.ring g.F.Field.bits_of g.F.Field.BITS g.met.F.Field.numbered (c.args.exponent + 1) es p.0 p.1) c.in-Some-4.is
        (c.in_ok-first.ensures.parts (c.args.exponent + 1) u es
        (next_part g.F.Field.ops g.met.F.Field.ring g.F.Field.bits_of g.F.Field.BITS g.met.F.Field.numbered c.args.exponent (omega (arith, c.if-exponent-BITS.false, c.BITS.ensures)) u es c.in-Some-2.trace c.in-Some-2.part c.in-Some-2.is
        (c.in_ok-trace.ensures.trace u es part) (c.in_ok-trace.ensures.part u es part) c.in_ok-trace.ensures.size) half)
