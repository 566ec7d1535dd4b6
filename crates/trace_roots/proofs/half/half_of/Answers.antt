use Rattle.std.proofs.Common.{◌≡◌, ◌⊎◌, inl, inr, ◌↔◌, IsTrue, ◌∷◌, reverse, sym, ap, subst, ◌∙◌, arith}
use Rattle.field_laws.proofs.Numbers.{equal_bits}
use Rattle.trace_roots.proofs.Halving.{told_none, told_by_front, told_by_whole}
use Rattle.trace_roots.proofs.half.half_of.Goals as goal
use Rattle.trace_roots.proofs.half.half_of.Goals.{then-eq-via-then-eq, then-eq-via-else-eq+then-eq-2}

pub returns-then-length-eq0-clause-none : goal.returns-then-length-eq0-clause-none
returns-then-length-eq0-clause-none g c = λ exponent b u es bits differ unit size traced alike none.
    told_none g.F.Field.ops g.met.F.Field.ring g.F.Field.bits_of g.F.Field.BITS g.met.F.Field.field g.met.F.Field.numbered c.args.trace.now c.in_ok-front.front.items c.in_ok-front.front.recurrence c.in_ok-front.front.read
    c.discrepancy-last.result c.requires (c.in_ok-front.ensures.items ∙ c.in_ok-over.ensures.items) (omega (arith, c.in_ok-front.ensures.read, c.in_ok-over.ensures.read)) c.discrepancy-last.ensures.shortest c.discrepancy-last.ensures.value
    exponent b u es bits differ unit size traced alike (omega (arith, c.length.ensures, c.if-length-eq0.true))

pub returns-then-eq-clause-half : goal.returns-then-eq-clause-half
returns-then-eq-clause-half g c = λ exponent b u es bits differ unit size traced alike.
    told_by_front g.F.Field.ops g.met.F.Field.ring g.F.Field.bits_of g.F.Field.BITS g.met.F.Field.field g.met.F.Field.numbered c.args.trace.now c.in_ok-front.front.items c.in_ok-front.front.recurrence c.in_ok-front.front.read
    c.discrepancy-last.result c.requires (c.in_ok-front.ensures.items ∙ c.in_ok-over.ensures.items) (omega (arith, c.in_ok-front.ensures.read, c.in_ok-over.ensures.read)) c.discrepancy-last.ensures.shortest c.discrepancy-last.ensures.value
    exponent b u es bits differ unit size traced alike c.into_monic_form.result (omega (arith, c.length.ensures, c.if-length-eq0.false)) bit
    (c.into_monic_form.ensures.value ∙ ap (λ l. reverse (g.F.Field.ops.one ∷ l)) c.in_ok-recurrence.ensures.value)
  where
    bit : (c.discrepancy-last.result ≡ g.F.Field.ops.zero) ⊎ (c.discrepancy-last.result ≡ g.F.Field.ops.one)
    bit = elim c.then-eq.branch [
      | then-eq-via-then-eq w ↦
          let tested : IsTrue c.eq.result ↔ (c.discrepancy-last.result ≡ c.ZERO.result) = equal_bits g.F.Field.ops g.F.Field.bits_of g.F.Field.BITS g.met.F.Field.numbered c.eq.result c.discrepancy-last.result c.ZERO.result (c.eq.ensures ∙ g.met.F.Field.equal c.discrepancy-last.result c.ZERO.result) in
          inl (tested.0 w.if-eq.true ∙ c.ZERO.ensures ∙ sym g.met.F.Field.zero_is)
      | then-eq-via-else-eq+then-eq-2 w ↦
          let tested : IsTrue w.eq-else-eq.result ↔ (c.discrepancy-last.result ≡ w.ONE.result) = equal_bits g.F.Field.ops g.F.Field.bits_of g.F.Field.BITS g.met.F.Field.numbered w.eq-else-eq.result c.discrepancy-last.result w.ONE.result (w.eq-else-eq.ensures ∙ g.met.F.Field.equal c.discrepancy-last.result w.ONE.result) in
          inr (tested.0 w.if-eq-2.true ∙ w.ONE.ensures ∙ sym g.met.F.Field.one_is)
    ]

pub returns-clause-half : goal.returns-clause-half
returns-clause-half g c = λ exponent b u es bits differ unit size traced alike.
    told_by_whole g.F.Field.ops g.met.F.Field.ring g.F.Field.bits_of g.F.Field.BITS g.met.F.Field.field g.met.F.Field.numbered c.args.trace.now c.in_ok-front.front.items c.in_ok-front.front.recurrence c.in_ok-front.front.read
    c.discrepancy-last.result c.requires (c.in_ok-front.ensures.items ∙ c.in_ok-over.ensures.items) (omega (arith, c.in_ok-front.ensures.read, c.in_ok-over.ensures.read)) c.discrepancy-last.ensures.shortest c.discrepancy-last.ensures.value
    exponent b u es bits differ unit size traced alike c.into_monic_form-2.result c.in_ok-recurrence-2.recurrence c.in_ok-read.field-0.items c.in_ok-read.field-0.read
    (λ e. cc (subst IsTrue c.if-eq.false (tested_zero.1 (e ∙ g.met.F.Field.zero_is ∙ sym c.ZERO.ensures))))
    (λ e. cc (subst IsTrue c.if-eq-2.false (tested_one.1 (e ∙ g.met.F.Field.one_is ∙ sym c.ONE.ensures))))
    (omega (arith, c.requires, c.in_ok-read.ensures.read, c.in_ok-front.ensures.read, c.in_ok-over.ensures.read))
    (c.in_ok-read.ensures.items ∙ c.in_ok-front.ensures.items ∙ c.in_ok-over.ensures.items)
    c.in_ok-recurrence-2.ensures.shortest
    c.into_monic_form-2.ensures.value
  where
    tested_zero : IsTrue c.eq.result ↔ (c.discrepancy-last.result ≡ c.ZERO.result)
    tested_zero = equal_bits g.F.Field.ops g.F.Field.bits_of g.F.Field.BITS g.met.F.Field.numbered c.eq.result c.discrepancy-last.result c.ZERO.result (c.eq.ensures ∙ g.met.F.Field.equal c.discrepancy-last.result c.ZERO.result)

    tested_one : IsTrue c.eq-else-eq.result ↔ (c.discrepancy-last.result ≡ c.ONE.result)
    tested_one = equal_bits g.F.Field.ops g.F.Field.bits_of g.F.Field.BITS g.met.F.Field.numbered c.eq-else-eq.result c.discrepancy-last.result c.ONE.result (c.eq-else-eq.ensures ∙ g.met.F.Field.equal c.discrepancy-last.result c.ONE.result)

pub returns-then-eq-clause-monic : goal.returns-then-eq-clause-monic
returns-then-eq-clause-monic g c = c.into_monic_form.ensures.monic

pub returns-clause-monic : goal.returns-clause-monic
returns-clause-monic g c = c.into_monic_form-2.ensures.monic

pub returns-then-eq-clause-none : goal.returns-then-eq-clause-none
returns-then-eq-clause-none g c = λ exponent b u es bits differ unit size traced alike none. cc none

pub returns-clause-none : goal.returns-clause-none
returns-clause-none g c = λ exponent b u es bits differ unit size traced alike none. cc none
