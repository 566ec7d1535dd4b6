use Rattle.std.proofs.Common.{◌==◌, sym, ap, ◌∙◌, eq-eqb, ne_eqb}
use Rattle.std.proofs.lemmas.Result.{err_from_is_err_and}
use Rattle.initiator.proofs.Sketches.{refused_question, none_question, some_question, want_question}
use Rattle.initiator.proofs.machine.Initiator.merged.Goals as goal

pub returns-in_err-check : goal.returns-in_err-check
returns-in_err-check g c =
    let p = err_from_is_err_and c.from_residual.result c.from_residual.ensures.1 in
    rw (p.1, p.2) (refused_question g.F.Field.bits_of c.args.self.now.machine c.args.set.now c.args.skdata.now c.in_err-check.field-0.0 c.in_err-check.ensures.err)

pub returns-then-first_capacity-eq0 : goal.returns-then-first_capacity-eq0
returns-then-first_capacity-eq0 g c =
    none_question g.F.Field.bits_of c.args.self.now.machine c.args.set.now c.args.skdata.now c.in_ok-check.ensures.ok
    (ap (λ n. n == 0) (sym (c.first_capacity.ensures.value c.args.set.now)) ∙ eq-eqb c.first_capacity.result 0 c.if-first_capacity-eq0.true)

pub returns-in_err-difference : goal.returns-in_err-difference
returns-in_err-difference g c =
    let p = err_from_is_err_and c.from_residual-in_err-difference.result c.from_residual-in_err-difference.ensures.1 in
    rw (p.1, p.2) (want_question g.F.Field.bits_of c.args.self.now.machine c.args.set.now c.args.skdata.now c.in_ok-check.ensures.ok)

pub returns : goal.returns
returns g c =
    some_question g.F.Field.bits_of c.args.self.now.machine c.args.set.now c.args.skdata.now c.in_ok-check.ensures.ok c.in_ok-difference.field-0
    (ap (λ n. n == 0) (sym (c.first_capacity.ensures.value c.args.set.now)) ∙ ne_eqb c.first_capacity.result 0 c.if-first_capacity-eq0.false)
    c.in_ok-difference.ensures
