use Rattle.std.proofs.Common.{◌/◌, length, ap, refl, ◌∙◌, arith}
use Rattle.sketch_laws.proofs.EverySums.{length-odd_power_sums}
use Rattle.trace_roots.proofs.Answering.{nonzero_of_rises, distinct_of_rises, answer_of_sums, answer_agrees}
use Rattle.trace_roots.proofs.check.is_answer.Goals as goal

pub of-requires-clause-nonzero : goal.of-requires-clause-nonzero
of-requires-clause-nonzero g c =
    nonzero_of_rises g.F.Field.ops g.F.Field.bits_of g.F.Field.BITS g.met.F.Field.numbered c.args.items.now (c.is_ascending.ensures.0 c.if-not-is_ascending.false)

pub of-requires-clause-distinct : goal.of-requires-clause-distinct
of-requires-clause-distinct g c =
    distinct_of_rises g.F.Field.ops g.F.Field.bits_of g.F.Field.BITS g.met.F.Field.numbered c.args.items.now (c.is_ascending.ensures.0 c.if-not-is_ascending.false)

pub agrees-requires : goal.agrees-requires
agrees-requires g c =
    omega (arith, ap length (c.sums.ensures ∙ c.in-Ok.ensures.ok), length-odd_power_sums g.F.Field.ops c.args.items.now 0 (length c.args.sums.now / 2))

pub returns-clause-sound : goal.returns-clause-sound
returns-clause-sound g c m all agree =
    answer_of_sums g.F.Field.ops g.F.Field.bits_of g.F.Field.BITS g.met.F.Field.numbered m c.args.items.now c.args.sums.now c.sums.result.now (length c.args.sums.now / 2) all refl
    (omega arith) (c.is_ascending.ensures.0 c.if-not-is_ascending.false) (c.sums.ensures ∙ c.in-Ok.ensures.ok) (c.agrees.ensures.0 agree)

pub returns-clause-complete : goal.returns-clause-complete
returns-clause-complete g c m all answer =
    c.agrees.ensures.1
    (answer_agrees g.F.Field.ops g.F.Field.bits_of g.F.Field.BITS g.met.F.Field.numbered m c.args.items.now c.args.sums.now c.sums.result.now (length c.args.sums.now / 2) all refl
    answer (c.sums.ensures ∙ c.in-Ok.ensures.ok))
