use Rattle.std.proofs.Common.{Ok, rules, ap, ◌∙◌}
use Rattle.sketch_rules.specs.Sets.{difference}
use Rattle.sketch_bytes.specs.Reading.{sums_of_bytes}
use Rattle.sketch_bytes.specs.declared.fault.BytesFault.TheVariants as bytes_fault
use Rattle.set_difference.specs.Answers.{decoded}
use Rattle.set_difference.proofs.Differences.{answered_found, sum_decoded}
use Rattle.set_difference.proofs.bytes.decode_bytes.Goals as goal

pub returns-in_err-sketch-clause-answer : goal.returns-in_err-sketch-clause-answer
returns-in_err-sketch-clause-answer g c = search rules

pub returns-in_err-sketch-clause-difference : goal.returns-in_err-sketch-clause-difference
returns-in_err-sketch-clause-difference g c xs ys n in_xs in_ys apart_xs apart_ys capacity few is =
    answered_found g.F.Field.bits_of bytes_fault.OutOfMemory (decoded (sums_of_bytes c.args.bytes.now)) (difference xs ys) c.from_residual.result
    (ap (λ bytes. decoded (sums_of_bytes bytes)) is ∙ sum_decoded g.F.Field.ops g.met.F.Field.ring g.F.Field.bits_of g.F.Field.BITS g.met.F.Field.field g.met.F.Field.numbered c.requires xs ys n in_xs in_ys apart_xs apart_ys capacity few)
    (returns-in_err-sketch-clause-answer g c)

pub returns-in-Ok-clause-answer : goal.returns-in-Ok-clause-answer
returns-in-Ok-clause-answer g c = search rules

pub returns-in-Ok-clause-difference : goal.returns-in-Ok-clause-difference
returns-in-Ok-clause-difference g c xs ys n in_xs in_ys apart_xs apart_ys capacity few is =
    answered_found g.F.Field.bits_of bytes_fault.OutOfMemory (decoded (sums_of_bytes c.args.bytes.now)) (difference xs ys) (Ok c.in-Ok.decoded)
    (ap (λ bytes. decoded (sums_of_bytes bytes)) is ∙ sum_decoded g.F.Field.ops g.met.F.Field.ring g.F.Field.bits_of g.F.Field.BITS g.met.F.Field.field g.met.F.Field.numbered c.requires xs ys n in_xs in_ys apart_xs apart_ys capacity few)
    (returns-in-Ok-clause-answer g c)
