use Rattle.std.proofs.Common.{Ok, rules, ap, ◌∙◌}
use Rattle.sketch_rules.specs.Sets as sets
use Rattle.sketch_rules.specs.Sketches.{bytes_of, sketch_of}
use Rattle.set_difference.specs.Answers.{decoded, read_sum}
use Rattle.set_difference.specs.declared.fault.DifferenceFault.TheVariants as difference_fault
use Rattle.set_difference.proofs.Differences.{answered_found, both_decoded}
use Rattle.set_difference.proofs.bytes.difference.Goals as goal

pub returns-in_err-sum-clause-answer : goal.returns-in_err-sum-clause-answer
returns-in_err-sum-clause-answer g c = search rules

pub returns-in_err-sum-clause-difference : goal.returns-in_err-sum-clause-difference
returns-in_err-sum-clause-difference g c xs ys n in_xs in_ys apart_xs apart_ys capacity few ours_is theirs_is =
    answered_found g.F.Field.bits_of difference_fault.OutOfMemory (decoded (read_sum c.args.ours.now c.args.theirs.now)) (sets.difference xs ys) c.from_residual.result
    (ap (λ bytes. decoded (read_sum bytes c.args.theirs.now)) ours_is ∙ ap (λ bytes. decoded (read_sum (bytes_of (sketch_of xs n)) bytes)) theirs_is ∙ both_decoded g.F.Field.ops g.met.F.Field.ring g.F.Field.bits_of g.F.Field.BITS g.met.F.Field.field g.met.F.Field.numbered c.requires xs ys n in_xs in_ys apart_xs apart_ys capacity few)
    (returns-in_err-sum-clause-answer g c)

pub returns-clause-answer : goal.returns-clause-answer
returns-clause-answer g c = search rules

pub returns-clause-difference : goal.returns-clause-difference
returns-clause-difference g c xs ys n in_xs in_ys apart_xs apart_ys capacity few ours_is theirs_is =
    answered_found g.F.Field.bits_of difference_fault.OutOfMemory (decoded (read_sum c.args.ours.now c.args.theirs.now)) (sets.difference xs ys) (Ok c.in_ok-decode.field-0)
    (ap (λ bytes. decoded (read_sum bytes c.args.theirs.now)) ours_is ∙ ap (λ bytes. decoded (read_sum (bytes_of (sketch_of xs n)) bytes)) theirs_is ∙ both_decoded g.F.Field.ops g.met.F.Field.ring g.F.Field.bits_of g.F.Field.BITS g.met.F.Field.field g.met.F.Field.numbered c.requires xs ys n in_xs in_ys apart_xs apart_ys capacity few)
    (returns-clause-answer g c)
