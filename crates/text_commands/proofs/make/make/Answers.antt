use Rattle.std.proofs.Common.{◌≡◌, ◌≢◌, ◌∙◌, List, map, ap, subst, sym}
use Rattle.std.specs.Result.{IfOk}
use Rattle.std.specs.List.{All}
use Rattle.field_rules.specs.Lists.{AreDistinct}
use Rattle.sketch_rules.specs.PowerSums.{sketch_by}
use Rattle.sketch_rules.specs.Sketches.{sketch_of}
use Rattle.clmul_lanes.specs.declared.lane32.Lane32.{Lane32}
use Rattle.clmul_lanes.specs.Lane32.{bits_of, numbered, ops}
use Rattle.sketch_laws.proofs.SketchNumbers.{sketch_by-numbers}
use Rattle.sketch_text_rules.specs.Elements.{set_in}
use Rattle.text_commands.specs.Answers.{Answer, IsReportOf, make_answer, sketch_answer}
use Rattle.text_commands.proofs.Sets.{apart, nonzero}
use Rattle.text_commands.proofs.make.make.Goals as goal

pub of-requires-clause-nonzero : goal.of-requires-clause-nonzero
of-requires-clause-nonzero c =
    let elements : All (λ e. e ≢ ops.zero) c.in-Ok.elements.items = nonzero c.in-Ok.elements.items c.in-Ok.ensures.elements in
    subst (λ (es : List Lane32). All (λ e. e ≢ ops.zero) es) (sym c.as_slice.ensures.value) elements

pub of-requires-clause-distinct : goal.of-requires-clause-distinct
of-requires-clause-distinct c =
    let distinct : AreDistinct c.in-Ok.elements.items = apart c.in-Ok.elements.items c.in-Ok.ensures.distinct in
    subst (λ (es : List Lane32). AreDistinct es) (sym c.as_slice.ensures.value) distinct

pub returns : goal.returns
returns c =
    let numbers = sketch_by-numbers ops bits_of 32 numbered c.in-Ok.elements.items c.args.capacity in
    let items : c.in-Ok-of.sketch ≡ sketch_by ops c.in-Ok.elements.items c.args.capacity = c.in-Ok-of.ensures.ok ∙ ap (λ es. sketch_by ops es c.args.capacity) c.as_slice.ensures.value in
    let sums : map bits_of c.in-Ok-of.sketch ≡ sketch_of (map bits_of c.in-Ok.elements.items) c.args.capacity = ap (map bits_of) items ∙ numbers in
    let answer : sketch_answer (map bits_of c.in-Ok-of.sketch) ≡ make_answer c.args.capacity (set_in c.args.input.now) = ap sketch_answer sums ∙ ap (make_answer c.args.capacity) (sym c.in-Ok.ensures.gives) in
    subst (λ (a : Answer). IfOk c.sketch_report.result (λ report. IsReportOf report a)) answer c.sketch_report.ensures
