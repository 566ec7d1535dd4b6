use Rattle.std.proofs.Common.{◌≡◌, map, sym, ap, subst, ◌∙◌}
use Rattle.std.specs.Prelude.{IsSome}
use Rattle.std.specs.List.Sorted.{IsPermutation}
use Rattle.sketch_rules.specs.Answers.{Answer}
use Rattle.sketch_laws.proofs.Unique.{answer_at-is}
use Rattle.trace_roots.proofs.Found.{at_some, never}
use Rattle.trace_roots.proofs.Whole.{HasSums, no_answer, sorted_by_bits, set_of_answer, locator_of_set, found_is_set}
use Rattle.trace_roots.proofs.splitting.split.Goals as goal

pub returns-in_default : goal.returns-in_default
returns-in_default g c m all =
    sym (no_answer g.F.Field.BITS (map g.F.Field.bits_of m)
    (λ ns answer.
    let sums : HasSums g.F.Field.ops g.F.Field.bits_of c.args.sums.now ns = set_of_answer g.F.Field.ops g.met.F.Field.ring g.F.Field.bits_of g.F.Field.BITS g.met.F.Field.field g.met.F.Field.numbered m c.args.sums.now ns all answer in
    never (subst IsSome c.in_default.is (c.in_ok-members.ensures.found sums.members sums.set.distinct
    (locator_of_set g.F.Field.ops g.met.F.Field.ring g.F.Field.bits_of g.F.Field.BITS g.met.F.Field.field g.met.F.Field.numbered sums.members c.args.sums.now c.args.locator.now sums.set sums.few sums.sums c.requires.shortest).1))))

pub returns-then-branch : goal.returns-then-branch
returns-then-branch g c m all =
    sym (answer_at-is g.F.Field.ops g.F.Field.bits_of g.F.Field.BITS g.met.F.Field.ring g.met.F.Field.field g.met.F.Field.numbered (map g.F.Field.bits_of m) (map g.F.Field.bits_of c.sort.new.self.items)
    (subst (λ z. Answer g.F.Field.BITS (map g.F.Field.bits_of m) (map g.F.Field.bits_of z)) c.as_slice.ensures.value (c.in_ok-is_answer.ensures.sound m all c.if-branch.true)))

pub returns-else-branch : goal.returns-else-branch
returns-else-branch g c m all =
    sym (no_answer g.F.Field.BITS (map g.F.Field.bits_of m)
    (λ ns answer.
    let sums : HasSums g.F.Field.ops g.F.Field.bits_of c.args.sums.now ns = set_of_answer g.F.Field.ops g.met.F.Field.ring g.F.Field.bits_of g.F.Field.BITS g.met.F.Field.field g.met.F.Field.numbered m c.args.sums.now ns all answer in
    let found : IsPermutation sums.members c.in-Some.members.items =
    at_some (λ v. IsPermutation sums.members v.items) c.in-Some.is (c.in_ok-members.ensures.members sums.members sums.set.distinct
    (locator_of_set g.F.Field.ops g.met.F.Field.ring g.F.Field.bits_of g.F.Field.BITS g.met.F.Field.field g.met.F.Field.numbered sums.members c.args.sums.now c.args.locator.now sums.set sums.few sums.sums c.requires.shortest).1) in
    let same : sums.members ≡ c.as_slice.result.now =
    found_is_set g.F.Field.ops g.met.F.Field.ring g.F.Field.bits_of g.F.Field.BITS g.met.F.Field.field g.met.F.Field.numbered sums.members c.in-Some.members.items c.sort.new.self.items sums.ascending found c.sort.ensures.permutation
    (sorted_by_bits g.F.Field.bits_of g.F.Ord.cmp g.met.F.Field.ordered c.sort.new.self.items c.in_ok-sort.ensures.sorted) ∙ sym c.as_slice.ensures.value in
    never (sym c.if-branch.false ∙ c.in_ok-is_answer.ensures.complete m all
    (subst (Answer g.F.Field.BITS (map g.F.Field.bits_of m)) (sym sums.numbers ∙ ap (map g.F.Field.bits_of) same) answer))))
