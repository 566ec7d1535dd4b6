use Rattle.std.proofs.Common.{◌≡◌, List, [], ◌∷◌, ◌++◌, length, reverse, sym, ap, subst, ◌∙◌, arith}
use Rattle.std.specs.List.Sorted.{IsPermutation}
use Rattle.std.proofs.lemmas.List.Sorted.{IsPermutation-refl}
use Rattle.poly_rules.specs.Polynomials.{IsMonic}
use Rattle.recurrence_laws.proofs.Monic.{monic_form}
use Rattle.splitting_laws.proofs.Alike.{alike_first}
use Rattle.sequence_laws.specs.Parts.{IsPart}
use Rattle.sequence_laws.proofs.Steps.{whole_part}
use Rattle.trace_roots.proofs.Parting.{degree_of_set}
use Rattle.trace_roots.proofs.Whole.{no_items}
use Rattle.trace_roots.proofs.splitting.candidates.Goals as goal

pub returns-then-n-eq0-clause-members : goal.returns-then-n-eq0-clause-members
returns-then-n-eq0-clause-members g c es differ is =
    let monic : IsMonic g.F.Field.ops (length c.args.locator.now) (reverse (g.F.Field.ops.one ∷ c.args.locator.now)) = monic_form g.F.Field.ops g.met.F.Field.ring c.args.locator.now in
    let none : es ≡ [] = no_items es (omega (arith, degree_of_set g.F.Field.ops g.met.F.Field.ring (reverse (g.F.Field.ops.one ∷ c.args.locator.now)) es is, monic.size, c.length-n.ensures, c.if-n-eq0.true)) in
    subst (IsPermutation es) (none ∙ sym c.in_ok-found.ensures.items) (IsPermutation-refl es)

pub returns-then-branch-clause-members : goal.returns-then-branch-clause-members
returns-then-branch-clause-members g c es differ is =
    let whole : (u : _ → _) × IsPart g.F.Field.ops g.F.Field.bits_of g.F.Field.BITS 0 u es c.in_ok-monic.field-0 [] =
    whole_part g.F.Field.ops g.met.F.Field.ring g.F.Field.bits_of g.F.Field.BITS g.met.F.Field.field g.met.F.Field.numbered 0 es c.in_ok-monic.field-0 differ (c.in_ok-monic.ensures.value ∙ is) in
    let members : (ms : List _) × IsPermutation es ms × (c.find_members.new.found.items ≡ c.in_ok-found.found.items ++ ms) =
    c.in_ok-find_members.ensures.members whole.0 es
    (subst (IsPart g.F.Field.ops g.F.Field.bits_of g.F.Field.BITS 0 whole.0 es c.in_ok-monic.field-0) (sym c.new.ensures.items) whole.1) (alike_first g.F.Field.ops g.F.Field.bits_of g.F.Field.BITS es) in
    subst (IsPermutation es) (sym (members.2 ∙ ap (λ z. z ++ members.0) c.in_ok-found.ensures.items)) members.1

pub returns-else-branch-clause-found : goal.returns-else-branch-clause-found
returns-else-branch-clause-found g c es differ is =
    let whole : (u : _ → _) × IsPart g.F.Field.ops g.F.Field.bits_of g.F.Field.BITS 0 u es c.in_ok-monic.field-0 [] =
    whole_part g.F.Field.ops g.met.F.Field.ring g.F.Field.bits_of g.F.Field.BITS g.met.F.Field.field g.met.F.Field.numbered 0 es c.in_ok-monic.field-0 differ (c.in_ok-monic.ensures.value ∙ is) in
    sym c.if-branch.false ∙ c.in_ok-find_members.ensures.all whole.0 es
    (subst (IsPart g.F.Field.ops g.F.Field.bits_of g.F.Field.BITS 0 whole.0 es c.in_ok-monic.field-0) (sym c.new.ensures.items) whole.1) (alike_first g.F.Field.ops g.F.Field.bits_of g.F.Field.BITS es)
