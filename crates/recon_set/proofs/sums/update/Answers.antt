use Rattle.std.proofs.Common.{◌≡◌, not, Bool, true, false, map, refl, sym, ap, ◌∙◌}
use Rattle.std.proofs.Math.Bool.{beq}
use Rattle.sketch_rules.specs.Sketches.{sketch_of}
use Rattle.recon_set.proofs.Changes.{toggled, settled}
use Rattle.recon_set.proofs.sums.update.Goals as goal

differ : (a b : Bool) → not (beq a b) ≡ true → a ≡ not b
differ true true h = cc
differ true false h = refl
differ false true h = refl
differ false false h = cc

agree : (a b : Bool) → not (beq a b) ≡ false → a ≡ b
agree true true h = refl
agree true false h = cc
agree false true h = cc
agree false false h = refl

pub returns-then-was_single-is_single-clause-changed : goal.returns-then-was_single-is_single-clause-changed
returns-then-was_single-is_single-clause-changed g c = λ xs ys count hx hy h was is are.
    let flips : c.args.was_single ≡ not c.args.is_single = differ c.args.was_single c.args.is_single c.if-was_single-is_single.true in
    ap (map g.F.Field.bits_of) c.odd_powers_into.ensures
    ∙ toggled g.F.Field.ops g.F.Field.bits_of g.F.Field.BITS g.met.F.Field.ring g.met.F.Field.numbered c.requires c.from_bits.result c.args.short (c.from_bits.ensures ∙ c.from.ensures) xs ys count hx hy h (sym was ∙ flips ∙ ap not is) c.args.sums.now are

pub returns-else-was_single-is_single-clause-changed : goal.returns-else-was_single-is_single-clause-changed
returns-else-was_single-is_single-clause-changed g c = λ xs ys count hx hy h was is are.
    let stays : c.args.was_single ≡ c.args.is_single = agree c.args.was_single c.args.is_single c.if-was_single-is_single.false in
    are ∙ ap (λ ns. sketch_of ns count) (settled c.args.short xs ys h (sym was ∙ stays ∙ is))
