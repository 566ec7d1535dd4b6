use Rattle.std.proofs.Common.{◌<◌, ◌-◌, sym, ap, subst, ◌∙◌}
use Rattle.std.specs.Int.Bits.{bit_xor}
use Rattle.recon_set.specs.declared.members.Group.{Group}
use Rattle.recon_set.proofs.Kept.{taken-last, taken-more, same_group}
use Rattle.recon_set.proofs.members.take_place.Goals as goal

pub returns-then-group-eq1 : goal.returns-then-group-eq1
returns-then-group-eq1 c = λ g has s.
    taken-last c.args.groups.now c.remove.new.self c.args.short c.args.place c.in-Some.group g (c.in-Some.ensures ∙ c.get.ensures.value) c.if-group-eq1.true has c.remove.ensures.updates.0 s

pub returns-in-Some-get_mut : goal.returns-in-Some-get_mut
returns-in-Some-get_mut c = λ g has s.
    let kept = c.in-Some-get_mut.kept.now in
    let same = same_group c.requires.0 kept (sym c.requires.1 ∙ sym c.in-Some-get_mut.ensures.value) in
    let count = ap (λ (z : Group). z.count) same in
    taken-more c.args.groups.now (c.get_mut.follows.lender (record { count = kept.count - 1; places = bit_xor kept.places c.args.place })) c.args.short c.args.place c.in-Some.group kept g (c.in-Some.ensures ∙ c.get.ensures.value) c.if-group-eq1.false c.in-Some-get_mut.ensures.value (subst (λ n. 0 < n) count c.requires.2) has
    (c.get_mut.follows.holds (record { count = kept.count - 1; places = bit_xor kept.places c.args.place })) s
