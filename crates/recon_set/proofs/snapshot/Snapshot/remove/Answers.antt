use Rattle.std.proofs.Common.{◌≡◌, map, length, drop, sym, ap, ◌∙◌, arith}
use Rattle.std.specs.Option.{is_some}
use Rattle.sketch_rules.specs.declared.limits.TheConstants.{MAX_CAPACITY}
use Rattle.sketch_core.proofs.Both.{written_back}
use Rattle.pool_rules.specs.Pools.{is_listed}
use Rattle.pool_rules.specs.Snapshots.{ids_of, without_member}
use Rattle.recon_set.proofs.Changes.{is_change-without, without_none}
use Rattle.recon_set.proofs.Listed.{listed_found}
use Rattle.recon_set.proofs.snapshot.Snapshot.remove.Goals as goal

pub returns-in_default-clause-there : goal.returns-in_default-clause-there
returns-in_default-clause-there g c =
    let out = listed_found c.self.inside.members c.args.id.now ∙ ap is_some (sym c.in_default.ensures.value) in
    sym out ∙ ap (λ s. is_listed (ids_of s.members) c.args.id.now) c.self.view_is

pub returns-in_default-clause-rest : goal.returns-in_default-clause-rest
returns-in_default-clause-rest g c =
    let out = listed_found c.self.inside.members c.args.id.now ∙ ap is_some (sym c.in_default.ensures.value) in
    ap (λ s. s.members) (sym c.self.view_is)
    ∙ sym (without_none c.self.inside.members c.args.id.now out)
    ∙ ap (λ s. without_member s.members c.args.id.now) c.self.view_is

pub invariant_of-self : goal.invariant_of-self
invariant_of-self g c =
    let size = c.update.ensures.length ∙ ap length c.as_mut_slice.ensures.value in
    let long : c.self.inside.sums.len ≡ length c.update.new.sums = omega arith in
    let back = written_back c.self.inside.sums.len c.update.new.sums (drop (length c.update.new.sums) c.self.inside.sums.items) long in
    let change = is_change-without c.self.inside.members c.remove.new.self c.args.id.now c.in-Some.short c.remove.ensures.rest c.in-Some.ensures.set (sym c.in-Some.ensures.value) in
    record {
      width_is = c.self.invariant.width_is;
      sketched = λ lt.
          ap (map g.F.Field.bits_of) back
          ∙ c.update.ensures.changed c.self.inside.members c.remove.new.self MAX_CAPACITY c.is_single-was_single.ensures.elements c.is_single-is_single.ensures.elements change c.is_single-was_single.ensures.value
          c.is_single-is_single.ensures.value (ap (map g.F.Field.bits_of) c.as_mut_slice.ensures.value ∙ c.self.invariant.sketched (omega (arith, ap length back)));
    }

pub returns-clause-there : goal.returns-clause-there
returns-clause-there g c =
    let there = listed_found c.self.inside.members c.args.id.now ∙ ap is_some (sym c.in-Some.ensures.value) in
    sym there ∙ ap (λ s. is_listed (ids_of s.members) c.args.id.now) c.self.view_is
