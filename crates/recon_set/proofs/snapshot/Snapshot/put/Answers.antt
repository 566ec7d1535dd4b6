use Rattle.std.proofs.Common.{◌≡◌, map, length, drop, ap, ◌∙◌, arith}
use Rattle.sketch_rules.specs.declared.limits.TheConstants.{MAX_CAPACITY}
use Rattle.sketch_core.proofs.Both.{written_back}
use Rattle.recon_set.proofs.Changes.{is_change-push}
use Rattle.recon_set.proofs.snapshot.Snapshot.put.Goals as goal

pub invariant_of-self-2 : goal.invariant_of-self-2
invariant_of-self-2 g c =
    let size = c.update.ensures.length ∙ ap length c.as_mut_slice.ensures.value in
    let long : c.self.inside.sums.len ≡ length c.update.new.sums = omega arith in
    let back = written_back c.self.inside.sums.len c.update.new.sums (drop (length c.update.new.sums) c.self.inside.sums.items) long in
    let change = is_change-push c.self.inside.members c.push.new.self (record { id = c.args.id; short = c.args.short }) c.in_ok-push.ensures.ok in
    record {
      width_is = c.self.invariant.width_is;
      sketched = λ lt.
          ap (map g.F.Field.bits_of) back
          ∙ c.update.ensures.changed c.self.inside.members c.push.new.self MAX_CAPACITY c.is_single-was_single.ensures.elements c.is_single-is_single.ensures.elements change c.is_single-was_single.ensures.value
          c.is_single-is_single.ensures.value (ap (map g.F.Field.bits_of) c.as_mut_slice.ensures.value ∙ c.self.invariant.sketched (omega (arith, ap length back)));
    }
