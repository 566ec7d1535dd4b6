use Rattle.std.proofs.Common.{map, refl, sym, ap, ◌∙◌}
use Rattle.sketch_rules.specs.declared.limits.TheConstants.{MAX_CAPACITY}
use Rattle.pool_rules.specs.Snapshots.{snapshot_sketch}
use Rattle.recon_set.proofs.Starts.{zeros_are}
use Rattle.recon_set.proofs.snapshot.Snapshot.summed.Goals as goal

pub invariant_of-result : goal.invariant_of-result
invariant_of-result g c = record {
  width_is = c.requires;
  sketched = λ lt.
      ap (map g.F.Field.bits_of) c.in_ok-zeros.ensures
      ∙ zeros_are g.F.Field.ops g.F.Field.bits_of g.F.Field.BITS g.met.F.Field.numbered c.requires MAX_CAPACITY g.F.Field.ops.zero refl
      ∙ ap (λ ms. snapshot_sketch ms MAX_CAPACITY) (sym c.new.ensures);
}
