use Rattle.std.proofs.Common.{◌<◌, ◌≤◌, map, length, take, sym, ap, subst, ◌∙◌, arith}
use Rattle.std.proofs.lemmas.List.{length-take-le}
use Rattle.sketch_rules.specs.declared.limits.TheConstants.{MAX_CAPACITY}
use Rattle.pool_rules.specs.Snapshots.{snapshot_sketch, sketched_shorts}
use Rattle.recon_set.proofs.Changes.{element_shorts}
use Rattle.recon_set.proofs.Starts.{positive, sums_cut, sums_length}
use Rattle.recon_set.proofs.snapshot.Snapshot.sketch.Goals as goal

pub sketch_of_shorts-requires-clause-elements : goal.sketch_of_shorts-requires-clause-elements
sketch_of_shorts-requires-clause-elements g c =
    element_shorts c.self.inside.members c.as_slice.result.now (c.as_slice.ensures ∙ c.in-Ok.ensures.value) c.in-Ok.ensures.elements

pub slice_bounds-from_slice-end : goal.slice_bounds-from_slice-end
slice_bounds-from_slice-end g c =
    let size = sym (ap length c.as_slice-2.ensures.value) ∙ c.as_slice-2.ensures.len in
    let some = subst (λ n. 0 < n) (sym size) (positive _ (sym c.is_empty.ensures ∙ c.if-is_empty.false)) in
    let full = sums_length g.F.Field.bits_of c.self.inside.sums.items (sketched_shorts c.self.inside.members) MAX_CAPACITY (c.self.invariant.sketched some) in
    let count = ap length c.as_slice-2.ensures.value ∙ full in
    sym (length-take-le c.args.capacity c.as_slice-2.result.now (omega arith))

pub returns-clause-ok : goal.returns-clause-ok
returns-clause-ok g c =
    let size = sym (ap length c.as_slice-2.ensures.value) ∙ c.as_slice-2.ensures.len in
    let some = subst (λ n. 0 < n) (sym size) (positive _ (sym c.is_empty.ensures ∙ c.if-is_empty.false)) in
    let enough : c.args.capacity ≤ MAX_CAPACITY = omega arith in
    let cut = c.from_sums.ensures ∙ c.in_ok-sums.ensures.items ∙ ap (take c.args.capacity) c.as_slice-2.ensures.value in
    ap (map g.F.Field.bits_of) cut
    ∙ sums_cut g.F.Field.bits_of c.self.inside.sums.items (sketched_shorts c.self.inside.members) MAX_CAPACITY c.args.capacity enough (c.self.invariant.sketched some)
    ∙ ap (λ s. snapshot_sketch s.members c.args.capacity) c.self.view_is
