use Rattle.std.proofs.Common.{ap, ◌∙◌, arith}
use Rattle.std.proofs.lemmas.Result.{IfOk-weaker}
use Rattle.sketch_rules.specs.Sketches.{bytes_of}
use Rattle.pool_rules.specs.Snapshots.{sketched_shorts}
use Rattle.responder.proofs.Portions.{sums_length, sums_behind}
use Rattle.responder.proofs.round.portion.Goals as goal

pub offset_bounds-sums-from : goal.offset_bounds-sums-from
offset_bounds-sums-from g c =
    let size = sums_length g.F.Field.bits_of c.sums.result.now c.in-Ok.sketch (sketched_shorts c.args.snapshot.now.members) c.args.from c.args.count c.sums.ensures c.in-Ok.ensures.ok in
    omega arith

pub slice_bounds-to_bytes-end : goal.slice_bounds-to_bytes-end
slice_bounds-to_bytes-end g c =
    let size = sums_length g.F.Field.bits_of c.sums.result.now c.in-Ok.sketch (sketched_shorts c.args.snapshot.now.members) c.args.from c.args.count c.sums.ensures c.in-Ok.ensures.ok in
    omega arith

pub returns : goal.returns
returns g c =
    let behind = sums_behind g.F.Field.bits_of c.sums.result.now c.in-Ok.sketch (sketched_shorts c.args.snapshot.now.members) c.args.from c.args.count c.sums.ensures c.in-Ok.ensures.ok in
    IfOk-weaker c.to_bytes.result _ _ (λ bytes is. is ∙ ap bytes_of behind) c.to_bytes.ensures
