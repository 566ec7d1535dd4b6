use Rattle.std.proofs.Common.{◌≡◌, map, length, sym, ap, ap₂, ◌∙◌}
use Rattle.std.proofs.lemmas.List.{length-map}
use Rattle.sketch_rules.specs.Sketches.{sketch_sum}
use Rattle.sketch_laws.proofs.Differences.{length-sketch_at}
use Rattle.pool_rules.specs.Snapshots.{snapshot_sketch, sketched_shorts}
use Rattle.node_rules.specs.State.{Round}
use Rattle.initiator.specs.Questions.{round_with}
use Rattle.initiator.proofs.machine.Initiator.difference.Goals as goal

pub merge_into-requires : goal.merge_into-requires
merge_into-requires g c =
    sym (length-map c.in-Ok.own g.F.Field.bits_of)
    ∙ ap length c.in-Ok.ensures.ok
    ∙ length-sketch_at 32 (sketched_shorts c.snapshot.result.now.members) c.capacity.result
    ∙ c.capacity.ensures.value

pub returns : goal.returns
returns g c =
    let r : Round = round_with c.args.self.now.machine c.args.set.now c.args.skdata.now in
    let peer : map g.F.Field.bits_of c.in_ok-sketch.sketch ≡ r.sums = c.in_ok-sketch.ensures c.args.set.now in
    let size : c.capacity.result ≡ length r.sums = c.capacity.ensures.value ∙ sym (length-map c.in_ok-sketch.sketch g.F.Field.bits_of) ∙ ap length peer in
    c.merge_into.ensures.numbers
    ∙ ap₂ sketch_sum peer (c.in-Ok.ensures.ok ∙ ap₂ snapshot_sketch (c.snapshot.ensures c.args.skdata.now c.requires.awaited) size)
