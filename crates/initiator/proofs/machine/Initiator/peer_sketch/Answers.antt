use Rattle.std.proofs.Common.{◌≡◌, ◌++◌, List, map, length, refl, sym, ap, ap₂, ◌∙◌, subst, arith}
use Rattle.std.proofs.lemmas.List.{take_all, map-append, length-map}
use Rattle.std.proofs.lemmas.Result.{IfOk-weaker}
use Rattle.sketch_laws.proofs.Bytes.{length-sums_in}
use Rattle.pool_rules.specs.Snapshots.{Member}
use Rattle.initiator.specs.Questions.{round_with}
use Rattle.node_rules.specs.State.{Round}
use Rattle.initiator.specs.Stages.{IsStage}
use Rattle.initiator.proofs.Stages.{at_view, fresh_round, extension_len, extending_round, pending_few, sums_few}
use Rattle.initiator.proofs.machine.Initiator.peer_sketch.Goals as goal

pub join-requires : goal.join-requires
join-requires g c =
    let p = c.in-Extending.round in
    let bits = g.F.Field.bits_of in
    let few = pending_few p.capacity p.extensions (length p.sketch) (subst IsStage c.in-Extending.is c.self.invariant.2) in
    let long = extension_len g.F.Field.bits_of c.args.self.now.machine c.self.inside.stage (at_view g.F.Field.bits_of c.self.inside.stage _ c.args.self.now c.self.view_is refl refl) c.self.invariant.2 (length c.args.skdata.now) c.requires.awaited p c.in-Extending.is in
    let kept = ap length (c.in_ok-sketch-in-Extending.ensures.ok ∙ take_all c.capacity.result p.sketch (omega (arith, c.capacity.ensures.value))) in
    let more = ap length c.sums.ensures ∙ sym (length-map c.in-Ok.more bits) ∙ ap length c.in-Ok.ensures.sums in
    sums_few (length p.sketch) (length c.args.skdata.now) _ _ _ few long kept more (length-sums_in c.args.skdata.now)

pub returns-in_ok-sketch-in-Extending : goal.returns-in_ok-sketch-in-Extending
returns-in_ok-sketch-in-Extending g c =
    let p = c.in-Extending.round in
    let bits = g.F.Field.bits_of in
    let kept = c.in_ok-sketch-in-Extending.ensures.ok ∙ take_all c.capacity.result p.sketch (omega (arith, c.capacity.ensures.value)) in
    IfOk-weaker c.join.result (λ s. s ≡ c.in_ok-sketch-in-Extending.sketch ++ c.sums.result.now) (λ s. (set : List Member) → map bits s ≡ (round_with c.args.self.now.machine set c.args.skdata.now).sums)
    (λ s e set.
    ap (map bits) e
    ∙ map-append bits c.in_ok-sketch-in-Extending.sketch c.sums.result.now
    ∙ ap₂ (λ xs ys. xs ++ ys) (ap (map bits) kept) (ap (map bits) c.sums.ensures ∙ c.in-Ok.ensures.sums)
    ∙ sym (ap (λ (r : Round). r.sums) (extending_round g.F.Field.bits_of c.args.self.now.machine c.self.inside.stage (at_view g.F.Field.bits_of c.self.inside.stage _ c.args.self.now c.self.view_is refl refl) c.self.invariant.2 (length c.args.skdata.now) c.requires.awaited p c.in-Extending.is set c.args.skdata.now)))
    c.join.ensures.ok

pub returns-in_default-stage : goal.returns-in_default-stage
returns-in_default-stage g c =
    λ set. c.in-Ok.ensures.sums ∙ sym (ap (λ (r : Round). r.sums) (fresh_round g.F.Field.bits_of c.args.self.now.machine c.self.inside.stage (at_view g.F.Field.bits_of c.self.inside.stage _ c.args.self.now c.self.view_is refl refl) c.self.invariant.2 (length c.args.skdata.now) c.requires.awaited c.in_default-stage.not-Extending set c.args.skdata.now))
