use Rattle.std.proofs.Common.{[], filter, not, take, get_or, sym, ap, ◌∙◌}
use Rattle.std.proofs.lemmas.List.{take_more}
use Rattle.pool_rules.specs.Pools.{is_listed}
use Rattle.pool_rules.specs.Snapshots.{without_member}
use Rattle.recon_set.proofs.Listed.{without_ids-none, without_ids-more}
use Rattle.recon_set.proofs.set.ReconSet.remove_all.Goals as goal

pub loop-id-init : goal.loop-id-init
loop-id-init g c = sym (without_ids-none c.args.self.now)

pub loop-id-preserved : goal.loop-id-preserved
loop-id-preserved g c =
    let id = get_or c.args.ids.now c.loop-id.id-index (record { 0 = [] }) in
    c.remove.ensures.rest
    ∙ ap (λ ms. without_member ms id) c.loop-id.invariant
    ∙ without_ids-more c.args.self.now (take c.loop-id.id-index c.args.ids.now) id
    ∙ ap (λ ids. filter (λ m. not (is_listed ids m.id)) c.args.self.now) (sym (take_more c.args.ids.now c.loop-id.id-index (record { 0 = [] }) c.loop-id-test.true))
