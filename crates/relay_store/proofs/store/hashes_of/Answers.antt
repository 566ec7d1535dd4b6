use Rattle.std.proofs.Common.{◌++◌, map, ap, ◌∙◌}
use Rattle.relay_store.proofs.Changes.{values_ids}
use Rattle.relay_store.proofs.store.hashes_of.Goals as goal

pub loop-entry-init : goal.loop-entry-init
loop-entry-init c =
    ap (λ ids. ids ++ map (λ e. e.id) c.into_iter-entry-iterator.result) c.in_ok-ids.ensures.items
    ∙ ap (map (λ e. e.id)) (c.into_iter-entry-iterator.ensures.into_iter_gives ∙ c.iter-entry-items.ensures.rest)
    ∙ values_ids c.args.list.now
