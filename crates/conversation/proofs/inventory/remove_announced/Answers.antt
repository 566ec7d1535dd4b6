use Rattle.std.proofs.Common.{not, filter, get_or, take, sym, ap, ◌∙◌}
use Rattle.pool_rules.specs.Pools.{is_listed}
use Rattle.pool_rules.specs.Snapshots.{Member, without_member}
use Rattle.node_rules.specs.Inventory.{wtxids_of}
use Rattle.recon_set.proofs.Listed.{without_ids-more, without_ids-none}
use Rattle.relay_store.proofs.Entries.{no_entry, wtxids_next, wtxids_stay}
use Rattle.conversation.proofs.inventory.remove_announced.Goals as goal
use Rattle.conversation.proofs.inventory.remove_announced.Goals.{then-entry-eq-WTXID_KIND, else-entry-eq-WTXID_KIND}

pub loop-entry-init : goal.loop-entry-init
loop-entry-init c = sym (without_ids-none c.args.set.now)

pub loop-entry-preserved : goal.loop-entry-preserved
loop-entry-preserved c =
    let es = c.args.entries.now in
    let k = c.loop-entry.entry-index in
    let set = c.args.set.now in
    elim c.if-entry-eq-WTXID_KIND.branch [
      | then-entry-eq-WTXID_KIND w ↦
          w.set-is
          ∙ w.remove.ensures.rest
          ∙ ap (λ ms. without_member ms (get_or es k no_entry).id) c.loop-entry.invariant
          ∙ without_ids-more set (wtxids_of (take k es)) (get_or es k no_entry).id
          ∙ ap (λ ids. filter (λ (m : Member). not (is_listed ids m.id)) set) (sym (wtxids_next es k c.loop-entry-test.true w.if-entry-eq-WTXID_KIND.true))
      | else-entry-eq-WTXID_KIND w ↦
          w.set-is
          ∙ c.loop-entry.invariant
          ∙ ap (λ ids. filter (λ (m : Member). not (is_listed ids m.id)) set) (sym (wtxids_stay es k c.loop-entry-test.true w.if-entry-eq-WTXID_KIND.false))
    ]
