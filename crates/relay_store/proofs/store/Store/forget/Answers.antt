use Rattle.std.proofs.Common.{get_or, take, sym, ap, ◌∙◌}
use Rattle.pool_rules.specs.Pools.{without_id}
use Rattle.node_rules.specs.Inventory.{wtxids_of}
use Rattle.relay_store.specs.Holdings.{with_asked}
use Rattle.relay_store.proofs.Entries.{no_entry, without_ids, without_ids_none, without_ids_more, wtxids_next, wtxids_stay}
use Rattle.relay_store.proofs.store.Store.forget.Goals as goal
use Rattle.relay_store.proofs.store.Store.forget.Goals.{then-entry-eq-WTXID_KIND, else-entry-eq-WTXID_KIND}

pub loop-entry-init : goal.loop-entry-init
loop-entry-init c = ap (with_asked c.args.self.now) (sym (without_ids_none c.args.self.now.wants.asked))

pub loop-entry-preserved : goal.loop-entry-preserved
loop-entry-preserved c =
    let es = c.args.entries.now in
    let k = c.loop-entry.entry-index in
    let asked = c.args.self.now.wants.asked in
    elim c.if-entry-eq-WTXID_KIND.branch [
      | then-entry-eq-WTXID_KIND w ↦
          w.self-is
          ∙ w.drop_asked.ensures
          ∙ ap (λ h. with_asked h (without_id h.wants.asked (get_or es k no_entry).id)) c.loop-entry.invariant
          ∙ ap (with_asked c.args.self.now) (without_ids_more asked (wtxids_of (take k es)) (get_or es k no_entry).id ∙ ap (without_ids asked) (sym (wtxids_next es k c.loop-entry-test.true w.if-entry-eq-WTXID_KIND.true)))
      | else-entry-eq-WTXID_KIND w ↦
          w.self-is
          ∙ c.loop-entry.invariant
          ∙ ap (λ ids. with_asked c.args.self.now (without_ids asked ids)) (sym (wtxids_stay es k c.loop-entry-test.true w.if-entry-eq-WTXID_KIND.false))
    ]
