use Rattle.std.proofs.Common.{get_or, take, refl, sym, ap, ◌∙◌}
use Rattle.std.proofs.lemmas.List.{take_more}
use Rattle.id_list.specs.Entries.{ids_in}
use Rattle.node_rules.specs.Inventory.{is_known, new_ids, wtxids_of}
use Rattle.relay_store.proofs.Entries.{no_entry}
use Rattle.relay_store.proofs.NewIds.{new_next, new_unlisted, new_stay}
use Rattle.relay_store.proofs.Rooms.{node_with}
use Rattle.relay_store.proofs.store.Store.unknown_ids.Goals as goal
use Rattle.relay_store.proofs.store.Store.unknown_ids.Goals.{then-is_new+in_ok-push, else-is_new}

pub loop-entry-init : goal.loop-entry-init
unfolding new_ids
loop-entry-init c = ap ids_in c.new-found.ensures

pub push-requires : goal.push-requires
push-requires c =
    let s = node_with c.args.self.now in
    new_unlisted (is_known s) (take c.loop-entry.entry-index c.args.entries.now) (get_or c.args.entries.now c.loop-entry.entry-index no_entry) (ids_in c.loop-entry.found) c.loop-entry.invariant (sym (c.is_new.ensures s refl) ∙ c.if-is_new.true)

pub loop-entry-preserved : goal.loop-entry-preserved
loop-entry-preserved c =
    let s = node_with c.args.self.now in
    let es = c.args.entries.now in
    let k = c.loop-entry.entry-index in
    let next = ap (λ es. new_ids (is_known s) (wtxids_of es)) (sym (take_more es k no_entry c.loop-entry-test.true)) in
    elim c.if-is_new.branch [
      | then-is_new+in_ok-push w ↦
          ap ids_in w.found-is
          ∙ w.in_ok-push.ensures.ids
          ∙ new_next (is_known s) (take k es) (get_or es k no_entry) (ids_in c.loop-entry.found) c.loop-entry.invariant (sym (c.is_new.ensures s refl) ∙ w.if-is_new.true)
          ∙ next
      | else-is_new w ↦
          ap ids_in w.found-is
          ∙ new_stay (is_known s) (take k es) (get_or es k no_entry) (ids_in c.loop-entry.found) c.loop-entry.invariant (sym (c.is_new.ensures s refl) ∙ w.if-is_new.false)
          ∙ next
    ]
