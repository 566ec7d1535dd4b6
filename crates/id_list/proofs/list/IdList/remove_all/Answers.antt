use Rattle.std.proofs.Common.{[], take, get_or, sym, ap, ◌∙◌}
use Rattle.std.proofs.lemmas.List.{take_more}
use Rattle.id_list.specs.Entries.{without_entry, without_entries}
use Rattle.id_list.proofs.Found.{without_entries-none, without_entries-more}
use Rattle.id_list.proofs.list.IdList.remove_all.Goals as goal

pub loop-id-init : goal.loop-id-init
loop-id-init g c = sym (without_entries-none c.args.self.now)

pub loop-id-preserved : goal.loop-id-preserved
loop-id-preserved g c =
    let id = get_or c.args.ids.now c.loop-id.id-index (record { 0 = [] }) in
    c.remove.ensures.rest
    ∙ ap (λ es. without_entry es id) c.loop-id.invariant
    ∙ without_entries-more c.args.self.now (take c.loop-id.id-index c.args.ids.now) id
    ∙ ap (without_entries c.args.self.now) (sym (take_more c.args.ids.now c.loop-id.id-index (record { 0 = [] }) c.loop-id-test.true))
