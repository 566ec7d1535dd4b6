use Rattle.std.proofs.Common.{rules, ◌≡◌, ◌∷◌}
use Rattle.std.proofs.lemmas.Fn.{filter_same}
use Rattle.erlay_base.proofs.Entries.{has_other_name, others_put}
use Rattle.erlay_base.proofs.mem_shelf.put.Goals as goal

pub returns-clause-others : goal.returns-clause-others
returns-clause-others c =
    let kept = filter_same _ (has_other_name c.args.name.now) _ (λ x b q k. search rules) _ _ c.retain.ensures.filtered in
    let put : c.insert.new.self.items ≡ (c.in_ok-from_str.field-0, c.in_ok-to_vec.field-0) ∷ c.retain.new.self.items = search rules in
    rw put (others_put c.args.name.now (c.in_ok-from_str.field-0, c.in_ok-to_vec.field-0) c.args.held.now.items c.retain.new.self.items c.in_ok-from_str.ensures.ok (rw c.in_ok-reserve.ensures.items at kept))
