use Rattle.std.proofs.Common.{sym, ◌∙◌}
use Rattle.id_list.specs.Entries.{ids_in}
use Rattle.relay_store.proofs.Counts.{listed_answered, counted_less, counted_same-absent, counted_same-unlisted}
use Rattle.relay_store.proofs.store.Store.drop_asked.Goals as goal

pub overflow_sub-self : goal.overflow_sub-self
overflow_sub-self c =
    let listed = listed_answered c.self.inside.asked c.args.id.now c.remove.result c.remove.ensures.gone ∙ sym c.is_some.ensures ∙ c.if-is_some.true in
    (counted_less c.self.inside.pool (ids_in c.self.inside.asked) c.self.inside.pooled c.args.id.now c.self.invariant (ids_in c.remove.new.self) c.remove.ensures.ids listed (sym c.contains.ensures ∙ c.if-contains.true)).0

pub invariant_of-self : goal.invariant_of-self
invariant_of-self c =
    let listed = listed_answered c.self.inside.asked c.args.id.now c.remove.result c.remove.ensures.gone ∙ sym c.is_some.ensures ∙ c.if-is_some.true in
    (counted_less c.self.inside.pool (ids_in c.self.inside.asked) c.self.inside.pooled c.args.id.now c.self.invariant (ids_in c.remove.new.self) c.remove.ensures.ids listed (sym c.contains.ensures ∙ c.if-contains.true)).1

pub invariant_of-self-else-contains : goal.invariant_of-self-else-contains
invariant_of-self-else-contains c =
    counted_same-absent c.self.inside.pool (ids_in c.self.inside.asked) c.self.inside.pooled c.args.id.now c.self.invariant (ids_in c.remove.new.self) c.remove.ensures.ids (sym c.contains.ensures ∙ c.if-contains.false)

pub invariant_of-self-else-is_some : goal.invariant_of-self-else-is_some
invariant_of-self-else-is_some c =
    counted_same-unlisted c.self.inside.pool (ids_in c.self.inside.asked) c.self.inside.pooled c.args.id.now c.self.invariant (ids_in c.remove.new.self) c.remove.ensures.ids
    (listed_answered c.self.inside.asked c.args.id.now c.remove.result c.remove.ensures.gone ∙ sym c.is_some.ensures ∙ c.if-is_some.false)
