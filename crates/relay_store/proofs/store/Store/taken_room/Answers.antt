use Rattle.std.proofs.Common.{sym, subst, ◌∙◌, arith}
use Rattle.id_list.specs.Entries.{ids_in}
use Rattle.relay_store.specs.Holdings.{AreHoldings}
use Rattle.relay_store.proofs.Counts.{length_ids, counted_within}
use Rattle.relay_store.proofs.Rooms.{taken_is, taken_most}
use Rattle.relay_store.proofs.store.Store.taken_room.Goals as goal

pub overflow_add-result : goal.overflow_add-result
overflow_add-result c =
    let most = taken_most _ c.self.inside.pooled (subst AreHoldings (sym c.self.view_is) c.requires) c.self.invariant in
    let wanted = length_ids c.self.inside.wanted in
    let asked = length_ids c.self.inside.asked in
    omega (arith, most, wanted, asked)

pub overflow_sub-result : goal.overflow_sub-result
overflow_sub-result c =
    let few = (counted_within c.self.inside.pool (ids_in c.self.inside.asked) c.self.inside.pooled c.self.invariant).0 in
    let wanted = length_ids c.self.inside.wanted in
    let asked = length_ids c.self.inside.asked in
    omega (arith, few, wanted, asked)

pub overflow_add-result-2 : goal.overflow_add-result-2
overflow_add-result-2 c =
    let most = taken_most _ c.self.inside.pooled (subst AreHoldings (sym c.self.view_is) c.requires) c.self.invariant in
    let wanted = length_ids c.self.inside.wanted in
    let asked = length_ids c.self.inside.asked in
    omega (arith, most, wanted, asked)

pub returns-clause-value : goal.returns-clause-value
returns-clause-value c = λ s e.
    let is = taken_is _ c.self.inside.pooled (subst AreHoldings (sym c.self.view_is) c.requires) c.self.invariant s (e ∙ sym c.self.view_is) in
    let wanted = length_ids c.self.inside.wanted in
    let asked = length_ids c.self.inside.asked in
    omega (arith, is, wanted, asked)

pub returns-clause-most : goal.returns-clause-most
returns-clause-most c =
    let most = taken_most _ c.self.inside.pooled (subst AreHoldings (sym c.self.view_is) c.requires) c.self.invariant in
    let wanted = length_ids c.self.inside.wanted in
    let asked = length_ids c.self.inside.asked in
    omega (arith, most, wanted, asked)
