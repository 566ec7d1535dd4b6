use Rattle.std.proofs.Common.{sym, subst, arith}
use Rattle.relay_store.specs.Holdings.{AreHoldings}
use Rattle.relay_store.proofs.Counts.{length_ids}
use Rattle.relay_store.proofs.Rooms.{wants_most}
use Rattle.relay_store.proofs.store.Store.open_wants.Goals as goal

pub overflow_add-result : goal.overflow_add-result
overflow_add-result c =
    let most = wants_most _ c.self.inside.pooled (subst AreHoldings (sym c.self.view_is) c.requires) c.self.invariant in
    let wanted = length_ids c.self.inside.wanted in
    let asked = length_ids c.self.inside.asked in
    omega (arith, most, wanted, asked)
