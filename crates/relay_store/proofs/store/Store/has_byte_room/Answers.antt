use Rattle.std.proofs.Common.{◌≤◌, sym, subst, ap, ◌∙◌, nat_le, length, ◌+◌}
use Rattle.pool_rules.specs.Pools.{has_byte_room}
use Rattle.pool_rules.specs.declared.limits.TheConstants.{POOL_BYTES}
use Rattle.relay_store.specs.Holdings.{AreHoldings}
use Rattle.relay_store.proofs.Rooms.{bytes_most, nat_le-minus}
use Rattle.relay_store.proofs.store.Store.has_byte_room.Goals as goal

pub overflow_sub-result : goal.overflow_sub-result
overflow_sub-result c =
    subst (λ n. n ≤ POOL_BYTES) (sym c.byte_len.ensures) (bytes_most _ (subst AreHoldings (sym c.self.view_is) c.requires))

pub returns : goal.returns
returns c =
    nat_le-minus (length c.args.tx.now) c.byte_len.result POOL_BYTES (overflow_sub-result c)
    ∙ ap (λ n. nat_le (n + length c.args.tx.now) POOL_BYTES) c.byte_len.ensures
    ∙ ap (λ h. has_byte_room h.pool c.args.tx.now) c.self.view_is
