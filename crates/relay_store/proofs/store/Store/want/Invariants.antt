use Rattle.std.proofs.Common.{◌≡◌, ◌++◌, take}
use Rattle.relay_store.specs.Holdings.{with_wanted}
use Rattle.relay_store.proofs.store.Store.want.Given as goal

-- the ids so far are wanted
abbrev pub invariant-loop-id : goal.invariant-loop-id
invariant-loop-id l = l.self ≡ with_wanted l.fn.self (l.fn.self.wants.wanted ++ take l.id-index l.ids)
