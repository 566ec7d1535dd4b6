use Rattle.std.proofs.Common.{◌≡◌, ◌++◌, take}
use Rattle.relay_store.specs.Holdings.{with_asked}
use Rattle.relay_store.proofs.store.Store.ask.Given as goal

-- the ids so far are asked for
abbrev pub invariant-loop-id : goal.invariant-loop-id
invariant-loop-id l = l.self ≡ with_asked l.fn.self (l.fn.self.wants.asked ++ take l.id-index l.ids)
