use Rattle.std.proofs.Common.{◌≡◌, take}
use Rattle.outbox.specs.Waiting.{with_messages}
use Rattle.outbox.proofs.outbox.Outbox.push_all.Given as goal

abbrev pub invariant-loop-message : goal.invariant-loop-message
invariant-loop-message l = l.self ≡ with_messages l.fn.self (take l.message-index l.messages)
