use Rattle.std.proofs.Common.{◌≡◌, take}
use Rattle.conversation.specs.Inventories.{missing_in, view_serving}
use Rattle.conversation.proofs.conversation.Conversation.serve_all.Given as goal

-- the entries so far are served
abbrev pub invariant-loop-entry : goal.invariant-loop-entry
invariant-loop-entry l = record {
  served : l.self ≡ view_serving l.fn.self (take l.entry-index l.entries);
  missing : l.missing.items ≡ missing_in l.fn.self.state (take l.entry-index l.entries);
}
