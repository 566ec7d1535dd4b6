use Rattle.std.proofs.Common.{rules}
use Rattle.std.proofs.lemmas.List.{drop-take}
use Rattle.outbox.proofs.outbox.Outbox.truncate.Goals as goal

pub returns : goal.returns
returns c =
    let kept = drop-take c.self.inside.sent c.args.len c.self.inside.bytes.items in
    search rules
