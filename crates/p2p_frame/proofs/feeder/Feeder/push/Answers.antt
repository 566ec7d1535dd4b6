use Rattle.std.proofs.Common.{◌≡◌, is_ok, if◌then◌else◌, rules}
use Rattle.p2p_frame.specs.Feeding.{feed_with}
use Rattle.p2p_frame.specs.contracts.feeder.Feeder.{the_view}
use Rattle.p2p_frame.proofs.Fed.{fed-taken}
use Rattle.p2p_frame.proofs.feeder.Feeder.push.Goals as goal

pub returns-clause-fed : goal.returns-clause-fed
returns-clause-fed c bytes frames fed =
    let new = the_view (record { magic = c.self.inside.magic; bytes = c.append.new.bytes; skipped = c.append.new.skipped; place = c.self.inside.place; stop = c.self.inside.stop }) in
    let e : new ≡ (if is_ok c.append.result then feed_with c.args.self.now c.args.piece.now else c.args.self.now) = search rules in
    fed-taken c.append.result c.args.self.now new bytes frames c.args.piece.now e fed
