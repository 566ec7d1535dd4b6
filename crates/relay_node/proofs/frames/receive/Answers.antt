use Rattle.std.proofs.lemmas.Result.{err_from_is_err_and}
use Rattle.id_rules.proofs.Bytes.{are_bytes-IsBytes}
use Rattle.relay_node.proofs.Taken.{piece-fed, piece-refused}
use Rattle.relay_node.proofs.frames.receive.Goals as goal

pub returns-in_err-push : goal.returns-in_err-push
returns-in_err-push c =
    let p = err_from_is_err_and c.from_residual.result c.from_residual.ensures.1 in
    rw (p.1, p.2) (piece-refused c.args.conversation.now c.args.feeder.now c.args.bytes.now c.push.new.self)

pub handle_all-requires : goal.handle_all-requires
handle_all-requires c =
    piece-fed c.args.conversation.now c.args.feeder.now c.args.bytes.now c.push.new.self c.requires (are_bytes-IsBytes c.args.bytes.now (λ i. (c.type_inv.bytes i).fits)) c.in_ok-push.ensures.held
