use Rattle.std.proofs.Common.{◌+◌, ◌<◌, ◌≤◌, length, take, drop, ◌++◌, arith, Bool, List, ℕ, sym, subst}
use Rattle.std.proofs.lemmas.Grind.{common_steps}
use Rattle.std.proofs.lemmas.List.{take-append-le}
use Rattle.session_rules.specs.declared.limits.TheConstants.{PIECE_LIMIT, SESSION_LIMIT}
use Rattle.session.specs.Standing.{IsBeforePiece, IsReceipt}
use Rattle.session.proofs.Endings.{before-piece, over-end, over-fault, over-limit, standing-still}
use Rattle.session.proofs.exchange.receive.Goals as goal

pub returns-then-progress-eq-SESSION_LIMIT-clause-receipt : goal.returns-then-progress-eq-SESSION_LIMIT-clause-receipt
unfolding IsReceipt
returns-then-progress-eq-SESSION_LIMIT-clause-receipt g c = λ rounds start before h sent busy.
    over-limit c.args.progress.now.opens rounds start before (g.W.Wire.link c.args.wire.now) (g.W.Wire.has_ended c.args.wire.now) c.args.node.now c.args.progress.now.left c.args.progress.now.received h c.if-progress-eq-SESSION_LIMIT.true sent busy

pub returns-in_default-clause-receipt : goal.returns-in_default-clause-receipt
unfolding IsReceipt
returns-in_default-clause-receipt g c = λ rounds start before h sent busy.
    let p = c.args.progress.now in
    let told = g.W.Wire.link c.args.wire.now in
    let ended = g.W.Wire.has_ended c.args.wire.now in
    let after = g.W.Wire.link c.receive.new.self in
    let over = g.W.Wire.has_ended c.receive.new.self in
    let still = standing-still p.opens rounds start before told ended c.args.node.now p.left p.received h after over c.in_default.ensures.link c.in_default.ensures.still_ended in
    over-fault p.opens rounds start before after over c.args.node.now p.left p.received still c.requires.most

pub returns-then-count-eq0-clause-receipt : goal.returns-then-count-eq0-clause-receipt
unfolding IsReceipt
returns-then-count-eq0-clause-receipt g c = λ rounds start before h sent busy.
    let p = c.args.progress.now in
    let told = g.W.Wire.link c.args.wire.now in
    let ended = g.W.Wire.has_ended c.args.wire.now in
    let after = g.W.Wire.link c.receive.new.self in
    let over = g.W.Wire.has_ended c.receive.new.self in
    let buf = c.receive.new.buf in
    let room : 0 < length buf = grind (arith, common_steps) in
    let below : p.received < SESSION_LIMIT = omega arith in
    let over_is = c.in-Ok.ensures.input.ended c.if-count-eq0.true room in
    rw c.end_of_input.ensures
    (over-end p.opens rounds start before told ended c.args.node.now p.left p.received h after sent busy over c.in-Ok.count buf c.if-count-eq0.true room over_is below c.in-Ok.ensures.link)

pub returns-clause-receipt : goal.returns-clause-receipt
unfolding IsReceipt
returns-clause-receipt g c = λ rounds start before h sent busy.
    let p = c.args.progress.now in
    let told = g.W.Wire.link c.args.wire.now in
    let ended = g.W.Wire.has_ended c.args.wire.now in
    let after = g.W.Wire.link c.receive.new.self in
    let over = g.W.Wire.has_ended c.receive.new.self in
    let buf = c.receive.new.buf in
    let n = c.in-Ok.count in
    let some : 0 < n = omega arith in
    let within : n ≤ length buf = grind (arith, common_steps) in
    let room : length buf ≤ PIECE_LIMIT = grind (arith, common_steps) in
    let most : p.received + n ≤ SESSION_LIMIT = grind (arith, common_steps) in
    let piece = before-piece p.opens rounds start before told ended c.args.node.now p.left p.received h after sent busy n buf some within room most c.in-Ok.ensures.link in
    subst (λ (b : Bool). IsBeforePiece p.opens rounds start before after b c.args.node.now p.left (p.received + n) (take n (buf ++ drop c.min-room.result c.args.buffer.now))) (sym (c.in-Ok.ensures.input.more some))
    (subst (λ (bytes : List ℕ). IsBeforePiece p.opens rounds start before after ended c.args.node.now p.left (p.received + n) bytes) (sym (take-append-le n buf (drop c.min-room.result c.args.buffer.now) within)) piece)
