use Rattle.relay_node.specs.Answers.{IsTaken}
use Rattle.session.specs.Standing.{IsTurn}
use Rattle.session.proofs.Takes.{round-refused, turn-refused, turn-starved_in_piece, turn-starved_in_round, turn-taken}
use Rattle.session.proofs.steps.take.Goals as goal

pub returns-in-Ok-begin_round-clause-turn : goal.returns-in-Ok-begin_round-clause-turn
unfolding IsTurn IsTaken
returns-in-Ok-begin_round-clause-turn c = λ opens rounds start before told ended received h.
    turn-taken opens rounds start before told ended c.args.node.now c.args.left.now received c.args.piece.now h c.take.new.self c.begin_round.new.node c.begin_round.new.left tt c.in-Ok.ensures.taken.1 c.in-Ok.ensures.taken.2 c.in-Ok-begin_round.ensures

pub returns-in-Err-clause-turn : goal.returns-in-Err-clause-turn
unfolding IsTurn IsTaken
returns-in-Err-clause-turn c = λ opens rounds start before told ended received h.
    turn-starved_in_round opens rounds start before told ended c.args.node.now c.args.left.now received c.args.piece.now h c.take.new.self c.begin_round.new.node c.in-Ok.ensures.taken.1 c.in-Ok.ensures.taken.2
    (round-refused c.take.new.self c.begin_round.new.node c.args.left.now c.begin_round.new.left _ c.in-Err.ensures)

pub returns-in-Err-Ended-clause-turn : goal.returns-in-Err-Ended-clause-turn
unfolding IsTurn IsTaken
returns-in-Err-Ended-clause-turn c = λ opens rounds start before told ended received h.
    let taken = rw c.in-Err-Ended.field-0-is at c.in-Err-Ended.ensures.taken in
    turn-refused opens rounds start before told ended c.args.node.now c.args.left.now received c.args.piece.now h c.take.new.self c.in-Err-Ended.end taken.1 taken.2

pub returns-in-Err-OutOfMemory-clause-turn : goal.returns-in-Err-OutOfMemory-clause-turn
unfolding IsTurn IsTaken
returns-in-Err-OutOfMemory-clause-turn c = λ opens rounds start before told ended received h.
    let taken = rw c.in-Err-OutOfMemory.field-0-is at c.in-Err-OutOfMemory.ensures.taken in
    turn-starved_in_piece opens rounds start before told ended c.args.node.now c.args.left.now received c.args.piece.now h c.take.new.self taken.1
