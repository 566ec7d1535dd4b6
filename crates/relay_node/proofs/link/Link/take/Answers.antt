use Rattle.std.proofs.Common.{Ok, Err, sym, subst}
use Rattle.conversation.specs.declared.stop.Stop.TheVariants as stop
use Rattle.relay_node.specs.Answers.{IsTaken}
use Rattle.relay_node.specs.Views.{view_at}
use Rattle.relay_node.specs.declared.link.Link.{Link}
use Rattle.relay_node.specs.declared.link.Link.TheVariants as link
use Rattle.relay_node.proofs.Taken.{taken-all, taken-ended, taken-node, taken-open, taken-refused, taken-short, taken-starved, taken-to-end}
use Rattle.relay_node.proofs.link.Link.take.Goals as goal

pub returns-in-Ok-clause-linked : goal.returns-in-Ok-clause-linked
returns-in-Ok-clause-linked c = taken-open c.args.conversation.now c.in-Open.feeder c.args.bytes.now c.receive.new.conversation c.receive.new.feeder c.in-Ok.ensures

pub returns-in-Ok-clause-taken : goal.returns-in-Ok-clause-taken
returns-in-Ok-clause-taken c =
    subst (λ (l : Link). IsTaken (view_at c.args.conversation.now l) c.args.bytes.now (view_at c.receive.new.conversation (link.Open c.receive.new.feeder)) (Ok tt)) (sym c.in-Open.is)
    (taken-all c.args.conversation.now c.in-Open.feeder c.args.bytes.now c.receive.new.conversation c.receive.new.feeder c.in-Ok.ensures)

pub returns-in-Ok-clause-short : goal.returns-in-Ok-clause-short
returns-in-Ok-clause-short c = taken-short c.args.conversation.now c.in-Open.feeder c.args.bytes.now c.receive.new.conversation c.receive.new.feeder c.in-Ok.ensures

pub returns-in-Err-Ended-clause-linked : goal.returns-in-Err-Ended-clause-linked
returns-in-Err-Ended-clause-linked c =
    (taken-node c.args.conversation.now c.in-Open.feeder c.args.bytes.now c.receive.new.conversation c.receive.new.feeder c.in-Err-Ended.end (rw c.in-Err-Ended.field-0-is at c.in-Err-Ended.ensures), c.place-offset.type_inv)

pub returns-in-Err-Ended-clause-taken : goal.returns-in-Err-Ended-clause-taken
returns-in-Err-Ended-clause-taken c =
    rw c.place-offset.ensures
    (subst (λ (l : Link). IsTaken (view_at c.args.conversation.now l) c.args.bytes.now (view_at c.receive.new.conversation (link.Ended c.in-Err-Ended.end c.receive.new.feeder.place)) (Err (stop.Ended c.in-Err-Ended.end))) (sym c.in-Open.is)
    (taken-to-end c.args.conversation.now c.in-Open.feeder c.args.bytes.now c.receive.new.conversation c.receive.new.feeder c.in-Err-Ended.end (rw c.in-Err-Ended.field-0-is at c.in-Err-Ended.ensures)))

pub returns-in-Err-OutOfMemory-clause-taken : goal.returns-in-Err-OutOfMemory-clause-taken
returns-in-Err-OutOfMemory-clause-taken c =
    subst (λ (l : Link). IsTaken (view_at c.args.conversation.now l) c.args.bytes.now (view_at c.clear_wants.new.self link.OutOfMemory) (Err stop.OutOfMemory)) (sym c.in-Open.is)
    (taken-refused c.args.conversation.now c.in-Open.feeder c.args.bytes.now c.receive.new.conversation c.clear_wants.new.self c.receive.new.feeder (rw c.in-Err-OutOfMemory.field-0-is at c.in-Err-OutOfMemory.ensures) c.clear_wants.ensures)

pub returns-in-Ended-clause-taken : goal.returns-in-Ended-clause-taken
returns-in-Ended-clause-taken c =
    subst (λ (l : Link). IsTaken (view_at c.args.conversation.now l) c.args.bytes.now (view_at c.args.conversation.now (link.Ended c.in-Ended.end c.in-Ended.offset)) (Err (stop.Ended c.in-Ended.end))) (sym c.in-Ended.is)
    (taken-ended c.args.conversation.now c.in-Ended.end c.in-Ended.offset c.args.bytes.now)

pub returns-in-OutOfMemory-clause-taken : goal.returns-in-OutOfMemory-clause-taken
returns-in-OutOfMemory-clause-taken c =
    subst (λ (l : Link). IsTaken (view_at c.args.conversation.now l) c.args.bytes.now (view_at c.args.conversation.now l) (Err stop.OutOfMemory)) (sym c.in-OutOfMemory.is)
    (taken-starved c.args.conversation.now c.args.bytes.now)
