use Rattle.std.proofs.Common.{◌∙◌, map, sym}
use Rattle.std.specs.String.{string_bytes}
use Rattle.text_commands.specs.Outside.{observation_of}
use Rattle.text_commands.proofs.Answered.{free_settled, read_settled, reader_reads}
use Rattle.text_commands.proofs.top.answer.Goals as goal

pub returns-then-not-is_reader-clause-settled : goal.returns-then-not-is_reader-clause-settled
returns-then-not-is_reader-clause-settled g c =
    free_settled (map string_bytes c.args.words.now) (observation_of g.I.Source.left g.I.Source.faults c.args.input.now) (observation_of g.I.Source.left g.I.Source.faults c.args.input.now)
    c.in-Some.command c.in-Some.ensures c.work.result (sym c.is_reader.ensures ∙ c.if-not-is_reader.true) c.work.ensures.settled

pub returns-in-Ok-clause-settled : goal.returns-in-Ok-clause-settled
returns-in-Ok-clause-settled g c =
    read_settled (map string_bytes c.args.words.now) (observation_of g.I.Source.left g.I.Source.faults c.args.input.now) (observation_of g.I.Source.left g.I.Source.faults c.read_all.new.source)
    c.in-Some.command c.in-Some.ensures c.work-in-Ok.result c.as_slice.result.now
    (sym c.is_reader.ensures ∙ c.if-not-is_reader.false) (rw c.as_slice.ensures.value c.in-Ok.ensures.all) c.in-Ok.ensures.end c.work-in-Ok.ensures.settled

pub returns-in-Ok-clause-unread : goal.returns-in-Ok-clause-unread
returns-in-Ok-clause-unread g c d asks free =
    absurd (reader_reads (map string_bytes c.args.words.now) c.in-Some.command d c.in-Some.ensures asks (sym c.is_reader.ensures ∙ c.if-not-is_reader.false) free)

pub returns-in-Err-Failed-clause-unread : goal.returns-in-Err-Failed-clause-unread
returns-in-Err-Failed-clause-unread g c d asks free =
    absurd (reader_reads (map string_bytes c.args.words.now) c.in-Some.command d c.in-Some.ensures asks (sym c.is_reader.ensures ∙ c.if-not-is_reader.false) free)

pub returns-in-Err-TooLong-clause-unread : goal.returns-in-Err-TooLong-clause-unread
returns-in-Err-TooLong-clause-unread g c d asks free =
    absurd (reader_reads (map string_bytes c.args.words.now) c.in-Some.command d c.in-Some.ensures asks (sym c.is_reader.ensures ∙ c.if-not-is_reader.false) free)

pub returns-in-Err-OutOfMemory-clause-unread : goal.returns-in-Err-OutOfMemory-clause-unread
returns-in-Err-OutOfMemory-clause-unread g c d asks free =
    absurd (reader_reads (map string_bytes c.args.words.now) c.in-Some.command d c.in-Some.ensures asks (sym c.is_reader.ensures ∙ c.if-not-is_reader.false) free)
