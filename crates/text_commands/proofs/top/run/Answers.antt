use Rattle.std.proofs.Common.{map}
use Rattle.std.specs.String.{string_bytes}
use Rattle.text_commands.specs.Outside.{observation_of}
use Rattle.text_commands.specs.Ends.{IsAnswer, IsAnswerTo}
use Rattle.text_commands.proofs.Endings.{answer_told, ends_as_answered, finished, no_read_failed, no_write_fault, read_cause}
use Rattle.text_commands.proofs.top.run.Goals as goal

pub returns-in-Ok-clause-ends : goal.returns-in-Ok-clause-ends
returns-in-Ok-clause-ends g c =
    let Answer = IsAnswer (map string_bytes c.args.words.now) (observation_of g.I.Source.left g.I.Source.faults c.args.input.now) (observation_of g.I.Source.left g.I.Source.faults c.answer.new.input) in
    finished Answer (observation_of g.O.Sink.written g.O.Sink.faults c.args.output.now) (observation_of g.O.Sink.written g.O.Sink.faults c.finish.new.output)
    c.in-Ok.report.status c.as_slice.result.now c.finish.result (λ none. none) (rw c.as_slice.ensures.value c.in-Ok.ensures.ok) c.finish.ensures.finishes

pub returns-in-Ok-clause-told : goal.returns-in-Ok-clause-told
returns-in-Ok-clause-told g c command text form told =
    let answer = answer_told (map string_bytes c.args.words.now) (observation_of g.I.Source.left g.I.Source.faults c.args.input.now) (observation_of g.I.Source.left g.I.Source.faults c.answer.new.input) command text form told
    c.in-Ok.report.status c.as_slice.result.now (rw c.as_slice.ensures.value c.in-Ok.ensures.ok) in
    finished (IsAnswerTo command text) (observation_of g.O.Sink.written g.O.Sink.faults c.args.output.now) (observation_of g.O.Sink.written g.O.Sink.faults c.finish.new.output)
    c.in-Ok.report.status c.as_slice.result.now c.finish.result (no_write_fault command text c.as_slice.result.now) answer c.finish.ensures.finishes

pub returns-in-Err-clause-ends : goal.returns-in-Err-clause-ends
returns-in-Err-clause-ends g c =
    let Answer = IsAnswer (map string_bytes c.args.words.now) (observation_of g.I.Source.left g.I.Source.faults c.args.input.now) (observation_of g.I.Source.left g.I.Source.faults c.answer.new.input) in
    finished Answer (observation_of g.O.Sink.written g.O.Sink.faults c.args.output.now) (observation_of g.O.Sink.written g.O.Sink.faults c.finish-in-Err.new.output)
    c.status.result c.text.result.now c.finish-in-Err.result (λ none. none) (rw (c.status.ensures, c.text.ensures) c.in-Err.ensures.err) c.finish-in-Err.ensures.finishes

pub returns-in-Err-clause-told : goal.returns-in-Err-clause-told
returns-in-Err-clause-told g c command text form told =
    let answer = answer_told (map string_bytes c.args.words.now) (observation_of g.I.Source.left g.I.Source.faults c.args.input.now) (observation_of g.I.Source.left g.I.Source.faults c.answer.new.input) command text form told
    c.status.result c.text.result.now (rw (c.status.ensures, c.text.ensures) c.in-Err.ensures.err) in
    finished (IsAnswerTo command text) (observation_of g.O.Sink.written g.O.Sink.faults c.args.output.now) (observation_of g.O.Sink.written g.O.Sink.faults c.finish-in-Err.new.output)
    c.status.result c.text.result.now c.finish-in-Err.result (no_write_fault command text c.text.result.now) answer c.finish-in-Err.ensures.finishes

pub returns-in-Ok-clause-complete : goal.returns-in-Ok-clause-complete
returns-in-Ok-clause-complete g c command text form told sound no_read no_write =
    let cause = read_cause (map string_bytes c.args.words.now) (observation_of g.I.Source.left g.I.Source.faults c.args.input.now) (observation_of g.I.Source.left g.I.Source.faults c.answer.new.input)
    (observation_of g.O.Sink.written g.O.Sink.faults c.args.output.now) (observation_of g.O.Sink.written g.O.Sink.faults c.finish.new.output) c.finish.result (returns-in-Ok-clause-ends g c) in
    ends_as_answered command text (observation_of g.O.Sink.written g.O.Sink.faults c.args.output.now) (observation_of g.O.Sink.written g.O.Sink.faults c.finish.new.output) c.finish.result
    (returns-in-Ok-clause-told g c command text form told) (λ failed. no_read (cause failed)) no_write

pub returns-in-Err-clause-complete : goal.returns-in-Err-clause-complete
returns-in-Err-clause-complete g c command text form told sound no_read no_write =
    let cause = read_cause (map string_bytes c.args.words.now) (observation_of g.I.Source.left g.I.Source.faults c.args.input.now) (observation_of g.I.Source.left g.I.Source.faults c.answer.new.input)
    (observation_of g.O.Sink.written g.O.Sink.faults c.args.output.now) (observation_of g.O.Sink.written g.O.Sink.faults c.finish-in-Err.new.output) c.finish-in-Err.result (returns-in-Err-clause-ends g c) in
    ends_as_answered command text (observation_of g.O.Sink.written g.O.Sink.faults c.args.output.now) (observation_of g.O.Sink.written g.O.Sink.faults c.finish-in-Err.new.output) c.finish-in-Err.result
    (returns-in-Err-clause-told g c command text form told) (λ failed. no_read (cause failed)) no_write

pub returns-in-Ok-clause-no_read_fault : goal.returns-in-Ok-clause-no_read_fault
returns-in-Ok-clause-no_read_fault g c no_read no_write =
    no_read_failed (map string_bytes c.args.words.now) (observation_of g.I.Source.left g.I.Source.faults c.args.input.now) (observation_of g.I.Source.left g.I.Source.faults c.answer.new.input)
    (observation_of g.O.Sink.written g.O.Sink.faults c.args.output.now) (observation_of g.O.Sink.written g.O.Sink.faults c.finish.new.output) c.finish.result (returns-in-Ok-clause-ends g c) no_read no_write

pub returns-in-Err-clause-no_read_fault : goal.returns-in-Err-clause-no_read_fault
returns-in-Err-clause-no_read_fault g c no_read no_write =
    no_read_failed (map string_bytes c.args.words.now) (observation_of g.I.Source.left g.I.Source.faults c.args.input.now) (observation_of g.I.Source.left g.I.Source.faults c.answer.new.input)
    (observation_of g.O.Sink.written g.O.Sink.faults c.args.output.now) (observation_of g.O.Sink.written g.O.Sink.faults c.finish-in-Err.new.output) c.finish-in-Err.result (returns-in-Err-clause-ends g c) no_read no_write
