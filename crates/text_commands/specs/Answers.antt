-- What a command writes and answers for the bytes that it read.
use Rattle.std.specs.Prelude.{◌≡◌, ℕ, nat_lt, ◌&&◌, Bool, true, false, if◌then◌else◌, List, length, Option, Some, None, Result, Ok, Err}
use Rattle.base_types.specs.declared.text.TextFault.{TextFault}
use Rattle.sketch_rules.specs.Answers.{answer_of}
use Rattle.sketch_rules.specs.Sketches.{digits_of, sketch_of}
use Rattle.line_rules.specs.Lines.{line}
use Rattle.sketch_text_rules.specs.Elements.{no_set_text, set_in, set_text}
use Rattle.sketch_text_rules.specs.Faults.{bad_input_text, too_long_text}
use Rattle.sketch_text_rules.specs.Limits.{input_limit}
use Rattle.node_rules.specs.declared.end.End.{End}
use Rattle.pair_rules.specs.Headline.{IsFinishedWhereDrained}
use Rattle.pair_rules.specs.Reports.{AreAlikeWhereDrained}
use Rattle.pair_rules.specs.World.{World, Effect}
use Rattle.pair_rules.specs.declared.event.Event.{Event}
use Rattle.protocol_text_rules.specs.Ends.{bad_stream_text}
use Rattle.protocol_text_rules.specs.Generator.{generated_script}
use Rattle.protocol_text_rules.specs.Pairs.{run_text, simulation}
use Rattle.protocol_text_rules.specs.Scripts.{script_in}
use Rattle.protocol_text_rules.specs.Works.{StreamStop, ids_in, ids_text, messages_in, pack_bytes, shown_in, with_text}
use Rattle.simulation.specs.Views.{end_in}
use Rattle.stream_text.specs.Outcomes.{shown_lines}
use Rattle.text_commands.specs.SketchLines.{sketch_in, sum_in}
use Rattle.command_words.specs.declared.command.Command.{Command}
use Rattle.command_words.specs.declared.command.Command.TheVariants as command
use Rattle.text_commands.specs.declared.report.Report.{Report}
use Rattle.text_commands.specs.declared.status.Status.{Status}
use Rattle.text_commands.specs.declared.status.Status.TheVariants as status

-- a status, and the text that goes with it
pub record Answer : Type 0 where
  pub status : Status
  pub text : List ℕ

abbrev pub fault_answer : TextFault → Answer
fault_answer f = record { status = status.BadInput f.place f.kind; text = line (bad_input_text f.place f.kind) }

-- a sketch, as its line
abbrev pub sketch_answer : List ℕ → Answer
sketch_answer sums = record { status = status.Ok; text = line (digits_of sums) }

-- the sketch of a set, or why there is none
abbrev pub make_answer : ℕ → Result (List ℕ) TextFault → Answer
make_answer capacity (Ok es) = sketch_answer (sketch_of es capacity)
make_answer capacity (Err f) = fault_answer f

-- a sketch, or why there is none
abbrev pub merge_answer : Result (List ℕ) TextFault → Answer
merge_answer (Ok sums) = sketch_answer sums
merge_answer (Err f) = fault_answer f

-- a set, as its lines, or that there is none
abbrev pub set_answer : Option (List ℕ) → Answer
set_answer (Some es) = record { status = status.Ok; text = set_text es }
set_answer None = record { status = status.NoSet; text = line no_set_text }

-- the set that has a sketch, or why there is no sketch
abbrev pub decode_answer : Result (List ℕ) TextFault → Answer
decode_answer (Ok sums) = set_answer (answer_of sums)
decode_answer (Err f) = fault_answer f

-- the text of the lines that the input lists, or its first fault
abbrev pub text_answer : Result (List ℕ) TextFault → Answer
text_answer (Ok text) = record { status = status.Ok; text = text }
text_answer (Err f) = fault_answer f

abbrev pub stop_answer : StreamStop → Answer
stop_answer stop = record { status = status.BadStream stop.offset stop.kind; text = line (bad_stream_text stop.offset stop.kind) }

-- the text of the frames of the input, or its first fault
abbrev pub stream_answer : Result (List ℕ) StreamStop → Answer
stream_answer (Ok text) = record { status = status.Ok; text = text }
stream_answer (Err stop) = stop_answer stop

-- how a run of two nodes ends
abbrev pub end_status : Option End → Status
end_status (Some e) = status.Refused e
end_status None = status.Ok

-- what becomes of two nodes, with or without the ids of their pools
abbrev pub run_answer : Bool → Effect → Answer
run_answer with_ids x = record { status = end_status (end_in x.world); text = run_text with_ids x }

-- what becomes of two new nodes by a script, or its first fault
abbrev pub script_answer : Result (List Event) TextFault → Answer
script_answer (Ok script) = run_answer true (simulation script)
script_answer (Err f) = fault_answer f

-- the command reads its input
unfoldable pub is_reader : Command → Bool
is_reader (command.Gen number) = false
is_reader other = true

-- what a command answers to an input within the limit
abbrev pub answer_within_limit : Command → List ℕ → Answer
answer_within_limit (command.Make capacity) input = make_answer capacity (set_in input)
answer_within_limit command.Merge input = merge_answer (sum_in input)
answer_within_limit command.Decode input = decode_answer (sketch_in input)
answer_within_limit (command.Ids salt other) input = text_answer (with_text (ids_text salt other) (ids_in input))
answer_within_limit command.Show input = stream_answer (shown_lines (messages_in input))
answer_within_limit command.Pack input = text_answer (with_text pack_bytes (shown_in input))
answer_within_limit command.Sim input = script_answer (script_in input)
answer_within_limit (command.Gen number) input = run_answer false (simulation (generated_script number))

-- what a command answers to an input, of which the limit is that of what is read
abbrev pub answer_to : Command → List ℕ → Answer
answer_to c input = if is_reader c && nat_lt input_limit (length input) then record { status = status.TooLong input_limit; text = line (too_long_text input_limit) } else answer_within_limit c input

-- the status and the text are the command's answer to the input
abbrev pub HasAnswer : Command → List ℕ → Status → List ℕ → Type 0
HasAnswer c input end text = (end ≡ (answer_to c input).status) × (text ≡ (answer_to c input).text)

-- the report has the status and the text of the answer
abbrev pub IsReportOf : Report → Answer → Type 0
IsReportOf report answer = (report.status ≡ answer.status) × (report.text.items ≡ answer.text)

-- ---- what holds of the two nodes of a command

-- where no node has ended and nothing is on the way, every begun round is over and has left its snapshots where it fits, and
-- the reports of both sides agree
pub record IsSettled (w : World) : Type 0 where
  pub finished : IsFinishedWhereDrained w
  pub alike : AreAlikeWhereDrained w

-- of the nodes of a script, where it has no fault
abbrev pub IsSettledBy : Result (List Event) TextFault → Type 0
IsSettledBy (Ok script) = IsSettled (simulation script).world
IsSettledBy (Err f) = Unit {0}

-- of the nodes of a command over an input, where it has nodes
abbrev pub HasSettled : Command → List ℕ → Type 0
HasSettled command.Sim input = IsSettledBy (script_in input)
HasSettled (command.Gen number) input = IsSettled (simulation (generated_script number)).world
HasSettled other input = Unit {0}
