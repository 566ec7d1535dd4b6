-- The text and the status of a run that a command gave no answer to.
use Rattle.std.specs.Prelude.{ℕ, List}
use Rattle.line_rules.specs.Lines.{line}
use Rattle.sketch_text_rules.specs.Faults.{usage_text, read_fault_text, too_long_text, out_of_memory_text}
use Rattle.sketch_text_rules.specs.Limits.{input_limit}
use Rattle.text_commands.specs.declared.report.Stop.{Stop}
use Rattle.text_commands.specs.declared.report.Stop.TheVariants as stop
use Rattle.text_commands.specs.declared.status.Status.{Status}
use Rattle.text_commands.specs.declared.status.Status.TheVariants as status

abbrev pub text_of : Stop → List ℕ
text_of stop.Usage = line usage_text
text_of stop.ReadFault = line read_fault_text
text_of stop.TooLong = line (too_long_text input_limit)
text_of stop.OutOfMemory = line out_of_memory_text

abbrev pub status_of : Stop → Status
status_of stop.Usage = status.Usage
status_of stop.ReadFault = status.ReadFault
status_of stop.TooLong = status.TooLong input_limit
status_of stop.OutOfMemory = status.OutOfMemory
