-- The status and the text of an exchange that ends with a fixed text.
use Rattle.std.specs.Prelude.{ℕ, List, []}
use Rattle.line_rules.specs.Lines.{line}
use Rattle.sketch_text_rules.specs.Faults.{out_of_memory_text, too_long_text}
use Rattle.pool_rules.specs.declared.limits.TheConstants.{POOL_FILE_LIMIT}
use Rattle.session_rules.specs.declared.limits.TheConstants.{SESSION_LIMIT}
use Rattle.protocol_text_rules.specs.Ends.{link_fault_text, shelf_fault_text}
use Rattle.text_commands.specs.declared.status.Status.{Status}
use Rattle.text_commands.specs.declared.status.Status.TheVariants as status
use Rattle.erlay_cli.specs.declared.report.Halt.{Halt}
use Rattle.erlay_cli.specs.declared.report.Halt.TheVariants as halt

abbrev pub status_of_halt : Halt → Status
status_of_halt halt.WriteFault = status.WriteFault
status_of_halt halt.LinkFault = status.LinkFault
status_of_halt halt.ShelfFault = status.ShelfFault
status_of_halt halt.LongPool = status.TooLong POOL_FILE_LIMIT
status_of_halt halt.LongSession = status.TooLong SESSION_LIMIT
status_of_halt halt.OutOfMemory = status.OutOfMemory

abbrev pub text_of_halt : Halt → List ℕ
text_of_halt halt.WriteFault = []
text_of_halt halt.LinkFault = line link_fault_text
text_of_halt halt.ShelfFault = line shelf_fault_text
text_of_halt halt.LongPool = line (too_long_text POOL_FILE_LIMIT)
text_of_halt halt.LongSession = line (too_long_text SESSION_LIMIT)
text_of_halt halt.OutOfMemory = line out_of_memory_text
