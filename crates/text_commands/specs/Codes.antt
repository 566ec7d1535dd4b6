-- The exit status of the program.
use Rattle.std.specs.Prelude.{ℕ}
use Rattle.text_commands.specs.declared.status.Status.{Status}
use Rattle.text_commands.specs.declared.status.Status.TheVariants as status

abbrev pub code_of : Status → ℕ
code_of status.Ok = 0
code_of status.Usage = 1
code_of (status.BadInput number k) = 2
code_of (status.BadStream offset k) = 2
code_of status.NoSet = 3
code_of (status.Refused e) = 4
code_of status.ReadFault = 5
code_of status.WriteFault = 6
code_of status.LinkFault = 7
code_of status.ShelfFault = 8
code_of (status.Truncated p) = 9
code_of (status.TooLong limit) = 10
code_of status.OutOfMemory = 11
