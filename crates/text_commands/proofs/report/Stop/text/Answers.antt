use Rattle.std.proofs.Common.{◌∙◌, ap, sym}
use Rattle.text_commands.specs.Stops.{text_of}
use Rattle.text_commands.proofs.Texts.{too_long_line}
use Rattle.text_commands.proofs.report.Stop.text.Goals as goal

pub returns-in-TooLong : goal.returns-in-TooLong
returns-in-TooLong c = sym too_long_line ∙ sym (ap text_of c.in-TooLong.is)
