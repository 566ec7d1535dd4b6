use Rattle.std.proofs.Common.{◌∙◌, ap, sym}
use Rattle.erlay_cli.specs.Halts.{text_of_halt}
use Rattle.erlay_cli.proofs.Texts.{long_pool_line, long_session_line}
use Rattle.erlay_cli.proofs.report.Halt.text.Goals as goal

pub returns-in-LongPool : goal.returns-in-LongPool
returns-in-LongPool c = sym long_pool_line ∙ sym (ap text_of_halt c.in-LongPool.is)

pub returns-in-LongSession : goal.returns-in-LongSession
returns-in-LongSession c = sym long_session_line ∙ sym (ap text_of_halt c.in-LongSession.is)
