use Rattle.std.proofs.Common.{◌≡◌, ◌+◌, ◌++◌, drop}
use Rattle.protocol_text_rules.specs.Pairs.{report_lines}
use Rattle.round_text.specs.Fronts.{side_words}
use Rattle.round_text.proofs.report.put_report_lines.Given as goal

-- with the lines of the reports that are left, all are there
abbrev pub invariant-loop-index : goal.invariant-loop-index
invariant-loop-index l =
    l.out.items ++ report_lines (side_words l.side) (l.first + l.index) (drop l.index l.reports)
    ≡ l.fn.out.items ++ report_lines (side_words l.side) l.first l.reports
