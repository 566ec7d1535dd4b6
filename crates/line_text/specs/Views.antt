-- What a contract sees of a line that was read.
use Rattle.line_text.specs.declared.iterator.TextLine.{TextLine}
use Rattle.line_rules.specs.Lines.{NumberedLine}

-- the line's number and its bytes
abbrev pub line_of : TextLine → NumberedLine
line_of l = record { number = l.number; bytes = l.bytes.now }
