use Rattle.std.proofs.Common.{◌≡◌, List}
use Rattle.base_types.specs.declared.lists.Hash32.{Hash32}
use Rattle.line_rules.specs.Reading.{line_fold}
use Rattle.protocol_text_rules.specs.Works.{id_step, ids_in, ids_text}
use Rattle.id_text.proofs.lines.ids_lines.Given as goal

-- the rows so far are those of some ids, behind which the lines that are left are read
abbrev pub invariant-loop-line : goal.invariant-loop-line
invariant-loop-line l = (ids : List Hash32) × (l.rows.items ≡ ids_text l.salt l.other ids) × (ids_in l.text ≡ line_fold id_step ids l.line-iterator)
