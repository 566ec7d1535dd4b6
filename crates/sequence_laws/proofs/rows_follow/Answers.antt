-- Each clause is a lemma.
use Rattle.std.proofs.Common.{refl, sym, ap, ◌∙◌, add-one, length}
use Rattle.field_rules.specs.Fields.{trace_of}
use Rattle.sequence_laws.specs.Sequences.{sequence_of, row_of}
use Rattle.sequence_laws.proofs.Rows.{unit_next, first_rows, next_row}
use Rattle.sequence_laws.proofs.Powers.{trace_sequence-more, sequence_returns}
use Rattle.sequence_laws.proofs.rows_follow.Goals as goal

pub returns-clause-sums : goal.returns-clause-sums
returns-clause-sums g c = λ ops u es f s i ring is unit. unit_next ops ring u es unit f s i is

pub returns-clause-first : goal.returns-clause-first
returns-clause-first g c = λ ops u es s j m ring unit. first_rows ops ring u es unit j (length es) m s refl

pub returns-clause-next : goal.returns-clause-next
returns-clause-next g c = λ ops bits u es f s t j ring field differ is unit row made.
    next_row ops ring bits field u es f s t j differ is unit row made ∙ ap (row_of ops u es) (sym (add-one j))

pub returns-clause-trace : goal.returns-clause-trace
returns-clause-trace g c = λ ops b k u es acc row m ring is is_acc is_row.
    trace_sequence-more ops ring b k u es acc row (length es) m is is_acc is_row
    ∙ ap (λ j. sequence_of ops (λ e. ops.times (trace_of ops j (ops.times b e)) (u e)) es 0 (length es)) (sym (add-one m))

pub returns-clause-returns : goal.returns-clause-returns
returns-clause-returns g c = λ ops bits u es ring field. sequence_returns ops ring bits field u es (length es)
