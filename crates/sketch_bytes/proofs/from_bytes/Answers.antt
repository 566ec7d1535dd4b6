use Rattle.std.proofs.Common.{◌≡◌, ◌%◌, inr, Ok, length, map, rules, sym, ap, ◌∙◌, arith}
use Rattle.sketch_rules.specs.Sketches.{bytes_of}
use Rattle.sketch_bytes.specs.Reading.{sums_of_bytes}
use Rattle.sketch_laws.proofs.Bytes.{bytes_of-sums_in}
use Rattle.sketch_bytes.proofs.Reading.{read-ragged, read-wide, read-sums, read-bytes_of, capacity_of}
use Rattle.sketch_bytes.proofs.from_bytes.Goals as goal

pub returns-then-bytes-ne0-clause-accepted : goal.returns-then-bytes-ne0-clause-accepted
returns-then-bytes-ne0-clause-accepted g c sums capacity small is =
    let ragged : ¬ (length c.args.bytes.now % 4 ≡ 0) = λ e. absurd (omega arith) in
    inr (sym (ap sums_of_bytes is ∙ read-bytes_of sums capacity small) ∙ read-ragged c.args.bytes.now ragged)

pub returns-then-bytes-gt-MAX_SKETCH_BYTES-clause-accepted : goal.returns-then-bytes-gt-MAX_SKETCH_BYTES-clause-accepted
returns-then-bytes-gt-MAX_SKETCH_BYTES-clause-accepted g c sums capacity small is =
    inr (sym (ap sums_of_bytes is ∙ read-bytes_of sums capacity small) ∙ read-wide c.args.bytes.now (omega arith) (omega arith))

pub from_sums-requires : goal.from_sums-requires
from_sums-requires g c =
    let some : ¬ (length c.args.bytes.now ≡ 0) = λ e. absurd (search rules) in
    capacity_of g.F.Field.bits_of c.in_ok-sums.sums.items c.args.bytes.now c.in_ok-sums.ensures some (omega arith) (omega arith)

pub returns-clause-read : goal.returns-clause-read
returns-clause-read g c =
    let some : ¬ (length c.args.bytes.now ≡ 0) = λ e. absurd (search rules) in
    read-sums c.args.bytes.now some (omega arith) (omega arith) ∙ ap Ok (sym (ap (map g.F.Field.bits_of) c.from_sums.ensures ∙ c.in_ok-sums.ensures))

pub returns-clause-spelled : goal.returns-clause-spelled
returns-clause-spelled g c =
    ap bytes_of (ap (map g.F.Field.bits_of) c.from_sums.ensures ∙ c.in_ok-sums.ensures)
    ∙ bytes_of-sums_in c.args.bytes.now (λ i. let byte = c.type_inv.bytes i in omega arith) (omega arith)

pub returns-clause-accepted : goal.returns-clause-accepted
returns-clause-accepted g c sums capacity small is =
    sym (ap sums_of_bytes is ∙ read-bytes_of sums capacity small) ∙ returns-clause-read g c
