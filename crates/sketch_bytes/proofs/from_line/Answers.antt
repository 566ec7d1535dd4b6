use Rattle.std.proofs.Common.{map, rules, sym, ◌∙◌}
use Rattle.sketch_bytes.specs.Reading.{sums_of_line}
use Rattle.sketch_bytes.specs.declared.fault.BytesFault.TheVariants as bytes_fault
use Rattle.sketch_bytes.specs.declared.fault.LineFault.TheVariants as line_fault
use Rattle.sketch_bytes.proofs.Reading.{read-line_of, gives_sums, gives_bad_digit}
use Rattle.sketch_bytes.proofs.from_line.Goals as goal

pub returns-in_err-bytes-clause-read : goal.returns-in_err-bytes-clause-read
returns-in_err-bytes-clause-read g c = search rules

pub returns-in_err-bytes-clause-bad_digit : goal.returns-in_err-bytes-clause-bad_digit
returns-in_err-bytes-clause-bad_digit g c offset is =
    gives_bad_digit (map g.F.Field.bits_of) c.args.line.now c.from_residual.result offset (returns-in_err-bytes-clause-read g c) is

pub returns-in_err-bytes-clause-accepted : goal.returns-in_err-bytes-clause-accepted
returns-in_err-bytes-clause-accepted g c sums capacity small is =
    gives_sums (map g.F.Field.bits_of) (line_fault.Bytes bytes_fault.OutOfMemory) (sums_of_line c.args.line.now) sums c.from_residual.result
    (read-line_of c.args.line.now sums capacity small is) (returns-in_err-bytes-clause-read g c)

pub returns-in_err-from_bytes-clause-read : goal.returns-in_err-from_bytes-clause-read
returns-in_err-from_bytes-clause-read g c = search rules

pub returns-in_err-from_bytes-clause-accepted : goal.returns-in_err-from_bytes-clause-accepted
returns-in_err-from_bytes-clause-accepted g c sums capacity small is =
    gives_sums (map g.F.Field.bits_of) (line_fault.Bytes bytes_fault.OutOfMemory) (sums_of_line c.args.line.now) sums c.from_residual-in_err-from_bytes.result
    (read-line_of c.args.line.now sums capacity small is) (returns-in_err-from_bytes-clause-read g c)

pub returns-clause-read : goal.returns-clause-read
returns-clause-read g c = search rules

pub returns-clause-accepted : goal.returns-clause-accepted
returns-clause-accepted g c sums capacity small is =
    sym (read-line_of c.args.line.now sums capacity small is) ∙ returns-clause-read g c
