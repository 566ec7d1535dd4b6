use Rattle.std.proofs.Common.{◌<◌, ◌^◌, length, ap, arith, inl}
use Rattle.line_text.proofs.Numbering.{length-lines_of}
use Rattle.line_text.proofs.iterator.count.Goals as goal

pub count-requires-clause-fits : goal.count-requires-clause-fits
count-requires-clause-fits c =
    let few : length c.of.result < 2 ^ 64 = omega (arith, ap length c.of.ensures, length-lines_of c.args.text.now) in
    inl (omega (arith, few))
