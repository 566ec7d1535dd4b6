use Rattle.std.proofs.Common.{◌≡◌, Bool, true, false, not, arith, ◌∙◌, sym, refl}
use Rattle.field_laws.proofs.Numbers.{equal_bits}
use Rattle.trace_roots.proofs.Answering.{agree_more}
use Rattle.trace_roots.proofs.check.agrees.Goals as goal

equal_where_not_different : (r e : Bool) → r ≡ not e → r ≡ false → e ≡ true
equal_where_not_different r true is failed = refl
equal_where_not_different r false is failed = sym failed ∙ is

pub loop-i-preserved : goal.loop-i-preserved
loop-i-preserved g c =
    agree_more g.F.Field.ops c.args.odd.now c.args.sums.now c.loop-i.i c.index-odd-i.result c.index-sums-i.result (omega arith) (omega (arith, c.requires)) c.index-odd-i.is c.index-sums-i.is same c.loop-i.invariant
  where
    same : c.index-odd-i.result ≡ c.index-sums-i.result
    same =
        (equal_bits g.F.Field.ops g.F.Field.bits_of g.F.Field.BITS g.met.F.Field.numbered (g.F.PartialEq.eq c.index-odd-i.result c.index-sums-i.result) c.index-odd-i.result c.index-sums-i.result
        (g.met.F.Field.equal c.index-odd-i.result c.index-sums-i.result)).0
        (equal_where_not_different c.ne.result (g.F.PartialEq.eq c.index-odd-i.result c.index-sums-i.result) c.ne.ensures c.if-ne.false)
