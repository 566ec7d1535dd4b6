use Rattle.std.proofs.Common.{◌<◌, ◌≤◌, [], ◌∷◌, length, ◌∙◌, arith, length-set}
use Rattle.list_multiples.proofs.Sums.{None, More, sums_more, sums_done}
use Rattle.list_multiples.proofs.adding.add_items.Goals as goal

pub loop-i-preserved : goal.loop-i-preserved
loop-i-preserved g c =
    let lt : c.loop-i.i < length c.args.acc.now = omega (arith, c.loop-i.invariant.size) in
    record {
      size = length-set c.loop-i.acc c.loop-i.i c.add-in-loop-i-7.result ∙ c.loop-i.invariant.size;
      rest = rw (c.add-in-loop-i-7.ensures.sum, c.add-in-loop-i-6.ensures.sum, c.add-in-loop-i-5.ensures.sum, c.add-in-loop-i-4.ensures.sum, c.add-in-loop-i-3.ensures.sum, c.add-in-loop-i-2.ensures.sum, c.add-in-loop-i.ensures.sum, c.add.ensures.sum)
          (sums_more g.F.Field.ops c.loop-i.i (length c.args.acc.now) c.index-acc-i.result c.loop-i.acc
          (c.index-a-i.result ∷ c.index-b-i.result ∷ c.index-c-i.result ∷ c.index-d-i.result ∷ c.index-e-i.result ∷ c.index-f-i.result ∷ c.index-g-i.result ∷ c.index-h-i.result ∷ [])
          (c.args.a.now ∷ c.args.b.now ∷ c.args.c.now ∷ c.args.d.now ∷ c.args.e.now ∷ c.args.f.now ∷ c.args.g.now ∷ c.args.h.now ∷ [])
          lt (More c.loop-i.invariant.size c.index-acc-i.is
          (More c.requires.a c.index-a-i.is
          (More c.requires.b c.index-b-i.is
          (More c.requires.c c.index-c-i.is
          (More c.requires.d c.index-d-i.is
          (More c.requires.e c.index-e-i.is
          (More c.requires.f c.index-f-i.is
          (More c.requires.g c.index-g-i.is
          (More c.requires.h c.index-h-i.is None))))))))) ∙ c.loop-i.invariant.rest);
    }

pub returns : goal.returns
returns g c = let past : length c.loop-i.acc ≤ c.loop-i.i = omega (arith, c.loop-i.invariant.size) in
    sums_done g.F.Field.ops c.loop-i.i c.loop-i.acc (c.args.a.now ∷ c.args.b.now ∷ c.args.c.now ∷ c.args.d.now ∷ c.args.e.now ∷ c.args.f.now ∷ c.args.g.now ∷ c.args.h.now ∷ []) past c.loop-i.invariant.rest
