use Rattle.std.proofs.Common.{◌≡◌, ◌+◌, ◌-◌, ◌*◌, [], ◌∷◌, ◌++◌, length, take, drop, refl, sym, ap, ◌∙◌, arith}
use borrow.Rule.Slice.PartMut.{put_mid}
use Rattle.list_multiples.proofs.Sums.{sums_from}
use Rattle.list_multiples.proofs.Blocks.{NoPart, OnePart, block_added}
use Rattle.list_multiples.proofs.adding.add_eight.Goals as goal

pub loop-n-preserved : goal.loop-n-preserved
loop-n-preserved g c =
    let next : 4 * c.loop-n.n + (4 * c.loop-n.n + 4 - 4 * c.loop-n.n) ≡ 4 * (c.loop-n.n + 1) = omega arith in
    let added = block_added g.F.Field.ops (4 * c.loop-n.n) (4 * c.loop-n.n + 4 - 4 * c.loop-n.n) (length c.args.acc.now) c.loop-n.acc c.add_block.new.acc
    (take (4 * c.loop-n.n + 4 - 4 * c.loop-n.n) (drop (4 * c.loop-n.n) c.args.a.now) ∷ take (4 * c.loop-n.n + 4 - 4 * c.loop-n.n) (drop (4 * c.loop-n.n) c.args.b.now) ∷ take (4 * c.loop-n.n + 4 - 4 * c.loop-n.n) (drop (4 * c.loop-n.n) c.args.c.now) ∷ take (4 * c.loop-n.n + 4 - 4 * c.loop-n.n) (drop (4 * c.loop-n.n) c.args.d.now) ∷ take (4 * c.loop-n.n + 4 - 4 * c.loop-n.n) (drop (4 * c.loop-n.n) c.args.e.now) ∷ take (4 * c.loop-n.n + 4 - 4 * c.loop-n.n) (drop (4 * c.loop-n.n) c.args.f.now) ∷ take (4 * c.loop-n.n + 4 - 4 * c.loop-n.n) (drop (4 * c.loop-n.n) c.args.g.now) ∷ take (4 * c.loop-n.n + 4 - 4 * c.loop-n.n) (drop (4 * c.loop-n.n) c.args.h.now) ∷ [])
    (c.args.a.now ∷ c.args.b.now ∷ c.args.c.now ∷ c.args.d.now ∷ c.args.e.now ∷ c.args.f.now ∷ c.args.g.now ∷ c.args.h.now ∷ [])
    (omega arith) c.loop-n.invariant.size
    (OnePart c.requires.a refl (OnePart c.requires.b refl (OnePart c.requires.c refl (OnePart c.requires.d refl (OnePart c.requires.e refl (OnePart c.requires.f refl (OnePart c.requires.g refl (OnePart c.requires.h refl NoPart))))))))
    c.add_block.ensures in
    record {
      size = added.0;
      rest = ap (λ z. take z (put_mid (4 * c.loop-n.n) (4 * c.loop-n.n + 4 - 4 * c.loop-n.n) c.loop-n.acc c.add_block.new.acc) ++ sums_from g.F.Field.ops z (put_mid (4 * c.loop-n.n) (4 * c.loop-n.n + 4 - 4 * c.loop-n.n) c.loop-n.acc c.add_block.new.acc) (c.args.a.now ∷ c.args.b.now ∷ c.args.c.now ∷ c.args.d.now ∷ c.args.e.now ∷ c.args.f.now ∷ c.args.g.now ∷ c.args.h.now ∷ [])) (sym next) ∙ added.1 ∙ c.loop-n.invariant.rest;
    }
