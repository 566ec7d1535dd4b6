use Rattle.std.proofs.Common.{◌≡◌, ◌+◌, ◌-◌, ◌*◌, ◌/◌, List, ◌++◌, length, drop, sym, ap, subst, ◌∙◌, arith}
use Rattle.std.proofs.lemmas.List.{length-reverse}
use Rattle.std.proofs.lemmas.Result.{IfOk-weaker}
use Rattle.field_rules.specs.Lists.{sums_of_both}
use Rattle.splitting_laws.specs.Parts.{IsCorrelation}
use Rattle.trace_sequences.proofs.TapHalves.{by_halves}
use Rattle.trace_sequences.proofs.TapLists.{AreThirds, in_thirds, lone, lone_is, length-later}
use Rattle.trace_sequences.proofs.halved.+correlation_by_halves.Goals as goal

pub bounds-lists-0 : goal.bounds-lists-0
bounds-lists-0 g t c = let all : length c.args.lists.now ≡ 1 = ap length (lone g.F.Field.ops c.args.depth c.requires.lists.0 c.args.lists.now c.if-depth-eq0.true c.requires.lists.1).1 in omega (arith, all)

pub correlation_by_multiples-requires-clause-some : goal.correlation_by_multiples-requires-clause-some
correlation_by_multiples-requires-clause-some g t c =
    let turned = lone_is g.F.Field.ops c.args.depth c.requires.lists.0 c.index-lists-0.result c.args.lists.now c.if-depth-eq0.true c.requires.lists.1 c.index-lists-0.is in
    let size : length c.index-lists-0.result ≡ length c.requires.lists.0 = ap length turned ∙ length-reverse c.requires.lists.0 in
    omega (arith, size, (lone g.F.Field.ops c.args.depth c.requires.lists.0 c.args.lists.now c.if-depth-eq0.true c.requires.lists.1).0)

pub correlation_by_multiples-requires-clause-fits : goal.correlation_by_multiples-requires-clause-fits
correlation_by_multiples-requires-clause-fits g t c =
    let turned = lone_is g.F.Field.ops c.args.depth c.requires.lists.0 c.index-lists-0.result c.args.lists.now c.if-depth-eq0.true c.requires.lists.1 c.index-lists-0.is in
    let size : length c.index-lists-0.result ≡ length c.requires.lists.0 = ap length turned ∙ length-reverse c.requires.lists.0 in
    omega (arith, size, c.requires.lists.2, c.requires.fits)

pub returns-then-depth-eq0 : goal.returns-then-depth-eq0
returns-then-depth-eq0 g t c taps are size = c.correlation_by_multiples.ensures taps (lone_is g.F.Field.ops c.args.depth taps c.index-lists-0.result c.args.lists.now c.if-depth-eq0.true are c.index-lists-0.is)

pub split_at-requires-4 : goal.split_at-requires-4
split_at-requires-4 g t c =
    let next : c.args.depth ≡ c.args.depth - 1 + 1 = omega (arith, c.if-depth-eq0.false) in
    let parts : AreThirds g.F.Field.ops (c.args.depth - 1) (c.args.size / 2) c.requires.lists.0 c.split_at.result.0.now c.split_at-2.result.0.now c.split_at-2.result.1.now × (c.args.size ≡ 2 * (c.args.size / 2)) =
    in_thirds g.F.Field.ops c.args.depth (c.args.depth - 1) c.args.size c.requires.lists.0 c.args.lists.now c.split_at.result.0.now c.split_at.result.1.now c.split_at-2.result.0.now c.split_at-2.result.1.now
    next c.requires.lists.1 c.requires.lists.2 c.split_at.ensures.front c.split_at.ensures.back c.split_at-2.ensures.front c.split_at-2.ensures.back in
    let later : length c.as_slice.result.now ≡ length c.args.others.now - c.args.size / 2 = ap length (c.as_slice.ensures.value ∙ c.in_ok-sums.ensures) ∙ length-later g.F.Field.ops (c.args.size / 2) c.args.others.now (omega (arith, c.requires.fits)) in
    omega (arith, later, parts.1, c.requires.fits)

pub correlation_by_halves-requires : goal.correlation_by_halves-requires
correlation_by_halves-requires g t c κs within =
    let next : c.args.depth ≡ c.args.depth - 1 + 1 = omega (arith, c.if-depth-eq0.false) in
    let parts : AreThirds g.F.Field.ops (c.args.depth - 1) (c.args.size / 2) c.requires.lists.0 c.split_at.result.0.now c.split_at-2.result.0.now c.split_at-2.result.1.now × (c.args.size ≡ 2 * (c.args.size / 2)) =
    in_thirds g.F.Field.ops c.args.depth (c.args.depth - 1) c.args.size c.requires.lists.0 c.args.lists.now c.split_at.result.0.now c.split_at.result.1.now c.split_at-2.result.0.now c.split_at-2.result.1.now
    next c.requires.lists.1 c.requires.lists.2 c.split_at.ensures.front c.split_at.ensures.back c.split_at-2.ensures.front c.split_at-2.ensures.back in
    (omega arith, (within, ((sums_of_both g.F.Field.ops parts.0.first parts.0.second, parts.0.is_sum, parts.0.both_size), omega (arith, parts.1, c.requires.fits, c.split_at-3.ensures.back_len))))

pub correlation_by_halves-requires-2 : goal.correlation_by_halves-requires-2
correlation_by_halves-requires-2 g t c κs within =
    let next : c.args.depth ≡ c.args.depth - 1 + 1 = omega (arith, c.if-depth-eq0.false) in
    let parts : AreThirds g.F.Field.ops (c.args.depth - 1) (c.args.size / 2) c.requires.lists.0 c.split_at.result.0.now c.split_at-2.result.0.now c.split_at-2.result.1.now × (c.args.size ≡ 2 * (c.args.size / 2)) =
    in_thirds g.F.Field.ops c.args.depth (c.args.depth - 1) c.args.size c.requires.lists.0 c.args.lists.now c.split_at.result.0.now c.split_at.result.1.now c.split_at-2.result.0.now c.split_at-2.result.1.now
    next c.requires.lists.1 c.requires.lists.2 c.split_at.ensures.front c.split_at.ensures.back c.split_at-2.ensures.front c.split_at-2.ensures.back in
    let later : length c.as_slice-2.result.now ≡ length c.args.others.now - c.args.size / 2 = ap length (c.as_slice-2.ensures.value ∙ c.in_ok-sums.ensures) ∙ length-later g.F.Field.ops (c.args.size / 2) c.args.others.now (omega (arith, c.requires.fits)) in
    (omega arith, (within, ((parts.0.first, parts.0.is_first, parts.0.first_size), omega (arith, later, parts.1, c.requires.fits))))

pub correlation_by_halves-requires-3 : goal.correlation_by_halves-requires-3
correlation_by_halves-requires-3 g t c κs within =
    let next : c.args.depth ≡ c.args.depth - 1 + 1 = omega (arith, c.if-depth-eq0.false) in
    let parts : AreThirds g.F.Field.ops (c.args.depth - 1) (c.args.size / 2) c.requires.lists.0 c.split_at.result.0.now c.split_at-2.result.0.now c.split_at-2.result.1.now × (c.args.size ≡ 2 * (c.args.size / 2)) =
    in_thirds g.F.Field.ops c.args.depth (c.args.depth - 1) c.args.size c.requires.lists.0 c.args.lists.now c.split_at.result.0.now c.split_at.result.1.now c.split_at-2.result.0.now c.split_at-2.result.1.now
    next c.requires.lists.1 c.requires.lists.2 c.split_at.ensures.front c.split_at.ensures.back c.split_at-2.ensures.front c.split_at-2.ensures.back in
    let later : length c.as_slice.result.now ≡ length c.args.others.now - c.args.size / 2 = ap length (c.as_slice.ensures.value ∙ c.in_ok-sums.ensures) ∙ length-later g.F.Field.ops (c.args.size / 2) c.args.others.now (omega (arith, c.requires.fits)) in
    (omega arith, (within, ((parts.0.second, parts.0.is_second, parts.0.second_size), omega (arith, later, parts.1, c.requires.fits, c.split_at-4.ensures.back_len))))

pub halves_with-requires : goal.halves_with-requires
halves_with-requires g t c =
    let next : c.args.depth ≡ c.args.depth - 1 + 1 = omega (arith, c.if-depth-eq0.false) in
    let parts : AreThirds g.F.Field.ops (c.args.depth - 1) (c.args.size / 2) c.requires.lists.0 c.split_at.result.0.now c.split_at-2.result.0.now c.split_at-2.result.1.now × (c.args.size ≡ 2 * (c.args.size / 2)) =
    in_thirds g.F.Field.ops c.args.depth (c.args.depth - 1) c.args.size c.requires.lists.0 c.args.lists.now c.split_at.result.0.now c.split_at.result.1.now c.split_at-2.result.0.now c.split_at-2.result.1.now
    next c.requires.lists.1 c.requires.lists.2 c.split_at.ensures.front c.split_at.ensures.back c.split_at-2.ensures.front c.split_at-2.ensures.back in
    let both : length c.as_slice-3.result.now ≡ c.args.size / 2 = ap length c.as_slice-3.ensures.value ∙ (c.in_ok-both.ensures (sums_of_both g.F.Field.ops parts.0.first parts.0.second) parts.0.is_sum parts.0.both_size).size in
    record {
      first = (c.in_ok-first.ensures parts.0.first parts.0.is_first parts.0.first_size).size ∙ sym both;
      second = (c.in_ok-second.ensures parts.0.second parts.0.is_second parts.0.second_size).size ∙ sym both;
    }

pub returns : goal.returns
returns g t c taps are size =
    let next : c.args.depth ≡ c.args.depth - 1 + 1 = omega (arith, c.if-depth-eq0.false) in
    let parts : AreThirds g.F.Field.ops (c.args.depth - 1) (c.args.size / 2) taps c.split_at.result.0.now c.split_at-2.result.0.now c.split_at-2.result.1.now × (c.args.size ≡ 2 * (c.args.size / 2)) =
    in_thirds g.F.Field.ops c.args.depth (c.args.depth - 1) c.args.size taps c.args.lists.now c.split_at.result.0.now c.split_at.result.1.now c.split_at-2.result.0.now c.split_at-2.result.1.now
    next are size c.split_at.ensures.front c.split_at.ensures.back c.split_at-2.ensures.front c.split_at-2.ensures.back in
    let f : List _ = parts.0.first in
    let h : List _ = parts.0.second in
    let sums : List _ = sums_of_both g.F.Field.ops f h in
    IfOk-weaker c.halves_with.result
    (λ v. v.items ≡ sums_of_both g.F.Field.ops c.in_ok-first.first.items c.as_slice-3.result.now ++ sums_of_both g.F.Field.ops c.in_ok-second.second.items c.as_slice-3.result.now)
    (λ v. IsCorrelation g.F.Field.ops taps c.args.others.now c.args.size v.items)
    (λ v is.
    subst (λ z. IsCorrelation g.F.Field.ops z c.args.others.now c.args.size v.items) (sym parts.0.whole)
    (subst (λ m. IsCorrelation g.F.Field.ops (f ++ h) c.args.others.now m v.items) (sym parts.1)
    (by_halves g.F.Field.ops g.met.F.Field.ring f h c.args.others.now c.in_ok-sums.sums.items c.in_ok-both.both.items c.in_ok-first.first.items c.in_ok-second.second.items v.items (c.args.size / 2)
    parts.0.first_size parts.0.second_size (omega (arith, parts.1, c.requires.fits)) c.in_ok-sums.ensures
    (subst (λ z. IsCorrelation g.F.Field.ops sums z (c.args.size / 2) c.in_ok-both.both.items) c.split_at-3.ensures.back (c.in_ok-both.ensures sums parts.0.is_sum parts.0.both_size))
    (subst (λ z. IsCorrelation g.F.Field.ops f z (c.args.size / 2) c.in_ok-first.first.items) c.as_slice-2.ensures.value (c.in_ok-first.ensures f parts.0.is_first parts.0.first_size))
    (subst (λ z. IsCorrelation g.F.Field.ops h z (c.args.size / 2) c.in_ok-second.second.items) (c.split_at-4.ensures.back ∙ ap (drop (c.args.size / 2)) c.as_slice.ensures.value)
    (c.in_ok-second.ensures h parts.0.is_second parts.0.second_size))
    (is ∙ ap (λ z. sums_of_both g.F.Field.ops c.in_ok-first.first.items z ++ sums_of_both g.F.Field.ops c.in_ok-second.second.items z) c.as_slice-3.ensures.value))))
    c.halves_with.ensures
