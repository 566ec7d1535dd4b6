use Rattle.std.proofs.Common.{◌≡◌, ◌+◌, ◌-◌, ◌*◌, ◌/◌, ◌^◌, [], ◌∷◌, ◌++◌, length, refl, ap, subst, ◌∙◌, append_assoc, arith, rules}
use Rattle.std.proofs.lemmas.Result.{on_ok_weaker}
use Rattle.trace_sequences.specs.Halved.{AreLists}
use Rattle.trace_sequences.proofs.TapLists.{half_of_parts, lone_list, lists_of_halves, length-later}
use Rattle.trace_sequences.proofs.halved.+push_lists.Goals as goal

pub returns-then-depth-eq0 : goal.returns-then-depth-eq0
returns-then-depth-eq0 g t c = (
  c.in_ok-turned_multiples.field-0 ∷ [],
  c.in_ok-push.ensures.items,
  lone_list g.F.Field.ops c.args.depth c.args.taps.now c.in_ok-turned_multiples.field-0 c.if-depth-eq0.true
      (let size : length c.args.taps.now ≡ c.requires.parts.0 * 2 ^ 0 = c.requires.parts.2 ∙ ap (λ d. c.requires.parts.0 * 2 ^ d) c.if-depth-eq0.true in omega (arith, size, c.requires.parts.1))
      c.in_ok-turned_multiples.ensures,
)

pub push_lists-requires : goal.push_lists-requires
push_lists-requires g t c κs within =
    let next : c.args.depth ≡ c.args.depth - 1 + 1 = omega (arith, c.if-depth-eq0.false) in
    let half : (length c.args.taps.now / 2 ≡ c.requires.parts.0 * 2 ^ (c.args.depth - 1)) × (length c.args.taps.now ≡ 2 * (length c.args.taps.now / 2)) = half_of_parts c.args.depth (c.args.depth - 1) (length c.args.taps.now) c.requires.parts.0 next c.requires.parts.2 in (
      omega arith,
      (
        search rules,
        (
          c.requires.parts.0,
          c.requires.parts.1,
          ap length (c.as_slice.ensures.value ∙ c.in_ok-sums.ensures) ∙ length-later g.F.Field.ops (length c.args.taps.now / 2) c.args.taps.now (omega arith) ∙ omega (arith, half.1) ∙ half.0,
        ),
      ),
    )

pub push_lists-requires-2 : goal.push_lists-requires-2
push_lists-requires-2 g t c κs within =
    let next : c.args.depth ≡ c.args.depth - 1 + 1 = omega (arith, c.if-depth-eq0.false) in
    let half : (length c.args.taps.now / 2 ≡ c.requires.parts.0 * 2 ^ (c.args.depth - 1)) × (length c.args.taps.now ≡ 2 * (length c.args.taps.now / 2)) = half_of_parts c.args.depth (c.args.depth - 1) (length c.args.taps.now) c.requires.parts.0 next c.requires.parts.2 in
    (omega arith, (search rules, (c.requires.parts.0, c.requires.parts.1, c.split_at.ensures.front_len ∙ half.0)))

pub push_lists-requires-3 : goal.push_lists-requires-3
push_lists-requires-3 g t c κs within =
    let next : c.args.depth ≡ c.args.depth - 1 + 1 = omega (arith, c.if-depth-eq0.false) in
    let half : (length c.args.taps.now / 2 ≡ c.requires.parts.0 * 2 ^ (c.args.depth - 1)) × (length c.args.taps.now ≡ 2 * (length c.args.taps.now / 2)) = half_of_parts c.args.depth (c.args.depth - 1) (length c.args.taps.now) c.requires.parts.0 next c.requires.parts.2 in
    (omega arith, (search rules, (c.requires.parts.0, c.requires.parts.1, omega (arith, half.1, c.split_at.ensures.back_len) ∙ half.0)))

pub returns : goal.returns
returns g t c =
    on_ok_weaker c.push_lists-3.result
    (λ third. (
      c.in_ok-push_lists.ensures.0 ++ (c.in_ok-push_lists-2.ensures.0 ++ third.0),
      third.1
          ∙ ap (λ z. z ++ third.0) (c.in_ok-push_lists-2.ensures.1 ∙ ap (λ z. z ++ c.in_ok-push_lists-2.ensures.0) c.in_ok-push_lists.ensures.1)
          ∙ append_assoc (c.args.lists.now.items ++ c.in_ok-push_lists.ensures.0) c.in_ok-push_lists-2.ensures.0 third.0
          ∙ append_assoc c.args.lists.now.items c.in_ok-push_lists.ensures.0 (c.in_ok-push_lists-2.ensures.0 ++ third.0),
      lists_of_halves g.F.Field.ops c.args.depth (c.args.depth - 1) (length c.args.taps.now / 2) c.args.taps.now c.as_slice.result.now _ c.in_ok-push_lists.ensures.0 c.in_ok-push_lists-2.ensures.0 third.0
          next (half_of_parts c.args.depth (c.args.depth - 1) (length c.args.taps.now) c.requires.parts.0 next c.requires.parts.2).1
          (c.as_slice.ensures.value ∙ c.in_ok-sums.ensures)
          c.in_ok-push_lists.ensures.2
          (subst (λ z. AreLists g.F.Field.ops (c.args.depth - 1) z c.in_ok-push_lists-2.ensures.0) c.split_at.ensures.front c.in_ok-push_lists-2.ensures.2)
          (subst (λ z. AreLists g.F.Field.ops (c.args.depth - 1) z third.0) c.split_at.ensures.back third.2)
          refl,
    ))
    c.push_lists-3.ensures
  where
    next : c.args.depth ≡ c.args.depth - 1 + 1
    next = omega (arith, c.if-depth-eq0.false)
