use Rattle.std.proofs.Common.{◌≡◌, length, map, None, Some, sym, ap, subst, ◌∙◌, arith}
use Rattle.std.specs.Option.{option_map}
use Rattle.sketch_rules.specs.PowerSums.{IsAllSums}
use Rattle.sketch_rules.specs.Answers.{answer_at}
use Rattle.trace_roots.proofs.Decoded.{exactly, differs, too_long}
use Rattle.trace_roots.proofs.decoding.decode.Goals as goal

pub returns-then-length-capacity : goal.returns-then-length-capacity
returns-then-length-capacity g c =
    let none : answer_at g.F.Field.BITS (map g.F.Field.bits_of c.args.sketch.now) ≡ None =
    too_long g.F.Field.ops g.met.F.Field.ring g.F.Field.bits_of g.F.Field.BITS g.met.F.Field.field g.met.F.Field.numbered c.args.sketch.now c.as_slice.result.now c.in_ok-locator.locator
    (subst (IsAllSums g.F.Field.ops c.args.sketch.now) (sym c.as_slice.ensures.value) c.in_ok-sums.ensures.ok) c.in_ok-locator.ensures.shortest (omega (arith, c.if-length-capacity.true, c.length.ensures, c.capacity.ensures.value)) in
    record {
      answer = sym none;
      exactly = λ es. exactly g.F.Field.ops g.met.F.Field.ring g.F.Field.bits_of g.F.Field.BITS g.met.F.Field.field g.met.F.Field.numbered None (map g.F.Field.bits_of c.args.sketch.now) es (sym none);
      difference = λ xs ys in_xs in_ys apart_xs apart_ys few sums. differs g.F.Field.ops g.met.F.Field.ring g.F.Field.bits_of g.F.Field.BITS g.met.F.Field.field g.met.F.Field.numbered None (map g.F.Field.bits_of c.args.sketch.now) xs ys (length c.args.sketch.now) (sym none) in_xs in_ys apart_xs apart_ys few sums;
    }

pub returns-in-Some : goal.returns-in-Some
returns-in-Some g c = record {
  answer = is;
  exactly = λ es. exactly g.F.Field.ops g.met.F.Field.ring g.F.Field.bits_of g.F.Field.BITS g.met.F.Field.field g.met.F.Field.numbered (Some (map g.F.Field.bits_of c.from_vec.result)) (map g.F.Field.bits_of c.args.sketch.now) es is;
  difference = λ xs ys in_xs in_ys apart_xs apart_ys few sums. differs g.F.Field.ops g.met.F.Field.ring g.F.Field.bits_of g.F.Field.BITS g.met.F.Field.field g.met.F.Field.numbered (Some (map g.F.Field.bits_of c.from_vec.result)) (map g.F.Field.bits_of c.args.sketch.now) xs ys (length c.args.sketch.now) is in_xs in_ys apart_xs apart_ys few sums;
}
  where
    found : option_map (λ v. map g.F.Field.bits_of v.items) c.in_ok-members.field-0 ≡ answer_at g.F.Field.BITS (map g.F.Field.bits_of c.args.sketch.now)
    found = c.in_ok-members.ensures c.args.sketch.now (subst (IsAllSums g.F.Field.ops c.args.sketch.now) (sym c.as_slice-2.ensures.value) c.in_ok-sums.ensures.ok)

    is : Some (map g.F.Field.bits_of c.from_vec.result) ≡ answer_at g.F.Field.BITS (map g.F.Field.bits_of c.args.sketch.now)
    is = ap (λ v. Some (map g.F.Field.bits_of v)) c.from_vec.ensures ∙ subst (λ o. option_map (λ v. map g.F.Field.bits_of v.items) o ≡ answer_at g.F.Field.BITS (map g.F.Field.bits_of c.args.sketch.now)) c.in-Some.is found

pub returns : goal.returns
returns g c = record {
  answer = is;
  exactly = λ es. exactly g.F.Field.ops g.met.F.Field.ring g.F.Field.bits_of g.F.Field.BITS g.met.F.Field.field g.met.F.Field.numbered None (map g.F.Field.bits_of c.args.sketch.now) es is;
  difference = λ xs ys in_xs in_ys apart_xs apart_ys few sums. differs g.F.Field.ops g.met.F.Field.ring g.F.Field.bits_of g.F.Field.BITS g.met.F.Field.field g.met.F.Field.numbered None (map g.F.Field.bits_of c.args.sketch.now) xs ys (length c.args.sketch.now) is in_xs in_ys apart_xs apart_ys few sums;
}
  where
    found : option_map (λ v. map g.F.Field.bits_of v.items) c.in_ok-members.field-0 ≡ answer_at g.F.Field.BITS (map g.F.Field.bits_of c.args.sketch.now)
    found = c.in_ok-members.ensures c.args.sketch.now (subst (IsAllSums g.F.Field.ops c.args.sketch.now) (sym c.as_slice-2.ensures.value) c.in_ok-sums.ensures.ok)

    is : None ≡ answer_at g.F.Field.BITS (map g.F.Field.bits_of c.args.sketch.now)
    is = subst (λ o. option_map (λ v. map g.F.Field.bits_of v.items) o ≡ answer_at g.F.Field.BITS (map g.F.Field.bits_of c.args.sketch.now)) c.in-None.is found
