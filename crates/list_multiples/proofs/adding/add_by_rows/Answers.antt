use Rattle.std.proofs.Common.{◌≡◌, ℕ, ◌+◌, ◌*◌, ◌/◌, ◌<◌, ◌≤◌, List, length, bit_and, drop, ◌∙◌, refl, sym, subst, arith, lit<}
use Rattle.std.proofs.lemmas.Nat.{and_mask}
use Rattle.list_multiples.specs.Rows.{row_count}
use Rattle.list_multiples.proofs.RowLists.{within_rows}
use Rattle.list_multiples.proofs.Factors.{next_word, none_below, all_below, nibble_below, undivided, IsAddedBelow}
use Rattle.list_multiples.proofs.adding.add_by_rows.Goals as goal

pub loop-step-init : goal.loop-step-init
loop-step-init g c = record {
  rest = c.to_bits-bits.ensures.value ∙ sym (undivided (g.F.Field.bits_of c.args.k));
  added = λ list size are. none_below g.F.Field.ops g.F.Field.bits_of g.F.Field.BITS g.met.F.Field.numbered g.met.F.Field.ring (g.F.Field.bits_of c.args.k) c.args.acc.now (drop c.args.from list);
}

-- a row of the word at index `step` lies within the rows
row_inside : {A : Type 0} (bits n step offset v : ℕ) (rows : List A) → length rows ≡ row_count bits * n → step < (bits + 31) / 32 → offset ≤ 112 → v < 16 → (128 * step + offset + v) * n + n ≤ length rows
row_inside bits n step offset v rows size lt le small = within_rows n (128 * step + offset + v) (row_count bits) rows size (omega (arith, lt, le, small))

pub row_part-requires-in-loop-step-3-clause-row : goal.row_part-requires-in-loop-step-3-clause-row
row_part-requires-in-loop-step-3-clause-row g c =
    row_inside g.F.Field.BITS c.args.n c.loop-step.step 48 c.nibble-in-loop-step-3.result c.args.rows.now c.requires.rows (omega (arith, c.BITS.ensures, c.loop-step-test.true)) (omega arith) c.nibble-in-loop-step-3.ensures.below

pub row_part-requires-in-loop-step-4-clause-row : goal.row_part-requires-in-loop-step-4-clause-row
row_part-requires-in-loop-step-4-clause-row g c =
    row_inside g.F.Field.BITS c.args.n c.loop-step.step 64 c.nibble-in-loop-step-4.result c.args.rows.now c.requires.rows (omega (arith, c.BITS.ensures, c.loop-step-test.true)) (omega arith) c.nibble-in-loop-step-4.ensures.below

pub row_part-requires-in-loop-step-5-clause-row : goal.row_part-requires-in-loop-step-5-clause-row
row_part-requires-in-loop-step-5-clause-row g c =
    row_inside g.F.Field.BITS c.args.n c.loop-step.step 80 c.nibble-in-loop-step-5.result c.args.rows.now c.requires.rows (omega (arith, c.BITS.ensures, c.loop-step-test.true)) (omega arith) c.nibble-in-loop-step-5.ensures.below

pub row_part-requires-in-loop-step-6-clause-row : goal.row_part-requires-in-loop-step-6-clause-row
row_part-requires-in-loop-step-6-clause-row g c =
    row_inside g.F.Field.BITS c.args.n c.loop-step.step 96 c.nibble-in-loop-step-6.result c.args.rows.now c.requires.rows (omega (arith, c.BITS.ensures, c.loop-step-test.true)) (omega arith) c.nibble-in-loop-step-6.ensures.below

pub row_part-requires-in-loop-step-7-clause-row : goal.row_part-requires-in-loop-step-7-clause-row
row_part-requires-in-loop-step-7-clause-row g c =
    row_inside g.F.Field.BITS c.args.n c.loop-step.step 112 c.nibble-in-loop-step-7.result c.args.rows.now c.requires.rows (omega (arith, c.BITS.ensures, c.loop-step-test.true)) (omega arith) c.nibble-in-loop-step-7.ensures.below

pub loop-step-preserved : goal.loop-step-preserved
loop-step-preserved g c = record {
  rest = next_word (g.F.Field.bits_of c.args.k) c.loop-step.bits c.loop-step.step c.loop-step.invariant.rest;
  added = λ list size are.
      let last : 128 * c.loop-step.step + 128 ≤ row_count g.F.Field.BITS = omega (arith, c.BITS.ensures, c.loop-step-test.true) in
      let none : 8 * c.loop-step.step ≡ 8 * c.loop-step.step + 0 = omega arith in
      let all : 8 * c.loop-step.step + 8 ≡ 8 * (c.loop-step.step + 1) = omega arith in
      let more = nibble_below g.F.Field.ops g.F.Field.bits_of g.F.Field.BITS g.met.F.Field.numbered g.met.F.Field.ring list c.args.rows.now (row_count g.F.Field.BITS) c.args.n c.args.from (g.F.Field.bits_of c.args.k) c.loop-step.step c.loop-step.bits (bit_and c.loop-step.bits 0xffffffff)
      c.args.acc.now are size c.requires.inside last c.loop-step.invariant.rest (and_mask c.loop-step.bits 32) in
      let begun = subst (λ w. IsAddedBelow g.F.Field.ops g.F.Field.bits_of (g.F.Field.bits_of c.args.k) w c.args.acc.now (drop c.args.from list) c.loop-step.acc) none (c.loop-step.invariant.added list size are) in
      subst (λ w. IsAddedBelow g.F.Field.ops g.F.Field.bits_of (g.F.Field.bits_of c.args.k) w c.args.acc.now (drop c.args.from list) c.add_eight.new.acc) all
      (λ m bits. c.add_eight.ensures ∙
      (more 7 c.nibble-in-loop-step-7.result (128 * c.loop-step.step + 112 + c.nibble-in-loop-step-7.result) _ c.row_part-in-loop-step-7.result.now (lit< tt) refl c.nibble-in-loop-step-7.ensures.value c.row_part-in-loop-step-7.ensures.value
      (more 6 c.nibble-in-loop-step-6.result (128 * c.loop-step.step + 96 + c.nibble-in-loop-step-6.result) _ c.row_part-in-loop-step-6.result.now (lit< tt) refl c.nibble-in-loop-step-6.ensures.value c.row_part-in-loop-step-6.ensures.value
      (more 5 c.nibble-in-loop-step-5.result (128 * c.loop-step.step + 80 + c.nibble-in-loop-step-5.result) _ c.row_part-in-loop-step-5.result.now (lit< tt) refl c.nibble-in-loop-step-5.ensures.value c.row_part-in-loop-step-5.ensures.value
      (more 4 c.nibble-in-loop-step-4.result (128 * c.loop-step.step + 64 + c.nibble-in-loop-step-4.result) _ c.row_part-in-loop-step-4.result.now (lit< tt) refl c.nibble-in-loop-step-4.ensures.value c.row_part-in-loop-step-4.ensures.value
      (more 3 c.nibble-in-loop-step-3.result (128 * c.loop-step.step + 48 + c.nibble-in-loop-step-3.result) _ c.row_part-in-loop-step-3.result.now (lit< tt) refl c.nibble-in-loop-step-3.ensures.value c.row_part-in-loop-step-3.ensures.value
      (more 2 c.nibble-in-loop-step-2.result (128 * c.loop-step.step + 32 + c.nibble-in-loop-step-2.result) _ c.row_part-in-loop-step-2.result.now (lit< tt) refl c.nibble-in-loop-step-2.ensures.value c.row_part-in-loop-step-2.ensures.value
      (more 1 c.nibble-in-loop-step.result (128 * c.loop-step.step + 16 + c.nibble-in-loop-step.result) _ c.row_part-in-loop-step.result.now (lit< tt) refl c.nibble-in-loop-step.ensures.value c.row_part-in-loop-step.ensures.value
      (more 0 c.nibble.result (128 * c.loop-step.step + c.nibble.result) _ c.row_part.result.now (lit< tt) (omega arith) c.nibble.ensures.value c.row_part.ensures.value
      begun)))))))) m bits);
}

pub returns : goal.returns
returns g c list size are =
    let past : g.F.Field.BITS ≤ 4 * (8 * c.loop-step.step) = omega (arith, c.BITS.ensures, c.loop-step-test.false) in
    all_below g.F.Field.ops g.F.Field.bits_of g.F.Field.BITS g.met.F.Field.numbered g.met.F.Field.ring c.args.k (8 * c.loop-step.step) c.args.acc.now (drop c.args.from list) c.loop-step.acc past (c.loop-step.invariant.added list size are)
