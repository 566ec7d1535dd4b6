use Rattle.std.proofs.Common.{◌≡◌, [], ◌∷◌, ◌++◌, length, sym, ap, subst, ◌∙◌, arith, length-append}
use Rattle.std.specs.List.{All}
use Rattle.std.proofs.lemmas.List.Elements.{All-nil, All-push, All-same}
use Rattle.sequence_laws.specs.Sequences.{row_of}
use Rattle.trace_sequences.specs.Rows.{AreRows}
use Rattle.trace_sequences.proofs.RowLists.{rows_none, rows_pushed}
use Rattle.trace_sequences.proofs.rows.rows_by_halves.Goals as goal

pub loop-init : goal.loop-init
loop-init g c = record {
  count = ap length c.in_ok-rows.ensures.items;
  sizes = All-same (λ r. length r ≡ c.args.n) c.in_ok-rows.rows.items [] c.in_ok-rows.ensures.items (All-nil (λ r. length r ≡ c.args.n));
  rows = λ es f u differ is unit size even odd sums. rows_none g.F.Field.ops u es c.in_ok-rows.rows.items c.in_ok-rows.ensures.items;
}

pub next_row-requires : goal.next_row-requires
next_row-requires g c = record {
  sums = c.requires.sums;
  sizes = subst (All (λ r. length r ≡ c.args.n)) (sym c.as_slice.ensures.value) c.loop.invariant.sizes;
  odd = c.requires.odd;
  even = c.requires.even;
}

pub loop-preserved : goal.loop-preserved
loop-preserved g c =
    let items : c.push.new.self.items ≡ c.loop.rows.items ++ c.new.result ∷ [] = c.in_ok-push.ensures.items in
    record {
      count = omega (arith, ap length items, length-append c.loop.rows.items (c.new.result ∷ []), c.loop.invariant.count);
      sizes = subst (All (λ r. length r ≡ c.args.n)) (sym items)
          (All-push (λ r. length r ≡ c.args.n) c.loop.rows.items c.new.result c.loop.invariant.sizes (ap length c.new.ensures ∙ c.in_ok-row.ensures.size));
      rows = λ es f u differ is unit size even odd sums.
          rows_pushed g.F.Field.ops u es c.new.result c.loop.rows.items c.push.new.self.items (c.loop.invariant.rows es f u differ is unit size even odd sums)
          (c.new.ensures
          ∙ c.in_ok-row.ensures.row es f u differ is unit size even odd sums
          (subst (AreRows g.F.Field.ops u es) (sym c.as_slice.ensures.value) (c.loop.invariant.rows es f u differ is unit size even odd sums))
          ∙ ap (λ z. row_of g.F.Field.ops u es (length z)) c.as_slice.ensures.value)
          items;
    }

pub returns : goal.returns
returns g c = record {
  count = omega (arith, c.loop.invariant.count, c.loop.auto.counter-end, c.BITS.ensures);
  size = c.loop.invariant.sizes;
  rows = c.loop.invariant.rows;
}
