use Rattle.std.proofs.Common.{◌≡◌, ◌^◌, [], ◌∷◌, ◌++◌, length, sym, ap, subst, ◌∙◌, arith, length-append}
use Rattle.std.specs.List.{All}
use Rattle.std.proofs.lemmas.List.Elements.{All-push}
use Rattle.trace_sequences.proofs.RowLists.{traces_pushed}
use Rattle.trace_sequences.proofs.traces.trace_sequences.Goals as goal

pub loop-j-preserved : goal.loop-j-preserved
loop-j-preserved g c =
    let items : c.push.new.self.items ≡ c.loop-j.traces.items ++ c.new.result ∷ [] = c.in_ok-push.ensures.items in
    record {
      count = omega (arith, ap length items, length-append c.loop-j.traces.items (c.new.result ∷ []), c.loop-j.invariant.count);
      sizes = subst (All (λ t. length t ≡ c.args.n)) (sym items) (All-push (λ t. length t ≡ c.args.n) c.loop-j.traces.items c.new.result c.loop-j.invariant.sizes (ap length c.new.ensures ∙ c.in_ok-trace.ensures.size));
      each = λ u es size are.
          traces_pushed g.F.Field.ops g.F.Field.bits_of g.F.Field.BITS c.args.exponent u es g.met.F.Field.numbered.same c.basis.result c.loop-j.traces.items c.push.new.self.items c.new.result
          (c.loop-j.invariant.each u es size are) (c.basis.ensures ∙ ap (λ n. 2 ^ n) (sym c.loop-j.invariant.count)) (c.new.ensures ∙ c.in_ok-trace.ensures.trace u es size are) items;
    }
