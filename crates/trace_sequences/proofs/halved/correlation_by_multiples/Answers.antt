use Rattle.std.proofs.Common.{◌≡◌, length, drop, replicate, sym, ap, subst, ◌∙◌, arith}
use Rattle.std.proofs.lemmas.List.{take_at}
use Rattle.splitting_laws.specs.Parts.{IsCorrelation}
use Rattle.trace_sequences.proofs.CorrelationSums.{zeros_alike}
use Rattle.trace_sequences.proofs.halved.correlation_by_multiples.Goals as goal

pub add_by_multiples-requires : goal.add_by_multiples-requires
add_by_multiples-requires g c =
    let zeros : (length c.as_mut_slice.result.now ≡ c.args.n) × (c.as_mut_slice.result.now ≡ replicate (length c.as_mut_slice.result.now) g.F.Field.ops.zero) =
    zeros_alike c.as_mut_slice.result.now c.args.n g.F.Field.ops.zero (c.as_mut_slice.ensures.value ∙ c.in_ok-products.ensures) in
    record { zeros = zeros.1; some = c.requires.some; fits = omega (arith, zeros.0, c.requires.fits) }

pub returns : goal.returns
returns g c = λ items is.
    (let size : length c.as_mut_slice.result.now ≡ c.args.n =
    (zeros_alike c.as_mut_slice.result.now c.args.n g.F.Field.ops.zero (c.as_mut_slice.ensures.value ∙ c.in_ok-products.ensures)).0 in
    let made : IsCorrelation g.F.Field.ops items c.args.others.now (length c.as_mut_slice.result.now) c.add_by_multiples.new.products = c.add_by_multiples.ensures items is in
    subst (IsCorrelation g.F.Field.ops items c.args.others.now c.args.n)
    (sym (take_at c.add_by_multiples.new.products (drop (length c.add_by_multiples.new.products) c.in_ok-products.products.items) c.in_ok-products.products.len (omega (arith, made.size, ap length c.as_mut_slice.ensures.value))))
    (subst (λ m. IsCorrelation g.F.Field.ops items c.args.others.now m c.add_by_multiples.new.products) size made))
