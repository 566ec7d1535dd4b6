use Rattle.std.proofs.Common.{◌≡◌, ◌+◌, ◌≤◌, ◌<◌, ◌^◌, length, drop, replicate, sym, ap, subst, ◌∙◌, arith}
use Rattle.std.specs.Prelude.{IfOk, IfSome}
use Rattle.std.proofs.lemmas.List.{take_at}
use Rattle.splitting_laws.specs.Parts.{IsCorrelation}
use Rattle.trace_sequences.specs.Halved.{ArePaddedLists}
use Rattle.trace_sequences.proofs.CorrelationSums.{zeros_alike}
use Rattle.trace_sequences.proofs.taps.Taps.correlation.Goals as goal

pub correlation-requires : goal.correlation-requires
correlation-requires g c =
    let known : (c.in-Some.halved.size < 2 ^ 62) × ArePaddedLists g.F.Field.ops c.in-Some.halved.depth c.in-Some.halved.size c.self.inside.items.now c.in-Some.halved.lists.items =
    subst (λ o. IfSome o (λ h. (h.size < 2 ^ 62) × ArePaddedLists g.F.Field.ops h.depth h.size c.self.inside.items.now h.lists.items)) c.in-Some.is c.self.invariant in
    record { size = (c.if-n-halved.true, known.0); lists = (c.self.inside.items.now, known.1) }

pub returns-then-n-halved : goal.returns-then-n-halved
returns-then-n-halved g c =
    let known : (c.in-Some.halved.size < 2 ^ 62) × ArePaddedLists g.F.Field.ops c.in-Some.halved.depth c.in-Some.halved.size c.self.inside.items.now c.in-Some.halved.lists.items =
    subst (λ o. IfSome o (λ h. (h.size < 2 ^ 62) × ArePaddedLists g.F.Field.ops h.depth h.size c.self.inside.items.now h.lists.items)) c.in-Some.is c.self.invariant in
    let fits : c.args.n + length c.self.inside.items.now ≤ length c.args.others.now + 1 = omega (arith, c.requires, ap length c.self.view_is) in
    subst (λ f. IfOk c.correlation.result (λ v. IsCorrelation g.F.Field.ops f c.args.others.now c.args.n v.items)) c.self.view_is (c.correlation.ensures c.self.inside.items.now known.1 fits)

pub add_by_items-requires : goal.add_by_items-requires
add_by_items-requires g c =
    let zeros : (length c.as_mut_slice.result.now ≡ c.args.n) × (c.as_mut_slice.result.now ≡ replicate (length c.as_mut_slice.result.now) g.F.Field.ops.zero) =
    zeros_alike c.as_mut_slice.result.now c.args.n g.F.Field.ops.zero (c.as_mut_slice.ensures.value ∙ c.in_ok-products.ensures) in
    record { zeros = zeros.1; fits = omega (arith, zeros.0, c.requires, ap length c.self.view_is) }

pub returns : goal.returns
returns g c =
    let size : length c.as_mut_slice.result.now ≡ c.args.n =
    (zeros_alike c.as_mut_slice.result.now c.args.n g.F.Field.ops.zero (c.as_mut_slice.ensures.value ∙ c.in_ok-products.ensures)).0 in
    subst (IsCorrelation g.F.Field.ops c.args.self.now c.args.others.now c.args.n)
    (sym (take_at c.add_by_items.new.products (drop (length c.add_by_items.new.products) c.in_ok-products.products.items) c.in_ok-products.products.len (omega (arith, c.add_by_items.ensures.size, ap length c.as_mut_slice.ensures.value))))
    (subst (λ f. IsCorrelation g.F.Field.ops f c.args.others.now c.args.n c.add_by_items.new.products) c.self.view_is
    (subst (λ m. IsCorrelation g.F.Field.ops c.self.inside.items.now c.args.others.now m c.add_by_items.new.products) size c.add_by_items.ensures))
