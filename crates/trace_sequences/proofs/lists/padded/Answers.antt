use Rattle.std.proofs.Common.{◌≡◌, ◌⊎◌, inl, inr, ℕ, ◌-◌, ◌≤◌, List, ◌++◌, length, take, replicate, ap, ap₂, sym, ◌∙◌, arith}
use Rattle.std.proofs.lemmas.List.{take_all}
use Rattle.trace_sequences.proofs.lists.padded.Goals as goal

-- the lesser of the size and of the list's
lesser_front : {A : Type 0} (size count : ℕ) (xs : List A) → (size ≤ count) ⊎ (length xs ≤ count) → count ≤ size → count ≤ length xs → (take count xs ≡ take size xs) × (size - count ≡ size - length xs)
lesser_front size count xs (inl all) below within = let same : count ≡ size = omega arith in (ap (λ n. take n xs) same, omega arith)
lesser_front size count xs (inr all) below within = let same : count ≡ length xs = omega arith in (take_all count xs all ∙ sym (take_all size xs (omega arith)), omega arith)

pub returns : goal.returns
returns g c =
    let front : (take c.lesser-count.result c.args.list.now ≡ take c.args.size c.args.list.now) × (c.args.size - c.lesser-count.result ≡ c.args.size - length c.args.list.now) =
    lesser_front c.args.size c.lesser-count.result c.args.list.now c.lesser-count.ensures.one c.lesser-count.ensures.no_more.0 c.lesser-count.ensures.no_more.1 in
    c.in_ok-extend_from_slice-2.ensures.items
    ∙ ap₂ ◌++◌ (c.in_ok-extend_from_slice.ensures.items ∙ ap (λ z. z ++ take c.lesser-count.result c.args.list.now) c.in_ok-items.ensures.items ∙ front.0)
    (c.as_slice.ensures.value ∙ c.in_ok-rest.ensures ∙ ap (λ n. replicate n g.F.Field.ops.zero) front.1)
