use Rattle.std.proofs.Common.{◌≡◌, ◌++◌, List, [], ◌∷◌, ℕ, length, append_assoc}
use Rattle.std.specs.Prelude.{codes}
use Rattle.std.specs.Fmt.{decimal}
use Rattle.protocol_text_rules.specs.Ends.{ending_text}
use Rattle.round_text.proofs.report.put_round.Goals as goal

-- the words of the line as they are put together
parts : (out first number ending capacity ids shorts : List ℕ)
    → ((((((out ++ (first ++ number)) ++ 32 ∷ []) ++ ending) ++ 32 ∷ capacity) ++ 32 ∷ ids) ++ 32 ∷ shorts) ++ 10 ∷ []
    ≡ out ++ ((first ++ (number ++ 32 ∷ (ending ++ 32 ∷ (capacity ++ 32 ∷ (ids ++ 32 ∷ shorts))))) ++ 10 ∷ [])
parts out first number ending capacity ids shorts = simp append_assoc

pub returns : goal.returns
returns c =
    let r = c.args.report.now in
    rw (
      c.in_ok-push-2.ensures.items,
      c.in_ok-put_number-4.ensures,
      c.as_slice-2.ensures,
      c.in_ok-put_number-3.ensures,
      c.as_slice.ensures,
      c.in_ok-put_number-2.ensures,
      c.in_ok-extend_from_slice.ensures.items,
      c.ending_text.ensures,
      c.in_ok-push.ensures.items,
      c.in_ok-put_number.ensures,
    )
    (parts c.args.out.now.items (codes "round ") (decimal c.args.number) (ending_text r.ending) (decimal r.capacity) (decimal (length r.snapshot)) (decimal (length r.answered)))
