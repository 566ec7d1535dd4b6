use Rattle.std.proofs.Common.{◌≡◌, ◌++◌, List, ℕ, append_assoc}
use Rattle.std.specs.Prelude.{codes}
use Rattle.std.specs.Fmt.{decimal}
use Rattle.round_text.proofs.end.put_lengths.Goals as goal

-- the parts of the text as they are put together
parts : (out first len next wanted : List ℕ) → (out ++ (first ++ len)) ++ (next ++ wanted) ≡ out ++ (((first ++ len) ++ next) ++ wanted)
parts out first len next wanted = simp append_assoc

pub returns : goal.returns
returns c =
    rw (c.in_ok-put_number-2.ensures, c.in_ok-put_number.ensures)
    (parts c.args.out.now.items (codes "sketch length ") (decimal c.args.len) (codes " wanted ") (decimal c.args.wanted))
