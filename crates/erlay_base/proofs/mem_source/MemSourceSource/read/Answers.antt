use Rattle.std.proofs.Common.{◌≡◌, ◌≤◌, ◌<◌, ◌+◌, ◌∙◌, arith, ap, sym, length, take, drop, min}
use Rattle.std.proofs.lemmas.Grind.{common_steps}
use Rattle.std.proofs.lemmas.List.{drop-drop}
use Rattle.erlay_base.proofs.Pieces.{front_and_rest, none_left, whole_rest}
use Rattle.erlay_base.proofs.mem_source.MemSourceSource.read.Goals as goal

pub returns-clause-bytes : goal.returns-clause-bytes
returns-clause-bytes c =
    let n = c.min-count.result in
    let rest = drop c.self.inside.at c.self.inside.bytes.items in
    let left : rest ≡ c.args.self.now.left = ap (λ s. s.left) c.self.view_is in
    let after : drop n rest ≡ drop (c.self.inside.at + n) c.self.inside.bytes.items = drop-drop n c.self.inside.at c.self.inside.bytes.items in
    let fits : n ≤ length rest = grind (arith, common_steps, whole_rest) in
    let copied : c.copy_from_slice.new.self ≡ take n rest = grind (arith, common_steps, whole_rest) in
    let split = front_and_rest rest c.args.buf.now n fits in
    let count : n ≡ min c.self.inside.cut (min (length c.args.buf.now) (length rest)) = grind (arith, common_steps, whole_rest) in (
      cc,
      λ none some.
          let room : 0 < length c.args.buf.now = grind (arith, common_steps) in
          sym after ∙ none_left rest n c.self.inside.cut (length c.args.buf.now) c.self.invariant.1 room count none,
    )
