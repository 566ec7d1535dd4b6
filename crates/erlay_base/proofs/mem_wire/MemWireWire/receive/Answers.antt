use Rattle.std.proofs.Common.{rules, ◌≡◌, ◌<◌, ◌+◌, ◌∙◌, ◌++◌, ℕ, arith, refl, sym, length, take, drop, min, take-append-drop, length-take}
use Rattle.std.proofs.lemmas.Grind.{common_steps}
use Rattle.std.proofs.lemmas.List.{drop-drop}
use Rattle.erlay_base.proofs.Pieces.{none_left, whole_rest}
use Rattle.erlay_base.proofs.mem_wire.MemWireWire.receive.Goals as goal

pub returns-clause-link : goal.returns-clause-link
returns-clause-link c =
    let n = c.copy_front-count.result in
    let buf = c.copy_front-count.new.buf in
    let rest = drop c.self.inside.at c.self.inside.bytes.items in
    let same : take n buf ≡ take n rest = grind (arith, common_steps, whole_rest) in
    let after : drop n rest ≡ drop (c.self.inside.at + n) c.self.inside.bytes.items = drop-drop n c.self.inside.at c.self.inside.bytes.items in
    let split : rest ≡ take n buf ++ drop (c.self.inside.at + n) c.self.inside.bytes.items = rw (same, ← after) (sym (take-append-drop n rest)) in
    let count : n ≡ min c.self.inside.cut (min (length c.args.buf.now) (length rest)) = grind (arith, common_steps, whole_rest) in
    let len = c.copy_front-count.ensures.len in
    let taken : length (take n buf) ≡ n = omega (arith, length-take {A = ℕ}) in
    let sent : c.len.result ≡ length c.self.inside.sent.items = omega (arith, c.self.inside.sent.ok.0) in
    rw (← c.self.view_is) record {
      bytes = split;
      end = λ none some.
          let room : 0 < length c.args.buf.now = omega arith in
          sym after ∙ none_left rest n c.self.inside.cut (length c.args.buf.now) c.self.invariant.1 room count none;
      piece = λ some.
          let least : 0 < length (take n buf) = omega arith in
          rw sent at (c.in-Ok.ensures.piece least);
      no_piece = λ none.
          let least : length (take n buf) ≡ 0 = omega arith in
          c.in-Ok.ensures.none least;
      input = search rules;
      sent = refl;
      calls = refl;
    }
