use Rattle.std.proofs.Common.{◌≡◌, [], ◌∷◌, ◌++◌, length, take}
use Rattle.field_rules.specs.Lists.{sums_of_both}
use Rattle.list_multiples.proofs.Sums.{sums_from}
use Rattle.list_multiples.proofs.rows.add_each.Given as goal

abbrev pub invariant-loop-i : goal.invariant-loop-i
invariant-loop-i g l = record {
  paired : length l.acc ≡ length l.x;
  rest : take l.i l.acc ++ sums_from g.F.Field.ops l.i l.acc (l.x ∷ []) ≡ sums_of_both g.F.Field.ops l.fn.acc l.x;
}
