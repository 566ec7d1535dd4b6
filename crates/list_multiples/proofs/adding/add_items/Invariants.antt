use Rattle.std.proofs.Common.{◌≡◌, [], ◌∷◌, ◌++◌, length, take, fold}
use Rattle.field_rules.specs.Lists.{sums_of_both}
use Rattle.list_multiples.proofs.Sums.{sums_from}
use Rattle.list_multiples.proofs.adding.add_items.Given as goal

abbrev pub invariant-loop-i : goal.invariant-loop-i
invariant-loop-i g l = record {
  size : length l.acc ≡ length l.fn.acc;
  rest : take l.i l.acc ++ sums_from g.F.Field.ops l.i l.acc (l.a ∷ l.b ∷ l.c ∷ l.d ∷ l.e ∷ l.f ∷ l.g ∷ l.h ∷ []) ≡ fold (sums_of_both g.F.Field.ops) l.fn.acc (l.a ∷ l.b ∷ l.c ∷ l.d ∷ l.e ∷ l.f ∷ l.g ∷ l.h ∷ []);
}
