use Rattle.std.proofs.Common.{◌≡◌, ◌*◌, ◌/◌, ◌^◌, List, length, drop}
use Rattle.list_multiples.specs.Rows.{row_count, AreRows}
use Rattle.list_multiples.proofs.Factors.{IsAddedBelow}
use Rattle.list_multiples.proofs.adding.add_by_rows.Given as goal

abbrev pub invariant-loop-step : goal.invariant-loop-step
invariant-loop-step g l = record {
  rest : l.bits ≡ g.F.Field.bits_of l.fn.k / 2 ^ (32 * l.step);
  added : (list : List g.row.F.Denot) → length list ≡ l.n → AreRows g.F.Field.ops g.F.Field.bits_of (row_count g.F.Field.BITS) list l.rows
      → IsAddedBelow g.F.Field.ops g.F.Field.bits_of (g.F.Field.bits_of l.fn.k) (8 * l.step) l.fn.acc (drop l.from list) l.acc;
}
