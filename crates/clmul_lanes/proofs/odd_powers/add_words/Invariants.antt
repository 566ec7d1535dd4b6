use Rattle.std.proofs.Common.{◌≡◌, ℕ, ◌+◌, ◌++◌, length, take, drop}
use Rattle.field_rules.specs.Ops.{with_odd_powers}
use Rattle.clmul_lanes.specs.declared.lane32.Lane32.{Lane32}
use Rattle.clmul_lanes.specs.Lane32.{ops}
use Rattle.clmul_lanes.specs.OddPowers.{bits_of_odd_powers}
use Rattle.clmul_lanes.proofs.odd_powers.add_words.Given as goal

abbrev pub invariant-loop-j : goal.invariant-loop-j
invariant-loop-j l = record {
  long : length l.acc ≡ length l.fn.acc;
  rest : (e : Lane32) (i : ℕ) → l.words ≡ bits_of_odd_powers e i → take l.j l.acc ++ with_odd_powers ops e (i + l.j) (drop l.j l.acc) ≡ with_odd_powers ops e i l.fn.acc;
}
