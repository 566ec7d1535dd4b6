use Rattle.std.proofs.Common.{◌≡◌, length, take}
use Rattle.sketch_rules.specs.PowerSums.{power_sum}
use Rattle.clmul_lanes.specs.Lane32.{ops}
use Rattle.clmul_lanes.proofs.GatheredSums.{GivesPowers}
use Rattle.clmul_lanes.proofs.gathered_sums.eight_sums.Given as goal

abbrev pub invariant-loop-e : goal.invariant-loop-e
invariant-loop-e l = record {
  size : length l.cubes ≡ 128;
  first : l.first ≡ power_sum ops 1 (take l.e-index l.fn.elements);
  third : l.third ≡ power_sum ops 3 (take l.e-index l.fn.elements);
  fifth : GivesPowers 2 0 5 (take l.e-index l.fn.elements) l.own;
  seventh : GivesPowers 2 0 7 (take l.e-index l.fn.elements) l.cubes;
  ninth : GivesPowers 3 0 9 (take l.e-index l.fn.elements) l.own;
  eleventh : GivesPowers 3 0 11 (take l.e-index l.fn.elements) l.cubes;
  thirteenth : GivesPowers 0 2 13 (take l.e-index l.fn.elements) l.cubes;
  fifteenth : GivesPowers 2 0 15 (take l.e-index l.fn.elements) l.cubes_own;
}
