use Rattle.std.proofs.Common.{◌≡◌, ℕ, List, [], ◌∷◌, refl, ap, ◌∙◌}
use Rattle.field_rules.specs.Elements.{carryless_product, remainder, product, numbers}
use Rattle.field_rules.specs.Fields.{conjugate}
use Rattle.field_core.proofs.MapTables.{tables_of, tables_of-are}
use Rattle.clmul_lanes.proofs.Powers.{conjugate_is_linear, conjugate_of_bits}
use Rattle.clmul_lanes.proofs.conjugates.power_2.Goals as goal

abbrev tables : List (List ℕ)
tables =
    (0 ∷ 1 ∷ 4 ∷ 5 ∷ 16 ∷ 17 ∷ 20 ∷ 21 ∷ 64 ∷ 65 ∷ 68 ∷ 69 ∷ 80 ∷ 81 ∷ 84 ∷ 85 ∷ [])
    ∷ (0 ∷ 256 ∷ 1024 ∷ 1280 ∷ 4096 ∷ 4352 ∷ 5120 ∷ 5376 ∷ 16384 ∷ 16640 ∷ 17408 ∷ 17664 ∷ 20480 ∷ 20736 ∷ 21504 ∷ 21760 ∷ [])
    ∷ (0 ∷ 65536 ∷ 262144 ∷ 327680 ∷ 1048576 ∷ 1114112 ∷ 1310720 ∷ 1376256 ∷ 4194304 ∷ 4259840 ∷ 4456448 ∷ 4521984 ∷ 5242880 ∷ 5308416 ∷ 5505024 ∷ 5570560 ∷ [])
    ∷ (0 ∷ 16777216 ∷ 67108864 ∷ 83886080 ∷ 268435456 ∷ 285212672 ∷ 335544320 ∷ 352321536 ∷ 1073741824 ∷ 1090519040 ∷ 1140850688 ∷ 1157627904 ∷ 1342177280 ∷ 1358954496 ∷ 1409286144 ∷ 1426063360 ∷ [])
    ∷ (0 ∷ 141 ∷ 564 ∷ 697 ∷ 2256 ∷ 2141 ∷ 2788 ∷ 2665 ∷ 9024 ∷ 9165 ∷ 8564 ∷ 8697 ∷ 11152 ∷ 11037 ∷ 10660 ∷ 10537 ∷ [])
    ∷ (0 ∷ 36096 ∷ 144384 ∷ 178432 ∷ 577536 ∷ 548096 ∷ 713728 ∷ 682240 ∷ 2310144 ∷ 2346240 ∷ 2192384 ∷ 2226432 ∷ 2854912 ∷ 2825472 ∷ 2728960 ∷ 2697472 ∷ [])
    ∷ (0 ∷ 9240576 ∷ 36962304 ∷ 45678592 ∷ 147849216 ∷ 140312576 ∷ 182714368 ∷ 174653440 ∷ 591396864 ∷ 600637440 ∷ 561250304 ∷ 569966592 ∷ 730857472 ∷ 723320832 ∷ 698613760 ∷ 690552832 ∷ [])
    ∷ (0 ∷ 2365587456 ∷ 872415514 ∷ 3103785242 ∷ 3489662056 ∷ 1560282216 ∷ 3825206642 ∷ 1761609074 ∷ 1073745975 ∷ 3439333431 ∷ 1946161453 ∷ 4177531181 ∷ 2415924319 ∷ 486544479 ∷ 2751468869 ∷ 687871301 ∷ []) ∷ []

tables_are : tables ≡ tables_of (conjugate (numbers 32) 1)
unfolding conjugate product remainder carryless_product
tables_are = refl

pub returns : goal.returns
returns c =
    conjugate_of_bits 1 c.args.a c.new.result
    (c.new.ensures ∙ c.image.ensures (conjugate (numbers 32) 1) (conjugate_is_linear 1) (tables_of-are (conjugate (numbers 32) 1) tables tables_are) ∙ ap (conjugate (numbers 32) 1) c.get.ensures)
