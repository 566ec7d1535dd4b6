use Rattle.std.proofs.Common.{◌≡◌, ℕ, List, [], ◌∷◌, refl, ap, ◌∙◌}
use Rattle.field_rules.specs.Elements.{carryless_product, remainder, product, numbers}
use Rattle.field_rules.specs.Fields.{conjugate}
use Rattle.field_core.proofs.MapTables.{tables_of, tables_of-are}
use Rattle.clmul_lanes.proofs.Powers.{conjugate_is_linear, conjugate_of_bits}
use Rattle.clmul_lanes.proofs.conjugates.power_8.Goals as goal

abbrev tables : List (List ℕ)
tables =
    (0 ∷ 1 ∷ 256 ∷ 257 ∷ 65536 ∷ 65537 ∷ 65792 ∷ 65793 ∷ 16777216 ∷ 16777217 ∷ 16777472 ∷ 16777473 ∷ 16842752 ∷ 16842753 ∷ 16843008 ∷ 16843009 ∷ [])
    ∷ (0 ∷ 141 ∷ 36096 ∷ 36237 ∷ 9240576 ∷ 9240717 ∷ 9276672 ∷ 9276813 ∷ 2365587456 ∷ 2365587597 ∷ 2365623552 ∷ 2365623693 ∷ 2374828032 ∷ 2374828173 ∷ 2374864128 ∷ 2374864269 ∷ [])
    ∷ (0 ∷ 16465 ∷ 4215040 ∷ 4198737 ∷ 1079050240 ∷ 1079066705 ∷ 1074876672 ∷ 1074860369 ∷ 1358963520 ∷ 1358979857 ∷ 1363178048 ∷ 1363161617 ∷ 290530112 ∷ 290546449 ∷ 286356032 ∷ 286339601 ∷ [])
    ∷ (0 ∷ 2321181 ∷ 594222336 ∷ 591951389 ∷ 1797066807 ∷ 1799256874 ∷ 1215696183 ∷ 1213556266 ∷ 487587871 ∷ 489908994 ∷ 1048255775 ∷ 1045984770 ∷ 1980567592 ∷ 1982757685 ∷ 1432751400 ∷ 1430611509 ∷ [])
    ∷ (0 ∷ 268439809 ∷ 1116624 ∷ 269555921 ∷ 285855744 ∷ 17416449 ∷ 286841296 ∷ 18401489 ∷ 164628573 ∷ 433068380 ∷ 163643789 ∷ 432083084 ∷ 416929885 ∷ 148490588 ∷ 415814029 ∷ 147374220 ∷ [])
    ∷ (0 ∷ 3490208229 ∷ 140085264 ∷ 3629240821 ∷ 1502090344 ∷ 2306887053 ∷ 1372691576 ∷ 2178532765 ∷ 2283030389 ∷ 1478237840 ∷ 2152583013 ∷ 1346737792 ∷ 3516683037 ∷ 26479352 ∷ 3653622541 ∷ 164463336 ∷ [])
    ∷ (0 ∷ 340211688 ∷ 1194844900 ∷ 1399903500 ∷ 937608419 ∷ 598078219 ∷ 1893017095 ∷ 1687294447 ∷ 3804559827 ∷ 4135833147 ∷ 2784172855 ∷ 2981375199 ∷ 3576053040 ∷ 3244362456 ∷ 2450644948 ∷ 2253842492 ∷ [])
    ∷ (0 ∷ 3304695418 ∷ 4188413428 ∷ 1029684110 ∷ 2786954325 ∷ 1659120175 ∷ 1606128033 ∷ 2604808155 ∷ 495714574 ∷ 3648366452 ∷ 3827965178 ∷ 550746752 ∷ 3146878299 ∷ 2137533217 ∷ 1110937775 ∷ 2261661397 ∷ []) ∷ []

tables_are : tables ≡ tables_of (conjugate (numbers 32) 3)
unfolding conjugate product remainder carryless_product
tables_are = refl

pub returns : goal.returns
returns c =
    conjugate_of_bits 3 c.args.a c.new.result
    (c.new.ensures ∙ c.image.ensures (conjugate (numbers 32) 3) (conjugate_is_linear 3) (tables_of-are (conjugate (numbers 32) 3) tables tables_are) ∙ ap (conjugate (numbers 32) 3) c.get.ensures)
