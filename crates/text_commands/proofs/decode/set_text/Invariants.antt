use Rattle.std.proofs.Common.{◌≡◌, map, take}
use Rattle.clmul_lanes.specs.Lane32.{bits_of}
use Rattle.sketch_text_rules.specs.Elements.{set_text}
use Rattle.text_commands.proofs.decode.set_text.Given as goal

abbrev pub invariant-loop-element : goal.invariant-loop-element
invariant-loop-element l = l.text.items ≡ set_text (map bits_of (take l.element-index l.set))
