use Rattle.std.proofs.Common.{◌≡◌, ◌++◌, flat_map, take}
use Rattle.hex.specs.Hex.{encode_lower}
use Rattle.line_rules.specs.Lines.{line}
use Rattle.round_text.proofs.lines.put_id_lines.Given as goal

abbrev pub invariant-loop-id : goal.invariant-loop-id
invariant-loop-id l = l.out.items ≡ l.fn.out.items ++ flat_map (λ id. line (encode_lower id.0)) (take l.id-index l.ids)
