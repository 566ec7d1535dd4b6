use Rattle.std.proofs.Common.{◌≡◌, ◌↔◌, true, false, ap, ◌∙◌}
use Rattle.std.specs.Prelude.{IsTrue}
use Rattle.field_laws.proofs.Numbers.{equal_bits}
use Rattle.field_laws.proofs.Fields.{selected_root}
use Rattle.field_laws.proofs.Certified32.{certificate_32}
use Rattle.field_core.specs.declared.gf32.Gf32.{Gf32}
use Rattle.field_core.specs.Gf32.{ops, bits_of, ring, numbered}
use Rattle.field_core.proofs.gf32.Gf32Field.artin_schreier_root.Goals as goal

pub returns-else-eq : goal.returns-else-eq
returns-else-eq c y is =
    let z : Gf32 = c.new-y.result in
    let root : ops.plus (ops.times z z) z ≡ c.args.self = selected_root ops bits_of 32 ring numbered certificate_32 y c.args.self z is (c.new-y.ensures ∙ c.artin_schreier_candidate.ensures) in
    let same : c.add.result ≡ c.args.self = c.add.ensures.sum ∙ ap (λ s. ops.plus s z) c.square.ensures ∙ root in
    let tested : IsTrue c.eq.result ↔ (c.add.result ≡ c.args.self) = equal_bits ops bits_of 32 numbered c.eq.result c.add.result c.args.self c.eq.ensures in
    let yes : c.eq.result ≡ true = tested.1 same in
    let no : c.eq.result ≡ false = c.if-eq.false in
    cc
