use Rattle.std.proofs.Common.{◌≡◌, sym, ap, ◌∙◌, refl}
use Rattle.field_rules.specs.Fields.{conjugate}
use Rattle.field_laws.proofs.Inverses.{norm_of, norm_of-one, norm_of-joined, norm_of-square}
use Rattle.field_laws.proofs.Fields.{inverse_by_norm}
use Rattle.clmul_lanes.specs.declared.lane32.Lane32.{Lane32}
use Rattle.clmul_lanes.specs.Lane32.{ops, bits_of, ring, numbered, field}
use Rattle.clmul_lanes.proofs.lane32.Lane32Field.inv.Goals as goal

-- a square is the conjugate of one squaring
once : (a r : Lane32) → r ≡ ops.times a a → r ≡ conjugate ops 1 a
unfolding conjugate
once a r is = is

pub returns : goal.returns
returns c =
    let a = c.args.self in
    let one : a ≡ norm_of ops 1 a = sym (norm_of-one ops ring a) in
    let two : c.mul-p2.result ≡ norm_of ops 2 a = norm_of-joined ops ring 1 1 2 a a c.square.result a c.mul-p2.result refl one (once a c.square.result c.square.ensures) one c.mul-p2.ensures.times in
    let three : c.mul-p3.result ≡ norm_of ops 3 a = norm_of-joined ops ring 2 1 3 a c.mul-p2.result c.square-2.result a c.mul-p3.result refl two (once c.mul-p2.result c.square-2.result c.square-2.ensures) one c.mul-p3.ensures.times in
    let six : c.mul-p6.result ≡ norm_of ops 6 a = norm_of-joined ops ring 3 3 6 a c.mul-p3.result c.power_8.result c.mul-p3.result c.mul-p6.result refl three c.power_8.ensures three c.mul-p6.ensures.times in
    let seven : c.mul-p7.result ≡ norm_of ops 7 a = norm_of-joined ops ring 6 1 7 a c.mul-p6.result c.square-3.result a c.mul-p7.result refl six (once c.mul-p6.result c.square-3.result c.square-3.ensures) one c.mul-p7.ensures.times in
    let fourteen : c.mul-p14.result ≡ norm_of ops 14 a = norm_of-joined ops ring 7 7 14 a c.mul-p7.result c.power_128.result c.mul-p7.result c.mul-p14.result refl seven c.power_128.ensures seven c.mul-p14.ensures.times in
    let fifteen : c.mul-p15.result ≡ norm_of ops 15 a = norm_of-joined ops ring 14 1 15 a c.mul-p14.result c.square-4.result a c.mul-p15.result refl fourteen (once c.mul-p14.result c.square-4.result c.square-4.ensures) one c.mul-p15.ensures.times in
    let thirty : c.mul-p30.result ≡ norm_of ops 30 a = norm_of-joined ops ring 15 15 30 a c.mul-p15.result c.power_32768.result c.mul-p15.result c.mul-p30.result refl fifteen c.power_32768.ensures fifteen c.mul-p30.ensures.times in
    let last : c.mul-p31.result ≡ norm_of ops 31 a = norm_of-joined ops ring 30 1 31 a c.mul-p30.result c.square-5.result a c.mul-p31.result refl thirty (once c.mul-p30.result c.square-5.result c.square-5.ensures) one c.mul-p31.ensures.times in
    ap (ops.times a) (c.square-6.ensures ∙ ap (λ z. ops.times z z) last ∙ sym (norm_of-square ops ring 31 a))
    ∙ inverse_by_norm ops bits_of 32 ring numbered field a c.requires
