-- Lines of 64 bytes that are no ids.
use Rattle.std.proofs.Common.{◌≡◌, List, ℕ, Err, inl, inr, length, sym, ◌∙◌, arith}
use Rattle.std.proofs.lemmas.Bool.{eq-eqb}
use Rattle.hex.specs.Hex.{decode_of, decode_sized}
use Rattle.hex.specs.declared.error.FromHexError.{FromHexError}
use Rattle.hex.proofs.HexLemmas.{decode_of-err, decode_sized-twice}
use Rattle.base_types.specs.declared.text.Kind.TheVariants as kind
use Rattle.protocol_text_rules.specs.Works.{id_of_line}

-- a byte of it is no digit
pub bad_digit : (bytes : List ℕ) (e : FromHexError) → length bytes ≡ 64 → decode_sized bytes 32 ≡ Err e → id_of_line bytes ≡ Err kind.BadDigit
bad_digit bytes e len sized =
    let refused : decode_of bytes ≡ Err e = sym (decode_sized-twice bytes 32 (omega arith)) ∙ sized in
    elim (decode_of-err bytes e refused) [
      | inl (odd, is) ↦ absurd (omega arith)
      | inr (k, is, within, other, before) ↦ rw (eq-eqb (length bytes) 64 len, refused, is)
    ]
