-- The digits of salts.
use Rattle.std.proofs.Common.{◌≡◌, ℕ, ◌^◌, ◌<◌, List, Ok, Err, sym, ap, ◌∙◌, arith}
use Rattle.std.specs.Int.{from_be_bytes, to_be_bytes, w64}
use Rattle.std.proofs.lemmas.Nat.{be_bytes_8, from_be_bytes-to_be_bytes_8}
use Rattle.hex.specs.Hex.{decode_sized}
use Rattle.hex.specs.declared.error.FromHexError.{FromHexError}
use Rattle.hex.proofs.HexLemmas.{decode_of-ok, decode_of-same, decode_sized-ok, decode_sized-twice}
use Rattle.command_words.specs.Words.{IsSalt}

-- 16 digits spell one
pub is_salt : (word bytes : List ℕ) (n : ℕ) → decode_sized word 8 ≡ Ok bytes → n ≡ from_be_bytes w64 bytes → n < 2 ^ 64 → IsSalt word n
is_salt word bytes n sized value small =
    let digits = decode_sized-twice word 8 (decode_sized-ok word 8 bytes sized) in
    let ok = decode_of-ok word bytes (sym digits ∙ sized) in
    let len = decode_sized-ok word 8 bytes sized in
    (sym digits ∙ sized ∙ ap Ok (sym (be_bytes_8 bytes n (omega (arith, ok.2, len)) ok.3 value)), small)

-- another word spells none
pub no_salt : (word : List ℕ) (e : FromHexError) (n : ℕ) → decode_sized word 8 ≡ Err e → IsSalt word n → ⊥
no_salt word e n sized salt =
    let ok = decode_of-ok word (to_be_bytes w64 n) salt.0 in
    let digits = decode_sized-twice word 8 (omega (arith, ok.2)) in
    cc (sym sized ∙ digits ∙ salt.0)

-- a word spells one salt
pub same_salt : (word : List ℕ) (m n : ℕ) → IsSalt word m → IsSalt word n → m ≡ n
same_salt word m n is_m is_n =
    let bytes = decode_of-same word (to_be_bytes w64 m) (to_be_bytes w64 n) is_m.0 is_n.0 in
    sym (from_be_bytes-to_be_bytes_8 m is_m.1) ∙ ap (from_be_bytes w64) bytes ∙ from_be_bytes-to_be_bytes_8 n is_n.1
