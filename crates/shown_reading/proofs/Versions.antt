-- Words that stand for what a node says of itself.
use Rattle.std.proofs.Common.{◌≡◌, ℕ, ◌^◌, ◌&&◌, true, List, ℤ, pos, negsuc, Option, nat_lt, ap, ◌∙◌, w32, w64}
use Rattle.std.specs.Fmt.{decimal, signed_decimal}
use Rattle.std.proofs.lemmas.Bool.{and_from, ltb-true}
use Rattle.std.proofs.lemmas.Int.{to_z-of_z}
use mir.Val.{of_z, to_z}
use Rattle.id_rules.specs.Bytes.{are_bytes, are_bytes_of, fits_signed, is_optional_byte}
use Rattle.wire_rules.specs.Limits.{is_version_in_range}
use Rattle.wire_rules.specs.Shown.{bytes_word, relay_word, version_words}
use Rattle.wire_rules.specs.declared.message.VersionMsg.{VersionMsg}
use Rattle.wire_laws.proofs.Parts.{version_ranges}
use Rattle.shown_reading.specs.Words.{first_word, other_words}
use Rattle.shown_reading.proofs.OneWord.{Only}

-- a signed number of 32 or of 64 bits is its own
pub same_32 : (z : ℤ) → fits_signed 31 z ≡ true → to_z w32 (of_z w32 z) ≡ z
same_32 (pos k) h = to_z-of_z w32 (pos k) (record { sfits = ltb-true k (2 ^ 31) h })
same_32 (negsuc k) h = to_z-of_z w32 (negsuc k) (record { sfits = ltb-true k (2 ^ 31) h })

pub same_64 : (z : ℤ) → fits_signed 63 z ≡ true → to_z w64 (of_z w64 z) ≡ z
same_64 (pos k) h = to_z-of_z w64 (pos k) (record { sfits = ltb-true k (2 ^ 63) h })
same_64 (negsuc k) h = to_z-of_z w64 (negsuc k) (record { sfits = ltb-true k (2 ^ 63) h })

-- a version whose fields are these is this one
same_version : (v : VersionMsg) (x1 : ℤ) (x2 : ℕ) (x3 : ℤ) (x4 x5 : List ℕ) (x6 : ℕ) (x7 : List ℕ) (x8 : ℤ) (x9 : Option ℕ) → v.version ≡ x1 → v.services ≡ x2 → v.time ≡ x3 → v.receiver ≡ x4 → v.sender ≡ x5 → v.nonce ≡ x6 → v.agent ≡ x7 → v.height ≡ x8 → v.relay ≡ x9 → v ≡ record { version = x1; services = x2; time = x3; receiver = x4; sender = x5; nonce = x6; agent = x7; height = x8; relay = x9 }
same_version v x1 x2 x3 x4 x5 x6 x7 x8 x9 e1 e2 e3 e4 e5 e6 e7 e8 e9 = by v.version v.services v.time v.receiver v.sender v.nonce v.agent v.height v.relay e1 e2 e3 e4 e5 e6 e7 e8 e9
  where
    by : (a : ℤ) (b : ℕ) (c : ℤ) (d e : List ℕ) (f : ℕ) (g : List ℕ) (h : ℤ) (i : Option ℕ) → a ≡ x1 → b ≡ x2 → c ≡ x3 → d ≡ x4 → e ≡ x5 → f ≡ x6 → g ≡ x7 → h ≡ x8 → i ≡ x9
        → (let first : VersionMsg = record { version = a; services = b; time = c; receiver = d; sender = e; nonce = f; agent = g; height = h; relay = i } in let second : VersionMsg = record { version = x1; services = x2; time = x3; receiver = x4; sender = x5; nonce = x6; agent = x7; height = x8; relay = x9 } in first ≡ second)
    by a b c d e f g h i o1 o2 o3 o4 o5 o6 o7 o8 o9 = cc

pub version_only : (words : List (List ℕ)) (w1 w2 w3 w4 w5 w6 w7 w8 w9 : List ℕ) → w1 ≡ first_word words → w2 ≡ first_word (other_words words) → w3 ≡ first_word (other_words (other_words words)) → w4 ≡ first_word (other_words (other_words (other_words words))) → w5 ≡ first_word (other_words (other_words (other_words (other_words words)))) → w6 ≡ first_word (other_words (other_words (other_words (other_words (other_words words))))) → w7 ≡ first_word (other_words (other_words (other_words (other_words (other_words (other_words words)))))) → w8 ≡ first_word (other_words (other_words (other_words (other_words (other_words (other_words (other_words words))))))) → w9 ≡ first_word (other_words (other_words (other_words (other_words (other_words (other_words (other_words (other_words words))))))))
    → (x1 : ℤ) (x2 : ℕ) (x3 : ℤ) (x4 x5 : List ℕ) (x6 : ℕ) (x7 : List ℕ) (x8 : ℤ) (x9 : Option ℕ)
    → Only (fits_signed 31) (λ y. w1 ≡ signed_decimal y) x1 → Only (λ n. nat_lt n (2 ^ 64)) (λ y. w2 ≡ decimal y) x2 → Only (fits_signed 63) (λ y. w3 ≡ signed_decimal y) x3 → Only (are_bytes_of 26) (λ y. w4 ≡ bytes_word y) x4 → Only (are_bytes_of 26) (λ y. w5 ≡ bytes_word y) x5 → Only (λ n. nat_lt n (2 ^ 64)) (λ y. w6 ≡ decimal y) x6 → Only (are_bytes) (λ y. w7 ≡ bytes_word y) x7 → Only (fits_signed 31) (λ y. w8 ≡ signed_decimal y) x8 → Only (is_optional_byte) (λ y. w9 ≡ relay_word y) x9
    → Only is_version_in_range (λ v. words ≡ version_words v) (record { version = x1; services = x2; time = x3; receiver = x4; sender = x5; nonce = x6; agent = x7; height = x8; relay = x9 })
version_only words w1 w2 w3 w4 w5 w6 w7 w8 w9 e1 e2 e3 e4 e5 e6 e7 e8 e9 x1 x2 x3 x4 x5 x6 x7 x8 x9 o1 o2 o3 o4 o5 o6 o7 o8 o9 = (
  and_from (fits_signed 31 x1 && nat_lt x2 (2 ^ 64) && fits_signed 63 x3 && are_bytes_of 26 x4 && are_bytes_of 26 x5 && nat_lt x6 (2 ^ 64) && are_bytes x7 && fits_signed 31 x8) (is_optional_byte x9) (and_from (fits_signed 31 x1 && nat_lt x2 (2 ^ 64) && fits_signed 63 x3 && are_bytes_of 26 x4 && are_bytes_of 26 x5 && nat_lt x6 (2 ^ 64) && are_bytes x7) (fits_signed 31 x8) (and_from (fits_signed 31 x1 && nat_lt x2 (2 ^ 64) && fits_signed 63 x3 && are_bytes_of 26 x4 && are_bytes_of 26 x5 && nat_lt x6 (2 ^ 64)) (are_bytes x7) (and_from (fits_signed 31 x1 && nat_lt x2 (2 ^ 64) && fits_signed 63 x3 && are_bytes_of 26 x4 && are_bytes_of 26 x5) (nat_lt x6 (2 ^ 64)) (and_from (fits_signed 31 x1 && nat_lt x2 (2 ^ 64) && fits_signed 63 x3 && are_bytes_of 26 x4) (are_bytes_of 26 x5) (and_from (fits_signed 31 x1 && nat_lt x2 (2 ^ 64) && fits_signed 63 x3) (are_bytes_of 26 x4) (and_from (fits_signed 31 x1 && nat_lt x2 (2 ^ 64)) (fits_signed 63 x3) (and_from (fits_signed 31 x1) (nat_lt x2 (2 ^ 64)) o1.0 o2.0) o3.0) o4.0) o5.0) o6.0) o7.0) o8.0) o9.0,
  λ v h s.
      let r = version_ranges v h in
      same_version v x1 x2 x3 x4 x5 x6 x7 x8 x9 (o1.1 v.version r.version (e1 ∙ ap (λ (ws : List (List ℕ)). first_word ws) s)) (o2.1 v.services r.services (e2 ∙ ap (λ (ws : List (List ℕ)). first_word (other_words ws)) s)) (o3.1 v.time r.time (e3 ∙ ap (λ (ws : List (List ℕ)). first_word (other_words (other_words ws))) s)) (o4.1 v.receiver r.receiver (e4 ∙ ap (λ (ws : List (List ℕ)). first_word (other_words (other_words (other_words ws)))) s)) (o5.1 v.sender r.sender (e5 ∙ ap (λ (ws : List (List ℕ)). first_word (other_words (other_words (other_words (other_words ws))))) s)) (o6.1 v.nonce r.nonce (e6 ∙ ap (λ (ws : List (List ℕ)). first_word (other_words (other_words (other_words (other_words (other_words ws)))))) s)) (o7.1 v.agent r.agent (e7 ∙ ap (λ (ws : List (List ℕ)). first_word (other_words (other_words (other_words (other_words (other_words (other_words ws))))))) s)) (o8.1 v.height r.height (e8 ∙ ap (λ (ws : List (List ℕ)). first_word (other_words (other_words (other_words (other_words (other_words (other_words (other_words ws)))))))) s)) (o9.1 v.relay r.relay (e9 ∙ ap (λ (ws : List (List ℕ)). first_word (other_words (other_words (other_words (other_words (other_words (other_words (other_words (other_words ws))))))))) s)),
)
