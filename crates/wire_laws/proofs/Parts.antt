-- Parts of a list, told by their lengths, bytes that are tested, and the ranges of a version's fields.
use Rattle.std.proofs.Common.{◌≡◌, ℕ, ◌^◌, Bool, true, List, ◌++◌, length, take, drop, bytes_eq, nat_lt, ◌==◌, ◌∙◌, subst}
use Rattle.std.specs.List.{list_all}
use Rattle.std.proofs.Math.Seq.{take-append_seam, drop-append_seam}
use Rattle.std.proofs.lemmas.Bool.{eqb-true, and_from, and_parts}
use Rattle.std.proofs.lemmas.List.Folds.{list_all-append}
use Rattle.std.proofs.lemmas.Cmp.{nat_list_eq_equiv}
use Rattle.id_rules.specs.Bytes.{are_bytes, are_bytes_of, fits_signed, is_optional_byte}
use Rattle.wire_rules.specs.Limits.{is_version_in_range}
use Rattle.wire_rules.specs.declared.message.VersionMsg.{VersionMsg}

pub take_front : {A : Type 0} (n : ℕ) (xs ys : List A) → length xs ≡ n → take n (xs ++ ys) ≡ xs
take_front n xs ys e = subst (λ k. take k (xs ++ ys) ≡ xs) e (take-append_seam xs ys)

pub drop_front : {A : Type 0} (n : ℕ) (xs ys : List A) → length xs ≡ n → drop n (xs ++ ys) ≡ ys
drop_front n xs ys e = subst (λ k. drop k (xs ++ ys) ≡ ys) e (drop-append_seam xs ys)

-- bytes are equal to themselves
pub bytes_eq-self : (xs : List ℕ) → bytes_eq xs xs ≡ true
bytes_eq-self xs = nat_list_eq_equiv.refl xs

-- of a list in two parts
pub all_join : {A : Type 0} (test : A → Bool) (xs ys : List A) → list_all test xs ≡ true → list_all test ys ≡ true → list_all test (xs ++ ys) ≡ true
all_join test xs ys hx hy = list_all-append test xs ys ∙ and_from (list_all test xs) (list_all test ys) hx hy

pub of_length : (n : ℕ) (xs : List ℕ) → are_bytes_of n xs ≡ true → length xs ≡ n
of_length n xs h = eqb-true (length xs) n (and_parts (length xs == n) (are_bytes xs) h).0

-- ---- a version's fields, each within its range

pub record VersionRanges (v : VersionMsg) : Type 0 where
  pub version : fits_signed 31 v.version ≡ true
  pub services : nat_lt v.services (2 ^ 64) ≡ true
  pub time : fits_signed 63 v.time ≡ true
  pub receiver : are_bytes_of 26 v.receiver ≡ true
  pub sender : are_bytes_of 26 v.sender ≡ true
  pub nonce : nat_lt v.nonce (2 ^ 64) ≡ true
  pub agent : are_bytes v.agent ≡ true
  pub height : fits_signed 31 v.height ≡ true
  pub relay : is_optional_byte v.relay ≡ true

pub version_ranges : (v : VersionMsg) → is_version_in_range v ≡ true → VersionRanges v
version_ranges v h =
    let with_height = and_parts _ (is_optional_byte v.relay) h in
    let with_agent = and_parts _ (fits_signed 31 v.height) with_height.0 in
    let with_nonce = and_parts _ (are_bytes v.agent) with_agent.0 in
    let with_sender = and_parts _ (nat_lt v.nonce (2 ^ 64)) with_nonce.0 in
    let with_receiver = and_parts _ (are_bytes_of 26 v.sender) with_sender.0 in
    let with_time = and_parts _ (are_bytes_of 26 v.receiver) with_receiver.0 in
    let with_services = and_parts _ (fits_signed 63 v.time) with_time.0 in
    let first = and_parts (fits_signed 31 v.version) (nat_lt v.services (2 ^ 64)) with_services.0 in
    record {
      version = first.0;
      services = first.1;
      time = with_services.1;
      receiver = with_time.1;
      sender = with_receiver.1;
      nonce = with_sender.1;
      agent = with_nonce.1;
      height = with_agent.1;
      relay = with_height.1;
    }
