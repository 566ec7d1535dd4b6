-- Lists of numbers that are bytes, numbers within the ranges of types, and what may be an id or a transaction.
use Rattle.std.specs.Prelude.{ℕ, ◌^◌, ◌==◌, ◌&&◌, nat_lt, nat_le, Bool, true, List, length, ℤ, pos, negsuc, Some, None}
use Rattle.std.specs.List.{list_all}
use Rattle.std.specs.declared.option.Option.{Option}
use Rattle.base_types.specs.declared.lists.Hash32.{Hash32}
use Rattle.id_rules.specs.declared.TheConstants.{TX_LIMIT}

-- each number is a byte
abbrev pub are_bytes : List ℕ → Bool
are_bytes bytes = list_all (λ b. nat_lt b (2 ^ 8)) bytes

-- so many bytes
abbrev pub are_bytes_of : ℕ → List ℕ → Bool
are_bytes_of n bytes = (length bytes == n) && are_bytes bytes

-- a byte that may be absent
abbrev pub is_optional_byte : Option ℕ → Bool
is_optional_byte None = true
is_optional_byte (Some b) = nat_lt b (2 ^ 8)

-- a signed number of n bits and a sign
abbrev pub fits_signed : ℕ → ℤ → Bool
fits_signed n (pos k) = nat_lt k (2 ^ n)
fits_signed n (negsuc k) = nat_lt k (2 ^ n)

-- 32 bytes
abbrev pub is_id : Hash32 → Bool
is_id id = are_bytes_of 32 id.0

-- how many bytes a transaction may have
abbrev pub is_tx_length : ℕ → Bool
is_tx_length n = nat_lt 0 n && nat_le n TX_LIMIT

-- whether bytes may be a transaction
abbrev pub is_tx : List ℕ → Bool
is_tx tx = is_tx_length (length tx) && are_bytes tx
