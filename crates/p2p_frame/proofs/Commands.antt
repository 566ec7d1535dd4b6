-- A command is filled up with NUL.
use Rattle.std.proofs.Common.{◌≡◌, ℕ, suc, ◌+◌, ◌≤◌, ◌==◌, Bool, true, false, cond, not, if◌then◌else◌, unwrap_or, nat_lt, List, [], ◌∷◌, Some, None, drop, length, refl, ◌∙◌, ap, sym, arith}
use Rattle.std.specs.List.{list_all, position, position_or_len}
use Rattle.std.proofs.lemmas.Bool.{leb-false, ltb-false}
use Rattle.std.proofs.lemmas.List.Sums.{prefix_len-le-length}
use Rattle.wire_rules.specs.Commands.{is_printable, is_filled}
use Rattle.p2p_frame.specs.Views.{is_other}

filled_by : (first : Bool) (b : ℕ) (bytes : List ℕ) → is_filled bytes ≡ list_all (λ c. c == 0) (drop (position_or_len is_other bytes) bytes)
    → (if first then is_filled bytes else list_all (λ c. c == 0) (b ∷ bytes)) ≡ list_all (λ c. c == 0) (drop (cond (not (not first)) (1 + position_or_len is_other bytes) 0) (b ∷ bytes))
filled_by true b bytes behind =
    let n = position_or_len is_other bytes in
    let next : suc n ≡ 1 + n = omega arith in
    behind ∙ ap (λ k. list_all (λ c. c == 0) (drop k (b ∷ bytes))) next
filled_by false b bytes behind = refl

-- behind the printable bytes there is only NUL
pub is_filled-behind : (bytes : List ℕ) → is_filled bytes ≡ list_all (λ b. b == 0) (drop (position_or_len is_other bytes) bytes)
unfolding is_filled
is_filled-behind [] = refl
is_filled-behind (b ∷ bytes) = filled_by (is_printable b) b bytes (is_filled-behind bytes)

unwrapped_by : (found : Bool) (k n : ℕ) → nat_lt k n ≡ found → k ≤ n → unwrap_or (cond found (Some k) None) n ≡ k
unwrapped_by true k n e h = refl
unwrapped_by false k n e h = let low = ltb-false k n e in omega arith

-- the first that is not printable, or the end
pub position-unwrapped : (bytes : List ℕ) → unwrap_or (position is_other bytes) (length bytes) ≡ position_or_len is_other bytes
position-unwrapped bytes = unwrapped_by (nat_lt (position_or_len is_other bytes) (length bytes)) (position_or_len is_other bytes) (length bytes) refl (prefix_len-le-length (λ b. not (is_other b)) bytes)

pub position-within : (bytes : List ℕ) → position_or_len is_other bytes ≤ length bytes
position-within bytes = prefix_len-le-length (λ b. not (is_other b)) bytes
