-- How large a round's first sketch is, and the coefficient of the next round. Both rules are this project's own; the
-- coefficient estimates how many transactions the sides have not in common, in parts of 32767 (BIP 330, reqrecon).
use Rattle.std.specs.Prelude.{ℕ, ◌+◌, ◌-◌, ◌*◌, ◌/◌, ◌==◌, min, max, if◌then◌else◌}
use Rattle.std.specs.Int.{abs_diff, div_ceil}
use Rattle.pool_rules.specs.declared.limits.TheConstants.{LEAST_CAPACITY, FIRST_LIMIT}

-- the difference to be expected of sets of these sizes, and one more, but no less than 8 and no more than 1024
abbrev pub capacity : ℕ → ℕ → ℕ → ℕ
capacity size local q = min FIRST_LIMIT (max LEAST_CAPACITY (abs_diff size local + q * min size local / 32767 + 1))

-- of sets of which the smaller one has least members, where the opener alone has mine and the accepter alone has asks
abbrev pub coefficient_of : ℕ → ℕ → ℕ → ℕ
coefficient_of mine asks least = if least == 0 then 0 else div_ceil (2 * min mine asks * 32767) least

-- the coefficient behind an answered round: the opener has sketched own, of which the accepter lacks mine, and lacks asks
abbrev pub next_q : ℕ → ℕ → ℕ → ℕ
next_q mine asks own = coefficient_of mine asks (min own (own - mine + asks))

-- the coefficient behind a round that fell back
abbrev pub next_q_failed : ℕ → ℕ
next_q_failed q = min 65534 (2 * q + 1)
