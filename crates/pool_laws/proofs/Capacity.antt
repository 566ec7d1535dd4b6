-- How large capacities and coefficients can be.
use Rattle.std.proofs.Common.{◌≡◌, ℕ, ◌+◌, ◌-◌, ◌*◌, ◌<◌, ◌≤◌, ◌==◌, min, Bool, true, false, if◌then◌else◌, refl, arith}
use Rattle.std.specs.Int.{div_ceil}
use Rattle.std.proofs.lemmas.Bool.{eqb-false}
use Rattle.std.proofs.lemmas.Grind.{div_ceil_times}
use Rattle.std.proofs.Math.Nat.{lt_of_mul-lt-mul_right}
use Rattle.pool_rules.specs.Capacity.{capacity, next_q, next_q_failed}
use Rattle.pool_rules.specs.declared.limits.TheConstants.{LEAST_CAPACITY, FIRST_LIMIT}

ceil-small : (x y : ℕ) → 0 < y → x ≤ 65534 * y → div_ceil x y ≤ 65534
ceil-small x y some le =
    let times = div_ceil_times x y some in
    let below : div_ceil x y < 65535 = lt_of_mul-lt-mul_right y (omega (arith, times.1)) in
    omega (arith, below)

coefficient-small : (none : Bool) (m least : ℕ) → (least == 0) ≡ none → m ≤ least → (if none then 0 else div_ceil (2 * m * 32767) least) ≤ 65534
coefficient-small true m least e le = omega arith
coefficient-small false m least e le = let apart = eqb-false least 0 e in ceil-small (2 * m * 32767) least (omega arith) (omega arith)

-- of both sides' members the fewer are no more than the smaller set has
pub next_q-small : (mine asks own : ℕ) → mine ≤ own → next_q mine asks own ≤ 65534
next_q-small mine asks own le =
    coefficient-small (min own (own - mine + asks) == 0) (min mine asks) (min own (own - mine + asks)) refl (omega arith)

pub next_q_failed-small : (q : ℕ) → next_q_failed q ≤ 65534
next_q_failed-small q = omega arith

pub capacity-enough : (size local q : ℕ) → LEAST_CAPACITY ≤ capacity size local q
capacity-enough size local q = omega arith

pub capacity-limited : (size local q : ℕ) → capacity size local q ≤ FIRST_LIMIT
capacity-limited size local q = omega arith
