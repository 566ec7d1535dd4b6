-- Counts of faults, and what a call says of one.
use Rattle.std.specs.Prelude.{◌≡◌, ℕ, ◌+◌, ◌-◌, ◌^◌, ◌≤◌, min, Result, Ok, Err, OnOk, OnErr}

-- one more, up to 2^64 - 1, where a count stays
abbrev pub next_count : ℕ → ℕ
next_count n = min (n + 1) (2 ^ 64 - 1)

-- a count rose: it is greater than before, or stands at its last value
abbrev pub HasRisen : ℕ → ℕ → Type 0
HasRisen before now = next_count before ≤ now

-- a count of faults never falls: a call that fails raises it, and one that succeeds leaves it
pub record HasCause {T E : Type 0} (before now : ℕ) (result : Result T E) : Type 0 where
  pub later : before ≤ now
  pub failed : OnErr result (HasRisen before now)
  pub success : OnOk result (now ≡ before)

-- a count of faults after a call: one more where the call failed
abbrev pub count_if_failed : {T E : Type 0} → Result T E → ℕ → ℕ
count_if_failed (Ok _) n = n
count_if_failed (Err _) n = next_count n
