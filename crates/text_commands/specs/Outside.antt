-- What the program sees of the outside before and after a call.
use Rattle.std.specs.Prelude.{◌≡◌, ℕ, ◌+◌, ◌≤◌, ◌⊎◌, Bool, true, false, List, [], length}
use Rattle.std.specs.Io.KnownBytes.{Consumes, IsAtEnd}
use Rattle.std.specs.declared.option.Option.{Option}
use Rattle.erlay_base.specs.Moves.{HasConsumed}
use Rattle.sketch_text_rules.specs.Limits.{input_limit}

-- a source or a sink: the bytes left or written, where it tells them, and its count of faults
pub record Observation : Type 0 where
  pub bytes : Option (List ℕ)
  pub faults : ℕ

abbrev pub observation_of : {S : Type 0} → (S → Option (List ℕ)) → (S → ℕ) → S → Observation
observation_of bytes faults s = record { bytes = bytes s; faults = faults s }

-- the bytes are all that there were, within the limit, or one more than the limit; those behind them are left
abbrev pub IsWholeOrTooLong : List ℕ → Option (List ℕ) → Type 0
IsWholeOrTooLong input left = (IsAtEnd left × (length input ≤ input_limit)) ⊎ (length input ≡ input_limit + 1)

-- what was read is of this kind: all bytes that were left or, where those are more than the limit, one more than the
-- limit of them; and no read failed
abbrev pub HasRead : Observation → Observation → (List ℕ → Type 0) → Type 0
HasRead old new P = (input : List ℕ) × Consumes old.bytes new.bytes input × IsWholeOrTooLong input new.bytes × (new.faults ≡ old.faults) × P input

-- what was taken in is of this kind: by a call that reads, what it has read; by another, no bytes, and the input is as it was
abbrev pub HasTaken : Bool → Observation → Observation → (List ℕ → Type 0) → Type 0
HasTaken true old new P = HasRead old new P
HasTaken false old new P = (new ≡ old) × P []

-- no read failed, and a call that doesn't read has left the input as it was
abbrev pub HasNoFault : Bool → Observation → Observation → Type 0
HasNoFault true old new = new.faults ≡ old.faults
HasNoFault false old new = new ≡ old

-- at most this many bytes were read
abbrev pub ReadsAtMost : Observation → Observation → ℕ → Type 0
ReadsAtMost old new limit = HasConsumed old.bytes new.bytes (λ n. n ≤ limit)
