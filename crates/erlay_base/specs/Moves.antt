-- What moves from a source and to a sink, where bytes are told.
use Rattle.std.specs.Prelude.{ℕ, ◌<◌, ◌≤◌, List, length, take, Result, IfOk}
use Rattle.std.specs.Io.KnownBytes.{Appends, Consumes}
use Rattle.std.specs.declared.option.Option.{Option}

-- a write takes at least one byte of a piece that isn't empty
abbrev pub HasProgress : {E : Type 0} → Result ℕ E → List ℕ → Type 0
HasProgress result piece = IfOk result (λ n. 0 < length piece → 0 < n)

-- bytes were taken from the front, and P holds of their number
abbrev pub HasConsumed : Option (List ℕ) → Option (List ℕ) → (ℕ → Type 0) → Type 0
HasConsumed old new P = (bs : List ℕ) × Consumes old new bs × P (length bs)

-- a proper front part of the bytes was written
abbrev pub HasWrittenPart : Option (List ℕ) → Option (List ℕ) → List ℕ → Type 0
HasWrittenPart old new bytes = (n : ℕ) × (n < length bytes) × Appends old new (take n bytes)

-- a front part of the piece was written: none of it, some or all
abbrev pub WritesFront : Option (List ℕ) → Option (List ℕ) → List ℕ → Type 0
WritesFront old new piece = (n : ℕ) × (n ≤ length piece) × Appends old new (take n piece)
