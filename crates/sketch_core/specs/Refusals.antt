-- What a fault of making a sketch says.
use Rattle.std.specs.Prelude.{◌≡◌, ℕ}
use Rattle.sketch_rules.specs.Sketches.{IsCapacity}
use Rattle.sketch_core.specs.declared.fault.SketchFault.{SketchFault}
use Rattle.sketch_core.specs.declared.fault.SketchFault.TheVariants.{CapacityOutOfRange, OutOfMemory}

-- the fault may be answered where a sketch of this capacity is asked for
abbrev pub IsRefusal : ℕ → SketchFault → Type 0
IsRefusal capacity (CapacityOutOfRange n) = (n ≡ capacity) × (¬ IsCapacity capacity)
IsRefusal capacity OutOfMemory = Unit {0}
