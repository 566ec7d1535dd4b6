-- The sums of the largest sketch of members, as they stand beside the members.
use Rattle.std.specs.Prelude.{◌≡◌, ◌⊎◌, ℕ, ◌<◌, Bool, List, [], length, map}
use Rattle.sketch_rules.specs.declared.limits.TheConstants.{MAX_CAPACITY}
use Rattle.pool_rules.specs.Snapshots.{Member, snapshot_sketch}

-- what a snapshot has: its members, and whether the sums of their largest sketch stand beside them
pub record Contents : Type 0 where
  pub members : List Member
  pub is_summed : Bool

-- elements have 32 bits, and where there are sums, they are those of the largest sketch of the members
pub record AreSums {A : Type 0} (bits_of : A → ℕ) (width : ℕ) (ms : List Member) (sums : List A) : Type 0 where
  pub width_is : width ≡ 32
  pub sketched : 0 < length sums → map bits_of sums ≡ snapshot_sketch ms MAX_CAPACITY

-- the sums of a set: none while it is empty and has had no member yet, or those of its largest sketch
abbrev pub IsRunning : {A : Type 0} → (A → ℕ) → List Member → List A → Type 0
IsRunning bits_of ms sums = ((sums ≡ []) × (ms ≡ [])) ⊎ (map bits_of sums ≡ snapshot_sketch ms MAX_CAPACITY)
