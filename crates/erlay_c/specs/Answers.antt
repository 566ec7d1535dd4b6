-- What each call answers: what it writes, or why it is refused. The rows of a table exclude each other, so each refusal
-- comes exactly in the case of its row; but where memory runs out, that is answered in place of a row below its tests.
use Rattle.std.specs.Prelude.{◌≡◌, ◌≢◌, ℕ, ◌*◌, ◌/◌, ◌%◌, ◌^◌, ◌<◌, ◌≤◌, List, [], ◌∷◌, length, map, Result, Ok, Err, Some, None}
use Rattle.std.specs.List.{All, Contains}
use Rattle.field_rules.specs.Lists.{AreDistinct}
use Rattle.sketch_rules.specs.Answers.{answer_of}
use Rattle.sketch_rules.specs.Sketches.{IsCapacity, bytes_of, sketch_of, sketch_sum, sums_in}
use Rattle.sketch_rules.specs.declared.limits.TheConstants.{MAX_SKETCH_BYTES}
use Rattle.clmul_lanes.specs.declared.lane32.Lane32.{Lane32}
use Rattle.clmul_lanes.specs.Lane32.{bits_of}
use Rattle.erlay_c.specs.declared.refusal.Refusal.{Refusal}
use Rattle.erlay_c.specs.declared.refusal.Refusal.TheVariants as refusal

-- how many bytes a sketch may have: 4 for each sum
abbrev pub IsSketchSize : ℕ → Type 0
IsSketchSize size = (1 ≤ size) × (size ≤ MAX_SKETCH_BYTES) × (size % 4 ≡ 0)

-- a sketch may have this capacity, and its bytes fit into so many
abbrev pub HasRoom : ℕ → ℕ → Type 0
HasRoom capacity room = IsCapacity capacity × (4 * capacity ≤ room)

-- 0 is no element
abbrev pub AreElements : List ℕ → Type 0
AreElements numbers = All (λ e. e ≢ 0) numbers

-- numbers that list a set of elements, each once
abbrev pub IsSet : List ℕ → Type 0
IsSet numbers = All (λ e. (0 < e) × (e < 2 ^ 32)) numbers × AreDistinct numbers

-- of a sketch that is made of elements
abbrev pub IsMakeAnswer : List ℕ → ℕ → ℕ → Result (List ℕ) Refusal → Type 0
IsMakeAnswer elements capacity room (Ok bytes) = HasRoom capacity room × AreElements elements × AreDistinct elements × (bytes ≡ bytes_of (sketch_of elements capacity))
IsMakeAnswer elements capacity room (Err refusal.CapacityOutOfRange) = ¬ IsCapacity capacity
IsMakeAnswer elements capacity room (Err refusal.BufferTooShort) = IsCapacity capacity × (room < 4 * capacity)
IsMakeAnswer elements capacity room (Err refusal.ZeroElement) = HasRoom capacity room × Contains elements 0
IsMakeAnswer elements capacity room (Err refusal.RepeatedElement) = HasRoom capacity room × AreElements elements × (¬ AreDistinct elements)
IsMakeAnswer elements capacity room (Err refusal.OutOfMemory) = HasRoom capacity room × AreElements elements
IsMakeAnswer elements capacity room (Err _) = ⊥

-- of an element that comes or goes: the sketch of that element alone is added
abbrev pub IsToggleAnswer : List ℕ → ℕ → Result (List ℕ) Refusal → Type 0
IsToggleAnswer sketch element (Ok bytes) = IsSketchSize (length sketch) × (element ≢ 0) × (bytes ≡ bytes_of (sketch_sum (sums_in sketch) (sketch_of (element ∷ []) (length sketch / 4))))
IsToggleAnswer sketch element (Err refusal.SketchSize) = ¬ IsSketchSize (length sketch)
IsToggleAnswer sketch element (Err refusal.ZeroElement) = IsSketchSize (length sketch) × (element ≡ 0)
IsToggleAnswer sketch element (Err refusal.OutOfMemory) = IsSketchSize (length sketch) × (element ≢ 0)
IsToggleAnswer sketch element (Err _) = ⊥

-- of two sketches that are added
abbrev pub IsMergeAnswer : List ℕ → List ℕ → Result (List ℕ) Refusal → Type 0
IsMergeAnswer sketch other (Ok bytes) = IsSketchSize (length sketch) × (length other ≡ length sketch) × (bytes ≡ bytes_of (sketch_sum (sums_in sketch) (sums_in other)))
IsMergeAnswer sketch other (Err refusal.SketchSize) = ¬ (IsSketchSize (length sketch) × IsSketchSize (length other))
IsMergeAnswer sketch other (Err refusal.SizesDiffer) = IsSketchSize (length sketch) × IsSketchSize (length other) × (length other ≢ length sketch)
IsMergeAnswer sketch other (Err refusal.OutOfMemory) = IsSketchSize (length sketch) × (length other ≡ length sketch)
IsMergeAnswer sketch other (Err _) = ⊥

-- of a sketch whose set is sought, where there is room for so many elements
abbrev pub IsDecodeAnswer : List ℕ → ℕ → Result (List ℕ) Refusal → Type 0
IsDecodeAnswer sketch room (Ok es) = IsSketchSize (length sketch) × (answer_of (sums_in sketch) ≡ Some es) × (length es ≤ room)
IsDecodeAnswer sketch room (Err refusal.SketchSize) = ¬ IsSketchSize (length sketch)
IsDecodeAnswer sketch room (Err refusal.NoSet) = IsSketchSize (length sketch) × (answer_of (sums_in sketch) ≡ None)
IsDecodeAnswer sketch room (Err refusal.BufferTooShort) = IsSketchSize (length sketch) × ((es : List ℕ) × (answer_of (sums_in sketch) ≡ Some es) × (room < length es))
IsDecodeAnswer sketch room (Err refusal.OutOfMemory) = IsSketchSize (length sketch)
IsDecodeAnswer sketch room (Err _) = ⊥

-- ---- of the parts of a call

-- of numbers that are to be a set
abbrev pub IsSetAnswer : List ℕ → Result (List Lane32) Refusal → Type 0
IsSetAnswer numbers (Ok es) = AreElements numbers × AreDistinct numbers × (map bits_of es ≡ numbers)
IsSetAnswer numbers (Err refusal.ZeroElement) = Contains numbers 0
IsSetAnswer numbers (Err refusal.RepeatedElement) = AreElements numbers × (¬ AreDistinct numbers)
IsSetAnswer numbers (Err refusal.OutOfMemory) = AreElements numbers
IsSetAnswer numbers (Err _) = ⊥

-- of bytes that are to be a sketch
abbrev pub IsReadAnswer : List ℕ → Result (List Lane32) Refusal → Type 0
IsReadAnswer bytes (Ok sums) = IsSketchSize (length bytes) × (map bits_of sums ≡ sums_in bytes)
IsReadAnswer bytes (Err refusal.SketchSize) = ¬ IsSketchSize (length bytes)
IsReadAnswer bytes (Err refusal.OutOfMemory) = IsSketchSize (length bytes)
IsReadAnswer bytes (Err _) = ⊥
