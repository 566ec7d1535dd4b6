-- The elements that lines spell, up to the first line that spells none.
use Rattle.std.specs.Prelude.{◌≡◌, ◌≤◌, ℕ, List, [], ◌∷◌, length, take, drop, Option, Some, None, Result, Ok, Err}
use Rattle.base_types.specs.declared.text.Kind.{Kind}
use Rattle.base_types.specs.declared.text.TextFault.{TextFault}
use Rattle.line_rules.specs.Lines.{NumberedLine, lines}
use Rattle.sketch_text_rules.specs.Elements.{element_of}

-- an element before others; where there is none, the others aren't read
abbrev pub with_leading_element : Result ℕ Kind → List ℕ → List ℕ
with_leading_element (Ok e) es = e ∷ es
with_leading_element (Err k) es = []

-- the elements of the lines before the first line that spells none
unfoldable pub elements_before : List NumberedLine → List ℕ
elements_before [] = []
elements_before (l ∷ ls) = with_leading_element (element_of l.bytes) (elements_before ls)

-- the fault of a line that spells no element; of a line that spells one, what comes later
abbrev pub fault_at : NumberedLine → Result ℕ Kind → Option TextFault → Option TextFault
fault_at l (Ok e) later = later
fault_at l (Err k) later = Some (record { place = l.number; kind = k })

-- the fault of the first line that spells no element
unfoldable pub first_fault : List NumberedLine → Option TextFault
first_fault [] = None
first_fault (l ∷ ls) = fault_at l (element_of l.bytes) (first_fault ls)

-- the first line has 8 bytes, ends in LF alone and spells the element e
pub record IsPlain (text : List ℕ) (e : ℕ) : Type 0 where
  pub within : 9 ≤ length text
  pub first : lines text ≡ take 8 text ∷ lines (drop 9 text)
  pub element : element_of (take 8 text) ≡ Ok e
