-- The words of a line that are left to be read.
use Rattle.std.specs.Prelude.{ℕ, List, [], ◌∷◌, Some, None}
use Rattle.std.specs.declared.option.Option.{Option}
use Rattle.wire_rules.specs.ShownReading.{fields_of}

-- the words of what is left of a line; none where the last one was read
abbrev pub words_left : Option (List ℕ) → List (List ℕ)
words_left None = []
words_left (Some rest) = fields_of rest

-- the first word; no bytes where there is none
abbrev pub first_word : List (List ℕ) → List ℕ
first_word [] = []
first_word (word ∷ words) = word

-- the words behind the first
abbrev pub other_words : List (List ℕ) → List (List ℕ)
other_words [] = []
other_words (word ∷ words) = words
