-- The words in front of a line that tells of one side.
use Rattle.std.specs.Prelude.{ℕ, List, [], ◌∷◌, None, Some}
use Rattle.std.specs.declared.option.Option.{Option}
use Rattle.pair_rules.specs.declared.side.Side.{Side}
use Rattle.protocol_text_rules.specs.Ends.{side_text}

-- the side where one is told
abbrev pub side_words : Option Side → List (List ℕ)
side_words None = []
side_words (Some s) = side_text s ∷ []
