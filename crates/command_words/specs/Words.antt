-- The forms of the command line, without the program's own name.
use Rattle.std.specs.Prelude.{◌≡◌, ℕ, ◌^◌, ◌<◌, ◌≤◌, List, [], ◌∷◌, codes, Ok}
use Rattle.std.specs.Fmt.{decimal}
use Rattle.std.specs.Int.{to_be_bytes, w64}
use Rattle.hex.specs.Hex.{decode_of}
use Rattle.sketch_rules.specs.Sketches.{IsCapacity}
use Rattle.protocol_text_rules.specs.declared.limits.TheConstants.{GENERATOR_LIMIT}
use Rattle.command_words.specs.declared.command.Command.{Command}
use Rattle.command_words.specs.declared.command.Command.TheVariants as command

-- the digits of the word, of either case and two a byte, spell the 8 bytes of the salt, the most significant first
abbrev pub IsSalt : List ℕ → ℕ → Type 0
IsSalt word salt = (decode_of word ≡ Ok (to_be_bytes w64 salt)) × (salt < 2 ^ 64)

-- a number of which there is a generated script
pub record IsGeneratorNumber (n : ℕ) : Type 0 where
  pub positive : 1 ≤ n
  pub small : n ≤ GENERATOR_LIMIT

-- the words ask for the command
abbrev pub HasForm : List (List ℕ) → Command → Type 0
HasForm words (command.Make capacity) = (words ≡ codes "make" ∷ decimal capacity ∷ []) × IsCapacity capacity
HasForm words command.Merge = words ≡ codes "merge" ∷ []
HasForm words command.Decode = words ≡ codes "decode" ∷ []
HasForm words (command.Ids salt other) = (first : List ℕ) × (second : List ℕ) × (words ≡ codes "ids" ∷ first ∷ second ∷ []) × IsSalt first salt × IsSalt second other
HasForm words command.Show = words ≡ codes "show" ∷ []
HasForm words command.Pack = words ≡ codes "pack" ∷ []
HasForm words command.Sim = words ≡ codes "sim" ∷ []
HasForm words (command.Gen number) = (words ≡ codes "gen" ∷ decimal number ∷ []) × IsGeneratorNumber number

-- the words ask for no command
abbrev pub IsFormless : List (List ℕ) → Type 0
IsFormless words = (c : Command) → HasForm words c → ⊥

-- the words ask for a command of which P holds
abbrev pub HasCommand : List (List ℕ) → (Command → Type 0) → Type 0
HasCommand words P = (c : Command) × HasForm words c × P c
