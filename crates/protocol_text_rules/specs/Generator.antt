-- The generator's scripts, which are this project's own.
use Rattle.std.specs.Prelude.{ℕ, zero, suc, ◌+◌, ◌*◌, ◌/◌, ◌%◌, ◌^◌, ◌==◌, if◌then◌else◌, List, [], ◌∷◌, ◌++◌}
use Rattle.std.specs.Int.{w64, to_le_bytes}
use Rattle.pair_rules.specs.World.{deliveries}
use Rattle.pair_rules.specs.declared.event.Event.{Event}
use Rattle.pair_rules.specs.declared.event.Event.TheVariants as event

-- the number behind x, of 64 bits
abbrev pub next_number : ℕ → ℕ
next_number x = (x * 6364136223846793005 + 1442695040888963407) % 2 ^ 64

-- transaction i, with its number
abbrev pub generated_tx : ℕ → ℕ → List ℕ
generated_tx i x = to_le_bytes w64 i ++ to_le_bytes w64 x

-- who gets a transaction, by its number's highest 4 bits: one of 16 goes to a alone, one to b alone, the others to both
abbrev pub additions_by : ℕ → List ℕ → List Event
additions_by r tx =
    if r == 0 then event.AddA tx ∷ []
    else if r == 1 then event.AddB tx ∷ []
    else event.AddA tx ∷ event.AddB tx ∷ []

-- what follows: a round during which one more transaction comes to a, and another round
abbrev pub generated_rounds : List ℕ → List Event
generated_rounds tx =
    deliveries 16 ++ event.Round ∷ event.DeliverAb 7 ∷ event.AddA tx ∷ (deliveries 16 ++ event.Round ∷ deliveries 16)

-- from transaction i on, of which n are still to come, with the number before it
unfoldable pub generated_from : ℕ → ℕ → ℕ → List Event
generated_from zero i x = generated_rounds (generated_tx i (next_number x))
generated_from (suc n) i x = additions_by (next_number x / 2 ^ 60) (generated_tx i (next_number x)) ++ generated_from n (i + 1) (next_number x)

-- the script of a number, of as many transactions and one more
abbrev pub generated_script : ℕ → List Event
generated_script n = generated_from n 0 n
