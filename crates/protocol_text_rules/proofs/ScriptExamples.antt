-- Worked examples of scripts, and of the generator's.
use Rattle.std.proofs.Common.{◌≡◌, List, [], ◌∷◌, ◌++◌, refl, Ok, Err, take, length, replicate}
use Rattle.std.specs.Prelude.{codes}
use Rattle.base_types.specs.declared.text.Kind.TheVariants as kind
use Rattle.line_rules.specs.Lines.{NumberedLine}
use Rattle.id_rules.proofs.Samples.{from_digits}
use Rattle.pair_rules.specs.World.{deliveries}
use Rattle.pair_rules.specs.declared.event.Event.TheVariants as event
use Rattle.protocol_text_rules.specs.Generator.{generated_script}
use Rattle.protocol_text_rules.specs.Scripts.{line_events, script_in, events_of_lines}
use Rattle.protocol_text_rules.proofs.Samples.{scripting}

-- each form of a line
add_a : line_events (codes "a 68656c6C6F") ≡ Ok (event.AddA (codes "hello") ∷ [])
unfolding scripting
add_a = refl

add_b : line_events (codes "b 616263") ≡ Ok (event.AddB (codes "abc") ∷ [])
unfolding scripting
add_b = refl

deliver_ab : line_events (codes "ab 24") ≡ Ok (event.DeliverAb 24 ∷ [])
unfolding scripting
deliver_ab = refl

deliver_ba : line_events (codes "ba 1000000000") ≡ Ok (event.DeliverBa 1000000000 ∷ [])
unfolding scripting
deliver_ba = refl

round : line_events (codes "round") ≡ Ok (event.Round ∷ [])
unfolding scripting
round = refl

drain : line_events (codes "drain") ≡ Ok (deliveries 16)
unfolding scripting
drain = refl

-- 32 events, which deliver all
drain_length : length (deliveries 16) ≡ 32
unfolding scripting
drain_length = refl

-- lines of no form
no_number : line_events (codes "ab 0") ≡ Err kind.Form
unfolding scripting
no_number = refl

too_large : line_events (codes "ab 1000000001") ≡ Err kind.Form
unfolding scripting
too_large = refl

zero_in_front : line_events (codes "ba 01") ≡ Err kind.Form
unfolding scripting
zero_in_front = refl

two_spaces : line_events (codes "ab  1") ≡ Err kind.Form
unfolding scripting
two_spaces = refl

space_behind : line_events (codes "round ") ≡ Err kind.Form
unfolding scripting
space_behind = refl

letter_alone : line_events (codes "a") ≡ Err kind.Form
unfolding scripting
letter_alone = refl

nothing_behind : line_events (codes "a ") ≡ Err kind.Form
unfolding scripting
nothing_behind = refl

-- all bytes behind the first space are the digits
odd : line_events (codes "a x") ≡ Err kind.OddDigits
unfolding scripting
odd = refl

odd_space : line_events (codes "a  00") ≡ Err kind.OddDigits
unfolding scripting
odd_space = refl

odd_spaces : line_events (codes "a 00 00") ≡ Err kind.OddDigits
unfolding scripting
odd_spaces = refl

bad_space : line_events (codes "a 00 0") ≡ Err kind.BadDigit
unfolding scripting
bad_space = refl

bad_spaces : line_events (codes "a  000") ≡ Err kind.BadDigit
unfolding scripting
bad_spaces = refl

-- a script, with an empty line, and one with a fault in its third line
script : script_in (codes "a 00" ++ 10 ∷ 10 ∷ codes "round" ++ 13 ∷ 10 ∷ []) ≡ Ok (event.AddA (0 ∷ []) ∷ event.Round ∷ [])
unfolding scripting
script = refl

third_line : script_in (codes "round" ++ 10 ∷ 10 ∷ codes "rounds") ≡ Err (record { place = 3; kind = kind.Form })
unfolding scripting
third_line = refl

-- 100,001 lines are too many, whatever they hold
abbrev many : List NumberedLine
many = replicate 100001 (record { number = 1; bytes = codes "x" })

too_many : events_of_lines many ≡ Err (record { place = 100001; kind = kind.TooMany })
unfolding scripting
too_many = refl

-- the generator's script for the number 1: its first transaction goes to both sides, the second to a
one : generated_script 1 ≡ event.AddA (from_digits (codes "00000000000000007c00fd43ac6f576c")) ∷ event.AddB (from_digits (codes "00000000000000007c00fd43ac6f576c")) ∷ (deliveries 16 ++ event.Round ∷ event.DeliverAb 7 ∷ event.AddA (from_digits (codes "01000000000000001b1b4a86b3866882")) ∷ (deliveries 16 ++ event.Round ∷ deliveries 16))
unfolding scripting
one = refl

-- for the number 2, the first two transactions
two : take 4 (generated_script 2) ≡ event.AddA (from_digits (codes "0000000000000000a97f9290d963a9c4")) ∷ event.AddB (from_digits (codes "0000000000000000a97f9290d963a9c4")) ∷ event.AddA (from_digits (codes "010000000000000004c9d987551fc8ea")) ∷ event.AddB (from_digits (codes "010000000000000004c9d987551fc8ea")) ∷ []
unfolding scripting
two = refl
