-- Scripts: what happens to a pair, a line each. They are this project's own.
use Rattle.std.specs.Prelude.{ℕ, nat_lt, if◌then◌else◌, List, [], ◌∷◌, ◌++◌, length, drop, codes, bytes_eq, Some, None, Ok, Err}
use Rattle.std.specs.declared.option.Option.{Option}
use Rattle.std.specs.declared.result.Result.{Result}
use Rattle.base_types.specs.declared.text.Kind.{Kind}
use Rattle.base_types.specs.declared.text.Kind.TheVariants as kind
use Rattle.base_types.specs.declared.text.TextFault.{TextFault}
use Rattle.line_rules.specs.Lines.{NumberedLine, lines_of, begins_with}
use Rattle.line_rules.specs.Reading.{line_fold}
use Rattle.line_rules.specs.Digits.{◌>>=◌}
use Rattle.line_rules.specs.Numbers.{number_within}
use Rattle.pool_rules.specs.PoolFile.{tx_in}
use Rattle.pair_rules.specs.World.{deliveries}
use Rattle.pair_rules.specs.declared.event.Event.{Event}
use Rattle.pair_rules.specs.declared.event.Event.TheVariants as event
use Rattle.protocol_text_rules.specs.declared.limits.TheConstants.{EVENT_LIMIT}

-- an event that delivers a number of bytes
abbrev pub delivery : (ℕ → Event) → Option ℕ → Result (List Event) Kind
delivery made (Some n) = Ok (made n ∷ [])
delivery made None = Err kind.Form

-- an addition, of which the digits stand behind the first space; there is at least one byte of them
abbrev pub addition : (List ℕ → Event) → List ℕ → Result (List Event) Kind
addition made [] = Err kind.Form
addition made (b ∷ rest) = tx_in (b ∷ rest) >>= (λ tx. Ok (made tx ∷ []))

abbrev pub delivered_bytes : List ℕ → Option ℕ
delivered_bytes word = number_within 1 1000000000 word

-- the events of a line
unfoldable pub line_events : List ℕ → Result (List Event) Kind
line_events line =
    if bytes_eq line (codes "round") then Ok (event.Round ∷ [])
    else if bytes_eq line (codes "drain") then Ok (deliveries 16)
    else if begins_with line (codes "ab ") then delivery event.DeliverAb (delivered_bytes (drop 3 line))
    else if begins_with line (codes "ba ") then delivery event.DeliverBa (delivered_bytes (drop 3 line))
    else if begins_with line (codes "a ") then addition event.AddA (drop 2 line)
    else if begins_with line (codes "b ") then addition event.AddB (drop 2 line)
    else Err kind.Form

-- events behind those of the lines before
abbrev pub script_step : List Event → List ℕ → Result (List Event) Kind
script_step es line = line_events line >>= (λ more. Ok (es ++ more))

-- the events of lines. Too many lines are a fault before any of them is read
unfoldable pub events_of_lines : List NumberedLine → Result (List Event) TextFault
events_of_lines ls =
    if nat_lt EVENT_LIMIT (length ls) then Err (record { place = length ls; kind = kind.TooMany })
    else line_fold script_step [] ls

-- the events of a script, or its first fault
abbrev pub script_in : List ℕ → Result (List Event) TextFault
script_in text = events_of_lines (lines_of text)
