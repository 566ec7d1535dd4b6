-- The events that are read or made are those of scripts: what they add may be a transaction.
use Rattle.std.proofs.Common.{◌≡◌, ℕ, zero, suc, ◌+◌, ◌/◌, ◌^◌, ◌<◌, ◌≤◌, ◌==◌, ◌&&◌, nat_lt, if◌then◌else◌, Bool, true, false, List, [], ◌∷◌, ◌++◌, length, drop, codes, bytes_eq, Option, Some, None, Result, Ok, Err, IfOk, Vec, Global, refl, subst, ◌∙◌, arith}
use Rattle.std.specs.Int.{to_le_bytes, w64}
use Rattle.std.specs.List.{list_all}
use Rattle.std.proofs.lemmas.Bool.{and_from, ltb-false}
use Rattle.std.proofs.lemmas.List.Folds.{list_all-append}
use Rattle.hex.specs.Hex.{decode_of}
use Rattle.hex.specs.declared.error.FromHexError.{FromHexError}
use Rattle.hex.proofs.HexLemmas.{decode_of-ok}
use Rattle.base_types.specs.declared.text.Kind.{Kind}
use Rattle.base_types.specs.declared.text.Kind.TheVariants as kind
use Rattle.base_types.specs.declared.text.TextFault.{TextFault}
use Rattle.line_rules.specs.Digits.{◌>>=◌, with_kind}
use Rattle.line_rules.specs.Lines.{NumberedLine, begins_with, lines_of}
use Rattle.line_rules.specs.Reading.{after_line, line_fold}
use Rattle.line_text.specs.Gives.{IsOutcome}
use Rattle.line_text.specs.declared.stop.ReadStop.{ReadStop}
use Rattle.id_rules.specs.Bytes.{are_bytes, is_tx, is_tx_length}
use Rattle.id_rules.proofs.Bytes.{are_bytes-IsBytes, are_bytes-low_first, bytes_join}
use Rattle.id_rules.specs.declared.TheConstants.{TX_LIMIT}
use Rattle.pool_rules.specs.PoolFile.{tx_in, tx_within_limit}
use Rattle.pair_rules.specs.World.{IsScript, deliveries, is_event}
use Rattle.pair_rules.specs.declared.event.Event.{Event}
use Rattle.pair_rules.specs.declared.event.Event.TheVariants as event
use Rattle.protocol_text_rules.specs.Generator.{additions_by, generated_from, generated_rounds, generated_script, generated_tx, next_number}
use Rattle.protocol_text_rules.specs.Scripts.{addition, delivered_bytes, delivery, events_of_lines, line_events, script_in, script_step}
use Rattle.protocol_text_rules.specs.declared.limits.TheConstants.{EVENT_LIMIT}
use Rattle.tx_pool.proofs.Reading.{tx_in-sized}

-- ---- a transaction

within_limit : (xs tx : List ℕ) (k : Kind) (long : Bool) → nat_lt TX_LIMIT (length xs) ≡ long → (if long then Err k else Ok xs) ≡ Ok tx → (xs ≡ tx) × (length xs ≤ TX_LIMIT)
within_limit xs tx k true e h = cc
within_limit xs tx k false e h = (let same : xs ≡ tx = cc h in same, ltb-false TX_LIMIT (length xs) e)

decoded : (digits tx : List ℕ) (r : Result (List ℕ) FromHexError) → 0 < length digits → decode_of digits ≡ r → (with_kind r >>= tx_within_limit) ≡ Ok tx → is_tx tx ≡ true
decoded digits tx (Err e) some is h = cc
decoded digits tx (Ok xs) some is h =
    let within = within_limit xs tx kind.TxTooLong (nat_lt TX_LIMIT (length xs)) refl h in
    subst (λ t. is_tx t ≡ true) within.0 (and_from (is_tx_length (length xs)) (are_bytes xs) (tx_in-sized digits xs some is within.1) (are_bytes-IsBytes xs (decode_of-ok digits xs is).3))

-- ---- the events of a line

-- events of scripts, or a fault
abbrev IsFine : Result (List Event) Kind → Type 0
IsFine (Ok es) = IsScript es
IsFine (Err k) = Unit {0}

delivery-fine : (made : ℕ → Event) → ((n : ℕ) → is_event (made n) ≡ true) → (count : Option ℕ) → IsFine (delivery made count)
delivery-fine made sound (Some n) = and_from (is_event (made n)) true (sound n) refl
delivery-fine made sound None = tt

added-fine : (made : List ℕ → Event) → ((tx : List ℕ) → is_tx tx ≡ true → is_event (made tx) ≡ true) → (digits : List ℕ) (r : Result (List ℕ) Kind) → 0 < length digits → tx_in digits ≡ r → IsFine (r >>= (λ tx. Ok (made tx ∷ [])))
added-fine made sound digits (Ok tx) some is = and_from (is_event (made tx)) true (sound tx (decoded digits tx (decode_of digits) some refl is)) refl
added-fine made sound digits (Err k) some is = tt

addition-fine : (made : List ℕ → Event) → ((tx : List ℕ) → is_tx tx ≡ true → is_event (made tx) ≡ true) → (digits : List ℕ) → IsFine (addition made digits)
addition-fine made sound [] = tt
addition-fine made sound (b ∷ rest) = added-fine made sound (b ∷ rest) (tx_in (b ∷ rest)) (omega arith) refl

deliveries-sound : IsScript (deliveries 16)
unfolding deliveries is_event
deliveries-sound = refl

by_tests : (round drain ab ba a b : Bool) (w x y z : Result (List Event) Kind) → IsFine w → IsFine x → IsFine y → IsFine z
    → IsFine (if round then Ok (event.Round ∷ []) else if drain then Ok (deliveries 16) else if ab then w else if ba then x else if a then y else if b then z else Err kind.Form)
unfolding is_event
by_tests true drain ab ba a b w x y z p q r s = refl
by_tests false true ab ba a b w x y z p q r s = deliveries-sound
by_tests false false true ba a b w x y z p q r s = p
by_tests false false false true a b w x y z p q r s = q
by_tests false false false false true b w x y z p q r s = r
by_tests false false false false false true w x y z p q r s = s
by_tests false false false false false false w x y z p q r s = tt

line_events-fine : (line : List ℕ) → IsFine (line_events line)
unfolding line_events is_event
line_events-fine line =
    let word = delivered_bytes (drop 3 line) in
    let digits = drop 2 line in
    by_tests (bytes_eq line (codes "round")) (bytes_eq line (codes "drain")) (begins_with line (codes "ab ")) (begins_with line (codes "ba ")) (begins_with line (codes "a ")) (begins_with line (codes "b "))
    (delivery event.DeliverAb word) (delivery event.DeliverBa word) (addition event.AddA digits) (addition event.AddB digits)
    (delivery-fine event.DeliverAb (λ n. refl) word) (delivery-fine event.DeliverBa (λ n. refl) word) (addition-fine event.AddA (λ tx may. may) digits) (addition-fine event.AddB (λ tx may. may) digits)

-- ---- the events of a script

joined : (first second : List Event) → IsScript first → IsScript second → IsScript (first ++ second)
joined first second p q = list_all-append is_event first second ∙ and_from (list_all is_event first) (list_all is_event second) p q

behind : (es all : List Event) (r : Result (List Event) Kind) → IsScript es → IsFine r → (r >>= (λ more. Ok (es ++ more))) ≡ Ok all → IsScript all
behind es all (Ok more) sound fine h = subst IsScript (let same : es ++ more ≡ all = cc h in same) (joined es more sound fine)
behind es all (Err k) sound fine h = cc

after_line-ok : (l : NumberedLine) (r : Result (List Event) Kind) (next : List Event → Result (List Event) TextFault) (all : List Event) → after_line l r next ≡ Ok all → (more : List Event) × (r ≡ Ok more) × (next more ≡ Ok all)
after_line-ok l (Ok more) next all h = (more, refl, h)
after_line-ok l (Err k) next all h = cc

folded : (ls : List NumberedLine) (so_far all : List Event) → IsScript so_far → line_fold script_step so_far ls ≡ Ok all → IsScript all
unfolding line_fold
folded [] so_far all sound h = subst IsScript (let same : so_far ≡ all = cc h in same) sound
folded (l ∷ ls) so_far all sound h =
    let first = after_line-ok l (script_step so_far l.bytes) _ all h in
    folded ls first.0 all (behind so_far first.0 (line_events l.bytes) sound (line_events-fine l.bytes) first.1) first.2

few_lines : (ls : List NumberedLine) (all : List Event) (many : Bool) → (if many then Err (record { place = length ls; kind = kind.TooMany }) else line_fold script_step [] ls) ≡ Ok all → IsScript all
few_lines ls all true h = cc
few_lines ls all false h = folded ls [] all refl h

script_in-sound : (text : List ℕ) (all : List Event) → script_in text ≡ Ok all → IsScript all
unfolding events_of_lines
script_in-sound text all h = few_lines (lines_of text) all (nat_lt EVENT_LIMIT (length (lines_of text))) h

pub outcome-sound : (text : List ℕ) (r : Result (Vec Event Global) ReadStop) → IsOutcome (λ events. events.items) r (script_in text) → IfOk r (λ events. IsScript events.items)
outcome-sound text (Ok events) given = script_in-sound text events.items given
outcome-sound text (Err stop) given = tt

-- ---- the script of a number

generated_tx-may : (i x : ℕ) → is_tx (generated_tx i x) ≡ true
generated_tx-may i x = and_from (is_tx_length (length (generated_tx i x))) (are_bytes (generated_tx i x)) refl (bytes_join (to_le_bytes w64 i) (to_le_bytes w64 x) (are_bytes-low_first 0 8 i) (are_bytes-low_first 0 8 x))

added-sound : (a b : Bool) (tx : List ℕ) → is_tx tx ≡ true → IsScript (if a then event.AddA tx ∷ [] else if b then event.AddB tx ∷ [] else event.AddA tx ∷ event.AddB tx ∷ [])
unfolding is_event
added-sound true b tx may = and_from (is_tx tx) true may refl
added-sound false true tx may = and_from (is_tx tx) true may refl
added-sound false false tx may = and_from (is_tx tx) (is_tx tx && true) may (and_from (is_tx tx) true may refl)

generated_rounds-sound : (tx : List ℕ) → is_tx tx ≡ true → IsScript (generated_rounds tx)
unfolding deliveries is_event
generated_rounds-sound tx may = and_from (is_tx tx) true may refl

generated_from-sound : (n i x : ℕ) → IsScript (generated_from n i x)
unfolding generated_from
generated_from-sound zero i x = generated_rounds-sound (generated_tx i (next_number x)) (generated_tx-may i (next_number x))
generated_from-sound (suc n) i x =
    let r = next_number x / 2 ^ 60 in
    joined (additions_by r (generated_tx i (next_number x))) (generated_from n (i + 1) (next_number x))
    (added-sound (r == 0) (r == 1) (generated_tx i (next_number x)) (generated_tx-may i (next_number x))) (generated_from-sound n (i + 1) (next_number x))

pub generated_script-sound : (n : ℕ) → IsScript (generated_script n)
generated_script-sound n = generated_from-sound n 0 n
