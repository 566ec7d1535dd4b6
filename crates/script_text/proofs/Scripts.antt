-- Scripts, read line by line.
use Rattle.std.proofs.Common.{◌≡◌, ℕ, ◌<◌, ◌≤◌, List, [], ◌++◌, length, Ok, Err, refl, sym, ap, ◌∙◌, lt-ltb}
use Rattle.std.proofs.lemmas.Bool.{le-ltb}
use Rattle.base_types.specs.declared.text.Kind.TheVariants as kind
use Rattle.line_rules.specs.Digits.{◌>>=◌}
use Rattle.line_rules.specs.Lines.{NumberedLine}
use Rattle.line_rules.specs.Reading.{line_fold}
use Rattle.pair_rules.specs.declared.event.Event.{Event}
use Rattle.protocol_text_rules.specs.Scripts.{events_of_lines, line_events, script_step}
use Rattle.protocol_text_rules.specs.declared.limits.TheConstants.{EVENT_LIMIT}

-- the events of a line, behind those before it
pub script_step-more : (es more all : List Event) (line : List ℕ) → line_events line ≡ Ok more → all ≡ es ++ more → script_step es line ≡ Ok all
script_step-more es more all line is behind = ap (λ r. r >>= (λ more. Ok (es ++ more))) is ∙ ap Ok (sym behind)

pub events_of_lines-many : (n : ℕ) (ls : List NumberedLine) → n ≡ length ls → EVENT_LIMIT < n → events_of_lines ls ≡ Err (record { place = n; kind = kind.TooMany })
unfolding events_of_lines
events_of_lines-many n ls is many = rw (sym is, lt-ltb EVENT_LIMIT n many) refl

pub events_of_lines-few : (n : ℕ) (ls : List NumberedLine) → n ≡ length ls → n ≤ EVENT_LIMIT → events_of_lines ls ≡ line_fold script_step [] ls
unfolding events_of_lines
events_of_lines-few n ls is few = rw (sym is, le-ltb EVENT_LIMIT n few) refl
