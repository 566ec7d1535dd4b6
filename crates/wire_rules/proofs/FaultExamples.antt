-- Worked examples of payloads that say no message: the first fault from the left.
use Rattle.std.proofs.Common.{◌≡◌, ℕ, List, refl, Err, Result}
use Rattle.std.specs.Prelude.{codes}
use Rattle.id_rules.proofs.Samples.{from_digits}
use Rattle.wire_rules.specs.Layout.{named_frame}
use Rattle.wire_rules.specs.Reading.{message_of}
use Rattle.wire_rules.proofs.Samples.{reading}
use Rattle.wire_rules.specs.declared.faults.PayloadFault.{PayloadFault}
use Rattle.wire_rules.specs.declared.faults.PayloadKind.{PayloadKind}
use Rattle.wire_rules.specs.declared.faults.PayloadKind.TheVariants as fault
use Rattle.wire_rules.specs.declared.message.Message.{Message}
use Rattle.wire_rules.specs.declared.name.Name.{Name}
use Rattle.wire_rules.specs.declared.name.Name.TheVariants as name

-- what the payload of these digits says
abbrev message_of_name : Name → List ℕ → Result Message PayloadFault
message_of_name n text = message_of (named_frame n (from_digits text))

abbrev at : Name → ℕ → PayloadKind → Result Message PayloadFault
at n offset kind = Err (record { command = n; at = offset; kind = kind })

-- a count of 4 that takes three bytes
not_minimal : message_of_name name.Sketch (codes "fd040000000000") ≡ at name.Sketch 0 fault.NotMinimal
unfolding reading
not_minimal = refl

no_bytes : message_of_name name.Ping (codes "") ≡ at name.Ping 0 fault.Short
unfolding reading
no_bytes = refl

trailing : message_of_name name.Verack (codes "00") ≡ at name.Verack 0 fault.Trailing
unfolding reading
trailing = refl

bad_flag : message_of_name name.ReconcilDiff (codes "0200") ≡ at name.ReconcilDiff 0 fault.BadFlag
unfolding reading
bad_flag = refl

-- a count of 50,001, behind which the bytes are missing too; and of 50,000
too_many : message_of_name name.Inv (codes "fd51c3") ≡ at name.Inv 0 fault.TooMany
unfolding reading
too_many = refl

missing : message_of_name name.Sketch (codes "fd50c3") ≡ at name.Sketch 3 fault.Short
unfolding reading
missing = refl

-- a count that is too large and takes too many bytes
not_minimal_first : message_of_name name.Sketch (codes "ff51c3000000000000") ≡ at name.Sketch 0 fault.NotMinimal
unfolding reading
not_minimal_first = refl

-- a count that ends inside
half_a_count : message_of_name name.Sketch (codes "fd04") ≡ at name.Sketch 2 fault.Short
unfolding reading
half_a_count = refl

empty_tx : message_of_name name.Tx (codes "") ≡ at name.Tx 0 fault.Short
unfolding reading
empty_tx = refl

-- a flag that is missing, asks that are, and bytes behind the last ask
no_flag : message_of_name name.ReconcilDiff (codes "") ≡ at name.ReconcilDiff 0 fault.Short
unfolding reading
no_flag = refl

no_ask : message_of_name name.ReconcilDiff (codes "010201000000") ≡ at name.ReconcilDiff 6 fault.Short
unfolding reading
no_ask = refl

behind_asks : message_of_name name.ReconcilDiff (codes "01010100000005") ≡ at name.ReconcilDiff 6 fault.Trailing
unfolding reading
behind_asks = refl
