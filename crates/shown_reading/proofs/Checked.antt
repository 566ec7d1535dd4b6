-- The only message that the words of a line may stand for, and the message that the line shows.
use Rattle.std.proofs.Common.{◌≡◌, ℕ, ◌==◌, ◌&&◌, Bool, true, false, not, is_some, List, Option, Some, None, Err, length, nat_le, bytes_eq, refl, sym, ap, ◌∙◌}
use Rattle.std.specs.Prelude.{IsTrue}
use Rattle.std.proofs.lemmas.Bool.{and_from, and_parts}
use Rattle.std.proofs.lemmas.Slice.Eq.{bytes_eq-Decides}
use Rattle.id_rules.specs.Bytes.{are_bytes, are_bytes_of}
use Rattle.wire_rules.specs.Commands.{has_printable_start, is_command, is_filled, name_at}
use Rattle.wire_rules.specs.Limits.{is_in_range, is_within_limits}
use Rattle.wire_rules.specs.Shown.{message_text, words_of}
use Rattle.wire_rules.specs.ShownReading.{fields_of, shown_message}
use Rattle.wire_rules.specs.declared.limits.TheConstants.{PAYLOAD_LIMIT}
use Rattle.wire_rules.specs.declared.message.Message.{Message}
use Rattle.wire_rules.specs.declared.message.Message.TheVariants as message
use Rattle.shown_laws.proofs.Lines.{fields_of-message_text, filled_bytes, shown_message-line, shown_message-message_text}
use Rattle.shown_reading.specs.Reads.{IsOnly, IsShownMessage, is_typed}
use Rattle.shown_reading.specs.declared.fault.ShownFault.{ShownFault}
use Rattle.shown_reading.specs.declared.fault.ShownFault.TheVariants as fault
use Rattle.shown_reading.proofs.OneWord.{Only}

-- a command field has 12 bytes
command_typed : (command : List ℕ) → is_command command ≡ true → are_bytes_of 12 command ≡ true
command_typed command h =
    let tests = and_parts ((length command == 12) && has_printable_start command) (is_filled command) h in
    and_from (length command == 12) (are_bytes command) (and_parts (length command == 12) (has_printable_start command) tests.0).0 (filled_bytes command tests.1)

sent_typed : (m : Message) → is_within_limits m ≡ true → is_in_range m ≡ true → is_typed m ≡ true
unfolding is_within_limits is_in_range
sent_typed (message.Other command payload) within ranged =
    let known = and_parts (is_command command && not (is_some (name_at command))) (nat_le (length payload) PAYLOAD_LIMIT) within in
    and_from (are_bytes_of 12 command) (are_bytes payload) (command_typed command (and_parts (is_command command) (not (is_some (name_at command))) known.0).0) ranged
sent_typed m within ranged = ranged

typed_ranged : (m : Message) → is_typed m ≡ true → is_in_range m ≡ true
unfolding is_in_range
typed_ranged (message.Other command payload) h = (and_parts (are_bytes_of 12 command) (are_bytes payload) h).1
typed_ranged m h = h

module _ (line : List ℕ) (words : List (List ℕ)) (is : words ≡ fields_of line) where
  -- a message that the line shows is one that its words may stand for
  stood : (m : Message) → shown_message line ≡ Some m → IsTrue (is_typed m) × (words ≡ words_of m) × IsTrue (is_within_limits m) × (message_text m ≡ line)
  stood m e =
      let shown = shown_message-line line m e in (
        sent_typed m shown.sent.within shown.sent.ranged,
        is ∙ (ap fields_of shown.text ∙ fields_of-message_text m shown.sent),
        shown.sent.within,
        sym shown.text,
      )

  none_by : (o : Option Message) → shown_message line ≡ o → ((m : Message) → shown_message line ≡ Some m → ⊥) → shown_message line ≡ None
  none_by (Some m) e never = absurd (never m e)
  none_by None e never = e

  -- where there is none, the line shows none
  pub unread : (e : ShownFault) → IsOnly is_typed (λ m. words ≡ words_of m) (Err e) → IsShownMessage (shown_message line) (Err e)
  unread fault.Form none = none_by (shown_message line) refl (λ m e. let s = stood m e in none m s.0 s.1)
  unread fault.OutOfMemory none = tt

  abbrev is_same : Message → Bool
  is_same m = is_within_limits m && bytes_eq (message_text m) line

  -- where it is shown as the line, it is the message
  pub read : (m : Message) → Only is_typed (λ m. words ≡ words_of m) m → is_same m ≡ true → shown_message line ≡ Some m
  read m only same =
      let tests = and_parts (is_within_limits m) (bytes_eq (message_text m) line) same in
      ap shown_message (sym ((bytes_eq-Decides (message_text m) line).0 tests.1)) ∙ shown_message-message_text m (record { within = tests.0; ranged = typed_ranged m only.0 })

  not_both : (t : Bool) → t ≡ false → t ≡ true → ⊥
  not_both t e f = absurd (cc)

  -- where it isn't, the line shows none
  pub unshown : (m : Message) → Only is_typed (λ m. words ≡ words_of m) m → is_same m ≡ false → shown_message line ≡ None
  unshown m only other = none_by (shown_message line) refl (λ n e.
      let s = stood n e in
      let same : n ≡ m = only.1 n s.0 s.1 in
      let test : is_same n ≡ true = and_from (is_within_limits n) (bytes_eq (message_text n) line) s.2 ((bytes_eq-Decides (message_text n) line).1 s.3) in
      not_both (is_same m) other (ap is_same (sym same) ∙ test))
