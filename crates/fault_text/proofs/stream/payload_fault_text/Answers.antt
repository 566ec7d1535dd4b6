use Rattle.std.proofs.Common.{◌≡◌, ◌++◌, List, ℕ, append_assoc, rules}
use Rattle.std.specs.Prelude.{codes}
use Rattle.std.specs.Fmt.{decimal}
use Rattle.wire_rules.specs.Commands.{word_of}
use Rattle.protocol_text_rules.specs.Ends.{payload_kind_text}
use Rattle.fault_text.proofs.stream.payload_fault_text.Goals as goal

-- the parts of the text as they are put together
parts : (first word before place behind kind : List ℕ) → ((first ++ word) ++ (before ++ (place ++ behind))) ++ kind ≡ first ++ word ++ before ++ place ++ behind ++ kind
parts first word before place behind kind = simp append_assoc

pub returns : goal.returns
returns c =
    let first : c.in_ok-text.text.items ≡ codes "payload of " = search rules in
    let with_word : c.extend_from_slice.new.self.items ≡ c.in_ok-text.text.items ++ c.word_of.result.now = c.in_ok-extend_from_slice.ensures.items in
    let with_place : c.extend_from_slice-2.new.self.items ≡ c.extend_from_slice.new.self.items ++ c.as_bytes.result.now = c.in_ok-extend_from_slice-2.ensures.items in
    let with_kind : c.extend_from_slice-3.new.self.items ≡ c.extend_from_slice-2.new.self.items ++ c.payload_kind_text.result.now = c.in_ok-extend_from_slice-3.ensures.items in
    let fault = c.args.fault.now in
    rw (with_kind, with_place, with_word, first, c.word_of.ensures, c.as_bytes.ensures.value, c.in_ok-place.ensures.ok, c.payload_kind_text.ensures)
    (parts (codes "payload of ") (word_of fault.command) (codes " at ") (decimal fault.at) (codes ": ") (payload_kind_text fault.kind))
