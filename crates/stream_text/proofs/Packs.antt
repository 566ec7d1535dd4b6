-- Messages read line by line, beside their frames.
use Rattle.std.proofs.Common.{◌≡◌, ℕ, List, [], ◌∷◌, ◌++◌, Some, None, Ok, Err, sym, ap, ◌∙◌, append-nil}
use Rattle.std.proofs.lemmas.Grind.{flat_map-append}
use Rattle.base_types.specs.declared.text.Kind.TheVariants as kind
use Rattle.line_rules.specs.Lines.{NumberedLine, lines_of}
use Rattle.line_rules.specs.Reading.{line_fold}
use Rattle.line_text.proofs.Steps.{line_fold-fault, line_fold-none, line_fold-step}
use Rattle.wire_rules.specs.Layout.{message_bytes}
use Rattle.wire_rules.specs.Limits.{IsMessage}
use Rattle.wire_rules.specs.ShownReading.{shown_message}
use Rattle.wire_rules.specs.declared.message.Message.{Message}
use Rattle.shown_laws.proofs.Lines.{shown_message-line}
use Rattle.protocol_text_rules.specs.Works.{message_of_line, pack_bytes, shown_in, shown_step, with_text}
use Rattle.protocol_text_rules.specs.declared.limits.TheConstants.{MAIN_MAGIC}
use Rattle.line_rules.specs.Digits.{◌>>=◌}

-- a message that a line shows may be sent
pub shown_sent : (line : List ℕ) (m : Message) → shown_message line ≡ Some m → IsMessage m
shown_sent line m e = (shown_message-line line m e).sent

-- the frames so far are those of some messages, behind which the lines that are left are read
pub record IsPackedUpTo (text frames : List ℕ) (left : List NumberedLine) : Type 0 where
  pub messages : List Message
  pub packed : frames ≡ pack_bytes messages
  pub said : shown_in text ≡ line_fold shown_step messages left

pub packed_none : (text frames : List ℕ) (left : List NumberedLine) → frames ≡ [] → left ≡ lines_of text → IsPackedUpTo text frames left
packed_none text frames left none is = record { messages = []; packed = none; said = ap (line_fold shown_step []) (sym is) }

module _ (text frames : List ℕ) (left next : List NumberedLine) (line : NumberedLine) (up : IsPackedUpTo text frames left) (is : left ≡ line ∷ next) where
  pub packed_more : (m : Message) (more : List ℕ) → shown_message line.bytes ≡ Some m → more ≡ frames ++ message_bytes MAIN_MAGIC m → IsPackedUpTo text more next
  packed_more m more shown put = record {
    messages = up.messages ++ m ∷ [];
    packed = put ∙ (ap (λ xs. xs ++ message_bytes MAIN_MAGIC m) up.packed
        ∙ (ap (λ xs. pack_bytes up.messages ++ xs) (sym (append-nil (message_bytes MAIN_MAGIC m))) ∙ sym (flat_map-append (message_bytes MAIN_MAGIC) up.messages (m ∷ []))));
    said = up.said ∙ (ap (line_fold shown_step up.messages) is
        ∙ line_fold-step shown_step up.messages line next (up.messages ++ m ∷ []) (ap (λ o. message_of_line o >>= (λ n. Ok (up.messages ++ n ∷ []))) shown));
  }

  pub packed_fault : shown_message line.bytes ≡ None → with_text pack_bytes (shown_in text) ≡ Err (record { place = line.number; kind = kind.Form })
  packed_fault shown = ap (with_text pack_bytes) (up.said ∙ (ap (line_fold shown_step up.messages) is
      ∙ line_fold-fault shown_step up.messages line next kind.Form (ap (λ o. message_of_line o >>= (λ n. Ok (up.messages ++ n ∷ []))) shown)))

pub packed_all : (text frames : List ℕ) (left : List NumberedLine) → IsPackedUpTo text frames left → left ≡ [] → with_text pack_bytes (shown_in text) ≡ Ok frames
packed_all text frames left up none =
    ap (with_text pack_bytes) (up.said ∙ (ap (line_fold shown_step up.messages) none ∙ line_fold-none shown_step up.messages)) ∙ ap (λ xs. Ok xs) (sym up.packed)
