-- Messages as lines of text, which are this project's own. Fields stand with one space between; numbers are decimal,
-- bytes are lower-case digits, and `-` stands for no bytes.
use Rattle.std.specs.Prelude.{◌≡◌, ℕ, Bool, true, false, List, [], ◌∷◌, ◌++◌, Some, None, map, codes}
use Rattle.std.specs.List.{join_with_byte}
use Rattle.std.specs.Int.{w64, to_be_bytes}
use Rattle.std.specs.Fmt.{decimal, signed_decimal}
use Rattle.std.specs.declared.option.Option.{Option}
use Rattle.hex.specs.Hex.{encode_lower}
use Rattle.line_rules.specs.Digits.{eight_digits}
use Rattle.wire_rules.specs.Commands.{word_of}
use Rattle.wire_rules.specs.Limits.{IsMessage}
use Rattle.wire_rules.specs.declared.name.Name.TheVariants as name
use Rattle.wire_rules.specs.declared.message.InvEntry.{InvEntry}
use Rattle.wire_rules.specs.declared.message.VersionMsg.{VersionMsg}
use Rattle.wire_rules.specs.declared.message.Message.{Message}
use Rattle.wire_rules.specs.declared.message.Message.TheVariants as message

abbrev pub bytes_word : List ℕ → List ℕ
bytes_word [] = codes "-"
bytes_word (b ∷ rest) = encode_lower (b ∷ rest)

-- a salt, the most significant digit first
abbrev pub salt_word : ℕ → List ℕ
salt_word n = encode_lower (to_be_bytes w64 n)

abbrev pub flag_word : Bool → List ℕ
flag_word true = codes "1"
flag_word false = codes "0"

abbrev pub relay_word : Option ℕ → List ℕ
relay_word None = codes "none"
relay_word (Some b) = decimal b

-- the kind, a colon, and the id in stored order
abbrev pub entry_word : InvEntry → List ℕ
entry_word e = decimal e.kind ++ codes ":" ++ encode_lower e.id.0

abbrev pub version_words : VersionMsg → List (List ℕ)
version_words v =
    signed_decimal v.version ∷ decimal v.services ∷ signed_decimal v.time ∷ bytes_word v.receiver ∷ bytes_word v.sender
    ∷ decimal v.nonce ∷ bytes_word v.agent ∷ signed_decimal v.height ∷ relay_word v.relay ∷ []

-- the fields of a line, the command first
unfoldable pub words_of : Message → List (List ℕ)
words_of (message.Version v) = word_of name.Version ∷ version_words v
words_of message.Verack = word_of name.Verack ∷ []
words_of message.WtxidRelay = word_of name.WtxidRelay ∷ []
words_of (message.SendTxRcncl version salt) = word_of name.SendTxRcncl ∷ decimal version ∷ salt_word salt ∷ []
words_of (message.ReqRecon size q) = word_of name.ReqRecon ∷ decimal size ∷ decimal q ∷ []
words_of (message.Sketch bytes) = word_of name.Sketch ∷ bytes_word bytes ∷ []
words_of message.ReqSketchExt = word_of name.ReqSketchExt ∷ []
words_of (message.ReconcilDiff success asks) = word_of name.ReconcilDiff ∷ flag_word success ∷ map eight_digits asks
words_of (message.Inv es) = word_of name.Inv ∷ map entry_word es
words_of (message.GetData es) = word_of name.GetData ∷ map entry_word es
words_of (message.NotFound es) = word_of name.NotFound ∷ map entry_word es
words_of (message.Tx tx) = word_of name.Tx ∷ bytes_word tx ∷ []
words_of (message.Ping n) = word_of name.Ping ∷ decimal n ∷ []
words_of (message.Pong n) = word_of name.Pong ∷ decimal n ∷ []
words_of (message.Other command payload) = codes "other" ∷ encode_lower command ∷ bytes_word payload ∷ []

-- the line of a message, without its end
abbrev pub message_text : Message → List ℕ
message_text m = join_with_byte 32 (words_of m)

-- the line is the shown text of this message
pub record IsShown (line : List ℕ) (m : Message) : Type 0 where
  pub sent : IsMessage m
  pub text : line ≡ message_text m
