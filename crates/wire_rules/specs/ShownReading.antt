-- The message whose shown text a line is: the message that its fields seem to say, where that one is shown as the line.
use Rattle.std.specs.Prelude.{ℕ, zero, suc, ◌==◌, ◌&&◌, Bool, true, false, if◌then◌else◌, List, [], ◌∷◌, ℤ, pos, negsuc, Some, None, Ok, Err, codes, bytes_eq}
use Rattle.std.specs.List.{before_first, after_first}
use Rattle.std.specs.Int.{w32, w64, from_be_bytes}
use Rattle.std.specs.declared.option.Option.{Option}
use Rattle.std.specs.declared.result.Result.{Result}
use Rattle.hex.specs.Hex.{decode_of}
use Rattle.hex.specs.declared.error.FromHexError.{FromHexError}
use Rattle.line_rules.specs.Numbers.{number_of}
use Rattle.wire_rules.specs.Commands.{name_of_word}
use Rattle.wire_rules.specs.Limits.{is_message}
use Rattle.wire_rules.specs.Shown.{message_text}
use Rattle.wire_rules.specs.declared.name.Name.{Name}
use Rattle.wire_rules.specs.declared.name.Name.TheVariants as name
use Rattle.wire_rules.specs.declared.message.InvEntry.{InvEntry}
use Rattle.wire_rules.specs.declared.message.Message.{Message}
use Rattle.wire_rules.specs.declared.message.Message.TheVariants as message

infixl 10 ◌>>=◌
abbrev pub ◌>>=◌ : {A B : Type 0} → Option A → (A → Option B) → Option B
Some x >>= next = next x
None >>= next = None

-- a byte put in front of the first of some fields
abbrev pub with_first_byte : ℕ → List (List ℕ) → List (List ℕ)
with_first_byte b [] = (b ∷ []) ∷ []
with_first_byte b (field ∷ more) = (b ∷ field) ∷ more

-- the fields of a line, which a space ends
unfoldable pub fields_of : List ℕ → List (List ℕ)
fields_of [] = [] ∷ []
fields_of (b ∷ rest) = if b == 32 then [] ∷ fields_of rest else with_first_byte b (fields_of rest)

-- the number below 0 of this size
abbrev pub negative_number : ℕ → Option ℤ
negative_number zero = None
negative_number (suc n) = Some (negsuc n)

abbrev pub positive_number : Option ℕ → Option ℤ
positive_number (Some n) = Some (pos n)
positive_number None = None

-- a number that may have a sign
abbrev pub signed_of : List ℕ → Option ℤ
signed_of [] = None
signed_of (b ∷ rest) = if b == 45 then (number_of rest >>= negative_number) else positive_number (number_of (b ∷ rest))

abbrev pub decoded_bytes : Result (List ℕ) FromHexError → Option (List ℕ)
decoded_bytes (Ok bytes) = Some bytes
decoded_bytes (Err e) = None

abbrev pub bytes_of : List ℕ → Option (List ℕ)
bytes_of word = if bytes_eq word (codes "-") then Some [] else decoded_bytes (decode_of word)

abbrev pub short_of : List ℕ → Option ℕ
short_of word = do
  bytes ← decoded_bytes (decode_of word)
  Some (from_be_bytes w32 bytes)

abbrev pub salt_of : List ℕ → Option ℕ
salt_of word = do
  bytes ← decoded_bytes (decode_of word)
  Some (from_be_bytes w64 bytes)

abbrev pub flag_of : List ℕ → Option Bool
flag_of word = if bytes_eq word (codes "1") then Some true else if bytes_eq word (codes "0") then Some false else None

abbrev pub present_byte : Option ℕ → Option (Option ℕ)
present_byte (Some b) = Some (Some b)
present_byte None = None

abbrev pub relay_of : List ℕ → Option (Option ℕ)
relay_of word = if bytes_eq word (codes "none") then Some None else present_byte (number_of word)

abbrev pub is_colon : ℕ → Bool
is_colon b = b == 58

unfoldable pub entry_of : List ℕ → Option InvEntry
entry_of word = do
  kind ← number_of (before_first is_colon word)
  id ← decoded_bytes (decode_of (after_first is_colon word))
  Some (record { kind = kind; id = record { 0 = id } })

-- what each field says
unfoldable pub items_of : {A : Type 0} → (List ℕ → Option A) → List (List ℕ) → Option (List A)
items_of item [] = Some []
items_of item (word ∷ more) = do
  x ← item word
  xs ← items_of item more
  Some (x ∷ xs)

unfoldable pub version_of_fields : List (List ℕ) → Option Message
version_of_fields (version ∷ services ∷ time ∷ receiver ∷ sender ∷ nonce ∷ agent ∷ height ∷ relay ∷ []) = do
  v ← signed_of version
  s ← number_of services
  t ← signed_of time
  r ← bytes_of receiver
  e ← bytes_of sender
  n ← number_of nonce
  a ← bytes_of agent
  h ← signed_of height
  y ← relay_of relay
  Some (message.Version (record { version = v; services = s; time = t; receiver = r; sender = e; nonce = n; agent = a; height = h; relay = y }))
version_of_fields other = None

-- a message of one field
abbrev pub message_of_one : {A : Type 0} → (List ℕ → Option A) → (A → Message) → List (List ℕ) → Option Message
message_of_one item made (word ∷ []) = do
  x ← item word
  Some (made x)
message_of_one item made other = None

-- a message of two fields
abbrev pub message_of_two : {A B : Type 0} → (List ℕ → Option A) → (List ℕ → Option B) → (A → B → Message) → List (List ℕ) → Option Message
message_of_two first second made (word ∷ next ∷ []) = do
  x ← first word
  y ← second next
  Some (made x y)
message_of_two first second made other = None

-- a message of any number of like fields
abbrev pub message_of_many : {A : Type 0} → (List ℕ → Option A) → (List A → Message) → List (List ℕ) → Option Message
message_of_many item made fields = do
  xs ← items_of item fields
  Some (made xs)

abbrev pub diff_of_fields : List (List ℕ) → Option Message
diff_of_fields [] = None
diff_of_fields (word ∷ more) = do
  success ← flag_of word
  message_of_many short_of (message.ReconcilDiff success) more

-- a message of no field
abbrev pub message_of_none : Message → List (List ℕ) → Option Message
message_of_none m [] = Some m
message_of_none m other = None

-- what the fields behind a command seem to say
unfoldable pub message_of_name : Name → List (List ℕ) → Option Message
message_of_name name.Version fields = version_of_fields fields
message_of_name name.Verack fields = message_of_none message.Verack fields
message_of_name name.WtxidRelay fields = message_of_none message.WtxidRelay fields
message_of_name name.SendTxRcncl fields = message_of_two number_of salt_of message.SendTxRcncl fields
message_of_name name.ReqRecon fields = message_of_two number_of number_of message.ReqRecon fields
message_of_name name.Sketch fields = message_of_one bytes_of message.Sketch fields
message_of_name name.ReqSketchExt fields = message_of_none message.ReqSketchExt fields
message_of_name name.ReconcilDiff fields = diff_of_fields fields
message_of_name name.Inv fields = message_of_many entry_of message.Inv fields
message_of_name name.GetData fields = message_of_many entry_of message.GetData fields
message_of_name name.NotFound fields = message_of_many entry_of message.NotFound fields
message_of_name name.Tx fields = message_of_one bytes_of message.Tx fields
message_of_name name.Ping fields = message_of_one number_of message.Ping fields
message_of_name name.Pong fields = message_of_one number_of message.Pong fields

abbrev pub other_of_fields : List (List ℕ) → Option Message
other_of_fields fields = message_of_two bytes_of bytes_of message.Other fields

unfoldable pub message_of_fields : List (List ℕ) → Option Message
message_of_fields [] = None
message_of_fields (command ∷ fields) = if bytes_eq command (codes "other") then other_of_fields fields else (name_of_word command >>= (λ n. message_of_name n fields))

-- a message, where the line is its shown text
abbrev pub message_if_shown : List ℕ → Message → Option Message
message_if_shown line m = if is_message m && bytes_eq (message_text m) line then Some m else None

-- the message that the line shows; none where it is the shown text of no message
abbrev pub shown_message : List ℕ → Option Message
shown_message line = message_of_fields (fields_of line) >>= message_if_shown line
