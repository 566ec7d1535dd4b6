-- What a payload says, or its first fault from the left.
use Rattle.std.specs.Prelude.{ℕ, zero, suc, ◌+◌, ◌^◌, ◌==◌, nat_lt, Bool, true, false, if◌then◌else◌, List, [], ◌∷◌, length, take, drop, ℤ, Some, None, Ok, Err}
use Rattle.std.specs.Int.{Width, w8, w16, w32, w64, byte_len, from_le_bytes, cast_signed}
use Rattle.std.specs.declared.option.Option.{Option}
use Rattle.std.specs.declared.result.Result.{Result}
use Rattle.wire_rules.specs.Commands.{name_at}
use Rattle.wire_rules.specs.declared.limits.TheConstants.{LIST_LIMIT, AGENT_LIMIT}
use Rattle.wire_rules.specs.declared.faults.PayloadFault.{PayloadFault}
use Rattle.wire_rules.specs.declared.faults.PayloadKind.{PayloadKind}
use Rattle.wire_rules.specs.declared.faults.PayloadKind.TheVariants as fault
use Rattle.wire_rules.specs.declared.frame.Frame.{Frame}
use Rattle.wire_rules.specs.declared.name.Name.{Name}
use Rattle.wire_rules.specs.declared.name.Name.TheVariants as name
use Rattle.wire_rules.specs.declared.message.InvEntry.{InvEntry}
use Rattle.wire_rules.specs.declared.message.Message.{Message}
use Rattle.wire_rules.specs.declared.message.Message.TheVariants as message

-- a fault and its offset in the payload
pub record FieldFault : Type 0 where
  pub at : ℕ
  pub kind : PayloadKind

-- the bytes of a payload that are still to be read, and the offset of the first of them
pub record Cursor : Type 0 where
  pub at : ℕ
  pub rest : List ℕ

-- what a field says, and what stands behind it
abbrev pub FieldReading : Type 0 → Type 0
FieldReading A = Result (A × Cursor) FieldFault

abbrev pub fault_at : {A : Type 0} → ℕ → PayloadKind → Result A FieldFault
fault_at at kind = Err (record { at = at; kind = kind })

-- goes on behind what was read
infixl 10 ◌>>=◌
abbrev pub ◌>>=◌ : {A B : Type 0} → Result A FieldFault → (A → Result B FieldFault) → Result B FieldFault
Ok x >>= next = next x
Err spot >>= next = Err spot

-- the next n bytes. Where fewer are left, the fault stands at the payload's end
unfoldable pub bytes_at : ℕ → Cursor → FieldReading (List ℕ)
bytes_at n c =
    if nat_lt (length c.rest) n then fault_at (c.at + length c.rest) fault.Short
    else Ok (take n c.rest, record { at = c.at + n; rest = drop n c.rest })

-- a number, its lowest byte first
abbrev pub number_at : Width → Cursor → FieldReading ℕ
number_at w c = do
  bytes ← bytes_at (byte_len w) c
  Ok (from_le_bytes w bytes.0, bytes.1)

abbrev pub signed_at : Width → Cursor → FieldReading ℤ
signed_at w c = do
  n ← number_at w c
  Ok (cast_signed w n.0, n.1)

-- a number behind a mark, which has to be at least the least one that needs that mark
abbrev pub number_after_mark : ℕ → ℕ → Width → Cursor → FieldReading ℕ
number_after_mark at least w c = do
  n ← number_at w c
  if nat_lt n.0 least then fault_at at fault.NotMinimal else Ok n

-- what the first byte of a CompactSize means: its own value, or a mark before 2, 4 or 8 bytes
abbrev pub number_by_mark : ℕ → ℕ → Cursor → FieldReading ℕ
number_by_mark at first c =
    if first == 0xFD then number_after_mark at 0xFD w16 c
    else if first == 0xFE then number_after_mark at (2 ^ 16) w32 c
    else if first == 0xFF then number_after_mark at (2 ^ 32) w64 c
    else Ok (first, c)

-- a count up to a limit, in as few bytes as it can be. Both faults stand at its first byte
unfoldable pub count_at : ℕ → Cursor → FieldReading ℕ
count_at limit c = do
  first ← number_at w8 c
  n ← number_by_mark c.at first.0 first.1
  if nat_lt limit n.0 then fault_at c.at fault.TooMany else Ok n

-- n items in a row
unfoldable pub items_at : {A : Type 0} → (Cursor → FieldReading A) → ℕ → Cursor → FieldReading (List A)
items_at item zero c = Ok ([], c)
items_at item (suc n) c = do
  x ← item c
  xs ← items_at item n x.1
  Ok (x.0 ∷ xs.0, xs.1)

-- items behind their count
abbrev pub counted_items_at : {A : Type 0} → (Cursor → FieldReading A) → Cursor → FieldReading (List A)
counted_items_at item c = do
  n ← count_at LIST_LIMIT c
  items_at item n.0 n.1

-- bytes behind their count
abbrev pub counted_bytes_at : ℕ → Cursor → FieldReading (List ℕ)
counted_bytes_at limit c = do
  n ← count_at limit c
  bytes_at n.0 n.1

unfoldable pub entry_at : Cursor → FieldReading InvEntry
entry_at c = do
  kind ← number_at w32 c
  id ← bytes_at 32 kind.1
  Ok (record { kind = kind.0; id = record { 0 = id.0 } }, id.1)

-- a byte that is 0 or 1
abbrev pub flag_of : ℕ → ℕ → Cursor → FieldReading Bool
flag_of at b c = if b == 0 then Ok (false, c) else if b == 1 then Ok (true, c) else fault_at at fault.BadFlag

unfoldable pub flag_at : Cursor → FieldReading Bool
flag_at c = do
  b ← number_at w8 c
  flag_of c.at b.0 b.1

-- a byte that may be absent
unfoldable pub optional_at : Cursor → FieldReading (Option ℕ)
optional_at c = if length c.rest == 0 then Ok (None, c) else do
  b ← number_at w8 c
  Ok (Some b.0, b.1)

-- nothing may stand behind the last field
unfoldable pub message_at_end : Message → Cursor → Result Message FieldFault
message_at_end m c = if length c.rest == 0 then Ok m else fault_at c.at fault.Trailing

abbrev pub start : List ℕ → Cursor
start payload = record { at = 0; rest = payload }

unfoldable pub version_in : List ℕ → Result Message FieldFault
version_in payload = do
  version ← signed_at w32 (start payload)
  services ← number_at w64 version.1
  time ← signed_at w64 services.1
  receiver ← bytes_at 26 time.1
  sender ← bytes_at 26 receiver.1
  nonce ← number_at w64 sender.1
  agent ← counted_bytes_at AGENT_LIMIT nonce.1
  height ← signed_at w32 agent.1
  relay ← optional_at height.1
  message_at_end (message.Version (record {
    version = version.0;
    services = services.0;
    time = time.0;
    receiver = receiver.0;
    sender = sender.0;
    nonce = nonce.0;
    agent = agent.0;
    height = height.0;
    relay = relay.0;
  })) relay.1

unfoldable pub salt_in : List ℕ → Result Message FieldFault
salt_in payload = do
  version ← number_at w32 (start payload)
  salt ← number_at w64 version.1
  message_at_end (message.SendTxRcncl version.0 salt.0) salt.1

unfoldable pub request_in : List ℕ → Result Message FieldFault
request_in payload = do
  size ← number_at w16 (start payload)
  q ← number_at w16 size.1
  message_at_end (message.ReqRecon size.0 q.0) q.1

unfoldable pub sketch_in : List ℕ → Result Message FieldFault
sketch_in payload = do
  bytes ← counted_bytes_at LIST_LIMIT (start payload)
  message_at_end (message.Sketch bytes.0) bytes.1

unfoldable pub diff_in : List ℕ → Result Message FieldFault
diff_in payload = do
  success ← flag_at (start payload)
  asks ← counted_items_at (number_at w32) success.1
  message_at_end (message.ReconcilDiff success.0 asks.0) asks.1

-- a message that is an inventory
unfoldable pub inventory_in : (List InvEntry → Message) → List ℕ → Result Message FieldFault
inventory_in made payload = do
  es ← counted_items_at entry_at (start payload)
  message_at_end (made es.0) es.1

-- a message that is one number of 8 bytes
unfoldable pub number_in : (ℕ → Message) → List ℕ → Result Message FieldFault
number_in made payload = do
  n ← number_at w64 (start payload)
  message_at_end (made n.0) n.1

-- a transaction is the whole payload, and isn't empty
abbrev pub tx_in : List ℕ → Result Message FieldFault
tx_in [] = fault_at 0 fault.Short
tx_in (b ∷ rest) = Ok (message.Tx (b ∷ rest))

-- what the payload of a command says, or its first fault
unfoldable pub message_in : Name → List ℕ → Result Message FieldFault
message_in name.Version payload = version_in payload
message_in name.Verack payload = message_at_end message.Verack (start payload)
message_in name.WtxidRelay payload = message_at_end message.WtxidRelay (start payload)
message_in name.SendTxRcncl payload = salt_in payload
message_in name.ReqRecon payload = request_in payload
message_in name.Sketch payload = sketch_in payload
message_in name.ReqSketchExt payload = message_at_end message.ReqSketchExt (start payload)
message_in name.ReconcilDiff payload = diff_in payload
message_in name.Inv payload = inventory_in message.Inv payload
message_in name.GetData payload = inventory_in message.GetData payload
message_in name.NotFound payload = inventory_in message.NotFound payload
message_in name.Tx payload = tx_in payload
message_in name.Ping payload = number_in message.Ping payload
message_in name.Pong payload = number_in message.Pong payload

abbrev pub with_command : Name → Result Message FieldFault → Result Message PayloadFault
with_command n (Ok m) = Ok m
with_command n (Err spot) = Err (record { command = n; at = spot.at; kind = spot.kind })

abbrev pub message_by : Option Name → Frame → Result Message PayloadFault
message_by None f = Ok (message.Other f.command f.payload)
message_by (Some n) f = with_command n (message_in n f.payload)

-- the message of a frame, or the first fault of its payload
abbrev pub message_of : Frame → Result Message PayloadFault
message_of f = message_by (name_at f.command) f
