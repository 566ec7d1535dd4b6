-- How messages and frames are spelled. All numbers stand with their lowest byte first (P2P protocol documentation).
use Rattle.std.specs.Prelude.{ℕ, ◌^◌, nat_lt, Bool, true, false, if◌then◌else◌, List, [], ◌∷◌, ◌++◌, length, take, ℤ, Some, None, flat_map}
use Rattle.std.specs.Int.{Width, w16, w32, w64, to_le_bytes, cast_unsigned}
use Rattle.std.specs.declared.option.Option.{Option}
use Rattle.id_rules.specs.Ids.{double_sha256}
use Rattle.wire_rules.specs.Commands.{command_of}
use Rattle.wire_rules.specs.declared.frame.Frame.{Frame}
use Rattle.wire_rules.specs.declared.name.Name.{Name}
use Rattle.wire_rules.specs.declared.name.Name.TheVariants as name
use Rattle.wire_rules.specs.declared.message.InvEntry.{InvEntry}
use Rattle.wire_rules.specs.declared.message.VersionMsg.{VersionMsg}
use Rattle.wire_rules.specs.declared.message.Message.{Message}
use Rattle.wire_rules.specs.declared.message.Message.TheVariants as message

-- the first 4 bytes of the double SHA-256
abbrev pub checksum : List ℕ → List ℕ
checksum payload = take 4 (double_sha256 payload)

-- a frame in a network's stream (P2P protocol, message header): magic, command, length, checksum, payload
abbrev pub frame_bytes : List ℕ → Frame → List ℕ
frame_bytes magic f = magic ++ f.command ++ to_le_bytes w32 (length f.payload) ++ checksum f.payload ++ f.payload

-- a count in as few bytes as it can be (P2P protocol, CompactSize)
unfoldable pub compact_size : ℕ → List ℕ
compact_size n =
    if nat_lt n 0xFD then n ∷ []
    else if nat_lt n (2 ^ 16) then 0xFD ∷ to_le_bytes w16 n
    else if nat_lt n (2 ^ 32) then 0xFE ∷ to_le_bytes w32 n
    else 0xFF ∷ to_le_bytes w64 n

abbrev pub signed_bytes : Width → ℤ → List ℕ
signed_bytes w z = to_le_bytes w (cast_unsigned w z)

-- bytes behind their count
abbrev pub counted_bytes : List ℕ → List ℕ
counted_bytes bytes = compact_size (length bytes) ++ bytes

abbrev pub flag_byte : Bool → ℕ
flag_byte true = 1
flag_byte false = 0

-- a byte that may be absent
abbrev pub optional_byte : Option ℕ → List ℕ
optional_byte None = []
optional_byte (Some b) = b ∷ []

abbrev pub entry_bytes : InvEntry → List ℕ
entry_bytes e = to_le_bytes w32 e.kind ++ e.id.0

-- entries behind their count
abbrev pub inventory : List InvEntry → List ℕ
inventory es = compact_size (length es) ++ flat_map entry_bytes es

abbrev pub version_payload : VersionMsg → List ℕ
version_payload v =
    signed_bytes w32 v.version ++ to_le_bytes w64 v.services ++ signed_bytes w64 v.time ++ v.receiver ++ v.sender
    ++ to_le_bytes w64 v.nonce ++ counted_bytes v.agent ++ signed_bytes w32 v.height ++ optional_byte v.relay

-- whether the difference was found, and the short ids asked for behind their count
abbrev pub diff_payload : Bool → List ℕ → List ℕ
diff_payload success asks = flag_byte success ∷ (compact_size (length asks) ++ flat_map (to_le_bytes w32) asks)

-- the frame of a command that is known
abbrev pub named_frame : Name → List ℕ → Frame
named_frame n payload = record { command = command_of n; payload = payload }

-- the one frame of a message. The layouts of the five messages of reconciliation are this project's own, after BIP 330;
-- `wtxidrelay` is of BIP 339; the others are of the P2P protocol
unfoldable pub frame_of : Message → Frame
frame_of (message.Version v) = named_frame name.Version (version_payload v)
frame_of message.Verack = named_frame name.Verack []
frame_of message.WtxidRelay = named_frame name.WtxidRelay []
frame_of (message.SendTxRcncl version salt) = named_frame name.SendTxRcncl (to_le_bytes w32 version ++ to_le_bytes w64 salt)
frame_of (message.ReqRecon size q) = named_frame name.ReqRecon (to_le_bytes w16 size ++ to_le_bytes w16 q)
frame_of (message.Sketch bytes) = named_frame name.Sketch (counted_bytes bytes)
frame_of message.ReqSketchExt = named_frame name.ReqSketchExt []
frame_of (message.ReconcilDiff success asks) = named_frame name.ReconcilDiff (diff_payload success asks)
frame_of (message.Inv es) = named_frame name.Inv (inventory es)
frame_of (message.GetData es) = named_frame name.GetData (inventory es)
frame_of (message.NotFound es) = named_frame name.NotFound (inventory es)
frame_of (message.Tx tx) = named_frame name.Tx tx
frame_of (message.Ping n) = named_frame name.Ping (to_le_bytes w64 n)
frame_of (message.Pong n) = named_frame name.Pong (to_le_bytes w64 n)
frame_of (message.Other command payload) = record { command = command; payload = payload }

abbrev pub payload_of : Message → List ℕ
payload_of m = (frame_of m).payload

-- a message in a network's stream
abbrev pub message_bytes : List ℕ → Message → List ℕ
message_bytes magic m = frame_bytes magic (frame_of m)

-- messages in a network's stream, in order
abbrev pub wire_bytes : List ℕ → List Message → List ℕ
wire_bytes magic ms = flat_map (message_bytes magic) ms
