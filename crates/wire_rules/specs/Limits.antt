-- Which frames and messages may be sent.
use Rattle.std.specs.Prelude.{◌^◌, ◌≤◌, ◌&&◌, nat_lt, nat_le, not, is_some, Bool, true, IsTrue, length}
use Rattle.std.specs.List.{list_all}
use Rattle.id_rules.specs.Bytes.{are_bytes, are_bytes_of, is_id, is_optional_byte, fits_signed, is_tx_length}
use Rattle.wire_rules.specs.Commands.{is_command, name_at}
use Rattle.wire_rules.specs.declared.limits.TheConstants.{PAYLOAD_LIMIT, LIST_LIMIT, AGENT_LIMIT}
use Rattle.wire_rules.specs.declared.frame.Frame.{Frame}
use Rattle.wire_rules.specs.declared.message.InvEntry.{InvEntry}
use Rattle.wire_rules.specs.declared.message.VersionMsg.{VersionMsg}
use Rattle.wire_rules.specs.declared.message.Message.{Message}
use Rattle.wire_rules.specs.declared.message.Message.TheVariants as message

-- counts and lengths are within their limits; another command is a command field and none that is known
unfoldable pub is_within_limits : Message → Bool
is_within_limits (message.Version v) = nat_le (length v.agent) AGENT_LIMIT
is_within_limits (message.Sketch bytes) = nat_le (length bytes) LIST_LIMIT
is_within_limits (message.ReconcilDiff success asks) = nat_le (length asks) LIST_LIMIT
is_within_limits (message.Inv es) = nat_le (length es) LIST_LIMIT
is_within_limits (message.GetData es) = nat_le (length es) LIST_LIMIT
is_within_limits (message.NotFound es) = nat_le (length es) LIST_LIMIT
is_within_limits (message.Tx tx) = is_tx_length (length tx)
is_within_limits (message.Other command payload) = is_command command && not (is_some (name_at command)) && nat_le (length payload) PAYLOAD_LIMIT
is_within_limits other = true

-- the ranges that the types of a message's fields have

abbrev pub is_entry : InvEntry → Bool
is_entry e = nat_lt e.kind (2 ^ 32) && is_id e.id

abbrev pub is_version_in_range : VersionMsg → Bool
is_version_in_range v =
    fits_signed 31 v.version && nat_lt v.services (2 ^ 64) && fits_signed 63 v.time && are_bytes_of 26 v.receiver
    && are_bytes_of 26 v.sender && nat_lt v.nonce (2 ^ 64) && are_bytes v.agent && fits_signed 31 v.height && is_optional_byte v.relay

unfoldable pub is_in_range : Message → Bool
is_in_range (message.Version v) = is_version_in_range v
is_in_range (message.SendTxRcncl version salt) = nat_lt version (2 ^ 32) && nat_lt salt (2 ^ 64)
is_in_range (message.ReqRecon size q) = nat_lt size (2 ^ 16) && nat_lt q (2 ^ 16)
is_in_range (message.Sketch bytes) = are_bytes bytes
is_in_range (message.ReconcilDiff success asks) = list_all (λ n. nat_lt n (2 ^ 32)) asks
is_in_range (message.Inv es) = list_all is_entry es
is_in_range (message.GetData es) = list_all is_entry es
is_in_range (message.NotFound es) = list_all is_entry es
is_in_range (message.Tx tx) = are_bytes tx
is_in_range (message.Ping n) = nat_lt n (2 ^ 64)
is_in_range (message.Pong n) = nat_lt n (2 ^ 64)
is_in_range (message.Other command payload) = are_bytes payload
is_in_range other = true

-- a message that may be sent
abbrev pub is_message : Message → Bool
is_message m = is_within_limits m && is_in_range m

pub record IsMessage (m : Message) : Type 0 where
  pub within : IsTrue (is_within_limits m)
  pub ranged : IsTrue (is_in_range m)

-- a frame that may be sent
pub record IsFrame (f : Frame) : Type 0 where
  pub command : IsTrue (is_command f.command)
  pub within : length f.payload ≤ PAYLOAD_LIMIT
  pub bytes : IsTrue (are_bytes f.payload)
