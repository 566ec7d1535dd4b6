-- The commands of messages. In a frame a command fills 12 bytes (P2P protocol, message header); those of reconciliation
-- are spelled as this project spells them.
use Rattle.std.specs.Prelude.{ℕ, ◌-◌, ◌==◌, ◌&&◌, nat_le, Bool, true, false, if◌then◌else◌, List, [], ◌∷◌, ◌++◌, length, replicate, find, codes, bytes_eq, Some, None}
use Rattle.std.specs.List.{list_all}
use Rattle.std.specs.declared.option.Option.{Option}
use Rattle.wire_rules.specs.declared.name.Name.{Name}
use Rattle.wire_rules.specs.declared.name.Name.TheVariants as name
use Rattle.wire_rules.specs.declared.message.Message.{Message}
use Rattle.wire_rules.specs.declared.message.Message.TheVariants as message

-- a command as it is written in a text
unfoldable pub word_of : Name → List ℕ
word_of name.Version = codes "version"
word_of name.Verack = codes "verack"
word_of name.WtxidRelay = codes "wtxidrelay"
word_of name.SendTxRcncl = codes "sendtxrcncl"
word_of name.ReqRecon = codes "reqrecon"
word_of name.Sketch = codes "sketch"
word_of name.ReqSketchExt = codes "reqsketchext"
word_of name.ReconcilDiff = codes "reconcildiff"
word_of name.Inv = codes "inv"
word_of name.GetData = codes "getdata"
word_of name.NotFound = codes "notfound"
word_of name.Tx = codes "tx"
word_of name.Ping = codes "ping"
word_of name.Pong = codes "pong"

-- a command as a frame has it: filled up with NUL
abbrev pub command_of : Name → List ℕ
command_of n = word_of n ++ replicate (12 - length (word_of n)) 0

-- every command that is known
abbrev pub names : List Name
names =
    name.Version ∷ name.Verack ∷ name.WtxidRelay ∷ name.SendTxRcncl ∷ name.ReqRecon ∷ name.Sketch ∷ name.ReqSketchExt
    ∷ name.ReconcilDiff ∷ name.Inv ∷ name.GetData ∷ name.NotFound ∷ name.Tx ∷ name.Ping ∷ name.Pong ∷ []

-- the name of a command, where it is known
abbrev pub name_at : List ℕ → Option Name
name_at command = find (λ n. bytes_eq (command_of n) command) names

-- the same for a word of a text
abbrev pub name_of_word : List ℕ → Option Name
name_of_word word = find (λ n. bytes_eq (word_of n) word) names

-- printable ASCII
abbrev pub is_printable : ℕ → Bool
is_printable b = nat_le 0x20 b && nat_le b 0x7E

-- printable bytes and then only NUL
unfoldable pub is_filled : List ℕ → Bool
is_filled [] = true
is_filled (b ∷ rest) = if is_printable b then is_filled rest else list_all (λ c. c == 0) (b ∷ rest)

-- whether the first byte is printable
abbrev pub has_printable_start : List ℕ → Bool
has_printable_start [] = false
has_printable_start (b ∷ rest) = is_printable b

-- a command field: 12 bytes, printable ones, at least one, and then only NUL
abbrev pub is_command : List ℕ → Bool
is_command bytes = (length bytes == 12) && has_printable_start bytes && is_filled bytes

-- the command of a message, where it is known
unfoldable pub name_of : Message → Option Name
name_of (message.Version v) = Some name.Version
name_of message.Verack = Some name.Verack
name_of message.WtxidRelay = Some name.WtxidRelay
name_of (message.SendTxRcncl version salt) = Some name.SendTxRcncl
name_of (message.ReqRecon size q) = Some name.ReqRecon
name_of (message.Sketch bytes) = Some name.Sketch
name_of message.ReqSketchExt = Some name.ReqSketchExt
name_of (message.ReconcilDiff success asks) = Some name.ReconcilDiff
name_of (message.Inv es) = Some name.Inv
name_of (message.GetData es) = Some name.GetData
name_of (message.NotFound es) = Some name.NotFound
name_of (message.Tx tx) = Some name.Tx
name_of (message.Ping n) = Some name.Ping
name_of (message.Pong n) = Some name.Pong
name_of (message.Other command payload) = None
