-- What messages are about.
use Rattle.std.specs.Prelude.{◌≡◌, Bool, true, false, List, filter}
use Rattle.wire_rules.specs.declared.message.Message.{Message}
use Rattle.wire_rules.specs.declared.message.Message.TheVariants as message

pub data Topic : Type 0 where
  Handshakes : Topic
  Rounds : Topic
  Wants : Topic
  Others : Topic

unfoldable pub topic_of : Message → Topic
topic_of (message.Version v) = Handshakes
topic_of message.Verack = Handshakes
topic_of message.WtxidRelay = Handshakes
topic_of (message.SendTxRcncl version salt) = Handshakes
topic_of (message.ReqRecon size q) = Rounds
topic_of (message.Sketch bytes) = Rounds
topic_of message.ReqSketchExt = Rounds
topic_of (message.ReconcilDiff success asks) = Rounds
topic_of (message.Ping n) = Rounds
topic_of (message.Pong n) = Rounds
topic_of (message.Inv es) = Wants
topic_of (message.GetData es) = Wants
topic_of (message.Tx bytes) = Wants
topic_of (message.NotFound es) = Others
topic_of (message.Other command payload) = Others

unfoldable pub is_handshake : Topic → Bool
is_handshake Handshakes = true
is_handshake _ = false

unfoldable pub is_round : Topic → Bool
is_round Rounds = true
is_round _ = false

-- the messages about rounds, in order
abbrev pub messages_of_rounds : List Message → List Message
messages_of_rounds ms = filter (λ m. is_round (topic_of m)) ms

-- no message of the handshake
pub record IsRelayMessage (m : Message) : Type 0 where
  pub later : is_handshake (topic_of m) ≡ false
