-- What the words `sync` and `serve` ask for: an exchange of transactions with another node.
use Rattle.std.specs.Prelude.{◌≡◌, ℕ, List, [], ◌∷◌, codes}
use Rattle.link_rules.specs.Links.{Call, ConnectCall, ListenCall, AcceptCall}
use Rattle.node_rules.specs.declared.config.Config.{Config}
use Rattle.node_rules.specs.declared.config.Role.{Role}
use Rattle.node_rules.specs.declared.config.Role.TheVariants as role
use Rattle.protocol_text_rules.specs.declared.limits.TheConstants.{MAIN_MAGIC}
use Rattle.command_words.specs.Words.{IsFormless}
use Rattle.erlay_cli.specs.declared.chance.Chance.{Chance}

-- the node's role, the address, the name of the pool file, and the name that the pool is saved under
pub record Exchange : Type 0 where
  pub role : Role
  pub address : List ℕ
  pub pool : List ℕ
  pub out : List ℕ

abbrev pub role_word : Role → List ℕ
role_word role.Opener = codes "sync"
role_word role.Accepter = codes "serve"

-- the words ask for the exchange
abbrev pub HasExchange : List (List ℕ) → Exchange → Type 0
HasExchange words x = words ≡ role_word x.role ∷ x.address ∷ x.pool ∷ x.out ∷ []

-- the words ask for no exchange
abbrev pub HasNoExchange : List (List ℕ) → Type 0
HasNoExchange words = (x : Exchange) → HasExchange words x → ⊥

-- the words ask for no command and for no exchange
pub record AreFormless (words : List (List ℕ)) : Type 0 where
  pub no_command : IsFormless words
  pub no_exchange : HasNoExchange words

-- a node of the main network, by what chance and the clock gave
unfoldable pub config_of : Role → Chance → Config
config_of r chance = record { magic = MAIN_MAGIC; role = r; salt = chance.salt; nonce = chance.nonce; time = chance.time; top = 2 }

-- how many rounds its session begins
abbrev pub rounds_of : Role → ℕ
rounds_of role.Opener = 1
rounds_of role.Accepter = 0

-- the calls that make its link
abbrev pub link_calls : Role → List ℕ → List Call
link_calls role.Opener address = ConnectCall address ∷ []
link_calls role.Accepter address = ListenCall address ∷ AcceptCall ∷ []

-- the first of them
abbrev pub first_call : Role → List ℕ → Call
first_call role.Opener address = ConnectCall address
first_call role.Accepter address = ListenCall address
