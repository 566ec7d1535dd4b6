-- What contracts see of states and keys.
use Rattle.id_rules.specs.SipHash.{SipState}
use Rattle.id_rules.specs.Ids.{KeyPair}
use Rattle.short_ids.specs.declared.sip.State.{State}
use Rattle.short_ids.specs.declared.keys.Keys.{Keys}

-- the four words of a state
abbrev pub state_of : State → SipState
state_of s = record { v0 = s.v0; v1 = s.v1; v2 = s.v2; v3 = s.v3 }

-- the two words of a key
abbrev pub pair_of : Keys → KeyPair
pair_of keys = record { k0 = keys.k0; k1 = keys.k1 }
