-- What a session of a node over a wire leaves, also where the wire doesn't tell its link.
use Rattle.std.specs.Prelude.{◌≡◌, ◌≢◌, ⊤, ℕ, ◌≤◌, ◌++◌, Bool, true, false, List, length, Some, None}
use Rattle.std.specs.declared.option.Option.{Option}
use Rattle.link_rules.specs.Links.{Link, received_bytes}
use Rattle.wire_rules.specs.Layout.{wire_bytes}
use Rattle.pool_rules.specs.Pools.{Transaction}
use Rattle.node_rules.specs.Handshake.{opening_messages}
use Rattle.node_rules.specs.Stages.{is_idle}
use Rattle.node_rules.specs.State.{NodeView, opening_state}
use Rattle.node_rules.specs.declared.config.Config.{Config}
use Rattle.node_rules.specs.declared.config.Role.{Role}
use Rattle.node_rules.specs.declared.config.Role.TheVariants as role
use Rattle.node_rules.specs.declared.end.End.{End}
use Rattle.session_rules.specs.Session.{AreInTime, IsSession, Session, session_start}
use Rattle.session_rules.specs.declared.limits.TheConstants.{SESSION_LIMIT}
use Rattle.session_rules.specs.declared.session_end.SessionEnd.{SessionEnd}
use Rattle.session_rules.specs.declared.session_end.SessionEnd.TheVariants as session_end
use Rattle.erlay_base.specs.Causes.{HasRisen}
use Rattle.erlay_base.specs.Told.{AreTold}

-- ---- how a session begins

-- a new node, and what it has to send
abbrev pub new_node : Config → List Transaction → NodeView
new_node c pool = record { state = opening_state c pool; outbox = wire_bytes c.magic (opening_messages c); out_of_memory = false }

-- a node of which nothing was used yet
abbrev pub IsNew : NodeView → Type 0
IsNew v = v ≡ new_node v.state.config v.state.pool

-- ---- what each answer says

-- the node's end, which one answer tells
unfoldable pub end_in : SessionEnd → Option End
end_in (session_end.Refused e) = Some e
end_in other = None

-- whether the wire's input has ended: where that came too early, and where an accepter is done
unfoldable pub is_input_over : Role → SessionEnd → Bool
is_input_over r (session_end.Truncated p) = true
is_input_over role.Accepter session_end.Done = true
is_input_over r other = false

-- an opener's input hasn't ended too early between rounds: there it has begun one more, or is done
unfoldable pub IsBusyIn : Role → SessionEnd → Type 0
IsBusyIn role.Opener (session_end.Truncated p) = is_idle p ≡ false
IsBusyIn r other = ⊤

-- the wire's count of faults rose where a call of it failed, and is what it was otherwise
pub record HasCauseOfFault (before now : ℕ) (answer : SessionEnd) : Type 0 where
  pub later : before ≤ now
  pub failed : answer ≡ session_end.LinkFault → HasRisen before now
  pub no_fault : answer ≢ session_end.LinkFault → now ≡ before

-- ---- what it leaves

-- whatever the answer is: before each piece all was sent that was given by then, no more was received than may be, in order,
-- and no other link was asked for
pub record IsReceivedInTime (rounds : ℕ) (start : Session) (old new : Link) : Type 0 where
  pub in_time : AreInTime rounds start new.pieces
  pub received : old.coming ≡ received_bytes new ++ new.coming
  pub most : length (received_bytes new) ≤ SESSION_LIMIT
  pub calls : new.calls ≡ old.calls

-- over a link, by the answer. Where memory was refused, nothing is said of the node, nor of what was sent behind the last piece
unfoldable pub IsSessionBy : SessionEnd → ℕ → Config → List Transaction → Link → Link → NodeView → Type 0
IsSessionBy session_end.OutOfMemory rounds c pool old new last = IsReceivedInTime rounds (session_start (opening_state c pool)) old new
IsSessionBy answer rounds c pool old new last = IsSession rounds c pool old new last answer

-- from a new node to a last one, over the link that the wire tells. Where it tells none, there is a link of which the same
-- is true, whose input has ended where the wire's has
pub record HasSession (rounds : ℕ) (first : NodeView) (before after : Option Link) (ended : Bool) (last : NodeView) (answer : SessionEnd) : Type 0 where
  pub old : Link
  pub new : Link
  pub told : AreTold before after (λ o n. (o ≡ old) × (n ≡ new))
  pub input : new.input_ended ≡ ended
  pub is_session : IsSessionBy answer rounds first.state.config first.state.pool old new last
