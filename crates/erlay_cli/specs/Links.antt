-- How the making of a link for an exchange ends.
use Rattle.std.specs.Prelude.{◌≡◌, ℕ, List}
use Rattle.std.specs.Io.KnownBytes.{Appends}
use Rattle.link_rules.specs.Links.{AcceptCall, ListenCall}
use Rattle.erlay_base.specs.Causes.{HasRisen}
use Rattle.erlay_base.specs.Moves.{HasWrittenPart}
use Rattle.erlay_base.specs.Told.{AreTold}
use Rattle.erlay_base.specs.WireCalls.{IsFailedCall, with_call}
use Rattle.node_rules.specs.declared.config.Role.{Role}
use Rattle.node_rules.specs.declared.config.Role.TheVariants as role
use Rattle.text_commands.specs.Outside.{Observation}
use Rattle.erlay_cli.specs.Courses.{IsLinkedBy, announcement_of}
use Rattle.erlay_cli.specs.Exchanges.{first_call, link_calls}
use Rattle.erlay_cli.specs.Sights.{WireSight}
use Rattle.erlay_cli.specs.declared.link.LinkEnd.{LinkEnd}
use Rattle.erlay_cli.specs.declared.link.LinkEnd.TheVariants as link_end

-- a link was made, and an accepter has written that it listens
pub record IsLinked (r : Role) (address : List ℕ) (w v : WireSight) (o p : Observation) : Type 0 where
  pub link : AreTold w.link v.link (IsLinkedBy (link_calls r address))
  pub no_fault : v.faults ≡ w.faults
  pub written : Appends o.bytes p.bytes (announcement_of r)
  pub no_write_fault : p.faults ≡ o.faults

-- the first call failed, and nothing was written
pub record IsNotReached (r : Role) (address : List ℕ) (w v : WireSight) (o p : Observation) : Type 0 where
  pub link : AreTold w.link v.link (IsFailedCall (first_call r address))
  pub fault : HasRisen w.faults v.faults
  pub output : p ≡ o

-- an accepter listens, but a write of that failed
pub record IsNotAnnounced (r : Role) (address : List ℕ) (w v : WireSight) (o p : Observation) : Type 0 where
  pub accepter : r ≡ role.Accepter
  pub link : AreTold w.link v.link (λ old new. new ≡ with_call (ListenCall address) old)
  pub no_fault : v.faults ≡ w.faults
  pub written : HasWrittenPart o.bytes p.bytes (announcement_of r)
  pub write_fault : HasRisen o.faults p.faults

-- an accepter listens, but accepted no connection
pub record IsNotAccepted (r : Role) (address : List ℕ) (w v : WireSight) (o p : Observation) : Type 0 where
  pub accepter : r ≡ role.Accepter
  pub link : AreTold w.link v.link (λ old new. IsFailedCall AcceptCall (with_call (ListenCall address) old) new)
  pub fault : HasRisen w.faults v.faults
  pub written : Appends o.bytes p.bytes (announcement_of r)
  pub no_write_fault : p.faults ≡ o.faults

abbrev pub IsLinkEnd : Role → List ℕ → WireSight → WireSight → Observation → Observation → LinkEnd → Type 0
IsLinkEnd r address w v o p link_end.Linked = IsLinked r address w v o p
IsLinkEnd r address w v o p link_end.Unlinked = IsNotReached r address w v o p
IsLinkEnd r address w v o p link_end.Unannounced = IsNotAnnounced r address w v o p
IsLinkEnd r address w v o p link_end.Unaccepted = IsNotAccepted r address w v o p
