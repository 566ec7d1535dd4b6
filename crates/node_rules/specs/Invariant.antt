-- What holds of a node at every moment, whatever its peer sends, and is kept by each of its steps. Its parts speak of
-- different things, so that each is shown alone.
use Rattle.std.specs.Prelude.{◌≡◌, ℕ, zero, suc, ◌^◌, ◌<◌, ◌≤◌, nat_lt, not, nat_eq, is_none, Bool, true, false, IsTrue, List, [], length, Some, None}
use Rattle.std.specs.List.{AllByRecursion, IsDistinct}
use Rattle.std.specs.declared.option.Option.{Option}
use Rattle.id_rules.specs.Bytes.{are_bytes, are_bytes_of, is_id, fits_signed}
use Rattle.id_rules.specs.Ids.{KeyPair}
use Rattle.wire_rules.specs.declared.phase.Phase.{Phase}
use Rattle.wire_rules.specs.declared.phase.Phase.TheVariants as phase
use Rattle.pool_rules.specs.Pools.{Transaction, AreDistinctIds, IsPool, is_listed, is_in_pool}
use Rattle.pool_rules.specs.Snapshots.{Member, member_of, ids_of, IsSet}
use Rattle.pool_rules.specs.declared.limits.TheConstants.{POOL_LIMIT, LEAST_CAPACITY, FIRST_LIMIT}
use Rattle.pool_rules.specs.declared.report.Report.{Report}
use Rattle.node_rules.specs.Handshake.{level_of}
use Rattle.node_rules.specs.Stages.{requested_extensions, sent_extensions, capacity_after}
use Rattle.node_rules.specs.State.{Round, Machine, Requests, Offer, NodeState, no_round, no_wants, no_peer, first_requests, node_keys, open_wants, taken_room}
use Rattle.node_rules.specs.declared.config.Config.{Config}
use Rattle.node_rules.specs.declared.config.Role.{Role}
use Rattle.node_rules.specs.declared.config.Role.TheVariants as role

-- a configuration whose numbers are of their types, and whose highest version is 1 or 2
pub record IsConfig (c : Config) : Type 0 where
  pub magic : IsTrue (are_bytes_of 4 c.magic)
  pub salt : c.salt < 2 ^ 64
  pub nonce : c.nonce < 2 ^ 64
  pub time : IsTrue (fits_signed 63 c.time)
  pub least : 1 ≤ c.top
  pub most : c.top ≤ 2

-- ---- the pool, and what goes to it and from it

-- no id is wanted or asked for twice, none that is wanted is in the pool, and there is room for all
pub record IsWanting (s : NodeState) : Type 0 where
  pub once : AreDistinctIds (open_wants s)
  pub unwanted : AllByRecursion (λ id. IsTrue (not (is_in_pool s.pool id))) s.wants.wanted
  pub room : taken_room s ≤ POOL_LIMIT

-- each transaction is served once, from the pool
pub record IsServing (s : NodeState) : Type 0 where
  pub once : AreDistinctIds s.wants.served
  pub pooled : AllByRecursion (λ id. IsTrue (is_in_pool s.pool id)) s.wants.served

pub record IsStore (s : NodeState) : Type 0 where
  pub pool : IsPool s.pool
  pub wanting : IsWanting s
  pub ids : AllByRecursion (λ id. IsTrue (is_id id)) (open_wants s)
  pub serving : IsServing s

-- ---- the set and the snapshot

-- a member that a node may have in its set: of its pool, with the short id under the key of both salts
pub record IsMember (keys : KeyPair) (pool : List Transaction) (m : Member) : Type 0 where
  pub pooled : IsTrue (is_in_pool pool m.id)
  pub short : m ≡ member_of keys m.id

-- members alone, each once
pub record AreMembers (keys : KeyPair) (pool : List Transaction) (ms : List Member) : Type 0 where
  pub once : IsSet ms
  pub each : AllByRecursion (IsMember keys pool) ms

-- set and snapshot have no id in common, and the set has none that the peer is known to have
pub record IsSetUp (s : NodeState) : Type 0 where
  pub set : AreMembers (node_keys s) s.pool s.set
  pub snapshot : AreMembers (node_keys s) s.pool s.machine.round.snapshot
  pub apart : AllByRecursion (λ m. IsTrue (not (is_listed (ids_of s.machine.round.snapshot) m.id))) s.set
  pub unknown : AllByRecursion (λ m. IsTrue (not (is_listed (open_wants s) m.id))) s.set

-- ---- the conversation

-- an offer that a peer may have made
pub record IsOffer (o : Offer) : Type 0 where
  pub least : 1 ≤ o.version
  pub version : o.version < 2 ^ 32
  pub salt : o.salt < 2 ^ 64

-- before the handshake is over nothing was relayed and nothing reconciled
pub record IsEarly (s : NodeState) : Type 0 where
  pub set : s.set ≡ []
  pub round : s.machine.round ≡ no_round
  pub level : s.machine.level ≡ 1
  pub reports : s.machine.reports ≡ []
  pub requests : s.requests ≡ first_requests
  pub wants : s.wants ≡ no_wants
  pub plain : s.plain ≡ false

-- the phases of each role behind the handshake
unfoldable pub is_phase_of : Role → Phase → Bool
is_phase_of role phase.Idle = true
is_phase_of role.Opener phase.Waiting = true
is_phase_of role.Opener phase.WaitingExt = true
is_phase_of role.Opener phase.WaitingExt2 = true
is_phase_of role.Opener phase.Barrier = true
is_phase_of role.Opener phase.Fetching = true
is_phase_of role.Accepter phase.Sent = true
is_phase_of role.Accepter phase.SentExt = true
is_phase_of role.Accepter phase.SentExt2 = true
is_phase_of role other = false

-- behind the handshake a node is plain where no offer came, and it is at the level of both offers
pub record IsIntroduced (s : NodeState) : Type 0 where
  pub relays_by_id : s.peer.relays_by_id ≡ true
  pub plain : s.plain ≡ is_none s.peer.offer
  pub level : s.machine.level ≡ level_of s.config.top s.peer.offer
  pub phase : IsTrue (is_phase_of s.config.role s.machine.phase)

-- by the phase: nothing is noted of a peer whose version hasn't come
unfoldable pub IsConversingIn : Phase → NodeState → Type 0
IsConversingIn phase.Greeting s = IsEarly s × (s.peer ≡ no_peer)
IsConversingIn phase.Greeted s = IsEarly s
IsConversingIn other s = IsIntroduced s

-- whether no sketch is waited for, and none was sent
unfoldable pub is_apart_from_sketches : Option ℕ → Option ℕ → Bool
is_apart_from_sketches None None = true
is_apart_from_sketches asked sent = false

-- a plain node reconciles nothing
pub record IsPlain (s : NodeState) : Type 0 where
  pub set : s.set ≡ []
  pub round : s.machine.round ≡ no_round
  pub reports : s.machine.reports ≡ []
  pub phase : IsTrue (is_apart_from_sketches (requested_extensions s.machine.phase) (sent_extensions s.machine.phase))

-- whether transactions that were asked for behind a round haven't come
unfoldable pub is_fetching : Phase → Bool
is_fetching phase.Fetching = true
is_fetching other = false

-- an opener fetches exactly while something is asked for; an accepter asks at once for what is new, and begins no round
unfoldable pub IsOfRole : Role → NodeState → Type 0
IsOfRole role.Opener s = is_fetching s.machine.phase ≡ nat_lt 0 (length s.wants.asked)
IsOfRole role.Accepter s = (s.wants.wanted ≡ []) × (s.requests ≡ first_requests)

pub record IsConversing (s : NodeState) : Type 0 where
  pub conversation : IsConversingIn s.machine.phase s
  pub offer : (o : Offer) → s.peer.offer ≡ Some o → IsOffer o
  pub plain : s.plain ≡ true → IsPlain s
  pub role : IsOfRole s.config.role s

-- ---- the round

-- an opener's round while extension n + 1 is waited for: as many sums as the sketch with n extensions has
pub record IsExtending (n : ℕ) (r : Round) : Type 0 where
  pub least : 1 ≤ r.capacity
  pub most : r.capacity ≤ FIRST_LIMIT
  pub sums : length r.sums ≡ capacity_after r.capacity n
  pub numbers : AllByRecursion (λ n. n < 2 ^ 32) r.sums

-- an accepter's round once a sketch was sent
pub record IsSketched (r : Round) : Type 0 where
  pub least : LEAST_CAPACITY ≤ r.capacity
  pub most : r.capacity ≤ FIRST_LIMIT
  pub sums : r.sums ≡ []

-- a round is kept while an extension is waited for, and once a sketch was sent
unfoldable pub IsRoundOf : Option ℕ → Option ℕ → Round → Type 0
IsRoundOf (Some (suc n)) sent r = IsExtending n r
IsRoundOf (Some zero) sent r = r ≡ no_round
IsRoundOf None (Some n) r = IsSketched r
IsRoundOf None None r = r ≡ no_round

-- numbers are of their types and within their limits, and there are no more extensions than the level allows
pub record IsBounded (m : Machine) (k : Requests) : Type 0 where
  pub least : 1 ≤ m.level
  pub most : m.level ≤ 2
  pub waited : (n : ℕ) → requested_extensions m.phase ≡ Some n → n ≤ m.level
  pub sent : (n : ℕ) → sent_extensions m.phase ≡ Some n → n ≤ m.level
  pub round : IsRoundOf (requested_extensions m.phase) (sent_extensions m.phase) m.round
  pub coefficient : k.coefficient ≤ 65534
  pub begun : k.begun < 2 ^ 64

-- ---- reports

-- a short id has 32 bits and is never 0
pub record IsShort (n : ℕ) : Type 0 where
  pub least : 1 ≤ n
  pub most : n < 2 ^ 32

pub record IsReport (pool : List Transaction) (r : Report) : Type 0 where
  pub once : AreDistinctIds r.snapshot
  pub pooled : AllByRecursion (λ id. IsTrue (is_in_pool pool id)) r.snapshot
  pub capacity : r.capacity ≤ FIRST_LIMIT
  pub answered_once : IsDistinct nat_eq r.answered
  pub answered : AllByRecursion IsShort r.answered

-- ---- the whole

pub record IsNode (s : NodeState) : Type 0 where
  pub config : IsConfig s.config
  pub store : IsStore s
  pub setup : IsSetUp s
  pub conversing : IsConversing s
  pub bounded : IsBounded s.machine s.requests
  pub reports : AllByRecursion (IsReport s.pool) s.machine.reports
  pub offset : s.inbox.offset < 2 ^ 64
  pub unread : IsTrue (are_bytes s.inbox.unread)
