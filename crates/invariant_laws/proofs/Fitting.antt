-- A node's set and snapshot have no more members than its pool has transactions, and their ids have 32 bytes.
use Rattle.std.proofs.Common.{◌≤◌, Bool, List, [], ◌∷◌, length, filter, sym, ◌∙◌, subst, arith}
use Rattle.std.specs.List.{AllByRecursion}
use Rattle.std.proofs.lemmas.List.{length-map}
use Rattle.id_rules.specs.Ids.{KeyPair}
use Rattle.pool_rules.specs.Pools.{Transaction, IsTransaction, IsPool, pool_ids}
use Rattle.pool_rules.specs.Snapshots.{Member, ids_of}
use Rattle.pool_rules.specs.declared.limits.TheConstants.{POOL_LIMIT}
use Rattle.pool_laws.proofs.IdLists.{all_listed}
use Rattle.id_rules.proofs.Lists.{all_filter, filter_few}
use Rattle.pool_laws.proofs.PoolIds.{ids_within, is_in_pool-is_listed}
use Rattle.pool_laws.proofs.Ids.{wtxid-bytes}
use Rattle.node_rules.specs.Invariant.{IsMember, AreMembers}
use Rattle.invariant_laws.proofs.Sets.{pooled_ids}
use Rattle.invariant_laws.proofs.Stores.{IsId}

-- members that may be announced
pub record IsAnnounceable (ms : List Member) : Type 0 where
  pub few : length ms ≤ POOL_LIMIT
  pub ids : AllByRecursion (λ m. IsId m.id) ms

-- members are no more than a pool's transactions: their ids are in it, each once
pub members_fit : (keys : KeyPair) (pool : List Transaction) (ms : List Member) → length pool ≤ POOL_LIMIT → AreMembers keys pool ms → length ms ≤ POOL_LIMIT
members_fit keys pool ms room h = let le = ids_within (ids_of ms) pool h.once (pooled_ids keys pool ms h.each) in let long = length-map ms (λ m. m.id) in omega (arith, le, long, room)

pub pool_fits : (pool : List Transaction) → AllByRecursion IsTransaction pool → AllByRecursion IsId (pool_ids pool)
pool_fits [] h = tt
pool_fits (t ∷ ts) h = (subst IsId (sym h.0.named) (wtxid-bytes t.bytes), pool_fits ts h.1)

member_ids : (keys : KeyPair) (pool : List Transaction) (ms : List Member) → AllByRecursion IsTransaction pool → AllByRecursion (IsMember keys pool) ms → AllByRecursion (λ m. IsId m.id) ms
member_ids keys pool [] each h = tt
member_ids keys pool (m ∷ ms) each h = (all_listed IsId (pool_ids pool) (pool_fits pool each) m.id (sym (is_in_pool-is_listed pool m.id) ∙ h.0.pooled), member_ids keys pool ms each h.1)

pub members_announce : (keys : KeyPair) (pool : List Transaction) (ms : List Member) → IsPool pool → AreMembers keys pool ms → IsAnnounceable ms
members_announce keys pool ms p h = record { few = members_fit keys pool ms p.count h; ids = member_ids keys pool ms p.each h.each }

-- some of them

pub part_announces : (t : Member → Bool) (ms : List Member) → IsAnnounceable ms → IsAnnounceable (filter t ms)
part_announces t ms a = record { few = let le = filter_few t ms in let few = a.few in omega (arith, le, few); ids = all_filter (λ m. IsId m.id) t ms a.ids }

pub ids_fit : (ms : List Member) → AllByRecursion (λ m. IsId m.id) ms → AllByRecursion IsId (ids_of ms)
ids_fit [] h = tt
ids_fit (m ∷ ms) h = (h.0, ids_fit ms h.1)
