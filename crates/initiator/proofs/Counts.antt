-- How many short ids of an answer are sketched, and how many aren't.
use Rattle.std.proofs.Common.{◌≡◌, ℕ, ◌+◌, ◌≤◌, not, List, length, refl, arith}
use Rattle.std.proofs.lemmas.List.{length-map}
use Rattle.std.proofs.lemmas.List.Filters.{length-filter_both}
use Rattle.id_rules.proofs.Lists.{filter_few}
use Rattle.pool_rules.specs.Snapshots.{Member, sketched_shorts, sketched_members, is_single}
use Rattle.node_rules.specs.Outcomes.{own_short_ids, missing_short_ids, is_in}

-- no more short ids are sketched than there are members
pub sketched_few : (ms : List Member) → length (sketched_shorts ms) ≤ length ms
sketched_few ms = omega (arith, length-map (sketched_members ms) (λ m. m.short), filter_few (λ m. is_single ms m.short) ms)

-- each short id is sketched or missing
pub own_and_missing : (ms : List Member) (es : List ℕ) → length (own_short_ids ms es) + length (missing_short_ids ms es) ≡ length es
own_and_missing ms es = length-filter_both (λ n. is_in (sketched_shorts ms) n) (λ n. not (is_in (sketched_shorts ms) n)) (λ n. refl) es
