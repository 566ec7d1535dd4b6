-- The room that is taken.
use Rattle.std.proofs.Common.{◌≡◌, ◌≤◌, ◌<◌, ℕ, ◌+◌, ◌-◌, ◌&&◌, nat_lt, suc, not, Bool, true, false, cond, List, [], ◌∷◌, ◌++◌, length, filter, pos, refl, sym, ap, ap₂, ◌∙◌, arith, nat_le}
use Rattle.std.proofs.lemmas.Bool.Decides.{nat_tests}
use Rattle.std.proofs.lemmas.Bool.{or_right, or_parts, leb-false}
use Rattle.base_types.specs.declared.lists.Hash32.{Hash32}
use Rattle.pool_rules.specs.Pools.{Transaction, is_in_pool, is_listed, byte_count, has_byte_room, has_room}
use Rattle.pool_rules.specs.declared.limits.TheConstants.{POOL_LIMIT, POOL_BYTES}
use Rattle.pool_laws.proofs.IdLists.{distinct_left, listed_append}
use Rattle.node_rules.specs.Invariant.{IsStore}
use Rattle.node_rules.specs.State.{NodeState, opening_state, open_wants, taken_room}
use Rattle.node_rules.specs.Additions.{is_full}
use Rattle.node_rules.specs.declared.config.Role.TheVariants as role
use Rattle.invariant_laws.proofs.Rooms.{lack, lack_append, lack_all, lack_taken}
use Rattle.relay_store.specs.Holdings.{Holdings, AreHoldings, holdings_of}
use Rattle.relay_store.specs.Invariant.{IsCounted}
use Rattle.relay_store.proofs.Counts.{pooled_in, counted_within}

-- a node with these holdings
abbrev pub node_with : Holdings → NodeState
node_with h = record (opening_state (record { magic = []; role = role.Opener; salt = 0; nonce = 0; time = pos 0; top = 1 }) h.pool) { wants = h.wants }

pub store_of : (h : Holdings) → AreHoldings h → IsStore (node_with h)
store_of h held = held (node_with h) refl

-- ids are in the pool or lacked
in_or_lacked : (pool : List Transaction) (ids : List Hash32) → lack pool ids + pooled_in pool ids ≡ length ids
in_or_lacked pool [] = refl
in_or_lacked pool (x ∷ xs) = by_head (is_in_pool pool x) (in_or_lacked pool xs)
  where
    by_head : (b : Bool) → lack pool xs + pooled_in pool xs ≡ length xs
        → length (cond (not b) (x ∷ filter (λ id. not (is_in_pool pool id)) xs) (filter (λ id. not (is_in_pool pool id)) xs)) + length (cond b (x ∷ filter (is_in_pool pool) xs) (filter (is_in_pool pool) xs)) ≡ suc (length xs)
    by_head true h = omega (arith, h)
    by_head false h = omega (arith, h)

module _ (h : Holdings) (n : ℕ) (held : AreHoldings h) (counted : IsCounted h.pool h.wants.asked n) where
  taken_here : taken_room (node_with h) ≡ length h.pool + length h.wants.wanted + (length h.wants.asked - n)
  taken_here =
      let store = store_of h held in
      let both = lack_append h.pool h.wants.wanted h.wants.asked in
      let wanted = lack_all h.pool h.wants.wanted store.wanting.unwanted in
      let asked = in_or_lacked h.pool h.wants.asked in
      let is = counted.pooled in
      omega (arith, both, wanted, asked, is)

  pub taken_is : (s : NodeState) → holdings_of s ≡ h → length h.pool + length h.wants.wanted + (length h.wants.asked - n) ≡ taken_room s
  taken_is s e =
      sym taken_here ∙ ap (λ (z : Holdings). length z.pool + lack z.pool (z.wants.wanted ++ z.wants.asked)) (sym e)

  pub taken_most : length h.pool + length h.wants.wanted + (length h.wants.asked - n) ≤ POOL_LIMIT
  taken_most = let is = taken_here in let most = (store_of h held).wanting.room in omega (arith, is, most)

  pub wants_most : length h.wants.wanted + length h.wants.asked ≤ POOL_LIMIT
  wants_most = let most = taken_most in let few = counted_within h.pool h.wants.asked n counted in omega (arith, most, few.0, few.1)

-- where nothing is asked for, all that is wanted may be
pub counted_wanted : (h : Holdings) (n : ℕ) → AreHoldings h → h.wants.asked ≡ [] → IsCounted h.pool h.wants.asked n → IsCounted h.pool h.wants.wanted n
counted_wanted h n held none counted =
    let store = store_of h held in
    let lacked = lack_all h.pool h.wants.wanted store.wanting.unwanted in
    let all = in_or_lacked h.pool h.wants.wanted in
    let few = (counted_within h.pool h.wants.asked n counted).0 in
    let no : length h.wants.asked ≡ 0 = ap length none in
    record { once = distinct_left h.wants.wanted h.wants.asked store.wanting.once; pooled = omega (arith, lacked, all, few, no) }

pub bytes_most : (h : Holdings) → AreHoldings h → byte_count h.pool ≤ POOL_BYTES
bytes_most h held = (store_of h held).pool.size

pub nat_le-minus : (a b c : ℕ) → b ≤ c → nat_le a (c - b) ≡ nat_le (b + a) c
nat_le-minus a b c h = grind (arith, nat_tests)

-- ---- room for one more transaction

module _ (h : Holdings) (held : AreHoldings h) (t : Transaction) (absent : is_in_pool h.pool t.id ≡ false) where
  -- where it is wanted or asked for, it has its room
  room_wanted : is_listed (h.wants.wanted ++ h.wants.asked) t.id ≡ true → length h.pool < POOL_LIMIT
  room_wanted listed =
      let less = lack_taken h.pool t (h.wants.wanted ++ h.wants.asked) listed absent in
      let most = (store_of h held).wanting.room in
      omega (arith, less, most)

  both_rooms : length h.pool < POOL_LIMIT → has_byte_room h.pool t.bytes ≡ true → has_room h.pool t.bytes ≡ true
  both_rooms few fits = ap₂ (λ a b. a && b) (let yes : nat_lt (length h.pool) POOL_LIMIT ≡ true = grind (arith, nat_tests) in yes) fits

  pub room_asked : is_listed h.wants.asked t.id ≡ true → has_byte_room h.pool t.bytes ≡ true → has_room h.pool t.bytes ≡ true
  room_asked listed fits =
      both_rooms (room_wanted (listed_append h.wants.wanted h.wants.asked t.id ∙ or_right (is_listed h.wants.wanted t.id) (is_listed h.wants.asked t.id) listed)) fits

  pub room_addition : ((s : NodeState) → holdings_of s ≡ h → is_full s t ≡ false) → has_room h.pool t.bytes ≡ true
  room_addition room =
      let s = node_with h in
      let parts = or_parts (not (has_byte_room h.pool t.bytes)) (not (is_listed (open_wants s) t.id) && nat_le POOL_LIMIT (taken_room s)) (room s refl) in
      both_rooms (by_listed (is_listed (open_wants s) t.id) refl parts.1) (not_false (has_byte_room h.pool t.bytes) parts.0)
    where
      not_false : (b : Bool) → not b ≡ false → b ≡ true
      not_false true e = refl
      not_false false e = absurd (let apart : true ≡ false = e in cc)

      by_listed : (b : Bool) → is_listed (open_wants (node_with h)) t.id ≡ b → (not b && nat_le POOL_LIMIT (taken_room (node_with h))) ≡ false → length h.pool < POOL_LIMIT
      by_listed true listed e = room_wanted listed
      by_listed false listed e = let lt = leb-false POOL_LIMIT (taken_room (node_with h)) e in omega (arith, lt)
