-- A node's set and snapshot have members of its pool alone, each once, have none in common, and the set has none that the
-- peer is known to have.
use Rattle.std.proofs.Common.{◌≡◌, cond, ℕ, zero, suc, Bool, true, false, not, List, [], ◌∷◌, ◌++◌, filter, Option, Some, None, Ok, refl, sym, ap, ◌∙◌, subst}
use Rattle.std.specs.List.{AllByRecursion}
use Rattle.std.proofs.lemmas.Bool.{or_left, or_right, or_parts, not-true, both_ways}
use Rattle.std.proofs.lemmas.List.{map-append}
use Rattle.base_types.specs.declared.lists.Hash32.{Hash32}
use Rattle.id_rules.specs.Ids.{KeyPair, keys_of}
use Rattle.wire_rules.specs.Limits.{IsMessage}
use Rattle.wire_rules.specs.declared.message.InvEntry.{InvEntry}
use Rattle.wire_rules.specs.declared.message.Message.{Message}
use Rattle.pool_rules.specs.Pools.{Transaction, IsTransaction, transaction_of, is_same_id, is_listed, without_id, is_in_pool, AreDistinctIds, pool_ids}
use Rattle.pool_rules.specs.Snapshots.{Member, member_of, members, ids_of}
use Rattle.pool_laws.proofs.IdLists.{both_false, distinct_both, distinct_filter, listed_all, listed_append, one_alone, is_same_id-self, unlisted, unlisted_filter}
use Rattle.pool_laws.proofs.PoolIds.{in_own_pool, in_pool_append, in_pool_more}
use Rattle.id_rules.proofs.Lists.{all_append, all_filter, all_weaker, filter_passed}
use Rattle.node_rules.specs.Additions.{on_addition, with_pooled, with_member}
use Rattle.node_rules.specs.Barrier.{with_wants_requested}
use Rattle.node_rules.specs.Handshake.{level_of, after_handshake, with_peer}
use Rattle.node_rules.specs.Invariant.{IsMember, AreMembers, IsSetUp, IsConversing, IsEarly}
use Rattle.node_rules.specs.Inventory.{wtxids_of, is_known, unknown_ids, without_announced, with_wanted, with_asked, with_requests}
use Rattle.node_rules.specs.Opener.{round_after_sketch, remaining_set, extension_request}
use Rattle.node_rules.specs.State.{NodeState, Offer, node_keys, open_wants, opening_state, salt_of, initiator_of}
use Rattle.node_rules.specs.Steps.{on_message, on_start}
use Rattle.node_rules.specs.Turns.{after_move}
use Rattle.node_rules.specs.declared.config.Config.{Config}
use Rattle.node_laws.proofs.NewIds.{new_kept}
use Rattle.invariant_laws.proofs.Early.{greeted-early, early-wants, early-snapshot}
use Rattle.invariant_laws.proofs.Rows.{EachRow, on_message-rows, on_addition-rows, on_start-rows}

-- ---- members

none_members : (keys : KeyPair) (pool : List Transaction) → AreMembers keys pool []
unfolding AreDistinctIds
none_members keys pool = record { once = tt; each = tt }

-- in a larger pool
more_members : (keys : KeyPair) (pool more : List Transaction) (ms : List Member) → AreMembers keys pool ms → AreMembers keys (pool ++ more) ms
more_members keys pool more ms h = record { once = h.once; each = all_weaker (IsMember keys pool) (IsMember keys (pool ++ more)) (λ m k. record { pooled = in_pool_more pool more m.id k.pooled; short = k.short }) ms h.each }

-- fewer of them
ids_filter : (t : Hash32 → Bool) (ms : List Member) → ids_of (filter (λ m. t m.id) ms) ≡ filter t (ids_of ms)
ids_filter t [] = refl
ids_filter t (m ∷ ms) = by_test (t m.id) (filter (λ m. t m.id) ms) (filter t (ids_of ms)) (ids_filter t ms)
  where
    by_test : (b : Bool) (xs : List Member) (ys : List Hash32) → ids_of xs ≡ ys → ids_of (cond b (m ∷ xs) xs) ≡ cond b (m.id ∷ ys) ys
    by_test true xs ys e = ap (λ zs. m.id ∷ zs) e
    by_test false xs ys e = e

filter_members : (keys : KeyPair) (pool : List Transaction) (t : Hash32 → Bool) (ms : List Member) → AreMembers keys pool ms → AreMembers keys pool (filter (λ m. t m.id) ms)
filter_members keys pool t ms h = record {
  once = subst AreDistinctIds (sym (ids_filter t ms)) (distinct_filter t (ids_of ms) h.once);
  each = all_filter (IsMember keys pool) (λ m. t m.id) ms h.each;
}

pub pooled_ids : (keys : KeyPair) (pool : List Transaction) (ms : List Member) → AllByRecursion (IsMember keys pool) ms → AllByRecursion (λ id. is_in_pool pool id ≡ true) (ids_of ms)
pooled_ids keys pool [] h = tt
pooled_ids keys pool (m ∷ ms) h = (h.0.pooled, pooled_ids keys pool ms h.1)

-- what a pool lacks is the id of no member
absent_unlisted : (keys : KeyPair) (pool : List Transaction) (ms : List Member) (id : Hash32) → is_in_pool pool id ≡ false → AreMembers keys pool ms → is_listed (ids_of ms) id ≡ false
absent_unlisted keys pool ms id absent h = unlisted (λ x. is_in_pool pool x ≡ true) (ids_of ms) id (pooled_ids keys pool ms h.each) (λ e. both_ways (is_in_pool pool id) absent e)

-- one more, of the pool's last transaction
push_members : (keys : KeyPair) (pool : List Transaction) (t : Transaction) (ms : List Member) → is_in_pool pool t.id ≡ false → AreMembers keys pool ms → AreMembers keys (pool ++ t ∷ []) (ms ++ member_of keys t.id ∷ [])
push_members keys pool t ms absent h = record {
  once =
      subst AreDistinctIds (sym (map-append (λ m. m.id) ms (member_of keys t.id ∷ [])))
      (distinct_both (ids_of ms) (t.id ∷ []) h.once (one_alone t.id) (absent_unlisted keys pool ms t.id absent h, tt));
  each = all_append (IsMember keys (pool ++ t ∷ [])) ms (member_of keys t.id ∷ []) (more_members keys pool (t ∷ []) ms h).each (record { pooled = in_pool_append pool (t ∷ []) t.id ∙ or_right (is_in_pool pool t.id) (is_in_pool (t ∷ []) t.id) (or_left (is_same_id t.id t.id) false (is_same_id-self t.id)); short = refl }, tt);
}

-- all of a pool
ids_again : (keys : KeyPair) (ids : List Hash32) → ids_of (members keys ids) ≡ ids
ids_again keys [] = refl
ids_again keys (id ∷ ids) = ap (λ xs. id ∷ xs) (ids_again keys ids)

made_members : (keys : KeyPair) (pool : List Transaction) (ids : List Hash32) → AllByRecursion (λ id. is_in_pool pool id ≡ true) ids → AllByRecursion (IsMember keys pool) (members keys ids)
made_members keys pool [] h = tt
made_members keys pool (id ∷ ids) h = (record { pooled = h.0; short = refl }, made_members keys pool ids h.1)

pool_members : (keys : KeyPair) (pool : List Transaction) → AreDistinctIds (pool_ids pool) → AreMembers keys pool (members keys (pool_ids pool))
pool_members keys pool d = record { once = subst AreDistinctIds (sym (ids_again keys (pool_ids pool))) d; each = made_members keys pool (pool_ids pool) (in_own_pool pool) }

-- ---- members whose ids are not among these

abbrev AreApart : List Hash32 → List Member → Type 0
AreApart ids ms = AllByRecursion (λ m. not (is_listed ids m.id) ≡ true) ms

apart_none : (ms : List Member) → AreApart [] ms
apart_none [] = tt
apart_none (m ∷ ms) = (refl, apart_none ms)

apart_fewer : (xs ys : List Hash32) → ((id : Hash32) → is_listed xs id ≡ false → is_listed ys id ≡ false) → (ms : List Member) → AreApart xs ms → AreApart ys ms
apart_fewer xs ys f ms h = all_weaker (λ m. not (is_listed xs m.id) ≡ true) (λ m. not (is_listed ys m.id) ≡ true) (λ m k. ap not (f m.id (not-true (is_listed xs m.id) k))) ms h

apart_of_two : (xs ys zs : List Hash32) → ((id : Hash32) → is_listed xs id ≡ false → is_listed ys id ≡ false → is_listed zs id ≡ false) → (ms : List Member) → AreApart xs ms → AreApart ys ms → AreApart zs ms
apart_of_two xs ys zs f [] h k = tt
apart_of_two xs ys zs f (m ∷ ms) h k = (ap not (f m.id (not-true (is_listed xs m.id) h.0) (not-true (is_listed ys m.id) k.0)), apart_of_two xs ys zs f ms h.1 k.1)

-- ids of two lists in a row
unlisted_both : (xs ys : List Hash32) (id : Hash32) → is_listed xs id ≡ false → is_listed ys id ≡ false → is_listed (xs ++ ys) id ≡ false
unlisted_both xs ys id h k = listed_append xs ys id ∙ both_false (is_listed xs id) (is_listed ys id) h k

unlisted_parts : (xs ys : List Hash32) (id : Hash32) → is_listed (xs ++ ys) id ≡ false → (is_listed xs id ≡ false) × (is_listed ys id ≡ false)
unlisted_parts xs ys id h = or_parts (is_listed xs id) (is_listed ys id) (sym (listed_append xs ys id) ∙ h)

-- a node with nothing in its set and its snapshot
empty_setup : (u : NodeState) → u.set ≡ [] → u.machine.round.snapshot ≡ [] → IsSetUp u
empty_setup u set snapshot = record {
  set = subst (AreMembers (node_keys u) u.pool) (sym set) (none_members (node_keys u) u.pool);
  snapshot = subst (AreMembers (node_keys u) u.pool) (sym snapshot) (none_members (node_keys u) u.pool);
  apart = subst (AreApart (ids_of u.machine.round.snapshot)) (sym set) tt;
  unknown = subst (AreApart (open_wants u)) (sym set) tt;
}

module _ (s : NodeState) (h : IsSetUp s) where
  abbrev k : KeyPair
  k = node_keys s

  offer_setup : (o : Offer) → IsEarly s → IsSetUp (with_peer s (record s.peer { offer = Some o }))
  offer_setup o early = empty_setup (with_peer s (record s.peer { offer = Some o })) early.set (early-snapshot s early)

  plain_setup : IsEarly s → IsSetUp (after_handshake s (level_of s.config.top None) true [])
  plain_setup early = empty_setup (after_handshake s (level_of s.config.top None) true []) refl (early-snapshot s early)

  whole_setup : (o : Offer) → IsEarly s → s.peer.offer ≡ Some o → AreDistinctIds (pool_ids s.pool) → IsSetUp (after_handshake s (level_of s.config.top (Some o)) false (members (keys_of s.config.salt o.salt) (pool_ids s.pool)))
  whole_setup o early e d =
      let all : List Member = members (keys_of s.config.salt o.salt) (pool_ids s.pool) in
      record {
        set = subst (λ keys. AreMembers keys s.pool all) (ap (λ (x : Option Offer). keys_of s.config.salt (salt_of x)) (sym e)) (pool_members (keys_of s.config.salt o.salt) s.pool d);
        snapshot = h.snapshot;
        apart = subst (λ ids. AreApart ids all) (sym (ap ids_of (early-snapshot s early))) (apart_none all);
        unknown = subst (λ ids. AreApart ids all) (sym (early-wants s early)) (apart_none all);
      }

  -- ---- a sketch

  record IsLeftOver (set : List Member) : Type 0 where
    pub are : AreMembers k s.pool set
    pub unknown : AreApart (open_wants s) set

  left-over : (n : ℕ) → IsLeftOver (remaining_set n s.set)
  unfolding remaining_set
  left-over zero = record { are = none_members k s.pool; unknown = tt }
  left-over (suc n) = record { are = h.set; unknown = h.unknown }

  more_setup : (n : ℕ) (bytes : List ℕ) → IsSetUp (after_move s (Ok (extension_request (initiator_of s) (round_after_sketch s.machine s.set n bytes) n (remaining_set n s.set)))).state
  unfolding round_after_sketch remaining_set
  more_setup zero bytes = record { set = none_members k s.pool; snapshot = h.set; apart = tt; unknown = tt }
  more_setup (suc n) bytes = record { set = h.set; snapshot = h.snapshot; apart = h.apart; unknown = h.unknown }

  -- ---- an announcement

  module _ (es : List InvEntry) where
    abbrev rest : List Member
    rest = without_announced s.set es

    rest_members : AreMembers k s.pool rest
    rest_members = filter_members k s.pool (λ id. not (is_listed (wtxids_of es) id)) s.set h.set

    rest_apart : (ids : List Hash32) → AreApart ids s.set → AreApart ids rest
    rest_apart ids a = all_filter (λ m. not (is_listed ids m.id) ≡ true) (λ m. not (is_listed (wtxids_of es) m.id)) s.set a

    unlisted_news : (id : Hash32) → is_listed (wtxids_of es) id ≡ false → is_listed (unknown_ids s es) id ≡ false
    unlisted_news id out =
        unlisted (λ x. is_listed (wtxids_of es) x ≡ true) (unknown_ids s es) id (new_kept (λ x. is_listed (wtxids_of es) x ≡ true) (is_known s) (wtxids_of es) (listed_all (λ x. is_listed (wtxids_of es) x ≡ true) (wtxids_of es) (λ x e. e)))
        (λ e. both_ways (is_listed (wtxids_of es) id) out e)

    rest_unknown : (ids : List Hash32) → ((id : Hash32) → is_listed s.wants.wanted id ≡ false → is_listed s.wants.asked id ≡ false → is_listed (unknown_ids s es) id ≡ false → is_listed ids id ≡ false) → AreApart ids rest
    rest_unknown ids f =
        apart_of_two (open_wants s) (wtxids_of es) ids (λ id a b. let parts = unlisted_parts s.wants.wanted s.wants.asked id a in f id parts.0 parts.1 (unlisted_news id b)) rest (rest_apart (open_wants s) h.unknown)
        (filter_passed (λ m. not (is_listed (wtxids_of es) m.id)) s.set)

    wants_setup : IsSetUp (with_wanted s rest (s.wants.wanted ++ unknown_ids s es))
    wants_setup = record {
      set = rest_members;
      snapshot = h.snapshot;
      apart = rest_apart (ids_of s.machine.round.snapshot) h.apart;
      unknown = rest_unknown ((s.wants.wanted ++ unknown_ids s es) ++ s.wants.asked) (λ id a b c. unlisted_both (s.wants.wanted ++ unknown_ids s es) s.wants.asked id (unlisted_both s.wants.wanted (unknown_ids s es) id a c) b);
    }

    request_setup : IsSetUp (with_asked s rest (s.wants.asked ++ unknown_ids s es))
    request_setup = record {
      set = rest_members;
      snapshot = h.snapshot;
      apart = rest_apart (ids_of s.machine.round.snapshot) h.apart;
      unknown = rest_unknown (s.wants.wanted ++ (s.wants.asked ++ unknown_ids s es)) (λ id a b c. unlisted_both s.wants.wanted (s.wants.asked ++ unknown_ids s es) id a (unlisted_both s.wants.asked (unknown_ids s es) id b c));
    }

  -- ---- fewer wants, and a larger pool

  asked_unknown : (t : Hash32 → Bool) → AreApart (s.wants.wanted ++ filter t s.wants.asked) s.set
  asked_unknown t =
      apart_fewer (open_wants s) (s.wants.wanted ++ filter t s.wants.asked)
      (λ id out. let parts = unlisted_parts s.wants.wanted s.wants.asked id out in unlisted_both s.wants.wanted (filter t s.wants.asked) id parts.0 (unlisted_filter t s.wants.asked id parts.1)) s.set h.unknown

  asked_setup : (t : Hash32 → Bool) → IsSetUp (with_requests s (filter t s.wants.asked))
  asked_setup t = record { set = h.set; snapshot = h.snapshot; apart = h.apart; unknown = asked_unknown t }

  gained_setup : (x : Transaction) → IsSetUp (with_requests (record s { pool = s.pool ++ x ∷ [] }) (without_id s.wants.asked x.id))
  gained_setup x = record {
    set = more_members k s.pool (x ∷ []) s.set h.set;
    snapshot = more_members k s.pool (x ∷ []) s.machine.round.snapshot h.snapshot;
    apart = h.apart;
    unknown = asked_unknown (λ other. not (is_same_id other x.id));
  }

  pong_setup : IsSetUp (with_wants_requested s)
  pong_setup = record {
    set = h.set;
    snapshot = h.snapshot;
    apart = h.apart;
    unknown = apart_fewer (open_wants s) (s.wants.asked ++ s.wants.wanted) (λ id out. let parts = unlisted_parts s.wants.wanted s.wants.asked id out in unlisted_both s.wants.asked s.wants.wanted id parts.1 parts.0) s.set h.unknown;
  }

  -- ---- additions

  fewer_wanted : (x : Transaction) (id : Hash32) → is_listed (open_wants s) id ≡ false → is_listed (without_id s.wants.wanted x.id ++ s.wants.asked) id ≡ false
  fewer_wanted x id out =
      let parts = unlisted_parts s.wants.wanted s.wants.asked id out in
      unlisted_both (without_id s.wants.wanted x.id) s.wants.asked id (unlisted_filter (λ other. not (is_same_id other x.id)) s.wants.wanted id parts.0) parts.1

  pooled_setup : (x : Transaction) → IsSetUp (with_pooled s x)
  pooled_setup x = record {
    set = more_members k s.pool (x ∷ []) s.set h.set;
    snapshot = more_members k s.pool (x ∷ []) s.machine.round.snapshot h.snapshot;
    apart = h.apart;
    unknown = apart_fewer (open_wants s) (without_id s.wants.wanted x.id ++ s.wants.asked) (fewer_wanted x) s.set h.unknown;
  }

  member_setup : (x : Transaction) → is_in_pool s.pool x.id ≡ false → is_listed (open_wants s) x.id ≡ false → IsSetUp (with_member (with_pooled s x) x.id)
  member_setup x absent new =
      let p = pooled_setup x in
      record {
        set = push_members k s.pool x s.set absent h.set;
        snapshot = p.snapshot;
        apart = all_append (λ m. not (is_listed (ids_of s.machine.round.snapshot) m.id) ≡ true) s.set (member_of k x.id ∷ []) h.apart (ap not (absent_unlisted k s.pool s.machine.round.snapshot x.id absent h.snapshot), tt);
        unknown = all_append (λ m. not (is_listed (without_id s.wants.wanted x.id ++ s.wants.asked) m.id) ≡ true) s.set (member_of k x.id ∷ []) p.unknown (ap not (fewer_wanted x x.id new), tt);
      }

-- ---- the steps

setup_rows : (s : NodeState) → IsSetUp s → IsConversing s → AreDistinctIds (pool_ids s.pool) → EachRow s (λ t. IsSetUp t.state)
setup_rows s h c d = record {
  stays = h;
  ends = λ e. record { set = h.set; snapshot = h.snapshot; apart = h.apart; unknown = h.unknown };
  version = λ e. record { set = h.set; snapshot = h.snapshot; apart = h.apart; unknown = h.unknown };
  wtxidrelay = λ e. record { set = h.set; snapshot = h.snapshot; apart = h.apart; unknown = h.unknown };
  offer = λ o e is none. offer_setup s h o (greeted-early s c e);
  plain = λ e by_id none. plain_setup s h (greeted-early s c e);
  whole = λ o e by_id some. whole_setup s h o (greeted-early s c e) some d;
  answer = λ n bytes es a e. let l = left-over s h n in record { set = l.are; snapshot = none_members (node_keys s) s.pool; apart = apart_none _; unknown = l.unknown };
  more = λ n bytes a e. more_setup s h n bytes;
  fallback = λ n bytes a. let l = left-over s h n in record { set = l.are; snapshot = none_members (node_keys s) s.pool; apart = apart_none _; unknown = l.unknown };
  first = λ size q a e. record { set = none_members (node_keys s) s.pool; snapshot = h.set; apart = tt; unknown = tt };
  extension = λ n a g e. record { set = h.set; snapshot = h.snapshot; apart = h.apart; unknown = h.unknown };
  difference = λ n success asks a g e m. record { set = h.set; snapshot = none_members (node_keys s) s.pool; apart = apart_none s.set; unknown = h.unknown };
  wants = λ es n. wants_setup s h es;
  request = λ es n. request_setup s h es;
  getdata = λ es past m. record { set = h.set; snapshot = h.snapshot; apart = h.apart; unknown = h.unknown };
  notfound = λ es past m. asked_setup s h (λ id. not (is_listed (wtxids_of es) id));
  known = λ t past a p. asked_setup s h (λ other. not (is_same_id other t.id));
  gained = λ t past a p f. gained_setup s h t;
  ping = λ n past m. h;
  pong = λ r b. pong_setup s h;
  addition = λ t a. pooled_setup s h t;
  announcement = λ t a k past plain. pooled_setup s h t;
  member = λ t a k past whole. member_setup s h t a.absent k;
  round = λ r idle. record { set = h.set; snapshot = h.snapshot; apart = h.apart; unknown = h.unknown };
  plain_round = λ r idle plain. record { set = h.set; snapshot = h.snapshot; apart = h.apart; unknown = h.unknown };
}

pub on_message-setup : (s : NodeState) (m : Message) → IsSetUp s → IsConversing s → AreDistinctIds (pool_ids s.pool) → IsMessage m → IsSetUp (on_message s m).state
on_message-setup s m h c d sound = on_message-rows s (λ t. IsSetUp t.state) (setup_rows s h c d) m sound

pub on_addition-setup : (s : NodeState) (tx : List ℕ) → IsSetUp s → IsConversing s → AreDistinctIds (pool_ids s.pool) → IsTransaction (transaction_of tx) → IsSetUp (on_addition s tx).turn.state
on_addition-setup s tx h c d sound = on_addition-rows s (λ t. IsSetUp t.state) (setup_rows s h c d) tx sound

pub on_start-setup : (s : NodeState) → IsSetUp s → IsConversing s → AreDistinctIds (pool_ids s.pool) → IsSetUp (on_start s).turn.state
on_start-setup s h c d = on_start-rows s (λ t. IsSetUp t.state) (setup_rows s h c d)

pub opening-setup : (c : Config) (pool : List Transaction) → IsSetUp (opening_state c pool)
opening-setup c pool = empty_setup (opening_state c pool) refl refl
