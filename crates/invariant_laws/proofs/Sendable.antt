-- Messages that may be sent, one kind at a time.
use Rattle.std.proofs.Common.{◌≡◌, ℕ, suc, ◌+◌, ◌*◌, ◌^◌, ◌<◌, ◌≤◌, ◌&&◌, nat_lt, nat_le, not, length, Bool, true, false, List, [], ◌∷◌, ◌++◌, map, filter, Option, Some, None, refl, sym, ap₂, ◌∙◌, subst, arith, lit≤, le-leb}
use Rattle.std.specs.List.{AllByRecursion, list_all}
use Rattle.std.proofs.lemmas.Bool.{and_parts, and_from, lt-ltb, cond_both}
use Rattle.std.proofs.lemmas.List.{length-append, length-map}
use Rattle.std.proofs.lemmas.List.Folds.{list_all-append}
use Rattle.base_types.specs.declared.lists.Hash32.{Hash32}
use Rattle.field_rules.specs.Lists.{sums_of_both}
use Rattle.sketch_rules.specs.Answers.{IsAscending}
use Rattle.sketch_rules.specs.Sketches.{bytes_of, sketch_sum}
use Rattle.sketch_laws.proofs.Bytes.{length-bytes_of}
use Rattle.id_rules.specs.Bytes.{are_bytes_of}
use Rattle.wire_rules.specs.Limits.{IsMessage, is_within_limits, is_in_range, is_entry}
use Rattle.wire_rules.specs.declared.limits.TheConstants.{LIST_LIMIT}
use Rattle.wire_rules.specs.declared.message.InvEntry.{InvEntry}
use Rattle.wire_rules.specs.declared.message.Message.TheVariants as message
use Rattle.pool_rules.specs.Pools.{Transaction, IsTransaction, is_same_id, is_listed, without_id, bytes_of_id}
use Rattle.pool_rules.specs.Snapshots.{Member, ids_of}
use Rattle.pool_laws.proofs.PoolIds.{first_or_later}
use Rattle.id_rules.proofs.Lists.{all_append, filter_few}
use Rattle.node_rules.specs.Handshake.{introduction, opening, own_version, reply}
use Rattle.node_rules.specs.Invariant.{IsConfig}
use Rattle.node_rules.specs.Inventory.{Serving, wtxids_of, is_tx_entry, new_ids, serving_by, serving_after_entry, serving_after}
use Rattle.node_rules.specs.Turns.{inv_of, getdata_of, notfound_of, entry}
use Rattle.node_rules.specs.declared.config.Config.{Config}
use Rattle.node_rules.specs.declared.config.Role.{Role}
use Rattle.node_rules.specs.declared.config.Role.TheVariants as role
use Rattle.invariant_laws.proofs.Fitting.{IsAnnounceable, ids_fit}
use Rattle.invariant_laws.proofs.Numbers.{sums_bytes}
use Rattle.invariant_laws.proofs.Stores.{IsId}

-- ---- the handshake

version_sent : (c : Config) → IsConfig c → IsMessage (message.Version (own_version c))
unfolding is_within_limits is_in_range
version_sent c h = record {
  within = refl;
  ranged = ap₂ (λ x y. true && true && x && true && true && y && true && true && true) h.time (lt-ltb c.nonce (2 ^ 64) h.nonce);
}

introduction_sent : (c : Config) → IsConfig c → AllByRecursion IsMessage (introduction c)
unfolding is_within_limits is_in_range
introduction_sent c h =
    let top : c.top < 2 ^ 32 = let most = h.most in omega (arith, most) in
    (record { within = refl; ranged = refl }, (record { within = refl; ranged = and_from (nat_lt c.top (2 ^ 32)) (nat_lt c.salt (2 ^ 64)) (lt-ltb c.top (2 ^ 32) top) (lt-ltb c.salt (2 ^ 64) h.salt) }, (record { within = refl; ranged = refl }, tt)))

pub reply_sent : (r : Role) (c : Config) → IsConfig c → AllByRecursion IsMessage (reply r c)
unfolding reply
reply_sent role.Opener c h = introduction_sent c h
reply_sent role.Accepter c h = (version_sent c h, introduction_sent c h)

pub opening_sent : (r : Role) (c : Config) → IsConfig c → AllByRecursion IsMessage (opening r c)
unfolding opening
opening_sent role.Opener c h = (version_sent c h, tt)
opening_sent role.Accepter c h = tt

-- ---- inventories

entries_fit : (ids : List Hash32) → AllByRecursion IsId ids → list_all is_entry (map entry ids) ≡ true
entries_fit [] h = refl
entries_fit (id ∷ ids) h = and_from (is_entry (entry id)) (list_all is_entry (map entry ids)) (and_from true (are_bytes_of 32 id.0) refl h.0) (entries_fit ids h.1)

few_entries : (ids : List Hash32) → length ids ≤ LIST_LIMIT → nat_le (length (map entry ids)) LIST_LIMIT ≡ true
few_entries ids le = le-leb (length (map entry ids)) LIST_LIMIT (subst (λ n. n ≤ LIST_LIMIT) (sym (length-map ids entry)) le)

pub sent_inv : (ids : List Hash32) → length ids ≤ LIST_LIMIT → AllByRecursion IsId ids → AllByRecursion IsMessage (inv_of ids)
unfolding is_within_limits is_in_range
sent_inv [] le h = tt
sent_inv (id ∷ ids) le h = (record { within = few_entries (id ∷ ids) le; ranged = entries_fit (id ∷ ids) h }, tt)

pub sent_getdata : (ids : List Hash32) → length ids ≤ LIST_LIMIT → AllByRecursion IsId ids → AllByRecursion IsMessage (getdata_of ids)
unfolding is_within_limits is_in_range
sent_getdata [] le h = tt
sent_getdata (id ∷ ids) le h = (record { within = few_entries (id ∷ ids) le; ranged = entries_fit (id ∷ ids) h }, tt)

pub sent_notfound : (es : List InvEntry) → length es ≤ LIST_LIMIT → list_all is_entry es ≡ true → AllByRecursion IsMessage (notfound_of es)
unfolding is_within_limits is_in_range
sent_notfound [] le h = tt
sent_notfound (e ∷ es) le h = (record { within = le-leb (length (e ∷ es)) LIST_LIMIT le; ranged = h }, tt)

pub news_few : (known : Hash32 → Bool) (ids : List Hash32) → length (new_ids known ids) ≤ length ids
unfolding new_ids
news_few known [] = omega arith
news_few known (x ∷ xs) =
    cond_both (known x) (new_ids known xs) (x ∷ without_id (new_ids known xs) x) (λ zs. length zs ≤ length (x ∷ xs)) (λ e. let le = news_few known xs in omega arith)
    (λ e. let le = news_few known xs in let few = filter_few (λ other. not (is_same_id other x)) (new_ids known xs) in omega arith)

pub announced_few : (es : List InvEntry) → length (wtxids_of es) ≤ length es
announced_few es = let few = filter_few is_tx_entry es in let same = length-map (filter is_tx_entry es) (λ e. e.id) in omega (arith, few, same)

-- ---- pings, and the messages of a round

pub sent_ping : (n : ℕ) → n < 2 ^ 64 → IsMessage (message.Ping n)
unfolding is_within_limits is_in_range
sent_ping n lt = record { within = refl; ranged = lt-ltb n (2 ^ 64) lt }

pub sent_pong : (n : ℕ) → IsMessage (message.Ping n) → IsMessage (message.Pong n)
unfolding is_within_limits is_in_range
sent_pong n m = record { within = refl; ranged = m.ranged }

pub sent_request : (size q : ℕ) → size < 2 ^ 16 → q < 2 ^ 16 → IsMessage (message.ReqRecon size q)
unfolding is_within_limits is_in_range
sent_request size q h k = record { within = refl; ranged = and_from (nat_lt size (2 ^ 16)) (nat_lt q (2 ^ 16)) (lt-ltb size (2 ^ 16) h) (lt-ltb q (2 ^ 16) k) }

pub sent_extension : IsMessage message.ReqSketchExt
unfolding is_within_limits is_in_range
sent_extension = record { within = refl; ranged = refl }

pub sent_sketch : (sums : List ℕ) → 4 * length sums ≤ LIST_LIMIT → IsMessage (message.Sketch (bytes_of sums))
unfolding is_within_limits is_in_range
sent_sketch sums le = record { within = le-leb (length (bytes_of sums)) LIST_LIMIT (let size = length-bytes_of sums in omega (arith, size, le)); ranged = sums_bytes sums }

sent_diff : (success : Bool) (shorts : List ℕ) → length shorts ≤ LIST_LIMIT → list_all (λ n. nat_lt n (2 ^ 32)) shorts ≡ true → IsMessage (message.ReconcilDiff success shorts)
unfolding is_within_limits is_in_range
sent_diff success shorts le h = record { within = le-leb (length shorts) LIST_LIMIT le; ranged = h }

pub sent_failure : IsMessage (message.ReconcilDiff false [])
sent_failure = sent_diff false [] (lit≤ tt) refl

pub merged_few : (xs ys : List ℕ) → length (sketch_sum xs ys) ≤ length xs
unfolding sums_of_both
merged_few [] ys = omega arith
merged_few (x ∷ xs) [] = omega arith
merged_few (x ∷ xs) (y ∷ ys) = let le = merged_few xs ys in omega arith

rising_small : (low : ℕ) (es : List ℕ) → IsAscending low (2 ^ 32) es → list_all (λ n. nat_lt n (2 ^ 32)) es ≡ true
unfolding IsAscending
rising_small low [] h = refl
rising_small low (e ∷ es) h = and_from (nat_lt e (2 ^ 32)) (list_all (λ n. nat_lt n (2 ^ 32)) es) (lt-ltb e (2 ^ 32) h.1) (rising_small (e + 1) es h.2)

filter_small : (t : ℕ → Bool) (xs : List ℕ) → list_all (λ n. nat_lt n (2 ^ 32)) xs ≡ true → list_all (λ n. nat_lt n (2 ^ 32)) (filter t xs) ≡ true
filter_small t [] h = refl
filter_small t (x ∷ xs) h =
    let parts = and_parts (nat_lt x (2 ^ 32)) (list_all (λ n. nat_lt n (2 ^ 32)) xs) h in
    cond_both (t x) (x ∷ filter t xs) (filter t xs) (λ zs. list_all (λ n. nat_lt n (2 ^ 32)) zs ≡ true) (λ e. and_from (nat_lt x (2 ^ 32)) (list_all (λ n. nat_lt n (2 ^ 32)) (filter t xs)) parts.0 (filter_small t xs parts.1)) (λ e. filter_small t xs parts.1)

-- some of an answer is asked for
pub sent_asks : (t : ℕ → Bool) (es : List ℕ) → length es ≤ LIST_LIMIT → IsAscending 1 (2 ^ 32) es → IsMessage (message.ReconcilDiff true (filter t es))
sent_asks t es le h = sent_diff true (filter t es) (let f = filter_few t es in omega (arith, f, le)) (filter_small t es (rising_small 1 es h))

-- members are announced
pub sent_ids : (ms : List Member) → IsAnnounceable ms → AllByRecursion IsMessage (inv_of (ids_of ms))
sent_ids ms a = sent_inv (ids_of ms) (subst (λ n. n ≤ LIST_LIMIT) (sym (length-map ms (λ m. m.id))) a.few) (ids_fit ms a.ids)

-- what ends an opener's round
pub sent_end : (success : Bool) (shorts : List ℕ) (ms : List Member) (number : ℕ) → IsMessage (message.ReconcilDiff success shorts) → IsAnnounceable ms → number < 2 ^ 64
    → AllByRecursion IsMessage (message.ReconcilDiff success shorts ∷ (inv_of (ids_of ms) ++ message.Ping number ∷ []))
sent_end success shorts ms number diff a lt = (diff, all_append IsMessage (inv_of (ids_of ms)) (message.Ping number ∷ []) (sent_ids ms a) (sent_ping number lt, tt))

-- ---- transactions

tx_sent : (t : Transaction) → IsTransaction t → IsMessage (message.Tx t.bytes)
unfolding is_within_limits is_in_range
tx_sent t h = record { within = h.sized; ranged = h.bytes }

-- the transaction of an id
found_sent : (pool : List Transaction) (id : Hash32) (tx : List ℕ) → AllByRecursion IsTransaction pool → bytes_of_id pool id ≡ Some tx → IsMessage (message.Tx tx)
found_sent [] id tx each e = absurd (let apart : None ≡ Some tx = e in cc)
found_sent (t ∷ ts) id tx each e = first_or_later (IsMessage (message.Tx tx)) t ts id tx e (λ same bytes. subst (λ xs. IsMessage (message.Tx xs)) bytes (tx_sent t each.0)) (found_sent ts id tx each.1)

-- what a request has come to
pub record IsSendableServing (v : Serving) (n : ℕ) : Type 0 where
  pub sent : AllByRecursion IsMessage v.sent
  pub missing : list_all is_entry v.missing ≡ true
  pub few : length v.missing ≤ n

missed : (e : InvEntry) (v : Serving) (n : ℕ) → is_entry e ≡ true → IsSendableServing v n → IsSendableServing (record v { missing = v.missing ++ e ∷ [] }) (suc n)
missed e v n h f = record {
  sent = f.sent;
  missing = list_all-append is_entry v.missing (e ∷ []) ∙ and_from (list_all is_entry v.missing) (list_all is_entry (e ∷ [])) f.missing (and_from (is_entry e) true h refl);
  few = let le = f.few in let long = length-append v.missing (e ∷ []) in omega (arith, le, long);
}

served_sent : (may : Bool) (tx : Option (List ℕ)) (pool : List Transaction) (e : InvEntry) (v : Serving) (n : ℕ) → AllByRecursion IsTransaction pool → bytes_of_id pool e.id ≡ tx → is_entry e ≡ true → IsSendableServing v n → IsSendableServing (serving_by may tx e v) (suc n)
unfolding serving_by
served_sent true (Some tx) pool e v n each found h f = record { sent = all_append IsMessage v.sent (message.Tx tx ∷ []) f.sent (found_sent pool e.id tx each found, tt); missing = f.missing; few = let le = f.few in omega arith }
served_sent true None pool e v n each found h f = missed e v n h f
served_sent false tx pool e v n each found h f = missed e v n h f

pub serves_sent : (pool : List Transaction) (v : Serving) (es : List InvEntry) (n : ℕ) → AllByRecursion IsTransaction pool → list_all is_entry es ≡ true → IsSendableServing v n → IsSendableServing (serving_after pool v es) (n + length es)
unfolding serving_after
serves_sent pool v [] n each h f = record { sent = f.sent; missing = f.missing; few = let le = f.few in omega arith }
serves_sent pool v (e ∷ es) n each h f =
    let parts = and_parts (is_entry e) (list_all is_entry es) h in
    let next = serves_sent pool (serving_after_entry pool v e) es (suc n) each parts.1 (served_sent (is_tx_entry e && not (is_listed v.served e.id)) (bytes_of_id pool e.id) pool e v n each refl parts.0 f) in
    record { sent = next.sent; missing = next.missing; few = let le = next.few in omega arith }
