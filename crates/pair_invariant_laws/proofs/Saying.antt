-- What a node says and does at a message that is neither an announcement, nor a request, nor their answer, nor a pong.
use Rattle.std.proofs.Common.{◌≡◌, ℕ, zero, suc, ◌==◌, nat_lt, int_lt, pos, is_some, length, Bool, true, false, not, ◌||◌, List, [], ◌∷◌, ◌++◌, map, Option, Some, None, Result, Ok, Err, refl, sym, ap, ap₂, ◌∙◌, subst, append-nil}
use Rattle.std.specs.List.{AllByRecursion}
use Rattle.std.proofs.lemmas.List.Concat.{flat_map-append}
use Rattle.base_types.specs.declared.lists.Hash32.{Hash32}
use Rattle.wire_rules.specs.Commands.{name_of}
use Rattle.wire_rules.specs.declared.message.Message.{Message}
use Rattle.wire_rules.specs.declared.message.Message.TheVariants as message
use Rattle.wire_rules.specs.declared.message.VersionMsg.{VersionMsg}
use Rattle.wire_rules.specs.declared.name.Name.{Name}
use Rattle.wire_rules.specs.declared.name.Name.TheVariants as name
use Rattle.wire_rules.specs.declared.phase.Phase.{Phase}
use Rattle.wire_rules.specs.declared.phase.Phase.TheVariants as phase
use Rattle.id_rules.specs.Ids.{KeyPair}
use Rattle.pool_rules.specs.Pools.{Transaction, pool_ids}
use Rattle.pool_rules.specs.Snapshots.{Member, ids_of, is_single}
use Rattle.node_rules.specs.Accepter.{accepter_reqrecon, accepter_extension, accepter_diff, reqrecon_by, extension_by, extension_after, diff_by, diff_after, diff_fault, accepter_announcement}
use Rattle.node_rules.specs.Handshake.{reply, version_by, on_unexpected, in_greeting, offer_by, verack_by, in_greeted, has_no_relay}
use Rattle.node_rules.specs.Opener.{opener_sketch, sketch_by, length_fault, after_sketch, answer_to_sketch, on_decoding, on_no_answer, has_extension_left, round_after_sketch, remaining_set}
use Rattle.node_rules.specs.Opener.{value_or_fault}
use Rattle.node_rules.specs.Outcomes.{announcement, is_in}
use Rattle.node_rules.specs.Stages.{requested_extensions, sent_extensions, is_idle}
use Rattle.node_rules.specs.State.{NodeState, Machine, Initiator, initiator_of, Round, Offer, node_keys, extensions_allowed}
use Rattle.node_rules.specs.Invariant.{IsMember}
use Rattle.node_rules.specs.Invariant.{IsSetUp}
use Rattle.node_rules.specs.Steps.{opener_row, accepter_row, in_relay, in_phase, on_message}
use Rattle.node_rules.specs.Turns.{Move, Response, Turn, unchanged, handshake_refusal, after_move, after_response, inv_of, getdata_of, entry}
use Rattle.node_rules.specs.declared.config.Config.{Config}
use Rattle.node_rules.specs.declared.config.Role.{Role}
use Rattle.node_rules.specs.declared.config.Role.TheVariants as role
use Rattle.node_rules.specs.declared.end.End.{End}
use Rattle.pair_invariant_rules.specs.Wants.{entry_ids, requested_ids_of, announced_ids_of, carried_transactions_of, requested_ids, announced_ids, carried_transactions, IsTxEntry, HasTxEntries, IsHonest, IsPooled, is_about_wants}
use Rattle.pool_laws.proofs.PoolIds.{in_own_pool}
use Rattle.id_rules.proofs.Lists.{all_append, all_filter}

-- messages that carry nothing, ask for nothing, and announce what the pool has
pub record Says (pool : List Transaction) (out : List Message) : Type 0 where
  pub carries : carried_transactions out ≡ []
  pub asks : requested_ids out ≡ []
  pub announces : AllByRecursion (IsPooled pool) (announced_ids out)
  pub honest : AllByRecursion IsHonest out

-- a step that has nothing to do with wants
pub record Apart (s : NodeState) (t : Turn) : Type 0 where
  pub wants : t.state.wants ≡ s.wants
  pub pool : t.state.pool ≡ s.pool
  pub says : Says s.pool t.out

-- ---- what is said

pub carried_append : (xs ys : List Message) → carried_transactions (xs ++ ys) ≡ carried_transactions xs ++ carried_transactions ys
carried_append xs ys = flat_map-append carried_transactions_of xs ys

pub requested_append : (xs ys : List Message) → requested_ids (xs ++ ys) ≡ requested_ids xs ++ requested_ids ys
requested_append xs ys = flat_map-append requested_ids_of xs ys

pub announced_append : (xs ys : List Message) → announced_ids (xs ++ ys) ≡ announced_ids xs ++ announced_ids ys
announced_append xs ys = flat_map-append announced_ids_of xs ys

module _ (pool : List Transaction) where
  pub says_none : Says pool []
  says_none = record { carries = refl; asks = refl; announces = tt; honest = tt }

  pub says_append : (xs ys : List Message) → Says pool xs → Says pool ys → Says pool (xs ++ ys)
  says_append xs ys h k = record {
    carries = carried_append xs ys ∙ ap₂ (λ u v. u ++ v) h.carries k.carries;
    asks = requested_append xs ys ∙ ap₂ (λ u v. u ++ v) h.asks k.asks;
    announces = subst (AllByRecursion (IsPooled pool)) (sym (announced_append xs ys)) (all_append (IsPooled pool) (announced_ids xs) (announced_ids ys) h.announces k.announces);
    honest = all_append IsHonest xs ys h.honest k.honest;
  }

  entries_ids : (ids : List Hash32) → entry_ids (map entry ids) ≡ ids
  entries_ids [] = refl
  entries_ids (id ∷ ids) = ap (λ xs. id ∷ xs) (entries_ids ids)

  entries_tx : (ids : List Hash32) → AllByRecursion IsTxEntry (map entry ids)
  entries_tx [] = tt
  entries_tx (id ∷ ids) = (refl, entries_tx ids)

  pub inv_announces : (ids : List Hash32) → announced_ids (inv_of ids) ≡ ids
  unfolding announced_ids_of
  inv_announces [] = refl
  inv_announces (id ∷ ids) = append-nil (id ∷ entry_ids (map entry ids)) ∙ ap (λ xs. id ∷ xs) (entries_ids ids)

  pub getdata_asks : (ids : List Hash32) → requested_ids (getdata_of ids) ≡ ids
  unfolding requested_ids_of
  getdata_asks [] = refl
  getdata_asks (id ∷ ids) = append-nil (id ∷ entry_ids (map entry ids)) ∙ ap (λ xs. id ∷ xs) (entries_ids ids)

  inv_parts : (ids : List Hash32) → (carried_transactions (inv_of ids) ≡ []) × (requested_ids (inv_of ids) ≡ []) × AllByRecursion IsHonest (inv_of ids)
  unfolding carried_transactions_of requested_ids_of HasTxEntries
  inv_parts [] = (refl, refl, tt)
  inv_parts (id ∷ ids) = (refl, refl, (record { honest = entries_tx (id ∷ ids) }, tt))

  pub says_inv : (ids : List Hash32) → AllByRecursion (IsPooled pool) ids → Says pool (inv_of ids)
  says_inv ids h = let parts = inv_parts ids in
      record { carries = parts.0; asks = parts.1; announces = subst (AllByRecursion (IsPooled pool)) (sym (inv_announces ids)) h; honest = parts.2 }

  -- a request carries and announces nothing
  pub getdata_parts : (ids : List Hash32) → (carried_transactions (getdata_of ids) ≡ []) × (announced_ids (getdata_of ids) ≡ []) × AllByRecursion IsHonest (getdata_of ids)
  unfolding carried_transactions_of announced_ids_of HasTxEntries
  getdata_parts [] = (refl, refl, tt)
  getdata_parts (id ∷ ids) = (refl, refl, (record { honest = entries_tx (id ∷ ids) }, tt))

  says_diff : (success : Bool) (asks : List ℕ) (ids : List Hash32) (number : ℕ) → AllByRecursion (IsPooled pool) ids → Says pool (message.ReconcilDiff success asks ∷ (inv_of ids ++ message.Ping number ∷ []))
  unfolding carried_transactions_of requested_ids_of announced_ids_of HasTxEntries
  says_diff success asks ids number h =
      let more = says_append (inv_of ids) (message.Ping number ∷ []) (says_inv ids h) (record { carries = refl; asks = refl; announces = tt; honest = (record { honest = tt }, tt) }) in
      record { carries = more.carries; asks = more.asks; announces = more.announces; honest = (record { honest = tt }, more.honest) }

  says_sketch : (bytes : List ℕ) → Says pool (message.Sketch bytes ∷ [])
  unfolding carried_transactions_of requested_ids_of announced_ids_of HasTxEntries
  says_sketch bytes = record { carries = refl; asks = refl; announces = tt; honest = (record { honest = tt }, tt) }

  says_extension : Says pool (message.ReqSketchExt ∷ [])
  unfolding carried_transactions_of requested_ids_of announced_ids_of HasTxEntries
  says_extension = record { carries = refl; asks = refl; announces = tt; honest = (record { honest = tt }, tt) }

  pub says_request : (size q : ℕ) → Says pool (message.ReqRecon size q ∷ [])
  unfolding carried_transactions_of requested_ids_of announced_ids_of HasTxEntries
  says_request size q = record { carries = refl; asks = refl; announces = tt; honest = (record { honest = tt }, tt) }

  says_pong : (n : ℕ) → Says pool (message.Pong n ∷ [])
  unfolding carried_transactions_of requested_ids_of announced_ids_of HasTxEntries
  says_pong n = record { carries = refl; asks = refl; announces = tt; honest = (record { honest = tt }, tt) }

  says_reply : (r : Role) (c : Config) → Says pool (reply r c)
  unfolding reply carried_transactions_of requested_ids_of announced_ids_of HasTxEntries
  says_reply role.Opener c = record { carries = refl; asks = refl; announces = tt; honest = (record { honest = tt }, (record { honest = tt }, (record { honest = tt }, tt))) }
  says_reply role.Accepter c =
      record { carries = refl; asks = refl; announces = tt; honest = (record { honest = tt }, (record { honest = tt }, (record { honest = tt }, (record { honest = tt }, tt)))) }

  -- ---- the machines' rows

  pub pooled_ids : (keys : KeyPair) (ms : List Member) → AllByRecursion (IsMember keys pool) ms → AllByRecursion (IsPooled pool) (ids_of ms)
  pooled_ids keys [] h = tt
  pooled_ids keys (m ∷ ms) h = (h.0.pooled, pooled_ids keys ms h.1)

  pub announcement_pooled : (keys : KeyPair) (ms : List Member) (shorts : List ℕ) → AllByRecursion (IsMember keys pool) ms → AllByRecursion (IsPooled pool) (announcement ms shorts)
  announcement_pooled keys ms shorts h = pooled_ids keys _ (all_filter (IsMember keys pool) (λ m. not (is_single ms m.short) || is_in shorts m.short) ms h)

  pub offered_pooled : (keys : KeyPair) (success : Bool) (r : Round) (asks : List ℕ) → AllByRecursion (IsMember keys pool) r.snapshot → AllByRecursion (IsPooled pool) (accepter_announcement success r asks)
  offered_pooled keys true r asks h = announcement_pooled keys r.snapshot asks h
  offered_pooled keys false r asks h = pooled_ids keys r.snapshot h

  abbrev SaysMove : Result Move End → Type 0
  SaysMove (Ok m) = Says pool m.out
  SaysMove (Err e) = Unit {0}

  abbrev SaysResponse : Result Response End → Type 0
  SaysResponse (Ok r) = Says pool r.out
  SaysResponse (Err e) = Unit {0}

  module _ (keys : KeyPair) where
    says_unanswered : (may : Bool) (i : Initiator) (r : Round) (n : ℕ) (set : List Member) → AllByRecursion (IsMember keys pool) r.snapshot → Says pool (on_no_answer may i r n set).out
    unfolding on_no_answer
    says_unanswered true i r n set h = says_extension
    says_unanswered false i r n set h = says_diff false [] (ids_of r.snapshot) i.requests.begun (pooled_ids keys r.snapshot h)

    says_decided : (answer : Option (List ℕ)) (i : Initiator) (r : Round) (n : ℕ) (set : List Member) → AllByRecursion (IsMember keys pool) r.snapshot → Says pool (on_decoding answer i r n set).out
    unfolding on_decoding
    says_decided (Some es) i r n set h = says_diff true _ (announcement r.snapshot es) i.requests.begun (announcement_pooled keys r.snapshot es h)
    says_decided None i r n set h = says_unanswered (has_extension_left i.machine r n) i r n set h

    says_unless : (e : Option End) (m : Move) → Says pool m.out → SaysMove (value_or_fault e m)
    says_unless None m h = h
    says_unless (Some e) m h = tt

    joined_pooled : (n : ℕ) (m : Machine) (set : List Member) (bytes : List ℕ) → AllByRecursion (IsMember keys pool) set → AllByRecursion (IsMember keys pool) m.round.snapshot → AllByRecursion (IsMember keys pool) (round_after_sketch m set n bytes).snapshot
    unfolding round_after_sketch
    joined_pooled zero m set bytes h k = h
    joined_pooled (suc n) m set bytes h k = k

    says_sketch_by : (answer : Option (List ℕ)) (n : Option ℕ) (i : Initiator) (set : List Member) (bytes : List ℕ) → AllByRecursion (IsMember keys pool) set → AllByRecursion (IsMember keys pool) i.machine.round.snapshot → SaysMove (sketch_by answer n i set bytes)
    unfolding sketch_by
    says_sketch_by answer None i set bytes h k = tt
    says_sketch_by answer (Some n) i set bytes h k =
        says_unless (length_fault i.machine n (length bytes)) (after_sketch answer i set n bytes) (says_decided answer i (round_after_sketch i.machine set n bytes) n (remaining_set n set) (joined_pooled n i.machine set bytes h k))

    says_reqrecon : (idle : Bool) (m : Machine) (set : List Member) (size q : ℕ) → SaysResponse (reqrecon_by idle m set size q)
    unfolding reqrecon_by
    says_reqrecon true m set size q = says_sketch _
    says_reqrecon false m set size q = tt

    says_extended : (may : Bool) (m : Machine) (n : ℕ) → SaysResponse (extension_by may m n)
    unfolding extension_by
    says_extended true m n = says_sketch _
    says_extended false m n = tt

    says_extension_after : (n : Option ℕ) (m : Machine) → SaysResponse (extension_after n m)
    unfolding extension_after
    says_extension_after None m = tt
    says_extension_after (Some n) m = says_extended (nat_lt n (extensions_allowed m)) m n

    says_diff_by : (e : Option End) (m : Machine) (n : ℕ) (success : Bool) (asks : List ℕ) → AllByRecursion (IsMember keys pool) m.round.snapshot → SaysResponse (diff_by e m n success asks)
    unfolding diff_by
    says_diff_by (Some e) m n success asks h = tt
    says_diff_by None m n success asks h = says_inv (accepter_announcement success m.round asks) (offered_pooled keys success m.round asks h)

    says_diff_after : (n : Option ℕ) (m : Machine) (success : Bool) (asks : List ℕ) → AllByRecursion (IsMember keys pool) m.round.snapshot → SaysResponse (diff_after n m success asks)
    unfolding diff_after
    says_diff_after None m success asks h = tt
    says_diff_after (Some n) m success asks h = says_diff_by (diff_fault success m.round asks) m n success asks h

-- ---- the node's rows

module _ (s : NodeState) (mine : IsSetUp s) where
  still : (t : Turn) → t.state.wants ≡ s.wants → t.state.pool ≡ s.pool → t.out ≡ [] → Apart s t
  still t w p o = record { wants = w; pool = p; says = subst (Says s.pool) (sym o) (says_none s.pool) }

  out_of_place-apart : (n : Option Name) → Apart s (on_unexpected s n)
  out_of_place-apart (Some n) = still (handshake_refusal s n) refl refl refl
  out_of_place-apart None = still (unchanged s) refl refl refl

  version_by-apart : (old silent : Bool) (v : VersionMsg) → Apart s (version_by old silent s v)
  unfolding version_by
  version_by-apart true silent v = record { wants = refl; pool = refl; says = says_none s.pool }
  version_by-apart false true v = record { wants = refl; pool = refl; says = says_none s.pool }
  version_by-apart false false v = record { wants = refl; pool = refl; says = says_reply s.pool s.config.role s.config }

  in_greeting-apart : (m : Message) → Apart s (in_greeting s m)
  unfolding in_greeting
  in_greeting-apart (message.Version v) = version_by-apart (int_lt v.version (pos 70016)) (has_no_relay v.relay) v
  in_greeting-apart (message.Ping n) = still (unchanged s) refl refl refl
  in_greeting-apart (message.Pong n) = still (unchanged s) refl refl refl
  in_greeting-apart other = out_of_place-apart (name_of other)

  offer_by-apart : (zero again : Bool) (offer : Offer) → Apart s (offer_by zero again s offer)
  unfolding offer_by
  offer_by-apart true again offer = record { wants = refl; pool = refl; says = says_none s.pool }
  offer_by-apart false true offer = record { wants = refl; pool = refl; says = says_none s.pool }
  offer_by-apart false false offer = record { wants = refl; pool = refl; says = says_none s.pool }

  verack_by-apart : (noted : Bool) (offer : Option Offer) → Apart s (verack_by noted offer s)
  unfolding verack_by
  verack_by-apart false offer = record { wants = refl; pool = refl; says = says_none s.pool }
  verack_by-apart true None = record { wants = refl; pool = refl; says = says_inv s.pool (pool_ids s.pool) (in_own_pool s.pool) }
  verack_by-apart true (Some offer) = record { wants = refl; pool = refl; says = says_none s.pool }

  in_greeted-apart : (m : Message) → Apart s (in_greeted s m)
  unfolding in_greeted
  in_greeted-apart message.WtxidRelay = record { wants = refl; pool = refl; says = says_none s.pool }
  in_greeted-apart (message.SendTxRcncl version salt) = offer_by-apart (version == 0) (is_some s.peer.offer) (record { version = version; salt = salt })
  in_greeted-apart message.Verack = verack_by-apart s.peer.relays_by_id s.peer.offer
  in_greeted-apart (message.Ping n) = still (unchanged s) refl refl refl
  in_greeted-apart (message.Pong n) = still (unchanged s) refl refl refl
  in_greeted-apart other = out_of_place-apart (name_of other)

  moved-apart : (row : Result Move End) → SaysMove s.pool row → Apart s (after_move s row)
  moved-apart (Ok m) h = record { wants = refl; pool = refl; says = h }
  moved-apart (Err e) h = record { wants = refl; pool = refl; says = says_none s.pool }

  opener_row-apart : (r : Role) (plain : Bool) (n : Name) (row : Result Move End) → SaysMove s.pool row → Apart s (opener_row r plain n s row)
  unfolding opener_row
  opener_row-apart role.Opener false n row h = moved-apart row h
  opener_row-apart role.Opener true n row h = record { wants = refl; pool = refl; says = says_none s.pool }
  opener_row-apart role.Accepter plain n row h = record { wants = refl; pool = refl; says = says_none s.pool }

  response-apart : (set : List Member) (row : Result Response End) → SaysResponse s.pool row → Apart s (after_response s set row)
  response-apart set (Ok r) h = record { wants = refl; pool = refl; says = h }
  response-apart set (Err e) h = record { wants = refl; pool = refl; says = says_none s.pool }

  accepter_row-apart : (r : Role) (plain : Bool) (n : Name) (set : List Member) (row : Result Response End) → SaysResponse s.pool row → Apart s (accepter_row r plain n s set row)
  unfolding accepter_row
  accepter_row-apart role.Accepter false n set row h = response-apart set row h
  accepter_row-apart role.Accepter true n set row h = record { wants = refl; pool = refl; says = says_none s.pool }
  accepter_row-apart role.Opener plain n set row h = record { wants = refl; pool = refl; says = says_none s.pool }

  relays-apart : (m : Message) → is_about_wants m ≡ false → Apart s (in_relay s m)
  unfolding in_relay is_about_wants
  relays-apart (message.Version v) off = record { wants = refl; pool = refl; says = says_none s.pool }
  relays-apart message.Verack off = record { wants = refl; pool = refl; says = says_none s.pool }
  relays-apart message.WtxidRelay off = record { wants = refl; pool = refl; says = says_none s.pool }
  relays-apart (message.SendTxRcncl version salt) off = record { wants = refl; pool = refl; says = says_none s.pool }
  relays-apart (message.ReqRecon size q) off =
      accepter_row-apart s.config.role s.plain name.ReqRecon [] (accepter_reqrecon s.machine s.set size q) (says_reqrecon s.pool (node_keys s) (is_idle s.machine.phase) s.machine s.set size q)
  relays-apart (message.Sketch bytes) off =
      opener_row-apart s.config.role s.plain name.Sketch (opener_sketch (initiator_of s) s.set bytes)
      (says_sketch_by s.pool (node_keys s) (answer_to_sketch (requested_extensions s.machine.phase) s.machine s.set bytes) (requested_extensions s.machine.phase) (initiator_of s) s.set bytes mine.set.each mine.snapshot.each)
  relays-apart message.ReqSketchExt off =
      accepter_row-apart s.config.role s.plain name.ReqSketchExt s.set (accepter_extension s.machine) (says_extension_after s.pool (node_keys s) (sent_extensions s.machine.phase) s.machine)
  relays-apart (message.ReconcilDiff success asks) off =
      accepter_row-apart s.config.role s.plain name.ReconcilDiff s.set (accepter_diff s.machine success asks)
      (says_diff_after s.pool (node_keys s) (sent_extensions s.machine.phase) s.machine success asks mine.snapshot.each)
  relays-apart (message.Ping n) off = record { wants = refl; pool = refl; says = says_pong s.pool n }
  relays-apart (message.Other command payload) off = record { wants = refl; pool = refl; says = says_none s.pool }
  relays-apart (message.Inv es) off = absurd (cc)
  relays-apart (message.GetData es) off = absurd (cc)
  relays-apart (message.NotFound es) off = absurd (cc)
  relays-apart (message.Tx tx) off = absurd (cc)
  relays-apart (message.Pong n) off = absurd (cc)

  in_its_phase-apart : (p : Phase) (m : Message) → is_about_wants m ≡ false → Apart s (in_phase p s m)
  unfolding in_phase
  in_its_phase-apart phase.Greeting m off = in_greeting-apart m
  in_its_phase-apart phase.Greeted m off = in_greeted-apart m
  in_its_phase-apart other m off = relays-apart m off

  pub takes-apart : (m : Message) → is_about_wants m ≡ false → Apart s (on_message s m)
  takes-apart m off = in_its_phase-apart s.machine.phase m off
