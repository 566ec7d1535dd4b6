-- What a node's step says is paid for by what the message taken and the node's own state had left.
use Rattle.std.proofs.Common.{◌≡◌, ◌≤◌, ℕ, zero, suc, ◌+◌, ◌*◌, ◌-◌, ◌==◌, nat_lt, int_lt, pos, is_some, length, Bool, true, false, List, [], ◌∷◌, ◌++◌, not, ◌&&◌, Option, Some, None, Result, Ok, Err, refl, sym, ap, ap₂, ◌∙◌, subst, arith, le_refl, lit≤, inl, inr, ◌⊎◌, append_assoc, append-nil}
use Rattle.std.specs.List.{AllByRecursion}
use Rattle.std.proofs.lemmas.Bool.{and_parts, ltb-true}
use Rattle.base_types.specs.declared.lists.Hash32.{Hash32}
use Rattle.wire_rules.specs.Commands.{name_of}
use Rattle.wire_rules.specs.declared.message.InvEntry.{InvEntry}
use Rattle.wire_rules.specs.declared.message.Message.{Message}
use Rattle.wire_rules.specs.declared.message.Message.TheVariants as message
use Rattle.wire_rules.specs.declared.message.VersionMsg.{VersionMsg}
use Rattle.wire_rules.specs.declared.name.Name.{Name}
use Rattle.wire_rules.specs.declared.name.Name.TheVariants as name
use Rattle.wire_rules.specs.declared.phase.Phase.{Phase}
use Rattle.wire_rules.specs.declared.phase.Phase.TheVariants as phase
use Rattle.pool_rules.specs.Pools.{Transaction, transaction_of, is_listed, is_in_pool, has_byte_room, without_id, bytes_of_id}
use Rattle.pool_rules.specs.Snapshots.{Member}
use Rattle.pool_rules.specs.declared.limits.TheConstants.{POOL_LIMIT}
use Rattle.node_rules.specs.Accepter.{accepter_reqrecon, accepter_extension, accepter_diff, reqrecon_by, extension_by, extension_after, diff_by, diff_after, diff_fault, accepter_announcement}
use Rattle.node_rules.specs.Handshake.{reply, version_by, on_unexpected, in_greeting, offer_by, verack_by, in_greeted, has_no_relay, level_of}
use Rattle.node_rules.specs.Inventory.{Serving, unknown_ids, without_announced, inv_by, transaction_by, serving_after, serving_after_entry, serving_by, serving_of, is_tx_entry}
use Rattle.node_rules.specs.Opener.{opener_sketch, sketch_by, length_fault, after_sketch, answer_to_sketch, on_decoding, on_no_answer, has_extension_left, round_after_sketch, remaining_set}
use Rattle.node_rules.specs.Barrier.{is_barrier_end}
use Rattle.node_rules.specs.Opener.{value_or_fault}
use Rattle.node_rules.specs.Stages.{waiting_phase, requested_extensions, sent_extensions, is_idle}
use Rattle.node_rules.specs.Barrier.{phase_after_fetch, phase_after_barrier, is_barrier}
use Rattle.node_rules.specs.State.{NodeState, Machine, Round, Offer, extensions_allowed, taken_room, Initiator, initiator_of}
use Rattle.node_rules.specs.Steps.{opener_row, accepter_row, in_relay, in_phase, on_message}
use Rattle.node_rules.specs.Barrier.{pong_by}
use Rattle.node_rules.specs.Turns.{Move, Turn, unchanged, refusal, handshake_refusal, phase_refusal, after_move, inv_of, getdata_of, notfound_of, Response, after_response}
use Rattle.node_rules.specs.declared.config.Config.{Config}
use Rattle.node_rules.specs.declared.config.Role.{Role}
use Rattle.node_rules.specs.declared.config.Role.TheVariants as role
use Rattle.node_rules.specs.declared.end.End.{End}
use Rattle.id_rules.proofs.Lists.{all_append}
use Rattle.invariant_laws.proofs.Stages.{asked-waiting_phase}
use Rattle.pair_bound_laws.specs.Costs.{total_weight, rounds_weight, request_weight, owed_for_inv, owed_messages, other_role, remaining_by_extensions, remaining_at_barrier, remaining_messages, is_ping, has_ping, unpinged_inv_by, unpinged_invs, unpinged_invs_of, HasEntries, IsFilled, inv_weight as inv_weight}
use Rattle.pair_bound_laws.proofs.Totals.{total_append}

-- what is said, and what it may lead to
pub record Says (r : Role) (out : List Message) (most : ℕ) : Type 0 where
  pub rounds_weight : total_weight (owed_messages (other_role r)) out + total_weight rounds_weight out ≤ most
  pub requests : total_weight request_weight out ≡ 0
  pub unpinged_invs : unpinged_invs_of r out ≡ 0
  pub filled : AllByRecursion IsFilled out

-- a step by a message; where the node ends in it, it says nothing
pub record Spends (r : Role) (s : NodeState) (m : Message) (t : Turn) : Type 0 where
  pub rounds_weight : remaining_messages r t.state.machine + total_weight (owed_messages (other_role r)) t.out + total_weight rounds_weight t.out ≤ remaining_messages r s.machine + owed_messages r m
  pub requests : total_weight request_weight t.out ≡ 0
  pub unpinged_invs : unpinged_invs_of r t.out ≡ 0
  pub filled : AllByRecursion IsFilled t.out
  pub ends : (t.state.ended ≡ s.ended) ⊎ (t.out ≡ [])

-- a move of a machine that had so much left
pub record Moves (r : Role) (before : ℕ) (m : Machine) (out : List Message) : Type 0 where
  pub rounds_weight : remaining_messages r m + total_weight (owed_messages (other_role r)) out + total_weight rounds_weight out ≤ before
  pub requests : total_weight request_weight out ≡ 0
  pub unpinged_invs : unpinged_invs_of r out ≡ 0
  pub filled : AllByRecursion IsFilled out

abbrev MovesOn : ℕ → Result Move End → Type 0
MovesOn before (Ok m) = Moves role.Opener before m.initiator.machine m.out
MovesOn before (Err e) = Unit {0}

abbrev RespondsOn : ℕ → Result Response End → Type 0
RespondsOn before (Ok r) = Moves role.Accepter before r.machine r.out
RespondsOn before (Err e) = Unit {0}

-- ---- what is said

says_none : (r : Role) → Says r [] 0
unfolding total_weight unpinged_invs_of unpinged_invs
says_none role.Opener = record { rounds_weight = lit≤ tt; requests = refl; unpinged_invs = refl; filled = tt }
says_none role.Accepter = record { rounds_weight = lit≤ tt; requests = refl; unpinged_invs = refl; filled = tt }

-- an accepter's announcement, to which nothing is to be said
says_inv : (ids : List Hash32) → Says role.Accepter (inv_of ids) 1
unfolding total_weight rounds_weight owed_messages owed_for_inv other_role request_weight unpinged_invs_of HasEntries
says_inv [] = record { rounds_weight = lit≤ tt; requests = refl; unpinged_invs = refl; filled = tt }
says_inv (id ∷ ids) = record { rounds_weight = lit≤ tt; requests = refl; unpinged_invs = refl; filled = (record { filled = tt }, tt) }

says_getdata : (r : Role) (ids : List Hash32) → Says r (getdata_of ids) 1
unfolding total_weight rounds_weight owed_messages other_role request_weight unpinged_invs_of unpinged_invs unpinged_inv_by has_ping inv_weight HasEntries
says_getdata role.Opener [] = record { rounds_weight = lit≤ tt; requests = refl; unpinged_invs = refl; filled = tt }
says_getdata role.Opener (id ∷ ids) = record { rounds_weight = lit≤ tt; requests = refl; unpinged_invs = refl; filled = (record { filled = tt }, tt) }
says_getdata role.Accepter [] = record { rounds_weight = lit≤ tt; requests = refl; unpinged_invs = refl; filled = tt }
says_getdata role.Accepter (id ∷ ids) = record { rounds_weight = lit≤ tt; requests = refl; unpinged_invs = refl; filled = (record { filled = tt }, tt) }

-- an opener's difference, its announcement and the ping
says_diff : (success : Bool) (asks : List ℕ) (ids : List Hash32) (number : ℕ) → Says role.Opener (message.ReconcilDiff success asks ∷ (inv_of ids ++ message.Ping number ∷ [])) 6
unfolding total_weight rounds_weight owed_messages owed_for_inv other_role request_weight unpinged_invs_of unpinged_invs unpinged_inv_by has_ping is_ping inv_weight HasEntries
says_diff success asks [] number = record { rounds_weight = lit≤ tt; requests = refl; unpinged_invs = refl; filled = (record { filled = tt }, (record { filled = tt }, tt)) }
says_diff success asks (id ∷ ids) number = record { rounds_weight = lit≤ tt; requests = refl; unpinged_invs = refl; filled = (record { filled = tt }, (record { filled = tt }, (record { filled = tt }, tt))) }

says_reply : (r q : Role) (c : Config) → Says r (reply q c) 0
unfolding total_weight rounds_weight owed_messages other_role request_weight unpinged_invs_of unpinged_invs unpinged_inv_by has_ping is_ping inv_weight HasEntries reply
says_reply role.Opener role.Opener c = record { rounds_weight = lit≤ tt; requests = refl; unpinged_invs = refl; filled = (record { filled = tt }, (record { filled = tt }, (record { filled = tt }, tt))) }
says_reply role.Opener role.Accepter c = record { rounds_weight = lit≤ tt; requests = refl; unpinged_invs = refl; filled = (record { filled = tt }, (record { filled = tt }, (record { filled = tt }, (record { filled = tt }, tt)))) }
says_reply role.Accepter role.Opener c = record { rounds_weight = lit≤ tt; requests = refl; unpinged_invs = refl; filled = (record { filled = tt }, (record { filled = tt }, (record { filled = tt }, tt))) }
says_reply role.Accepter role.Accepter c = record { rounds_weight = lit≤ tt; requests = refl; unpinged_invs = refl; filled = (record { filled = tt }, (record { filled = tt }, (record { filled = tt }, (record { filled = tt }, tt)))) }

says_pong : (r : Role) (n : ℕ) → Says r (message.Pong n ∷ []) 1
unfolding total_weight rounds_weight owed_messages other_role request_weight unpinged_invs_of unpinged_invs unpinged_inv_by has_ping is_ping inv_weight HasEntries
says_pong role.Opener n = record { rounds_weight = lit≤ tt; requests = refl; unpinged_invs = refl; filled = (record { filled = tt }, tt) }
says_pong role.Accepter n = record { rounds_weight = lit≤ tt; requests = refl; unpinged_invs = refl; filled = (record { filled = tt }, tt) }

-- messages that count for nothing here
record Mute (ms : List Message) : Type 0 where
  pub rounds_weight : (r : Role) → total_weight (owed_messages r) ms + total_weight rounds_weight ms ≡ 0
  pub requests : total_weight request_weight ms ≡ 0
  pub unpinged_invs : (rest : List Message) → unpinged_invs (ms ++ rest) ≡ unpinged_invs rest
  pub filled : AllByRecursion IsFilled ms

mute_none : Mute []
unfolding total_weight
mute_none = record { rounds_weight = λ r. refl; requests = refl; unpinged_invs = λ rest. refl; filled = tt }

mute_late : (b : Bool) (m : Message) (rest : ℕ) → inv_weight m ≡ 0 → unpinged_inv_by b m + rest ≡ rest
unfolding unpinged_inv_by
mute_late true m rest e = omega arith
mute_late false m rest e = omega (arith, e)

mute_tx : (tx : List ℕ) (ms : List Message) → Mute ms → Mute (message.Tx tx ∷ ms)
unfolding total_weight rounds_weight owed_messages request_weight unpinged_invs is_ping has_ping inv_weight HasEntries
mute_tx tx ms h = record {
  rounds_weight = λ r. let e = h.rounds_weight r in omega (arith, e);
  requests = let e = h.requests in omega (arith, e);
  unpinged_invs = λ rest. mute_late (has_ping (ms ++ rest)) (message.Tx tx) (unpinged_invs (ms ++ rest)) refl ∙ h.unpinged_invs rest;
  filled = (record { filled = tt }, h.filled);
}

mute_notfound : (es : List InvEntry) → Mute (notfound_of es)
unfolding total_weight rounds_weight owed_messages request_weight unpinged_invs is_ping has_ping inv_weight HasEntries
mute_notfound [] = mute_none
mute_notfound (e ∷ es) = record {
  rounds_weight = λ r. refl;
  requests = refl;
  unpinged_invs = λ rest. mute_late (has_ping rest) (message.NotFound (e ∷ es)) (unpinged_invs rest) refl;
  filled = (record { filled = tt }, tt);
}

mute_append : (xs ys : List Message) → Mute xs → Mute ys → Mute (xs ++ ys)
mute_append xs ys h k = record {
  rounds_weight = λ r. let a = total_append (owed_messages r) xs ys in let b = total_append rounds_weight xs ys in let c = h.rounds_weight r in let d = k.rounds_weight r in omega (arith, a, b, c, d);
  requests = total_append request_weight xs ys ∙ ap₂ (λ u v. u + v) h.requests k.requests;
  unpinged_invs = λ rest. ap unpinged_invs (append_assoc xs ys rest) ∙ h.unpinged_invs (ys ++ rest) ∙ k.unpinged_invs rest;
  filled = all_append IsFilled xs ys h.filled k.filled;
}

mute_served : (may : Bool) (tx : Option (List ℕ)) (e : InvEntry) (v : Serving) → Mute v.sent → Mute (serving_by may tx e v).sent
unfolding serving_by
mute_served true (Some tx) e v h = mute_append v.sent (message.Tx tx ∷ []) h (mute_tx tx [] mute_none)
mute_served true None e v h = h
mute_served false tx e v h = h

mute_serves : (pool : List Transaction) (v : Serving) (es : List InvEntry) → Mute v.sent → Mute (serving_after pool v es).sent
unfolding serving_after
mute_serves pool v [] h = h
mute_serves pool v (e ∷ es) h =
    mute_serves pool (serving_after_entry pool v e) es (mute_served (is_tx_entry e && not (is_listed v.served e.id)) (bytes_of_id pool e.id) e v h)

says_mute : (r : Role) (ms : List Message) → Mute ms → Says r ms 0
unfolding unpinged_invs_of unpinged_invs
says_mute r ms h = record {
  rounds_weight = let e = h.rounds_weight (other_role r) in omega (arith, e);
  requests = h.requests;
  unpinged_invs = none_late r;
  filled = h.filled;
}
  where
    unlate : unpinged_invs ms ≡ 0
    unlate = ap unpinged_invs (sym (append-nil ms)) ∙ h.unpinged_invs [] ∙ none
      where
        none : unpinged_invs [] ≡ 0
        none = refl

    none_late : (r : Role) → unpinged_invs_of r ms ≡ 0
    none_late role.Opener = unlate
    none_late role.Accepter = refl

-- ---- the machines' rows

moves : (r : Role) (before most : ℕ) (m : Machine) (out : List Message) → Says r out most → remaining_messages r m + most ≤ before → Moves r before m out
moves r before most m out h le = record { rounds_weight = let e = h.rounds_weight in omega (arith, e, le); requests = h.requests; unpinged_invs = h.unpinged_invs; filled = h.filled }

waiting_no_barrier : (n : ℕ) → is_barrier (waiting_phase n) ≡ false
unfolding is_barrier waiting_phase
waiting_no_barrier zero = refl
waiting_no_barrier (suc zero) = refl
waiting_no_barrier (suc (suc n)) = refl

-- what an opener has left that has asked for one more
extending_left : (m : Machine) (r : Round) (n : ℕ) → extensions_allowed m ≤ 2 → nat_lt n (extensions_allowed m) ≡ true
    → remaining_messages role.Opener (record m { phase = waiting_phase (suc n); round = r }) ≡ 7 + 2 * (extensions_allowed m - suc n)
unfolding remaining_messages remaining_by_extensions remaining_at_barrier
extending_left m r n few less =
    let in_bounds : suc n ≤ extensions_allowed m = let l = ltb-true n (extensions_allowed m) less in omega (arith, l) in
    ap₂ (λ o b. remaining_by_extensions o (extensions_allowed m) + remaining_at_barrier b) (asked-waiting_phase (suc n) (omega (arith, in_bounds, few))) (waiting_no_barrier (suc n)) ∙ (let same : 7 + 2 * (extensions_allowed m - suc n) + 0 ≡ 7 + 2 * (extensions_allowed m - suc n) = omega arith in same)

says_extension : Says role.Opener (message.ReqSketchExt ∷ []) 2
unfolding total_weight rounds_weight owed_messages other_role request_weight unpinged_invs_of unpinged_invs unpinged_inv_by has_ping inv_weight HasEntries
says_extension = record { rounds_weight = lit≤ tt; requests = refl; unpinged_invs = refl; filled = (record { filled = tt }, tt) }

says_sketch : (bytes : List ℕ) → Says role.Accepter (message.Sketch bytes ∷ []) 1
unfolding total_weight rounds_weight owed_messages other_role request_weight unpinged_invs_of unpinged_invs unpinged_inv_by has_ping inv_weight HasEntries
says_sketch bytes = record { rounds_weight = lit≤ tt; requests = refl; unpinged_invs = refl; filled = (record { filled = tt }, tt) }

barrier_left : (m : Machine) → m.phase ≡ phase.Barrier → remaining_messages role.Opener m ≡ 1
unfolding remaining_messages remaining_by_extensions remaining_at_barrier requested_extensions is_barrier
barrier_left m e = ap (λ p. remaining_by_extensions (requested_extensions p) (extensions_allowed m) + remaining_at_barrier (is_barrier p)) e

on_no_answer-moves : (may : Bool) (i : Initiator) (r : Round) (n : ℕ) (set : List Member) → extensions_allowed i.machine ≤ 2 → (may ≡ true → nat_lt n (extensions_allowed i.machine) ≡ true)
    → Moves role.Opener (7 + 2 * (extensions_allowed i.machine - n)) (on_no_answer may i r n set).initiator.machine (on_no_answer may i r n set).out
unfolding on_no_answer
on_no_answer-moves true i r n set few h =
    moves role.Opener (7 + 2 * (extensions_allowed i.machine - n)) 2 _ _ says_extension
    (let e = extending_left i.machine r n few (h refl) in let l = ltb-true n (extensions_allowed i.machine) (h refl) in omega (arith, e, l))
on_no_answer-moves false i r n set few h =
    moves role.Opener (7 + 2 * (extensions_allowed i.machine - n)) 6 _ _ (says_diff false [] _ i.requests.begun) (let e = barrier_left (on_no_answer false i r n set).initiator.machine refl in omega (arith, e))

on_decoding-moves : (answer : Option (List ℕ)) (i : Initiator) (r : Round) (n : ℕ) (set : List Member) → extensions_allowed i.machine ≤ 2
    → Moves role.Opener (7 + 2 * (extensions_allowed i.machine - n)) (on_decoding answer i r n set).initiator.machine (on_decoding answer i r n set).out
unfolding on_decoding
on_decoding-moves (Some es) i r n set few =
    moves role.Opener (7 + 2 * (extensions_allowed i.machine - n)) 6 _ _ (says_diff true _ _ i.requests.begun) (let e = barrier_left (on_decoding (Some es) i r n set).initiator.machine refl in omega (arith, e))
on_decoding-moves None i r n set few = on_no_answer-moves (has_extension_left i.machine r n) i r n set few (λ e. (and_parts (not (r.capacity == 0)) (nat_lt n (extensions_allowed i.machine)) e).1)

value_or_fault-moves : (before : ℕ) (e : Option End) (m : Move) → Moves role.Opener before m.initiator.machine m.out → MovesOn before (value_or_fault e m)
value_or_fault-moves before None m h = h
value_or_fault-moves before (Some e) m h = tt

-- an opener that waits has so much left
waits_left : (m : Machine) (n : ℕ) → requested_extensions m.phase ≡ Some n → 7 + 2 * (extensions_allowed m - n) ≤ remaining_messages role.Opener m
unfolding remaining_messages remaining_by_extensions
waits_left m n e = subst (λ x. 7 + 2 * (extensions_allowed m - n) ≤ remaining_by_extensions x (extensions_allowed m) + remaining_at_barrier (is_barrier m.phase)) (sym e) (omega arith)

more_left : (before now : ℕ) (m : Machine) (out : List Message) → before ≤ now → Moves role.Opener before m out → Moves role.Opener now m out
more_left before now m out le h = record { rounds_weight = let e = h.rounds_weight in omega (arith, e, le); requests = h.requests; unpinged_invs = h.unpinged_invs; filled = h.filled }

sketch_by-moves : (answer : Option (List ℕ)) (o : Option ℕ) (i : Initiator) (set : List Member) (bytes : List ℕ) → extensions_allowed i.machine ≤ 2 → requested_extensions i.machine.phase ≡ o
    → MovesOn (remaining_messages role.Opener i.machine) (sketch_by answer o i set bytes)
unfolding sketch_by
sketch_by-moves answer None i set bytes few e = tt
sketch_by-moves answer (Some n) i set bytes few e =
    let m : Move = after_sketch answer i set n bytes in
    value_or_fault-moves (remaining_messages role.Opener i.machine) (length_fault i.machine n (length bytes)) m
    (more_left (7 + 2 * (extensions_allowed i.machine - n)) (remaining_messages role.Opener i.machine) m.initiator.machine m.out (waits_left i.machine n e)
    (on_decoding-moves answer i (round_after_sketch i.machine set n bytes) n (remaining_set n set) few))

no_left : (m : Machine) → remaining_messages role.Accepter m + 1 ≤ 1
unfolding remaining_messages
no_left m = lit≤ tt

reqrecon_by-moves : (idle : Bool) (m : Machine) (set : List Member) (size q : ℕ) → RespondsOn 1 (reqrecon_by idle m set size q)
unfolding reqrecon_by
reqrecon_by-moves true m set size q = moves role.Accepter 1 1 _ _ (says_sketch _) (no_left _)
reqrecon_by-moves false m set size q = tt

extension_by-moves : (may : Bool) (m : Machine) (n : ℕ) → RespondsOn 1 (extension_by may m n)
unfolding extension_by
extension_by-moves true m n = moves role.Accepter 1 1 _ _ (says_sketch _) (no_left _)
extension_by-moves false m n = tt

extension_after-moves : (n : Option ℕ) (m : Machine) → RespondsOn 1 (extension_after n m)
unfolding extension_after
extension_after-moves None m = tt
extension_after-moves (Some n) m = extension_by-moves (nat_lt n (extensions_allowed m)) m n

diff_by-moves : (e : Option End) (m : Machine) (n : ℕ) (success : Bool) (asks : List ℕ) → RespondsOn 1 (diff_by e m n success asks)
unfolding diff_by
diff_by-moves (Some e) m n success asks = tt
diff_by-moves None m n success asks = moves role.Accepter 1 1 _ _ (says_inv (accepter_announcement success m.round asks)) (no_left _)

diff_after-moves : (n : Option ℕ) (m : Machine) (success : Bool) (asks : List ℕ) → RespondsOn 1 (diff_after n m success asks)
unfolding diff_after
diff_after-moves None m success asks = tt
diff_after-moves (Some n) m success asks = diff_by-moves (diff_fault success m.round asks) m n success asks

-- ---- the node's rows

-- the phase behind what was asked for has no more left
settled_left : (r : Role) (ids : List Hash32) (p : Phase) (m : Machine) → remaining_messages r (record m { phase = phase_after_fetch ids p }) ≤ remaining_messages r (record m { phase = p })
unfolding remaining_messages remaining_by_extensions remaining_at_barrier requested_extensions is_barrier phase_after_fetch
settled_left role.Accepter ids p m = lit≤ tt
settled_left role.Opener [] phase.Fetching m = lit≤ tt
settled_left role.Opener ids other m = le_refl _

spends : (r : Role) (s : NodeState) (m : Message) (t : Turn) (most : ℕ) → Says r t.out most → remaining_messages r t.state.machine + most ≤ remaining_messages r s.machine + owed_messages r m → t.state.ended ≡ s.ended → Spends r s m t
spends r s m t most h le e = record { rounds_weight = let said = h.rounds_weight in omega (arith, said, le); requests = h.requests; unpinged_invs = h.unpinged_invs; filled = h.filled; ends = inl e }

-- nothing is said, and as much is left
module _ (s : NodeState) (few : extensions_allowed s.machine ≤ 2) where
  silent : (r : Role) (m : Message) (t : Turn) → remaining_messages r t.state.machine ≤ remaining_messages r s.machine → t.out ≡ [] → Spends r s m t
  silent r m t le e =
      let none = subst (λ out. Says r out 0) (sym e) (says_none r) in
      record { rounds_weight = let said = none.rounds_weight in omega (arith, said, le); requests = none.requests; unpinged_invs = none.unpinged_invs; filled = none.filled; ends = inr e }

  after_move-spends : (m : Message) (row : Result Move End) → MovesOn (remaining_messages role.Opener s.machine) row → Spends role.Opener s m (after_move s row)
  after_move-spends m (Ok move) h = record { rounds_weight = let e = h.rounds_weight in omega (arith, e); requests = h.requests; unpinged_invs = h.unpinged_invs; filled = h.filled; ends = inl refl }
  after_move-spends m (Err e) h = silent role.Opener m (refusal s e) (le_refl _) refl

  after_response-spends : (m : Message) (set : List Member) (row : Result Response End) → owed_messages role.Accepter m ≡ 1 → RespondsOn 1 row → Spends role.Accepter s m (after_response s set row)
  after_response-spends m set (Ok r) one h = record { rounds_weight = let e = h.rounds_weight in omega (arith, e, one); requests = h.requests; unpinged_invs = h.unpinged_invs; filled = h.filled; ends = inl refl }
  after_response-spends m set (Err e) one h = silent role.Accepter m (refusal s e) (le_refl _) refl

  opener_row-spends : (r : Role) (plain : Bool) (n : Name) (m : Message) (row : Result Move End) → MovesOn (remaining_messages role.Opener s.machine) row → Spends r s m (opener_row r plain n s row)
  unfolding opener_row
  opener_row-spends role.Opener false n m row h = after_move-spends m row h
  opener_row-spends role.Opener true n m row h = silent role.Opener m (phase_refusal s n) (le_refl _) refl
  opener_row-spends role.Accepter plain n m row h = silent role.Accepter m (phase_refusal s n) (le_refl _) refl

  accepter_row-spends : (r : Role) (plain : Bool) (n : Name) (m : Message) (set : List Member) (row : Result Response End) → owed_messages role.Accepter m ≡ 1 → RespondsOn 1 row → Spends r s m (accepter_row r plain n s set row)
  unfolding accepter_row
  accepter_row-spends role.Accepter false n m set row one h = after_response-spends m set row one h
  accepter_row-spends role.Accepter true n m set row one h = silent role.Accepter m (phase_refusal s n) (le_refl _) refl
  accepter_row-spends role.Opener plain n m set row one h = silent role.Opener m (phase_refusal s n) (le_refl _) refl

  barrier_ends : (i : Initiator) (n : ℕ) → is_barrier_end i n ≡ true → remaining_messages role.Opener i.machine ≡ remaining_by_extensions (requested_extensions i.machine.phase) (extensions_allowed i.machine) + 1
  unfolding remaining_messages remaining_at_barrier
  barrier_ends i n e = ap (λ b. remaining_by_extensions (requested_extensions i.machine.phase) (extensions_allowed i.machine) + remaining_at_barrier b) (and_parts (is_barrier i.machine.phase) (n == i.requests.begun) e).0

  behind_left : (ids : List Hash32) (m : Machine) → remaining_messages role.Opener (record m { phase = phase_after_barrier ids }) ≡ 0
  unfolding remaining_messages remaining_by_extensions remaining_at_barrier requested_extensions is_barrier phase_after_barrier
  behind_left [] m = refl
  behind_left (id ∷ ids) m = refl

  pong_by-spends : (r : Role) (ends : Bool) (n : ℕ) → is_barrier_end (initiator_of s) n ≡ ends → Spends r s (message.Pong n) (pong_by r ends s)
  unfolding pong_by
  pong_by-spends role.Opener true n e =
      spends role.Opener s (message.Pong n) (pong_by role.Opener true s) 1 (says_getdata role.Opener s.wants.wanted)
      (let a = barrier_ends (initiator_of s) n e in let b = behind_left s.wants.wanted s.machine in omega (arith, a, b)) refl
  pong_by-spends role.Opener false n e = silent role.Opener (message.Pong n) (unchanged s) (le_refl _) refl
  pong_by-spends role.Accepter ends n e = silent role.Accepter (message.Pong n) (unchanged s) (le_refl _) refl

  inv_by-spends : (full : Bool) (r : Role) (es : List InvEntry) (set : List Member) (ids : List Hash32) → Spends r s (message.Inv es) (inv_by full r s set ids)
  unfolding inv_by owed_messages owed_for_inv
  inv_by-spends true r es set ids = silent r (message.Inv es) (inv_by true r s set ids) (le_refl _) refl
  inv_by-spends false role.Opener es set ids = silent role.Opener (message.Inv es) (inv_by false role.Opener s set ids) (le_refl _) refl
  inv_by-spends false role.Accepter es set ids = spends role.Accepter s (message.Inv es) (inv_by false role.Accepter s set ids) 1 (says_getdata role.Accepter ids) (le_refl _) refl

  came-spends : (r : Role) (tx : List ℕ) (asked pooled fits : Bool) (t : Transaction) → Spends r s (message.Tx tx) (transaction_by asked pooled fits s t)
  unfolding transaction_by
  came-spends r tx false pooled fits t = silent r (message.Tx tx) (transaction_by false pooled fits s t) (le_refl _) refl
  came-spends r tx true true fits t = silent r (message.Tx tx) (transaction_by true true fits s t) (settled_left r (without_id s.wants.asked t.id) s.machine.phase s.machine) refl
  came-spends r tx true false false t = silent r (message.Tx tx) (transaction_by true false false s t) (le_refl _) refl
  came-spends r tx true false true t = silent r (message.Tx tx) (transaction_by true false true s t) (settled_left r (without_id s.wants.asked t.id) s.machine.phase s.machine) refl

  getdata-mute : (es : List InvEntry) → Mute ((serving_of s es).sent ++ notfound_of (serving_of s es).missing)
  getdata-mute es = mute_append (serving_of s es).sent (notfound_of (serving_of s es).missing) (mute_serves s.pool (record { served = s.wants.served; sent = []; missing = [] }) es mute_none) (mute_notfound (serving_of s es).missing)

  pub relays-spends : (m : Message) → Spends s.config.role s m (in_relay s m)
  unfolding in_relay owed_messages
  relays-spends (message.Version v) = silent s.config.role (message.Version v) (handshake_refusal s name.Version) (le_refl _) refl
  relays-spends message.Verack = silent s.config.role message.Verack (handshake_refusal s name.Verack) (le_refl _) refl
  relays-spends message.WtxidRelay = silent s.config.role message.WtxidRelay (handshake_refusal s name.WtxidRelay) (le_refl _) refl
  relays-spends (message.SendTxRcncl version salt) = silent s.config.role (message.SendTxRcncl version salt) (handshake_refusal s name.SendTxRcncl) (le_refl _) refl
  relays-spends (message.ReqRecon size q) =
      accepter_row-spends s.config.role s.plain name.ReqRecon (message.ReqRecon size q) [] (accepter_reqrecon s.machine s.set size q) refl (reqrecon_by-moves (is_idle s.machine.phase) s.machine s.set size q)
  relays-spends (message.Sketch bytes) =
      opener_row-spends s.config.role s.plain name.Sketch (message.Sketch bytes) (opener_sketch (initiator_of s) s.set bytes)
      (sketch_by-moves (answer_to_sketch (requested_extensions s.machine.phase) s.machine s.set bytes) (requested_extensions s.machine.phase) (initiator_of s) s.set bytes few refl)
  relays-spends message.ReqSketchExt =
      accepter_row-spends s.config.role s.plain name.ReqSketchExt message.ReqSketchExt s.set (accepter_extension s.machine) refl (extension_after-moves (sent_extensions s.machine.phase) s.machine)
  relays-spends (message.ReconcilDiff success asks) =
      accepter_row-spends s.config.role s.plain name.ReconcilDiff (message.ReconcilDiff success asks) s.set (accepter_diff s.machine success asks) refl (diff_after-moves (sent_extensions s.machine.phase) s.machine success asks)
  relays-spends (message.Inv es) = inv_by-spends (nat_lt POOL_LIMIT (taken_room s + length (unknown_ids s es))) s.config.role es (without_announced s.set es) (unknown_ids s es)
  relays-spends (message.GetData es) = spends s.config.role s (message.GetData es) (in_relay s (message.GetData es)) 0 (says_mute s.config.role ((serving_of s es).sent ++ notfound_of (serving_of s es).missing) (getdata-mute es)) (le_refl _) refl
  relays-spends (message.NotFound es) = silent s.config.role (message.NotFound es) (in_relay s (message.NotFound es)) (settled_left s.config.role _ s.machine.phase s.machine) refl
  relays-spends (message.Tx tx) = came-spends s.config.role tx (is_listed s.wants.asked (transaction_of tx).id) (is_in_pool s.pool (transaction_of tx).id) (has_byte_room s.pool (transaction_of tx).bytes) (transaction_of tx)
  relays-spends (message.Ping n) = spends s.config.role s (message.Ping n) (in_relay s (message.Ping n)) 1 (says_pong s.config.role n) (le_refl _) refl
  relays-spends (message.Pong n) = pong_by-spends s.config.role (is_barrier_end (initiator_of s) n) n refl
  relays-spends (message.Other command payload) = silent s.config.role (message.Other command payload) (unchanged s) (le_refl _) refl

  -- ---- the handshake

  out_of_place-spends : (m : Message) (n : Option Name) → Spends s.config.role s m (on_unexpected s n)
  out_of_place-spends m (Some n) = silent s.config.role m (handshake_refusal s n) (le_refl _) refl
  out_of_place-spends m None = silent s.config.role m (unchanged s) (le_refl _) refl

  greeted_left : (r : Role) (m : Machine) → remaining_messages r (record m { phase = phase.Greeted }) ≡ 0
  unfolding remaining_messages remaining_by_extensions remaining_at_barrier requested_extensions is_barrier
  greeted_left role.Opener m = refl
  greeted_left role.Accepter m = refl

  idle_left : (r : Role) (m : Machine) → remaining_messages r (record m { phase = phase.Idle }) ≡ 0
  unfolding remaining_messages remaining_by_extensions remaining_at_barrier requested_extensions is_barrier
  idle_left role.Opener m = refl
  idle_left role.Accepter m = refl

  version_by-spends : (old shy : Bool) (v : VersionMsg) → Spends s.config.role s (message.Version v) (version_by old shy s v)
  unfolding version_by owed_messages
  version_by-spends true shy v = silent s.config.role (message.Version v) (version_by true shy s v) (le_refl _) refl
  version_by-spends false true v = silent s.config.role (message.Version v) (version_by false true s v) (le_refl _) refl
  version_by-spends false false v =
      spends s.config.role s (message.Version v) (version_by false false s v) 0 (says_reply s.config.role s.config.role s.config) (let e = greeted_left s.config.role s.machine in omega (arith, e)) refl

  in_greeting-spends : (m : Message) → Spends s.config.role s m (in_greeting s m)
  unfolding in_greeting
  in_greeting-spends (message.Version v) = version_by-spends (int_lt v.version (pos 70016)) (has_no_relay v.relay) v
  in_greeting-spends (message.Ping n) = silent s.config.role (message.Ping n) (unchanged s) (le_refl _) refl
  in_greeting-spends (message.Pong n) = silent s.config.role (message.Pong n) (unchanged s) (le_refl _) refl
  in_greeting-spends other = out_of_place-spends other (name_of other)

  offer_by-spends : (zero again : Bool) (version salt : ℕ) → Spends s.config.role s (message.SendTxRcncl version salt) (offer_by zero again s (record { version = version; salt = salt }))
  unfolding offer_by
  offer_by-spends true again version salt = silent s.config.role (message.SendTxRcncl version salt) (offer_by true again s (record { version = version; salt = salt })) (le_refl _) refl
  offer_by-spends false true version salt = silent s.config.role (message.SendTxRcncl version salt) (offer_by false true s (record { version = version; salt = salt })) (le_refl _) refl
  offer_by-spends false false version salt = silent s.config.role (message.SendTxRcncl version salt) (offer_by false false s (record { version = version; salt = salt })) (le_refl _) refl

  verack_by-spends : (noted : Bool) (offer : Option Offer) → (verack_by noted offer s).state.plain ≡ false → Spends s.config.role s message.Verack (verack_by noted offer s)
  unfolding verack_by
  verack_by-spends false offer whole = silent s.config.role message.Verack (verack_by false offer s) (le_refl _) refl
  verack_by-spends true None whole = absurd (let apart : true ≡ false = whole in cc)
  verack_by-spends true (Some offer) whole = silent s.config.role message.Verack (verack_by true (Some offer) s) (let e = idle_left s.config.role (record s.machine { level = level_of s.config.top (Some offer) }) in omega (arith, e)) refl

  in_greeted-spends : (m : Message) → (in_greeted s m).state.plain ≡ false → Spends s.config.role s m (in_greeted s m)
  unfolding in_greeted
  in_greeted-spends message.WtxidRelay whole = silent s.config.role message.WtxidRelay (in_greeted s message.WtxidRelay) (le_refl _) refl
  in_greeted-spends (message.SendTxRcncl version salt) whole = offer_by-spends (version == 0) (is_some s.peer.offer) version salt
  in_greeted-spends message.Verack whole = verack_by-spends s.peer.relays_by_id s.peer.offer whole
  in_greeted-spends (message.Ping n) whole = silent s.config.role (message.Ping n) (unchanged s) (le_refl _) refl
  in_greeted-spends (message.Pong n) whole = silent s.config.role (message.Pong n) (unchanged s) (le_refl _) refl
  in_greeted-spends other whole = out_of_place-spends other (name_of other)

  in_its_phase-spends : (p : Phase) (m : Message) → (in_phase p s m).state.plain ≡ false → Spends s.config.role s m (in_phase p s m)
  unfolding in_phase
  in_its_phase-spends phase.Greeting m whole = in_greeting-spends m
  in_its_phase-spends phase.Greeted m whole = in_greeted-spends m whole
  in_its_phase-spends other m whole = relays-spends m

  pub takes-spends : (m : Message) → (on_message s m).state.plain ≡ false → Spends s.config.role s m (on_message s m)
  takes-spends m whole = in_its_phase-spends s.machine.phase m whole
