-- Announcements to the opener come before its pong: kept by every step of a pair.
use Rattle.std.proofs.Common.{◌≡◌, ◌⊎◌, inl, inr, ℕ, zero, suc, ◌+◌, nat_lt, length, is_some, Bool, true, false, List, [], ◌∷◌, ◌++◌, Option, Some, None, refl, sym, ap, ◌∙◌, subst, append-nil, ◌≤◌}
use Rattle.std.specs.List.{AllByRecursion}
use Rattle.std.proofs.lemmas.Bool.{both_ways}
use Rattle.base_types.specs.declared.lists.Hash32.{Hash32}
use Rattle.wire_rules.specs.declared.message.InvEntry.{InvEntry}
use Rattle.wire_rules.specs.declared.message.Message.{Message}
use Rattle.wire_rules.specs.declared.message.Message.TheVariants as message
use Rattle.wire_rules.specs.declared.phase.Phase.{Phase}
use Rattle.wire_rules.specs.declared.phase.Phase.TheVariants as phase
use Rattle.pool_rules.specs.Pools.{Transaction, transaction_of, is_listed, is_in_pool, has_byte_room, without_id}
use Rattle.pool_rules.specs.Snapshots.{Member}
use Rattle.pool_rules.specs.declared.limits.TheConstants.{POOL_LIMIT}
use Rattle.node_rules.specs.Additions.{on_addition, is_full}
use Rattle.node_rules.specs.Inventory.{wtxids_of, unknown_ids, new_ids, is_known, without_announced, inv_by, transaction_by, on_tx, on_getdata}
use Rattle.node_rules.specs.Barrier.{is_barrier_end}
use Rattle.node_rules.specs.Opener.{sketch_by, length_fault, after_sketch, answer_to_sketch, on_decoding, on_no_answer, has_extension_left, round_after_sketch, remaining_set}
use Rattle.node_rules.specs.Opener.{value_or_fault}
use Rattle.node_rules.specs.Stages.{waiting_phase, requested_extensions, is_idle}
use Rattle.node_rules.specs.Barrier.{is_barrier, phase_after_fetch, phase_after_barrier}
use Rattle.node_rules.specs.State.{Initiator, initiator_of, NodeState, Round, taken_room, extensions_allowed}
use Rattle.node_rules.specs.Steps.{on_message, in_relay, round_by, on_start_by}
use Rattle.node_rules.specs.Barrier.{pong_by}
use Rattle.node_rules.specs.Turns.{Move, Turn, unchanged, after_move}
use Rattle.node_rules.specs.declared.config.Role.{Role}
use Rattle.node_rules.specs.declared.config.Role.TheVariants as role
use Rattle.node_rules.specs.declared.end.End.{End}
use Rattle.pair_invariant_rules.specs.Announcements.{AreAnnouncements}
use Rattle.node_rules.specs.Invariant.{is_fetching}
use Rattle.pair_invariant_rules.specs.Pairs.{Pair, after_a, after_message_a, after_message_b, after_addition_a, after_addition_b, after_start_a}
use Rattle.pair_invariant_rules.specs.Handshake.{Past, stage_of, HasHandshake}
use Rattle.pair_invariant_rules.specs.Rounds.{RoundCase, Sketched, Ponged, HasRound, IsInCase, IsOpenerIn, round_messages_to_a, portion}
use Rattle.pair_invariant_rules.specs.Topics.{messages_of_rounds, topic_of, is_round}
use Rattle.pair_invariant_rules.specs.Wants.{announced_ids_of, announced_ids, entry_ids, IsTxEntry}
use Rattle.pair_invariant_laws.proofs.Idling.{PhaseStep, Same, Onwards, loose, lands, Idles}
use Rattle.pair_invariant_laws.proofs.Known.{Known}
use Rattle.pair_invariant_laws.proofs.PlainTalk.{relays_past}
use Rattle.pair_invariant_laws.proofs.Roundings.{is_first, front_round}
use Rattle.pair_invariant_rules.specs.Wants.{HasTxEntries, AreMutualWants}
use Rattle.node_rules.specs.Invariant.{IsSetUp}
use Rattle.node_rules.specs.Invariant.{IsWanting}
use Rattle.pool_rules.specs.Pools.{IsTransaction}
use Rattle.node_rules.specs.Barrier.{with_wants_requested}
use Rattle.pair_invariant_rules.specs.Announcements.{behind_round}
use Rattle.pair_invariant_laws.proofs.Announced.{Tells, announcing_b, announcing_a, behind_tail, behind_head, nothing_left, nothing_first}
use Rattle.pair_invariant_laws.proofs.AnnouncedSteps.{is_telling, takes-silent, diff_tells, no_sketch_to_b}
use Rattle.pair_invariant_laws.proofs.Boths.{inv_by-asks, came-comes, added_by-adds}
use Rattle.pair_invariant_laws.proofs.Idling.{takes-idles}
use Rattle.pair_invariant_laws.proofs.Known.{known_a}
use Rattle.pair_invariant_laws.proofs.PlainTalk.{waiting_past}
use Rattle.pair_invariant_laws.proofs.RoundRows.{sketch_row, pong_row}
use Rattle.node_rules.specs.Turns.{turn_with, getdata_of}
use Rattle.pair_invariant_laws.proofs.Saying.{Apart, announced_append, takes-apart}
use Rattle.pair_invariant_rules.specs.Wants.{is_about_wants}
use Rattle.pair_invariant_laws.proofs.Served.{all_served, out_is}
use Rattle.pair_invariant_laws.proofs.Shaking.{Quiet, adds-quiet}
use Rattle.pair_invariant_laws.proofs.Wanted.{announced_all}

-- ---- the accepter

wanted_inv : (full : Bool) (s : NodeState) (set : List Member) (ids : List Hash32) → (inv_by full role.Accepter s set ids).state.wants.wanted ≡ s.wants.wanted
unfolding inv_by
wanted_inv true s set ids = refl
wanted_inv false s set ids = refl

wanted_came : (asked pooled fits : Bool) (s : NodeState) (t : Transaction) → (transaction_by asked pooled fits s t).state.wants.wanted ≡ s.wants.wanted
unfolding transaction_by
wanted_came false pooled fits s t = refl
wanted_came true true fits s t = refl
wanted_came true false false s t = refl
wanted_came true false true s t = refl

module _ (p : Pair) (ms : List Message) (past : stage_of p.b.machine.phase ≡ Past) (accepter : p.b.config.role ≡ role.Accepter) (a : AreAnnouncements p) where
  tells_as : (m : Message) (t : Turn) → in_relay p.b m ≡ t → t.state.wants.wanted ≡ p.b.wants.wanted → announced_ids t.out ≡ [] → Tells p (on_message p.b m)
  tells_as m t e wanted silent = subst (Tells p) (sym (relays_past p.b.machine.phase p.b m past ∙ e)) (record { wanted = wanted ∙ a.accepter; silent = inl silent })

  tells_inv : (es : List InvEntry) → Tells p (on_message p.b (message.Inv es))
  unfolding in_relay
  tells_inv es =
      let full : Bool = nat_lt POOL_LIMIT (taken_room p.b + length (unknown_ids p.b es)) in
      let t : Turn = inv_by full p.b.config.role p.b (without_announced p.b.set es) (unknown_ids p.b es) in
      tells_as (message.Inv es) t refl
      (ap (λ r. (inv_by full r p.b (without_announced p.b.set es) (unknown_ids p.b es)).state.wants.wanted) accepter ∙ wanted_inv full p.b (without_announced p.b.set es) (unknown_ids p.b es))
      (inv_by-asks full p.b.config.role p.b (without_announced p.b.set es) (unknown_ids p.b es)).announces

  tells_tx : (tx : List ℕ) → Tells p (on_message p.b (message.Tx tx))
  unfolding in_relay
  tells_tx tx =
      let t : Transaction = transaction_of tx in
      tells_as (message.Tx tx) (on_tx p.b tx) refl (wanted_came (is_listed p.b.wants.asked t.id) (is_in_pool p.b.pool t.id) (has_byte_room p.b.pool t.bytes) p.b t)
      (ap announced_ids (came-comes (is_listed p.b.wants.asked t.id) (is_in_pool p.b.pool t.id) (has_byte_room p.b.pool t.bytes) p.b t).out)

  pong_passes : (r : Role) (ends : Bool) → r ≡ role.Accepter → pong_by r ends p.b ≡ unchanged p.b
  unfolding pong_by
  pong_passes role.Accepter ends e = refl
  pong_passes role.Opener ends e = absurd (cc)

  tells_pong : (n : ℕ) → Tells p (on_message p.b (message.Pong n))
  unfolding in_relay
  tells_pong n = tells_as (message.Pong n) (unchanged p.b) (pong_passes p.b.config.role (is_barrier_end (initiator_of p.b) n) accepter) refl refl

  tells_getdata : (es : List InvEntry) → announced_ids (on_getdata p.b es).out ≡ [] → Tells p (on_message p.b (message.GetData es))
  unfolding in_relay
  tells_getdata es silent = tells_as (message.GetData es) (on_getdata p.b es) refl refl silent

tells_special : (p : Pair) (m : Message) (ms : List Message) → p.b.config.role ≡ role.Accepter → IsWanting p.a → AllByRecursion IsTransaction p.b.pool → AreMutualWants p.b p.a (m ∷ ms) p.to_a → stage_of p.b.machine.phase ≡ Past → AreAnnouncements p
    → is_about_wants m ≡ true → Tells p (on_message p.b m)
unfolding is_about_wants HasTxEntries
tells_special p (message.Inv es) ms accepter theirs each both past a h = tells_inv p ms past accepter a es
tells_special p (message.GetData es) ms accepter theirs each both past a h =
    let kinds : AllByRecursion IsTxEntry es = both.mine.honest.0.honest in
    tells_getdata p ms past accepter a es (ap announced_ids (out_is p.a p.b p.to_a ms es both.theirs theirs each kinds) ∙ (all_served p.a p.b p.to_a ms es both.theirs theirs each kinds).announces)
tells_special p (message.NotFound es) ms accepter theirs each both past a h = absurd (both.mine.honest.0.honest)
tells_special p (message.Tx tx) ms accepter theirs each both past a h = tells_tx p ms past accepter a tx
tells_special p (message.Pong n) ms accepter theirs each both past a h = tells_pong p ms past accepter a n
tells_special p _ ms accepter theirs each both past a h = absurd (let apart : false ≡ true = h in cc)

tells_telling : (p : Pair) (m : Message) (ms : List Message) → p.b.config.role ≡ role.Accepter → IsSetUp p.b → extensions_allowed p.a.machine ≤ 2 → p.to_b ≡ m ∷ ms → HasRound p → Known p.b p.a → AreAnnouncements p → is_about_wants m ≡ false → is_telling m ≡ true → Tells p (on_message p.b m)
unfolding is_telling
tells_telling p (message.Sketch bytes) ms accepter set most e r known a off h = absurd (no_sketch_to_b p bytes ms r e)
tells_telling p (message.ReconcilDiff success asks) ms accepter set most e r known a off h = record {
  wanted = ap (λ w. w.wanted) (takes-apart p.b set (message.ReconcilDiff success asks) off).wants ∙ a.accepter;
  silent = inr (diff_tells p success asks ms most r known accepter e);
}
tells_telling p _ ms accepter set most e r known a off h = absurd (let apart : false ≡ true = h in cc)

tells_by : (special telling : Bool) (p : Pair) (m : Message) (ms : List Message) → is_about_wants m ≡ special → is_telling m ≡ telling → p.b.config.role ≡ role.Accepter → IsSetUp p.b → extensions_allowed p.a.machine ≤ 2 → IsWanting p.a → AllByRecursion IsTransaction p.b.pool
    → p.to_b ≡ m ∷ ms → AreMutualWants p.b p.a p.to_b p.to_a → HasRound p → ((is_about_wants m ≡ true) ⊎ (is_telling m ≡ true) → Known p.b p.a) → (on_message p.b m).state.plain ≡ false → AreAnnouncements p → Tells p (on_message p.b m)
tells_by true telling p m ms special tell accepter set most theirs each e both r known plain a =
    tells_special p m ms accepter theirs each (subst (λ xs. AreMutualWants p.b p.a xs p.to_a) e both) (known (inl special)).stage a special
tells_by false true p m ms off tell accepter set most theirs each e both r known plain a = tells_telling p m ms accepter set most e r (known (inr tell)) a off tell
tells_by false false p m ms off quiet accepter set most theirs each e both r known plain a =
    record { wanted = ap (λ w. w.wanted) (takes-apart p.b set m off).wants ∙ a.accepter; silent = inl (takes-silent p.b m off quiet plain) }

pub announcing-by_b : (p : Pair) (m : Message) (ms : List Message) → p.b.config.role ≡ role.Accepter → IsSetUp p.b → extensions_allowed p.a.machine ≤ 2 → IsWanting p.a → AllByRecursion IsTransaction p.b.pool
    → p.to_b ≡ m ∷ ms → AreMutualWants p.b p.a p.to_b p.to_a → HasRound p → ((is_about_wants m ≡ true) ⊎ (is_telling m ≡ true) → Known p.b p.a) → (on_message p.b m).state.plain ≡ false → AreAnnouncements p → AreAnnouncements (after_message_b p m ms)
announcing-by_b p m ms accepter set most theirs each e both r known plain a =
    announcing_b p (on_message p.b m) ms (tells_by (is_about_wants m) (is_telling m) p m ms refl refl accepter set most theirs each e both r known plain a) a

-- ---- the opener: phases

barrier_back : (p q : Phase) → PhaseStep p q → is_barrier q ≡ false → is_barrier p ≡ false
unfolding is_barrier loose
barrier_back p q (Same e) h = sym (ap is_barrier e) ∙ h
barrier_back phase.Greeting q (Onwards l k) h = refl
barrier_back phase.Greeted q (Onwards l k) h = refl
barrier_back phase.Fetching q (Onwards l k) h = refl
barrier_back _ q (Onwards l k) h = absurd (cc)

fetching_back : (p q : Phase) → PhaseStep p q → is_fetching q ≡ true → is_fetching p ≡ true
unfolding is_fetching lands
fetching_back p q (Same e) h = sym (ap is_fetching e) ∙ h
fetching_back p phase.Fetching (Onwards l k) h = absurd (cc)
fetching_back p _ (Onwards l k) h = absurd (let apart : false ≡ true = h in cc)

settled_fetching : (ids : List Hash32) (p : Phase) → is_fetching (phase_after_fetch ids p) ≡ true → ids ≡ [] → ⊥
unfolding is_fetching phase_after_fetch
settled_fetching (id ∷ ids) p h e = cc
settled_fetching [] phase.Fetching h e = let apart : false ≡ true = h in cc
settled_fetching [] _ h e = let apart : false ≡ true = h in cc

behind_fetching : (wanted asked : List Hash32) → is_fetching (phase_after_barrier wanted) ≡ true → asked ++ wanted ≡ [] → ⊥
unfolding is_fetching phase_after_barrier
behind_fetching [] asked h e = let apart : false ≡ true = h in cc
behind_fetching (id ∷ ids) [] h e = cc
behind_fetching (id ∷ ids) (x ∷ xs) h e = cc

-- a step in a phase that a message about no round may lead to
announcing_still : (p : Pair) (m : Message) (ms : List Message) (t : Turn) → p.to_a ≡ m ∷ ms → PhaseStep p.a.machine.phase t.state.machine.phase
    → (is_barrier p.a.machine.phase ≡ false → t.state.wants.wanted ≡ []) → (is_fetching t.state.machine.phase ≡ true → t.state.wants.asked ≡ [] → ⊥) → AreAnnouncements p → AreAnnouncements (after_a p t ms)
announcing_still p m ms t e step wanted fetching a =
    announcing_a p t ms (behind_tail (is_round (topic_of m)) m ms refl (sym (ap (λ xs. announced_ids (behind_round xs)) e) ∙ a.behind))
    (λ off. nothing_left (announced_ids_of m) (announced_ids ms) (sym (ap announced_ids e) ∙ a.silent (barrier_back p.a.machine.phase t.state.machine.phase step off)))
    (λ off. wanted (barrier_back p.a.machine.phase t.state.machine.phase step off)) fetching a

-- wants that stay, in such a phase
fetching_same : (p : Pair) (t : Turn) → AreAnnouncements p → PhaseStep p.a.machine.phase t.state.machine.phase → t.state.wants.asked ≡ p.a.wants.asked → is_fetching t.state.machine.phase ≡ true → t.state.wants.asked ≡ [] → ⊥
fetching_same p t a step asked fetch none = a.fetching (fetching_back p.a.machine.phase t.state.machine.phase step fetch) (sym asked ∙ none)

-- no unknown ids is no more to want
no_news : (known : Hash32 → Bool) (ids : List Hash32) → ids ≡ [] → new_ids known ids ≡ []
unfolding new_ids
no_news known [] e = refl
no_news known (x ∷ xs) e = absurd (let apart : x ∷ xs ≡ [] = e in cc)

-- ---- the opener: messages about wants

record Keeps (s : NodeState) (t : Turn) (more : List Hash32) : Type 0 where
  pub phase : t.state.machine.phase ≡ s.machine.phase
  pub asked : t.state.wants.asked ≡ s.wants.asked
  pub wanted : (more ≡ []) → t.state.wants.wanted ≡ s.wants.wanted

opener_inv_by : (full : Bool) (s : NodeState) (set : List Member) (ids : List Hash32) → Keeps s (inv_by full role.Opener s set ids) ids
unfolding inv_by
opener_inv_by true s set ids = record { phase = refl; asked = refl; wanted = λ e. refl }
opener_inv_by false s set ids = record { phase = refl; asked = refl; wanted = λ e. ap (λ xs. s.wants.wanted ++ xs) e ∙ append-nil s.wants.wanted }

record Fetched (s : NodeState) (t : Turn) : Type 0 where
  pub step : PhaseStep s.machine.phase t.state.machine.phase
  pub wanted : t.state.wants.wanted ≡ s.wants.wanted
  pub fetching : is_fetching t.state.machine.phase ≡ true → t.state.wants.asked ≡ [] → ⊥

settled_step : (ids : List Hash32) (p : Phase) → PhaseStep p (phase_after_fetch ids p)
unfolding phase_after_fetch loose lands
settled_step [] phase.Fetching = Onwards refl refl
settled_step ids other = Same refl

opener_came : (asked pooled fits : Bool) (s : NodeState) (t : Transaction) → (is_fetching s.machine.phase ≡ true → s.wants.asked ≡ [] → ⊥) → Fetched s (transaction_by asked pooled fits s t)
unfolding transaction_by
opener_came false pooled fits s t f = record { step = Same refl; wanted = refl; fetching = f }
opener_came true true fits s t f = record { step = settled_step (without_id s.wants.asked t.id) s.machine.phase; wanted = refl; fetching = settled_fetching (without_id s.wants.asked t.id) s.machine.phase }
opener_came true false false s t f = record { step = Same refl; wanted = refl; fetching = f }
opener_came true false true s t f = record { step = settled_step (without_id s.wants.asked t.id) s.machine.phase; wanted = refl; fetching = settled_fetching (without_id s.wants.asked t.id) s.machine.phase }

module _ (p : Pair) (ms : List Message) (past : stage_of p.a.machine.phase ≡ Past) (opener : p.a.config.role ≡ role.Opener) (a : AreAnnouncements p) where
  abbrev Goes : Message → Type 0
  Goes m = p.to_a ≡ m ∷ ms → AreAnnouncements (after_message_a p m ms)

  as_row : (m : Message) (t : Turn) → in_relay p.a m ≡ t → AreAnnouncements (after_a p t ms) → AreAnnouncements (after_message_a p m ms)
  as_row m t e h = subst (λ u. AreAnnouncements (after_a p u ms)) (sym (relays_past p.a.machine.phase p.a m past ∙ e)) h

  opener_inv : (es : List InvEntry) → AllByRecursion IsTxEntry es → Goes (message.Inv es)
  unfolding in_relay announced_ids_of
  opener_inv es kinds e =
      let full : Bool = nat_lt POOL_LIMIT (taken_room p.a + length (unknown_ids p.a es)) in
      let set : List Member = without_announced p.a.set es in
      let t : Turn = inv_by full role.Opener p.a set (unknown_ids p.a es) in
      let k : Keeps p.a t (unknown_ids p.a es) = opener_inv_by full p.a set (unknown_ids p.a es) in
      as_row (message.Inv es) t (ap (λ r. inv_by full r p.a set (unknown_ids p.a es)) opener)
      (announcing_still p (message.Inv es) ms t e (Same k.phase)
      (λ off. k.wanted (no_news (is_known p.a) (wtxids_of es) (announced_all es kinds ∙ nothing_first (entry_ids es) (announced_ids ms) (sym (ap announced_ids e) ∙ a.silent off))) ∙ a.unwanted off)
      (fetching_same p t a (Same k.phase) k.asked) a)

  opener_tx : (tx : List ℕ) → Goes (message.Tx tx)
  unfolding in_relay
  opener_tx tx e =
      let x : Transaction = transaction_of tx in
      let f : Fetched p.a (on_tx p.a tx) = opener_came (is_listed p.a.wants.asked x.id) (is_in_pool p.a.pool x.id) (has_byte_room p.a.pool x.bytes) p.a x a.fetching in
      as_row (message.Tx tx) (on_tx p.a tx) refl (announcing_still p (message.Tx tx) ms (on_tx p.a tx) e f.step (λ off. f.wanted ∙ a.unwanted off) f.fetching a)

  opener_getdata : (es : List InvEntry) → Goes (message.GetData es)
  unfolding in_relay
  opener_getdata es e = as_row (message.GetData es) (on_getdata p.a es) refl (announcing_still p (message.GetData es) ms (on_getdata p.a es) e (Same refl) a.unwanted a.fetching a)

-- a message that is neither about rounds nor about wants
other_message : (p : Pair) (ms : List Message) → AreAnnouncements p → (m : Message) → IsSetUp p.a → is_about_wants m ≡ false → is_round (topic_of m) ≡ false → p.to_a ≡ m ∷ ms → AreAnnouncements (after_message_a p m ms)
other_message p ms a m set off calm e =
    let i : Idles p.a (on_message p.a m) = takes-idles p.a m calm in
    let w : Apart p.a (on_message p.a m) = takes-apart p.a set m off in
    announcing_still p m ms (on_message p.a m) e i.phase (λ busy. ap (λ x. x.wanted) w.wants ∙ a.unwanted busy) (fetching_same p (on_message p.a m) a i.phase (ap (λ x. x.asked) w.wants)) a

-- ---- the opener: messages about rounds

unanswered_busy : (may : Bool) (i : Initiator) (r : Round) (n : ℕ) (set : List Member) → is_fetching (on_no_answer may i r n set).initiator.machine.phase ≡ false
unfolding on_no_answer is_fetching waiting_phase
unanswered_busy true m r zero set = refl
unanswered_busy true m r (suc n) set = refl
unanswered_busy false m r n set = refl

decided_busy : (answer : Option (List ℕ)) (i : Initiator) (r : Round) (n : ℕ) (set : List Member) → is_fetching (on_decoding answer i r n set).initiator.machine.phase ≡ false
unfolding on_decoding is_fetching
decided_busy (Some es) i r n set = refl
decided_busy None i r n set = unanswered_busy (has_extension_left i.machine r n) i r n set

unless_busy : (f : Option End) (s : NodeState) (m : Move) → is_fetching s.machine.phase ≡ false → is_fetching m.initiator.machine.phase ≡ false → is_fetching (after_move s (value_or_fault f m)).state.machine.phase ≡ false
unless_busy None s m h k = k
unless_busy (Some e) s m h k = h

sketch_by_busy : (answer : Option (List ℕ)) (n : Option ℕ) (s : NodeState) (bytes : List ℕ) → is_fetching s.machine.phase ≡ false → is_fetching (after_move s (sketch_by answer n (initiator_of s) s.set bytes)).state.machine.phase ≡ false
unfolding sketch_by
sketch_by_busy answer None s bytes h = h
sketch_by_busy answer (Some n) s bytes h =
    unless_busy (length_fault s.machine n (length bytes)) s (after_sketch answer (initiator_of s) s.set n bytes) h (decided_busy answer (initiator_of s) (round_after_sketch s.machine s.set n bytes) n (remaining_set n s.set))

waiting_apart : (n : ℕ) → (is_fetching (waiting_phase n) ≡ false) × (is_barrier (waiting_phase n) ≡ false)
unfolding is_fetching is_barrier waiting_phase
waiting_apart zero = (refl, refl)
waiting_apart (suc zero) = (refl, refl)
waiting_apart (suc (suc n)) = (refl, refl)

opener_sketch_step : (p : Pair) (ms : List Message) (n : ℕ) (bytes : List ℕ) → HasHandshake p → p.a.config.role ≡ role.Opener → IsSetUp p.a → p.a.machine.phase ≡ waiting_phase n → p.to_a ≡ message.Sketch bytes ∷ ms → AreAnnouncements p
    → AreAnnouncements (after_message_a p (message.Sketch bytes) ms)
unfolding topic_of is_round is_about_wants
opener_sketch_step p ms n bytes handshake opener set at e a =
    let t : Turn = on_message p.a (message.Sketch bytes) in
    let known = known_a p handshake (ap stage_of at ∙ waiting_past n) in
    let wants = (takes-apart p.a set (message.Sketch bytes) refl).wants in
    let behind : announced_ids (behind_round (message.Sketch bytes ∷ ms)) ≡ [] = sym (ap (λ xs. announced_ids (behind_round xs)) e) ∙ a.behind in
    let busy : is_fetching t.state.machine.phase ≡ false =
    ap (λ u. is_fetching u.state.machine.phase) (sketch_row p.a bytes known.stage opener known.whole) ∙ sketch_by_busy (answer_to_sketch (requested_extensions p.a.machine.phase) p.a.machine p.a.set bytes) (requested_extensions p.a.machine.phase) p.a bytes (ap is_fetching at ∙ (waiting_apart n).0) in
    announcing_a p t ms (behind_tail true (message.Sketch bytes) ms refl behind) (λ off. behind_head (message.Sketch bytes) ms refl behind)
    (λ off. ap (λ w. w.wanted) wants ∙ a.unwanted (ap is_barrier at ∙ (waiting_apart n).1)) (λ fetch none. both_ways (is_fetching t.state.machine.phase) busy fetch) a

opener_pong_step : (p : Pair) (ms : List Message) → HasHandshake p → p.a.config.role ≡ role.Opener → p.a.machine.phase ≡ phase.Barrier → stage_of phase.Barrier ≡ Past → p.to_a ≡ message.Pong p.a.requests.begun ∷ ms → AreAnnouncements p
    → AreAnnouncements (after_message_a p (message.Pong p.a.requests.begun) ms)
unfolding topic_of is_round
opener_pong_step p ms handshake opener at past e a =
    let known = known_a p handshake (ap stage_of at ∙ past) in
    let behind : announced_ids (behind_round (message.Pong p.a.requests.begun ∷ ms)) ≡ [] = sym (ap (λ xs. announced_ids (behind_round xs)) e) ∙ a.behind in
    subst (λ t. AreAnnouncements (after_a p t ms)) (sym (pong_row p.a known.stage opener at))
    (announcing_a p (turn_with (with_wants_requested p.a) (getdata_of p.a.wants.wanted)) ms (behind_tail true (message.Pong p.a.requests.begun) ms refl behind) (λ off. behind_head (message.Pong p.a.requests.begun) ms refl behind)
    (λ off. refl) (behind_fetching p.a.wants.wanted p.a.wants.asked) a)

barrier_past : stage_of phase.Barrier ≡ Past
unfolding stage_of
barrier_past = refl

abbrev GoesOn : Pair → List Message → Message → Type 0
GoesOn p ms m = p.to_a ≡ m ∷ ms → AreAnnouncements (after_message_a p m ms)

opener_round : (c : RoundCase) (p : Pair) (m : Message) (ms : List Message) → IsInCase c p → HasHandshake p → p.a.config.role ≡ role.Opener → IsSetUp p.a → AreAnnouncements p
    → m ∷ messages_of_rounds ms ≡ round_messages_to_a c p.a.requests.begun p.b.machine.round → GoesOn p ms m
unfolding round_messages_to_a IsOpenerIn
opener_round (Sketched n) p m ms s handshake opener set a e =
    let f = is_first m (message.Sketch (portion p.b.machine.round n)) (messages_of_rounds ms) [] e in
    subst (GoesOn p ms) (sym f.0) (λ front. opener_sketch_step p ms n (portion p.b.machine.round n) handshake opener set s.opener front a)
opener_round Ponged p m ms s handshake opener set a e =
    let f = is_first m (message.Pong p.a.requests.begun) (messages_of_rounds ms) [] e in
    subst (GoesOn p ms) (sym f.0) (λ front. opener_pong_step p ms handshake opener s.opener barrier_past front a)
opener_round _ p m ms s handshake opener set a e = absurd (let apart : m ∷ messages_of_rounds ms ≡ [] = e in cc)

opener_calm : (p : Pair) (m : Message) (ms : List Message) → (is_about_wants m ≡ true → stage_of p.a.machine.phase ≡ Past) → p.a.config.role ≡ role.Opener → IsSetUp p.a → AreMutualWants p.a p.b (m ∷ ms) p.to_b → AreAnnouncements p
    → is_round (topic_of m) ≡ false → GoesOn p ms m
unfolding is_about_wants topic_of is_round HasTxEntries
opener_calm p (message.Inv es) ms past opener set both a calm = opener_inv p ms (past refl) opener a es (both.mine.honest.0.honest)
opener_calm p (message.GetData es) ms past opener set both a calm = opener_getdata p ms (past refl) opener a es
opener_calm p (message.NotFound es) ms past opener set both a calm = absurd (both.mine.honest.0.honest)
opener_calm p (message.Tx tx) ms past opener set both a calm = opener_tx p ms (past refl) opener a tx
opener_calm p (message.Pong n) ms past opener set both a calm = absurd (let apart : true ≡ false = calm in cc)
opener_calm p (message.Version v) ms past opener set both a calm = other_message p ms a (message.Version v) set refl calm
opener_calm p message.Verack ms past opener set both a calm = other_message p ms a message.Verack set refl calm
opener_calm p message.WtxidRelay ms past opener set both a calm = other_message p ms a message.WtxidRelay set refl calm
opener_calm p (message.SendTxRcncl version salt) ms past opener set both a calm = other_message p ms a (message.SendTxRcncl version salt) set refl calm
opener_calm p (message.Other command payload) ms past opener set both a calm = other_message p ms a (message.Other command payload) set refl calm
opener_calm p _ ms past opener set both a calm = absurd (let apart : true ≡ false = calm in cc)

announced_topic : (t : Bool) (p : Pair) (m : Message) (ms : List Message) → is_round (topic_of m) ≡ t → (is_about_wants m ≡ true → stage_of p.a.machine.phase ≡ Past) → HasHandshake p → p.a.config.role ≡ role.Opener → IsSetUp p.a
    → p.to_a ≡ m ∷ ms → AreMutualWants p.a p.b p.to_a p.to_b → HasRound p → AreAnnouncements p → AreAnnouncements (after_message_a p m ms)
announced_topic true p m ms h past handshake opener set e both r a = opener_round r.case p m ms r.position handshake opener set a (sym (front_round m ms h) ∙ (ap messages_of_rounds (sym e) ∙ r.position.to_a)) e
announced_topic false p m ms h past handshake opener set e both r a = opener_calm p m ms past opener set (subst (λ xs. AreMutualWants p.a p.b xs p.to_b) e both) a h e

pub announcing-by_a : (p : Pair) (m : Message) (ms : List Message) → (is_about_wants m ≡ true → stage_of p.a.machine.phase ≡ Past) → HasHandshake p → p.a.config.role ≡ role.Opener → IsSetUp p.a
    → p.to_a ≡ m ∷ ms → AreMutualWants p.a p.b p.to_a p.to_b → HasRound p → AreAnnouncements p → AreAnnouncements (after_message_a p m ms)
announcing-by_a p m ms past handshake opener set e both r a = announced_topic (is_round (topic_of m)) p m ms refl past handshake opener set e both r a

-- ---- additions, and the start of a round

none_more : (xs ys : List Message) → announced_ids ys ≡ [] → announced_ids (xs ++ ys) ≡ announced_ids xs
none_more xs ys e = announced_append xs ys ∙ ap (λ u. announced_ids xs ++ u) e ∙ append-nil (announced_ids xs)

only_nothing : (xs : List Hash32) → AllByRecursion (λ id. ⊥) xs → xs ≡ []
only_nothing [] h = refl
only_nothing (x ∷ xs) h = absurd h.0

nothing_only : (xs : List Hash32) → xs ≡ [] → AllByRecursion (λ id. ⊥) xs
nothing_only xs e = subst (AllByRecursion (λ id. ⊥)) (sym e) tt

adds_none : (s : NodeState) (tx : List ℕ) → s.wants.wanted ≡ [] → (on_addition s tx).turn.state.wants.wanted ≡ []
adds_none s tx e = only_nothing (on_addition s tx).turn.state.wants.wanted ((added_by-adds (λ id. ⊥) (is_some s.ended) (is_in_pool s.pool (transaction_of tx).id) (is_full s (transaction_of tx)) s (transaction_of tx)).wanted (nothing_only s.wants.wanted e))

pub announcing-adds_a : (p : Pair) (tx : List ℕ) → p.a.plain ≡ false → AreAnnouncements p → AreAnnouncements (after_addition_a p tx)
announcing-adds_a p tx plain a =
    let t : Turn = (on_addition p.a tx).turn in
    let q : Quiet p.a t = adds-quiet p.a tx plain in
    let asked : t.state.wants.asked ≡ p.a.wants.asked = (added_by-adds (λ id. ⊥) (is_some p.a.ended) (is_in_pool p.a.pool (transaction_of tx).id) (is_full p.a (transaction_of tx)) p.a (transaction_of tx)).asked in
    announcing_a p t p.to_a a.behind (λ off. a.silent (sym (ap is_barrier q.phase) ∙ off)) (λ off. adds_none p.a tx (a.unwanted (sym (ap is_barrier q.phase) ∙ off)))
    (λ fetch none. a.fetching (sym (ap is_fetching q.phase) ∙ fetch) (sym asked ∙ none)) a

pub announcing-adds_b : (p : Pair) (tx : List ℕ) → p.b.plain ≡ false → AreAnnouncements p → AreAnnouncements (after_addition_b p tx)
announcing-adds_b p tx plain a =
    let q : Quiet p.b (on_addition p.b tx).turn = adds-quiet p.b tx plain in
    announcing_b p (on_addition p.b tx).turn p.to_b (record { wanted = adds_none p.b tx a.accepter; silent = inl (ap announced_ids q.out) }) a

idle_apart : (q : Phase) → is_idle q ≡ true → is_barrier q ≡ false
unfolding is_idle is_barrier
idle_apart phase.Idle h = refl
idle_apart _ h = absurd (cc)

begun_by : (e : Option End) (r : Role) (idle : Bool) (p : Pair) → is_idle p.a.machine.phase ≡ idle → p.a.plain ≡ false → AreAnnouncements p → AreAnnouncements (after_a p (on_start_by e r idle p.a).turn p.to_a)
unfolding on_start_by round_by
begun_by None role.Opener true p i plain a =
    subst (λ b. AreAnnouncements (after_a p (round_by b p.a) p.to_a)) (sym plain)
    (announcing_a p (round_by false p.a) p.to_a a.behind (λ off. a.silent (idle_apart p.a.machine.phase i)) (λ off. a.unwanted (idle_apart p.a.machine.phase i))
    (λ fetch none. both_ways (is_fetching (waiting_phase 0)) (waiting_apart 0).0 fetch) a)
begun_by None role.Opener false p i plain a = announcing_a p (unchanged p.a) p.to_a a.behind a.silent a.unwanted a.fetching a
begun_by None role.Accepter idle p i plain a = announcing_a p (unchanged p.a) p.to_a a.behind a.silent a.unwanted a.fetching a
begun_by (Some e) r idle p i plain a = announcing_a p (unchanged p.a) p.to_a a.behind a.silent a.unwanted a.fetching a

pub announcing-begins : (p : Pair) → p.a.plain ≡ false → AreAnnouncements p → AreAnnouncements (after_start_a p)
announcing-begins p plain a = begun_by p.a.ended p.a.config.role (is_idle p.a.machine.phase) p refl plain a
