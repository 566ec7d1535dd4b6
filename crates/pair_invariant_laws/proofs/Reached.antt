-- What was wtxids_of of reports reaches the other side.
use Rattle.std.proofs.Common.{◌≡◌, ◌⊎◌, ℕ, ◌+◌, ◌||◌, nat_lt, length, Bool, true, false, List, [], ◌∷◌, ◌++◌, is_some, Some, None, refl, sym, ap, ◌∙◌, subst, ⊎_elim, inl, inr}
use Rattle.std.specs.List.{AllByRecursion}
use Rattle.std.proofs.lemmas.Bool.{or_cases, or_left, or_right}
use Rattle.base_types.specs.declared.lists.Hash32.{Hash32}
use Rattle.wire_rules.specs.declared.message.InvEntry.{InvEntry}
use Rattle.wire_rules.specs.declared.message.Message.{Message}
use Rattle.wire_rules.specs.declared.message.Message.TheVariants as message
use Rattle.pool_rules.specs.Pools.{Transaction, transaction_of, is_same_id, is_listed, without_id, is_in_pool, has_byte_room}
use Rattle.pool_rules.specs.Snapshots.{Member}
use Rattle.pool_rules.specs.declared.limits.TheConstants.{POOL_LIMIT}
use Rattle.node_rules.specs.Inventory.{wtxids_of, is_known, unknown_ids, without_announced, with_wanted, with_asked, inv_by, on_inv, on_getdata, with_requests, transaction_by, on_tx}
use Rattle.node_rules.specs.State.{initiator_of, NodeState, open_wants, taken_room}
use Rattle.node_rules.specs.Barrier.{with_wants_requested}
use Rattle.node_rules.specs.Turns.{Turn}
use Rattle.node_rules.specs.declared.config.Role.{Role}
use Rattle.node_rules.specs.declared.config.Role.TheVariants as role
use Rattle.node_rules.specs.declared.end.End.{End}
use Rattle.pair_invariant_rules.specs.Wants.{entry_ids, announced_ids_of, announced_ids, IsTxEntry, HasTxEntries, IsHonest, IsPooled}
use Rattle.pool_laws.proofs.IdLists.{is_same_id-self, is_same_id-equal, listed_all, listed_append}
use Rattle.pool_laws.proofs.PoolIds.{in_pool_append, in_pool_more}
use Rattle.id_rules.specs.Ids.{KeyPair}
use Rattle.pool_rules.specs.declared.report.Report.{Report}
use Rattle.node_rules.specs.Additions.{after_addition_by, with_pooled, on_addition_by, on_addition, is_full}
use Rattle.node_rules.specs.Barrier.{is_barrier_end}
use Rattle.node_rules.specs.Stages.{is_after_handshake}
use Rattle.node_rules.specs.Invariant.{IsSetUp}
use Rattle.node_rules.specs.Steps.{on_message, in_relay}
use Rattle.node_rules.specs.Barrier.{pong_by}
use Rattle.pair_invariant_rules.specs.Handshake.{Past, stage_of}
use Rattle.pair_rules.specs.Rounds.{announced_of}
use Rattle.pair_invariant_rules.specs.Announced.{IsReaching, IsTold, AreTold}
use Rattle.pair_invariant_laws.proofs.Ids.{new_has, without_listed}
use Rattle.pair_invariant_laws.proofs.PlainTalk.{relays_past}
use Rattle.pair_invariant_laws.proofs.Saying.{takes-apart}
use Rattle.pair_invariant_laws.proofs.Telling.{Tells, NoMore, OneMore}
use Rattle.pair_invariant_laws.proofs.Wanted.{announced_all}
use Rattle.id_rules.proofs.Lists.{all_append, all_weaker}
use Rattle.pair_invariant_laws.proofs.Saying.{Apart, announced_append}
use Rattle.pair_invariant_rules.specs.Wants.{is_about_wants}

-- ---- pools that grow

-- ---- one id

-- three tests, of which one holds
pub some_one : (a b c x y z : Bool) → (a ≡ true → (x || (y || z)) ≡ true) → (b ≡ true → (x || (y || z)) ≡ true) → (c ≡ true → (x || (y || z)) ≡ true) → (a || (b || c)) ≡ true → (x || (y || z)) ≡ true
some_one a b c x y z f g h e = ⊎_elim f (λ k. ⊎_elim g h (or_cases b c k)) (or_cases a (b || c) e)

pub in_first : (x y z : Bool) → x ≡ true → (x || (y || z)) ≡ true
in_first x y z e = or_left x (y || z) e

pub in_second : (x y z : Bool) → y ≡ true → (x || (y || z)) ≡ true
in_second x y z e = or_right x (y || z) (or_left y z e)

pub in_third : (x y z : Bool) → z ≡ true → (x || (y || z)) ≡ true
in_third x y z e = or_right x (y || z) (or_right y z e)

-- a reader that has no less, and to which no less is wtxids_of
reach_on : (s u : NodeState) (ms ns : List Message) (id : Hash32) → (is_in_pool s.pool id ≡ true → IsReaching u ns id) → (is_listed (open_wants s) id ≡ true → IsReaching u ns id) → (is_listed (announced_ids ms) id ≡ true → IsReaching u ns id)
    → IsReaching s ms id → IsReaching u ns id
reach_on s u ms ns id f g h e =
    some_one (is_in_pool s.pool id) (is_listed (open_wants s) id) (is_listed (announced_ids ms) id) (is_in_pool u.pool id) (is_listed (open_wants u) id) (is_listed (announced_ids ns) id) f g h e

module _ (u : NodeState) (ns : List Message) (id : Hash32) where
  by_pool : is_in_pool u.pool id ≡ true → IsReaching u ns id
  by_pool e = in_first (is_in_pool u.pool id) (is_listed (open_wants u) id) (is_listed (announced_ids ns) id) e

  by_want : is_listed (open_wants u) id ≡ true → IsReaching u ns id
  by_want e = in_second (is_in_pool u.pool id) (is_listed (open_wants u) id) (is_listed (announced_ids ns) id) e

  by_inv : is_listed (announced_ids ns) id ≡ true → IsReaching u ns id
  by_inv e = in_third (is_in_pool u.pool id) (is_listed (open_wants u) id) (is_listed (announced_ids ns) id) e

reach_said : (s : NodeState) (ms out : List Message) (id : Hash32) → IsReaching s ms id → IsReaching s (ms ++ out) id
reach_said s ms out id e =
    reach_on s s ms (ms ++ out) id (by_pool s (ms ++ out) id) (by_want s (ms ++ out) id)
    (λ h. by_inv s (ms ++ out) id (ap (λ ids. is_listed ids id) (announced_append ms out) ∙ (listed_append (announced_ids ms) (announced_ids out) id ∙ or_left (is_listed (announced_ids ms) id) (is_listed (announced_ids out) id) h))) e

-- a message that announces nothing, by a step that leaves pool and wants
reach_same : (s u : NodeState) (m : Message) (ms : List Message) (id : Hash32) → announced_ids_of m ≡ [] → u.pool ≡ s.pool → open_wants u ≡ open_wants s → IsReaching s (m ∷ ms) id → IsReaching u ms id
reach_same s u m ms id none pool wants e =
    reach_on s u (m ∷ ms) ms id (λ h. by_pool u ms id (ap (λ p. is_in_pool p id) pool ∙ h)) (λ h. by_want u ms id (ap (λ ids. is_listed ids id) wants ∙ h))
    (λ h. by_inv u ms id (sym (ap (λ ids. is_listed (ids ++ announced_ids ms) id) none) ∙ h)) e

-- ---- lists of wants

pub in_left : (xs ys : List Hash32) (id : Hash32) → is_listed xs id ≡ true → is_listed (xs ++ ys) id ≡ true
in_left xs ys id h = listed_append xs ys id ∙ or_left (is_listed xs id) (is_listed ys id) h

pub in_right : (xs ys : List Hash32) (id : Hash32) → is_listed ys id ≡ true → is_listed (xs ++ ys) id ≡ true
in_right xs ys id h = listed_append xs ys id ∙ or_right (is_listed xs id) (is_listed ys id) h

pub in_either : (xs ys : List Hash32) (id : Hash32) → is_listed (xs ++ ys) id ≡ true → (is_listed xs id ≡ true) ⊎ (is_listed ys id ≡ true)
in_either xs ys id h = or_cases (is_listed xs id) (is_listed ys id) (sym (listed_append xs ys id) ∙ h)

wants_more : (wanted more asked : List Hash32) (id : Hash32) → is_listed (wanted ++ asked) id ≡ true → is_listed ((wanted ++ more) ++ asked) id ≡ true
wants_more wanted more asked id h = ⊎_elim (λ k. in_left (wanted ++ more) asked id (in_left wanted more id k)) (λ k. in_right (wanted ++ more) asked id k) (in_either wanted asked id h)

wants_news : (wanted more asked : List Hash32) (id : Hash32) → is_listed more id ≡ true → is_listed ((wanted ++ more) ++ asked) id ≡ true
wants_news wanted more asked id h = in_left (wanted ++ more) asked id (in_right wanted more id h)

asks_more : (wanted asked more : List Hash32) (id : Hash32) → is_listed (wanted ++ asked) id ≡ true → is_listed (wanted ++ (asked ++ more)) id ≡ true
asks_more wanted asked more id h = ⊎_elim (λ k. in_left wanted (asked ++ more) id k) (λ k. in_right wanted (asked ++ more) id (in_left asked more id k)) (in_either wanted asked id h)

asks_news : (wanted asked more : List Hash32) (id : Hash32) → is_listed more id ≡ true → is_listed (wanted ++ (asked ++ more)) id ≡ true
asks_news wanted asked more id h = in_right wanted (asked ++ more) id (in_right asked more id h)

-- what is wtxids_of first is known behind it
inv_known : (s u : NodeState) (es : List InvEntry) (ms : List Message) (id : Hash32) → AllByRecursion IsTxEntry es → (is_listed (unknown_ids s es) id ≡ true → is_listed (open_wants u) id ≡ true)
    → (is_listed (open_wants s) id ≡ true → is_listed (open_wants u) id ≡ true) → u.pool ≡ s.pool → is_listed (entry_ids es ++ announced_ids ms) id ≡ true → IsReaching u ms id
inv_known s u es ms id kinds news_in wants_in pool h =
    ⊎_elim (λ here. by_known (is_known s id) refl here) (λ later. by_inv u ms id later) (in_either (entry_ids es) (announced_ids ms) id h)
  where
    by_known : (k : Bool) → is_known s id ≡ k → is_listed (entry_ids es) id ≡ true → IsReaching u ms id
    by_known true e here = ⊎_elim (λ p. by_pool u ms id (ap (λ q. is_in_pool q id) pool ∙ p)) (λ w. by_want u ms id (wants_in w)) (or_cases (is_in_pool s.pool id) (is_listed (open_wants s) id) e)
    by_known false e here = by_want u ms id (news_in (new_has (is_known s) (wtxids_of es) id (ap (λ ids. is_listed ids id) (announced_all es kinds) ∙ here) e))

-- ---- messages

reach_inv_by : (full : Bool) (r : Role) (s : NodeState) (set : List Member) (es : List InvEntry) (ms : List Message) (id : Hash32) → AllByRecursion IsTxEntry es → (inv_by full r s set (unknown_ids s es)).state.ended ≡ None
    → IsReaching s (message.Inv es ∷ ms) id → IsReaching (inv_by full r s set (unknown_ids s es)).state ms id
unfolding inv_by announced_ids_of
reach_inv_by true r s set es ms id kinds going e = absurd (some_end going)
  where
    some_end : {x : End} → Some x ≡ None → ⊥
    some_end e = cc
reach_inv_by false role.Opener s set es ms id kinds going e =
    let u : NodeState = with_wanted s set (s.wants.wanted ++ unknown_ids s es) in
    reach_on s u (message.Inv es ∷ ms) ms id (by_pool u ms id)
    (λ h. by_want u ms id (wants_more s.wants.wanted (unknown_ids s es) s.wants.asked id h)) (λ h. inv_known s u es ms id kinds (λ n. wants_news s.wants.wanted (unknown_ids s es) s.wants.asked id n) (λ n. wants_more s.wants.wanted (unknown_ids s es) s.wants.asked id n) refl h) e
reach_inv_by false role.Accepter s set es ms id kinds going e =
    let u : NodeState = with_asked s set (s.wants.asked ++ unknown_ids s es) in
    reach_on s u (message.Inv es ∷ ms) ms id (by_pool u ms id)
    (λ h. by_want u ms id (asks_more s.wants.wanted s.wants.asked (unknown_ids s es) id h)) (λ h. inv_known s u es ms id kinds (λ n. asks_news s.wants.wanted s.wants.asked (unknown_ids s es) id n) (λ n. asks_more s.wants.wanted s.wants.asked (unknown_ids s es) id n) refl h) e

-- a transaction that was asked for is with the reader behind it
listed_without : (ids : List Hash32) (x id : Hash32) → is_listed ids id ≡ true → (is_same_id x id ≡ true) ⊎ (is_listed (without_id ids x) id ≡ true)
listed_without ids x id h = by_same (is_same_id x id) refl
  where
    by_same : (b : Bool) → is_same_id x id ≡ b → (is_same_id x id ≡ true) ⊎ (is_listed (without_id ids x) id ≡ true)
    by_same true e = inl e
    by_same false e = inr (without_listed ids x id e h)

reach_came_by : (s u : NodeState) (t : Transaction) (ms : List Message) (id : Hash32) → (is_in_pool s.pool id ≡ true → is_in_pool u.pool id ≡ true) → is_in_pool u.pool t.id ≡ true → open_wants u ≡ s.wants.wanted ++ without_id s.wants.asked t.id
    → IsReaching s (message.Tx t.bytes ∷ ms) id → IsReaching u ms id
unfolding announced_ids_of
reach_came_by s u t ms id grows has wants e =
    reach_on s u (message.Tx t.bytes ∷ ms) ms id (λ h. by_pool u ms id (grows h))
    (λ h. ⊎_elim (λ w. by_want u ms id (ap (λ ids. is_listed ids id) wants ∙ in_left s.wants.wanted (without_id s.wants.asked t.id) id w))
    (λ a. ⊎_elim (λ same. by_pool u ms id (subst (λ x. is_in_pool u.pool x ≡ true) (is_same_id-equal t.id id same) has))
    (λ still. by_want u ms id (ap (λ ids. is_listed ids id) wants ∙ in_right s.wants.wanted (without_id s.wants.asked t.id) id still)) (listed_without s.wants.asked t.id id a))
    (in_either s.wants.wanted s.wants.asked id h))
    (by_inv u ms id) e

reach_came : (asked with_pooled fits : Bool) (s : NodeState) (t : Transaction) (ms : List Message) (id : Hash32) → is_in_pool s.pool t.id ≡ with_pooled → (transaction_by asked with_pooled fits s t).state.ended ≡ None
    → IsReaching s (message.Tx t.bytes ∷ ms) id → IsReaching (transaction_by asked with_pooled fits s t).state ms id
unfolding transaction_by announced_ids_of
reach_came false with_pooled fits s t ms id has going e = e
reach_came true true fits s t ms id has going e = reach_came_by s (with_requests s (without_id s.wants.asked t.id)) t ms id (λ h. h) has refl e
reach_came true false false s t ms id has going e = absurd (some_end going)
  where
    some_end : {x : End} → Some x ≡ None → ⊥
    some_end e = cc
reach_came true false true s t ms id has going e =
    reach_came_by s (with_requests (record s { pool = s.pool ++ t ∷ [] }) (without_id s.wants.asked t.id)) t ms id (in_pool_more s.pool (t ∷ []) id)
    (in_pool_append s.pool (t ∷ []) t.id ∙ or_right (is_in_pool s.pool t.id) (is_in_pool (t ∷ []) t.id) (or_left (is_same_id t.id t.id) false (is_same_id-self t.id))) refl e

reach_pong_by : (r : Role) (ends : Bool) (s : NodeState) (n : ℕ) (ms : List Message) (id : Hash32) → IsReaching s (message.Pong n ∷ ms) id → IsReaching (pong_by r ends s).state ms id
unfolding pong_by announced_ids_of
reach_pong_by role.Opener true s n ms id e =
    reach_on s (with_wants_requested s) (message.Pong n ∷ ms) ms id (by_pool (with_wants_requested s) ms id)
    (λ h. by_want (with_wants_requested s) ms id (⊎_elim (λ w. in_right s.wants.asked s.wants.wanted id w) (λ a. in_left s.wants.asked s.wants.wanted id a) (in_either s.wants.wanted s.wants.asked id h))) (by_inv (with_wants_requested s) ms id) e
reach_pong_by role.Opener false s n ms id e = e
reach_pong_by role.Accepter ends s n ms id e = e

-- ---- the reader's step

abbrev ReachGoes : NodeState → List Message → Hash32 → Message → Type 0
ReachGoes s ms id m = IsHonest m → (on_message s m).state.ended ≡ None → IsReaching s (m ∷ ms) id → IsReaching (on_message s m).state ms id

module _ (s : NodeState) (ms : List Message) (id : Hash32) (past : stage_of s.machine.phase ≡ Past) where
  reach_row : (m : Message) (t : Turn) → in_relay s m ≡ t → ((t.state.ended ≡ None) → IsReaching s (m ∷ ms) id → IsReaching t.state ms id) → (on_message s m).state.ended ≡ None → IsReaching s (m ∷ ms) id → IsReaching (on_message s m).state ms id
  reach_row m t e f going r =
      let row = relays_past s.machine.phase s m past ∙ e in
      subst (λ u. IsReaching u.state ms id) (sym row) (f (sym (ap (λ u. u.state.ended) row) ∙ going) r)

  reach_special : (m : Message) → is_about_wants m ≡ true → ReachGoes s ms id m
  unfolding in_relay is_about_wants HasTxEntries announced_ids_of
  reach_special (message.Inv es) h honest going r =
      reach_row (message.Inv es) (on_inv s es) refl (reach_inv_by (nat_lt POOL_LIMIT (taken_room s + length (unknown_ids s es))) s.config.role s (without_announced s.set es) es ms id honest.honest) going r
  reach_special (message.GetData es) h honest going r = reach_row (message.GetData es) (on_getdata s es) refl (λ g e. e) going r
  reach_special (message.NotFound es) h honest going r = absurd honest.honest
  reach_special (message.Tx tx) h honest going r =
      reach_row (message.Tx tx) (on_tx s tx) refl (reach_came (is_listed s.wants.asked (transaction_of tx).id) (is_in_pool s.pool (transaction_of tx).id) (has_byte_room s.pool (transaction_of tx).bytes) s (transaction_of tx) ms id refl) going r
  reach_special (message.Pong n) h honest going r = reach_row (message.Pong n) (pong_by s.config.role (is_barrier_end (initiator_of s) n) s) refl (λ g. reach_pong_by s.config.role (is_barrier_end (initiator_of s) n) s n ms id) going r
  reach_special _ h honest going r = absurd (let apart : false ≡ true = h in cc)

special_silent : (m : Message) → is_about_wants m ≡ false → announced_ids_of m ≡ []
unfolding is_about_wants announced_ids_of
special_silent (message.Inv es) h = absurd (cc)
special_silent _ h = refl

reach_by : (special : Bool) (s : NodeState) (m : Message) (ms : List Message) (id : Hash32) → is_about_wants m ≡ special → (is_about_wants m ≡ true → stage_of s.machine.phase ≡ Past) → IsSetUp s → ReachGoes s ms id m
reach_by true s m ms id e past set honest going r = reach_special s ms id (past e) m e honest going r
reach_by false s m ms id e past set honest going r =
    let a : Apart s (on_message s m) = takes-apart s set m e in
    reach_same s (on_message s m).state m ms id (special_silent m e) a.pool (ap (λ w. w.wanted ++ w.asked) a.wants) r

pub reach_takes : (s : NodeState) (m : Message) (ms : List Message) (id : Hash32) → (is_about_wants m ≡ true → stage_of s.machine.phase ≡ Past) → IsSetUp s → ReachGoes s ms id m
reach_takes s m ms id past set honest going r = reach_by (is_about_wants m) s m ms id refl past set honest going r

-- ---- the reports of one side

module _ (keys : KeyPair) (sender reader : NodeState) (to_reader : List Message) where
  told_read : (next : NodeState) (ms : List Message) → ((id : Hash32) → IsReaching reader to_reader id → IsReaching next ms id) → (rs : List Report) → AllByRecursion (IsTold keys sender reader to_reader) rs → AllByRecursion (IsTold keys sender next ms) rs
  told_read next ms f rs h =
      all_weaker (IsTold keys sender reader to_reader) (IsTold keys sender next ms) (λ r t. record { reaches = all_weaker (IsReaching reader to_reader) (IsReaching next ms) f (announced_of keys r) t.reaches; pooled = t.pooled }) rs h

  told_pool : (next : NodeState) (more : List Transaction) (out : List Message) → next.pool ≡ sender.pool ++ more → (rs : List Report) → AllByRecursion (IsTold keys sender reader to_reader) rs → AllByRecursion (IsTold keys next reader (to_reader ++ out)) rs
  told_pool next more out grown rs h =
      all_weaker (IsTold keys sender reader to_reader) (IsTold keys next reader (to_reader ++ out))
      (λ r t. record {
        reaches = all_weaker (IsReaching reader to_reader) (IsReaching reader (to_reader ++ out)) (λ id. reach_said reader to_reader out id) (announced_of keys r) t.reaches;
        pooled = subst (λ p. AllByRecursion (IsPooled p) r.snapshot) (sym grown) (all_weaker (IsPooled sender.pool) (IsPooled (sender.pool ++ more)) (in_pool_more sender.pool more) r.snapshot t.pooled);
      }) rs h

  -- the sender's step
  pub tells_on : (t : Turn) (more : List Transaction) → t.state.pool ≡ sender.pool ++ more → Tells keys sender.pool sender.machine.reports t.state.machine.reports t.out → AreTold keys sender reader to_reader → AreTold keys t.state reader (to_reader ++ t.out)
  tells_on t more grown (NoMore e) h = subst (AllByRecursion (IsTold keys t.state reader (to_reader ++ t.out))) (sym e) (told_pool t.state more t.out grown sender.machine.reports h)
  tells_on t more grown (OneMore r e said with_pooled) h =
      subst (AllByRecursion (IsTold keys t.state reader (to_reader ++ t.out))) (sym e)
      (all_append (IsTold keys t.state reader (to_reader ++ t.out)) sender.machine.reports (r ∷ []) (told_pool t.state more t.out grown sender.machine.reports h) (
        record {
          reaches =
              listed_all (IsReaching reader (to_reader ++ t.out)) (announced_of keys r)
              (λ id k. by_inv reader (to_reader ++ t.out) id (ap (λ ids. is_listed ids id) (announced_append to_reader t.out) ∙ in_right (announced_ids to_reader) (announced_ids t.out) id (ap (λ ids. is_listed ids id) said ∙ k)));
          pooled = subst (λ p. AllByRecursion (IsPooled p) r.snapshot) (sym grown) (all_weaker (IsPooled sender.pool) (IsPooled (sender.pool ++ more)) (in_pool_more sender.pool more) r.snapshot with_pooled);
        },
        tt,
      ))

-- the reader's step
pub tells_read : (keys : KeyPair) (sender reader : NodeState) (m : Message) (ms : List Message) → (is_about_wants m ≡ true → stage_of reader.machine.phase ≡ Past) → IsSetUp reader → IsHonest m → (on_message reader m).state.ended ≡ None
    → AreTold keys sender reader (m ∷ ms) → AreTold keys sender (on_message reader m).state ms
tells_read keys sender reader m ms past set honest going h =
    told_read keys sender reader (m ∷ ms) (on_message reader m).state ms (λ id. reach_takes reader m ms id past set honest going) sender.machine.reports h

-- ---- additions, and the start of a round

record Pools (s : NodeState) (t : Transaction) (u : NodeState) : Type 0 where
  pub pool : u.pool ≡ s.pool ++ t ∷ []
  pub wants : open_wants u ≡ without_id s.wants.wanted t.id ++ s.wants.asked

told_by-pools : (open_want past plain : Bool) (s : NodeState) (t : Transaction) → Pools s t (after_addition_by open_want past plain (with_pooled s t) t.id).state
unfolding after_addition_by
told_by-pools true past plain s t = record { pool = refl; wants = refl }
told_by-pools false false plain s t = record { pool = refl; wants = refl }
told_by-pools false true true s t = record { pool = refl; wants = refl }
told_by-pools false true false s t = record { pool = refl; wants = refl }

reach_pooled : (s u : NodeState) (t : Transaction) (ms : List Message) (id : Hash32) → Pools s t u → IsReaching s ms id → IsReaching u ms id
reach_pooled s u t ms id p e =
    reach_on s u ms ms id (λ h. by_pool u ms id (ap (λ q. is_in_pool q id) p.pool ∙ in_pool_more s.pool (t ∷ []) id h))
    (λ h. ⊎_elim
    (λ w. ⊎_elim
    (λ same. by_pool u ms id (subst (λ x. is_in_pool u.pool x ≡ true) (is_same_id-equal t.id id same) (ap (λ q. is_in_pool q t.id) p.pool ∙ (in_pool_append s.pool (t ∷ []) t.id ∙ or_right (is_in_pool s.pool t.id) (is_in_pool (t ∷ []) t.id) (or_left (is_same_id t.id t.id) false (is_same_id-self t.id))))))
    (λ still. by_want u ms id (ap (λ ids. is_listed ids id) p.wants ∙ in_left (without_id s.wants.wanted t.id) s.wants.asked id still)) (listed_without s.wants.wanted t.id id w))
    (λ a. by_want u ms id (ap (λ ids. is_listed ids id) p.wants ∙ in_right (without_id s.wants.wanted t.id) s.wants.asked id a))
    (in_either s.wants.wanted s.wants.asked id h))
    (by_inv u ms id) e

reach_added_by : (ended present full : Bool) (s : NodeState) (t : Transaction) (ms : List Message) (id : Hash32) → IsReaching s ms id → IsReaching (on_addition_by ended present full s t).turn.state ms id
unfolding on_addition_by
reach_added_by true present full s t ms id e = e
reach_added_by false true full s t ms id e = e
reach_added_by false false true s t ms id e = e
reach_added_by false false false s t ms id e =
    reach_pooled s (after_addition_by (is_listed (open_wants s) t.id) (is_after_handshake s.machine.phase) s.plain (with_pooled s t) t.id).state t ms id (told_by-pools (is_listed (open_wants s) t.id) (is_after_handshake s.machine.phase) s.plain s t) e

-- an addition at the reader
pub tells_read-adds : (keys : KeyPair) (sender reader : NodeState) (ms : List Message) (tx : List ℕ) → AreTold keys sender reader ms → AreTold keys sender (on_addition reader tx).turn.state ms
tells_read-adds keys sender reader ms tx h =
    told_read keys sender reader ms (on_addition reader tx).turn.state ms (λ id. reach_added_by (is_some reader.ended) (is_in_pool reader.pool (transaction_of tx).id) (is_full reader (transaction_of tx)) reader (transaction_of tx) ms id) sender.machine.reports h

-- a step of the reader that leaves pool and wants
pub tells_read-same : (keys : KeyPair) (sender reader next : NodeState) (ms : List Message) → next.pool ≡ reader.pool → open_wants next ≡ open_wants reader → AreTold keys sender reader ms → AreTold keys sender next ms
tells_read-same keys sender reader next ms pool wants h =
    told_read keys sender reader ms next ms
    (λ id e. reach_on reader next ms ms id (λ k. by_pool next ms id (ap (λ p. is_in_pool p id) pool ∙ k)) (λ k. by_want next ms id (ap (λ ids. is_listed ids id) wants ∙ k)) (by_inv next ms id) e) sender.machine.reports h
