-- No transaction is given twice, over both directions.
use Rattle.std.proofs.Common.{◌≡◌, ℕ, ◌+◌, nat_lt, length, not, Bool, true, false, ◌||◌, List, [], ◌∷◌, ◌++◌, filter, is_some, refl, sym, ap, ap₂, ◌∙◌, subst, append-nil}
use Rattle.std.specs.List.{AllByRecursion}
use Rattle.std.proofs.lemmas.Bool.{both_ways, not-true, false_from_ne_true}
use Rattle.base_types.specs.declared.lists.Hash32.{Hash32}
use Rattle.wire_rules.specs.declared.message.InvEntry.{InvEntry}
use Rattle.wire_rules.specs.declared.message.Message.{Message}
use Rattle.wire_rules.specs.declared.message.Message.TheVariants as message
use Rattle.pool_rules.specs.Pools.{Transaction, transaction_of, is_listed, is_in_pool, has_byte_room, is_same_id, AreDistinctIds, IsTransaction, pool_ids}
use Rattle.pool_rules.specs.Snapshots.{Member}
use Rattle.pool_rules.specs.declared.limits.TheConstants.{POOL_LIMIT}
use Rattle.node_laws.specs.Later.{IsLater}
use Rattle.node_laws.proofs.LaterSteps.{on_addition-later}
use Rattle.node_rules.specs.Additions.{on_addition, is_full}
use Rattle.node_rules.specs.Inventory.{unknown_ids, is_known, wtxids_of, without_announced, inv_by, on_getdata, transaction_by}
use Rattle.node_rules.specs.Barrier.{is_barrier_end}
use Rattle.node_rules.specs.State.{NodeState, open_wants, taken_room, initiator_of}
use Rattle.node_rules.specs.Invariant.{IsSetUp}
use Rattle.node_rules.specs.Invariant.{IsWanting}
use Rattle.node_rules.specs.Steps.{on_message, in_relay, on_start}
use Rattle.node_rules.specs.Barrier.{pong_by}
use Rattle.node_rules.specs.Turns.{Turn, unchanged}
use Rattle.node_rules.specs.declared.config.Role.{Role}
use Rattle.node_rules.specs.declared.config.Role.TheVariants as role
use Rattle.pair_invariant_rules.specs.Handshake.{Past, stage_of}
use Rattle.pair_invariant_rules.specs.Wants.{entry_ids, requested_ids_of, requested_ids, carried_transactions, IsTxEntry, HasTxEntries, IsPooled, AreMutualWants, is_about_wants}
use Rattle.pair_invariant_laws.proofs.Boths.{Adds, added_by-adds, begins-apart}
use Rattle.pool_laws.proofs.IdLists.{all_listed, listed_all, listed_append, distinct_left, distinct_right, distinct_apart, distinct_both, both_false}
use Rattle.pool_laws.proofs.PoolIds.{in_pool_more, pool_ids_append}
use Rattle.node_laws.proofs.NewIds.{new_unknown}
use Rattle.id_rules.proofs.Lists.{all_append, all_left, all_right, all_weaker}
use Rattle.pair_invariant_laws.proofs.PlainTalk.{relays_past}
use Rattle.pool_laws.proofs.IdLists.{distinct_fewer_left, distinct_fewer_right, distinct_swap}
use Rattle.pair_invariant_laws.proofs.Saying.{Apart, takes-apart, carried_append, getdata_parts}
use Rattle.pair_invariant_laws.proofs.Served.{all_served, out_is}
use Rattle.pair_invariant_laws.proofs.Shaking.{Quiet, adds-quiet}
use Rattle.pair_bound_laws.specs.Keeping.{HaveServedOnce}

-- ---- distinct lists

-- none of the others is listed
abbrev Free : List Hash32 → List Hash32 → Type 0
Free xs ys = AllByRecursion (λ id. is_listed xs id ≡ false) ys

free_append : (xs ys zs : List Hash32) → Free xs zs → Free ys zs → Free (xs ++ ys) zs
free_append xs ys zs h k =
    listed_all (λ id. is_listed (xs ++ ys) id ≡ false) zs
    (λ id e. listed_append xs ys id ∙ both_false (is_listed xs id) (is_listed ys id) (all_listed (λ x. is_listed xs x ≡ false) zs h id e) (all_listed (λ x. is_listed ys x ≡ false) zs k id e))

-- what a pool has isn't listed among what it lacks
lacking : (pool : List Transaction) (xs ys : List Hash32) → AllByRecursion (λ id. is_in_pool pool id ≡ false) xs → AllByRecursion (IsPooled pool) ys → Free xs ys
lacking pool xs ys lacks has =
    listed_all (λ id. is_listed xs id ≡ false) ys
    (λ id e. false_from_ne_true (is_listed xs id) (λ h. both_ways (is_in_pool pool id) (all_listed (λ x. is_in_pool pool x ≡ false) xs lacks id h) (all_listed (IsPooled pool) ys has id e)))

-- the same, the other way round
lacked_by : (pool : List Transaction) (xs ys : List Hash32) → AllByRecursion (IsPooled pool) xs → AllByRecursion (λ id. is_in_pool pool id ≡ false) ys → Free xs ys
lacked_by pool xs ys has lacks =
    listed_all (λ id. is_listed xs id ≡ false) ys
    (λ id e. false_from_ne_true (is_listed xs id) (λ h. both_ways (is_in_pool pool id) (all_listed (λ x. is_in_pool pool x ≡ false) ys lacks id e) (all_listed (IsPooled pool) xs has id h)))

-- ---- a step of one side

swap : (s u : NodeState) (xs ys : List Message) → HaveServedOnce s u xs ys → HaveServedOnce u s ys xs
swap s u xs ys g = record { mine = g.theirs; theirs = g.mine; asked = distinct_swap s.wants.asked u.wants.asked g.asked; given = distinct_swap s.wants.served u.wants.served g.given }

said_none : (by_s out : List Message) (served : List Hash32) → carried_transactions out ≡ [] → pool_ids (carried_transactions by_s) ≡ served → pool_ids (carried_transactions (by_s ++ out)) ≡ served
said_none by_s out served e h = ap pool_ids (carried_append by_s out ∙ ap (λ xs. carried_transactions by_s ++ xs) e ∙ append-nil (carried_transactions by_s)) ∙ h

has_more : (pool more next : List Transaction) (ids : List Hash32) → next ≡ pool ++ more → AllByRecursion (IsPooled pool) ids → AllByRecursion (IsPooled next) ids
has_more pool more next ids e h = all_weaker (IsPooled pool) (IsPooled next) (λ id k. ap (λ p. is_in_pool p id) e ∙ in_pool_more pool more id k) ids h

module _ (s u : NodeState) (by_s by_u : List Message) (g : HaveServedOnce s u by_s by_u) where
  -- what was asked for becomes less, or stays
  fewer : (t : Turn) (more : List Transaction) (test : Hash32 → Bool) → t.state.pool ≡ s.pool ++ more → t.state.wants.served ≡ s.wants.served → t.state.wants.asked ≡ filter test s.wants.asked → carried_transactions t.out ≡ []
      → HaveServedOnce t.state u (by_s ++ t.out) by_u
  fewer t more test grown served asked out = record {
    mine = record {
      said = said_none by_s t.out t.state.wants.served out (g.mine.said ∙ sym served);
      own = subst (AllByRecursion (IsPooled t.state.pool)) (sym served) (has_more s.pool more t.state.pool s.wants.served grown g.mine.own);
      unasked = subst AreDistinctIds (ap₂ (λ xs ys. xs ++ ys) (sym served) (sym asked)) (distinct_fewer_right test s.wants.served s.wants.asked g.mine.unasked);
    };
    theirs = g.theirs;
    asked = subst (λ xs. AreDistinctIds (xs ++ u.wants.asked)) (sym asked) (distinct_fewer_left test s.wants.asked u.wants.asked g.asked);
    given = subst (λ xs. AreDistinctIds (xs ++ u.wants.served)) (sym served) g.given;
  }

  same : (t : Turn) (more : List Transaction) → t.state.pool ≡ s.pool ++ more → t.state.wants.served ≡ s.wants.served → t.state.wants.asked ≡ s.wants.asked → carried_transactions t.out ≡ [] → HaveServedOnce t.state u (by_s ++ t.out) by_u
  same t more grown served asked out = record {
    mine = record {
      said = said_none by_s t.out t.state.wants.served out (g.mine.said ∙ sym served);
      own = subst (AllByRecursion (IsPooled t.state.pool)) (sym served) (has_more s.pool more t.state.pool s.wants.served grown g.mine.own);
      unasked = subst AreDistinctIds (ap₂ (λ xs ys. xs ++ ys) (sym served) (sym asked)) g.mine.unasked;
    };
    theirs = g.theirs;
    asked = subst (λ xs. AreDistinctIds (xs ++ u.wants.asked)) (sym asked) g.asked;
    given = subst (λ xs. AreDistinctIds (xs ++ u.wants.served)) (sym served) g.given;
  }

  -- ids that the pool lacks are asked for
  more_asked : (t : Turn) (ids : List Hash32) → t.state.pool ≡ s.pool → t.state.wants.served ≡ s.wants.served → t.state.wants.asked ≡ s.wants.asked ++ ids → carried_transactions t.out ≡ []
      → AllByRecursion (λ id. is_in_pool s.pool id ≡ false) ids → AreDistinctIds t.state.wants.asked → AllByRecursion (IsPooled s.pool) u.wants.asked → HaveServedOnce t.state u (by_s ++ t.out) by_u
  more_asked t ids pool served asked out lacks once theirs =
      let now : AreDistinctIds (s.wants.asked ++ ids) = subst AreDistinctIds asked once in
      record {
        mine = record {
          said = said_none by_s t.out t.state.wants.served out (g.mine.said ∙ sym served);
          own = subst (AllByRecursion (IsPooled t.state.pool)) (sym served) (subst (λ p. AllByRecursion (IsPooled p) s.wants.served) (sym pool) g.mine.own);
          unasked =
              subst AreDistinctIds (ap₂ (λ xs ys. xs ++ ys) (sym served) (sym asked))
              (distinct_both s.wants.served (s.wants.asked ++ ids) (distinct_left s.wants.served s.wants.asked g.mine.unasked) now
              (all_append (λ id. is_listed s.wants.served id ≡ false) s.wants.asked ids (distinct_apart s.wants.served s.wants.asked g.mine.unasked) (lacked_by s.pool s.wants.served ids g.mine.own lacks)));
        };
        theirs = g.theirs;
        asked =
            subst (λ xs. AreDistinctIds (xs ++ u.wants.asked)) (sym asked)
            (distinct_both (s.wants.asked ++ ids) u.wants.asked now (distinct_right s.wants.asked u.wants.asked g.asked)
            (free_append s.wants.asked ids u.wants.asked (distinct_apart s.wants.asked u.wants.asked g.asked) (lacking s.pool ids u.wants.asked lacks theirs)));
        given = subst (λ xs. AreDistinctIds (xs ++ u.wants.served)) (sym served) g.given;
      }

  -- ids that the other asks for are served
  more_served : (t : Turn) (ids : List Hash32) → t.state.pool ≡ s.pool → t.state.wants.served ≡ s.wants.served ++ ids → t.state.wants.asked ≡ s.wants.asked → pool_ids (carried_transactions t.out) ≡ ids
      → AllByRecursion (IsPooled s.pool) ids → AreDistinctIds ids → Free s.wants.served ids → ((id : Hash32) → is_listed ids id ≡ true → is_listed u.wants.asked id ≡ true) → HaveServedOnce t.state u (by_s ++ t.out) by_u
  more_served t ids pool served asked out has once new wants =
      let unasked : Free s.wants.asked ids = listed_all (λ id. is_listed s.wants.asked id ≡ false) ids (λ id e. all_listed (λ x. is_listed s.wants.asked x ≡ false) u.wants.asked (distinct_apart s.wants.asked u.wants.asked g.asked) id (wants id e)) in
      let ungiven : Free u.wants.served ids = listed_all (λ id. is_listed u.wants.served id ≡ false) ids (λ id e. all_listed (λ x. is_listed u.wants.served x ≡ false) u.wants.asked (distinct_apart u.wants.served u.wants.asked g.theirs.unasked) id (wants id e)) in
      let now : AreDistinctIds (s.wants.served ++ ids) = distinct_both s.wants.served ids (distinct_left s.wants.served s.wants.asked g.mine.unasked) once new in
      let other_asked : Free (s.wants.asked) (s.wants.served ++ ids) = all_append (λ id. is_listed s.wants.asked id ≡ false) s.wants.served ids (distinct_apart s.wants.asked s.wants.served (distinct_swap s.wants.served s.wants.asked g.mine.unasked)) unasked in
      let other_given : Free (u.wants.served) (s.wants.served ++ ids) = all_append (λ id. is_listed u.wants.served id ≡ false) s.wants.served ids (distinct_apart u.wants.served s.wants.served (distinct_swap s.wants.served u.wants.served g.given)) ungiven in
      record {
        mine = record {
          said = ap pool_ids (carried_append by_s t.out) ∙ pool_ids_append (carried_transactions by_s) (carried_transactions t.out) ∙ ap₂ (λ xs ys. xs ++ ys) g.mine.said out ∙ sym served;
          own = subst (AllByRecursion (IsPooled t.state.pool)) (sym served) (subst (λ p. AllByRecursion (IsPooled p) (s.wants.served ++ ids)) (sym pool) (all_append (IsPooled s.pool) s.wants.served ids g.mine.own has));
          unasked =
              subst AreDistinctIds (ap₂ (λ xs ys. xs ++ ys) (sym served) (sym asked))
              (distinct_swap s.wants.asked (s.wants.served ++ ids) (distinct_both s.wants.asked (s.wants.served ++ ids) (distinct_right s.wants.served s.wants.asked g.mine.unasked) now other_asked));
        };
        theirs = g.theirs;
        asked = subst (λ xs. AreDistinctIds (xs ++ u.wants.asked)) (sym asked) g.asked;
        given =
            subst (λ xs. AreDistinctIds (xs ++ u.wants.served)) (sym served)
            (distinct_swap u.wants.served (s.wants.served ++ ids) (distinct_both u.wants.served (s.wants.served ++ ids) (distinct_right s.wants.served u.wants.served g.given) now other_given));
      }

-- ---- messages

unknown_lacked : (s : NodeState) (ids : List Hash32) → AllByRecursion (λ id. is_known s id ≡ false) ids → AllByRecursion (λ id. is_in_pool s.pool id ≡ false) ids
unknown_lacked s ids h = all_weaker (λ id. is_known s id ≡ false) (λ id. is_in_pool s.pool id ≡ false) (λ id k. first (is_in_pool s.pool id) (is_listed (open_wants s) id) k) ids h
  where
    first : (a b : Bool) → (a || b) ≡ false → a ≡ false
    first true b e = e
    first false b e = refl

module _ (self other : NodeState) (ms to_other : List Message) (past : stage_of self.machine.phase ≡ Past) (mine : IsWanting self) (theirs : IsWanting other) (each : AllByRecursion IsTransaction self.pool) (by_s by_u : List Message) where
  abbrev Goes : Message → Type 0
  Goes m = HaveServedOnce self other by_s by_u → AreMutualWants self other (m ∷ ms) to_other → IsWanting (on_message self m).state → HaveServedOnce (on_message self m).state other (by_s ++ (on_message self m).out) by_u

  abbrev Went : Turn → Type 0
  Went t = IsWanting t.state → HaveServedOnce t.state other (by_s ++ t.out) by_u

  inv_by-gives : (full : Bool) (r : Role) (set : List Member) (ids : List Hash32) → AllByRecursion (λ id. is_known self id ≡ false) ids → AllByRecursion (IsPooled self.pool) other.wants.asked → HaveServedOnce self other by_s by_u → Went (inv_by full r self set ids)
  unfolding inv_by
  inv_by-gives true r set ids new has g wanting = same self other by_s by_u g (inv_by true r self set ids) [] (sym (append-nil self.pool)) refl refl refl
  inv_by-gives false role.Opener set ids new has g wanting = same self other by_s by_u g (inv_by false role.Opener self set ids) [] (sym (append-nil self.pool)) refl refl refl
  inv_by-gives false role.Accepter set ids new has g wanting =
      more_asked self other by_s by_u g (inv_by false role.Accepter self set ids) ids refl refl refl (getdata_parts self.pool ids).0 (unknown_lacked self ids new)
      (distinct_right self.wants.wanted (self.wants.asked ++ ids) wanting.once) has

  gives_inv : (es : List InvEntry) → Goes (message.Inv es)
  unfolding in_relay
  gives_inv es g b =
      subst Went (sym (relays_past self.machine.phase self (message.Inv es) past))
      (inv_by-gives (nat_lt POOL_LIMIT (taken_room self + length (unknown_ids self es))) self.config.role (without_announced self.set es) (unknown_ids self es) (new_unknown (is_known self) (wtxids_of es)) b.theirs.asked g)

  gives_getdata : (es : List InvEntry) → Goes (message.GetData es)
  unfolding in_relay HasTxEntries requested_ids_of
  gives_getdata es g b =
      let kinds : AllByRecursion IsTxEntry es = b.mine.honest.0.honest in
      let all = all_served other self to_other ms es b.theirs theirs each kinds in
      let out = out_is other self to_other ms es b.theirs theirs each kinds in
      let flow : other.wants.asked ≡ pool_ids (carried_transactions to_other) ++ (entry_ids es ++ requested_ids ms) = b.theirs.flow in
      let once : AreDistinctIds (entry_ids es ++ requested_ids ms) = distinct_right (pool_ids (carried_transactions to_other)) (entry_ids es ++ requested_ids ms) (subst AreDistinctIds flow (distinct_right other.wants.wanted other.wants.asked theirs.once)) in
      let has : AllByRecursion (IsPooled self.pool) (entry_ids es ++ requested_ids ms) = all_right (IsPooled self.pool) (pool_ids (carried_transactions to_other)) (entry_ids es ++ requested_ids ms) (subst (AllByRecursion (IsPooled self.pool)) flow b.theirs.asked) in
      subst Went (sym (relays_past self.machine.phase self (message.GetData es) past))
      (λ wanting. more_served self other by_s by_u g (on_getdata self es) (entry_ids es) refl all.served refl (ap (λ xs. pool_ids (carried_transactions xs)) out ∙ all.carries)
      (all_left (IsPooled self.pool) (entry_ids es) (requested_ids ms) has) (distinct_left (entry_ids es) (requested_ids ms) once)
      (all_left (λ id. is_listed self.wants.served id ≡ false) (entry_ids es) (requested_ids ms) b.theirs.unserved)
      (λ id e. ap (λ xs. is_listed xs id) flow ∙ (listed_append (pool_ids (carried_transactions to_other)) (entry_ids es ++ requested_ids ms) id ∙ right (is_listed (pool_ids (carried_transactions to_other)) id) (is_listed (entry_ids es ++ requested_ids ms) id) (listed_append (entry_ids es) (requested_ids ms) id ∙ left (is_listed (entry_ids es) id) (is_listed (requested_ids ms) id) e))))
    where
      right : (a b : Bool) → b ≡ true → (a || b) ≡ true
      right true b e = refl
      right false b e = e

      left : (a b : Bool) → a ≡ true → (a || b) ≡ true
      left true b e = refl
      left false b e = absurd (let apart : false ≡ true = e in cc)

  came-gives : (asked pooled fits : Bool) (t : Transaction) → HaveServedOnce self other by_s by_u → Went (transaction_by asked pooled fits self t)
  unfolding transaction_by
  came-gives false pooled fits t g w = same self other by_s by_u g (transaction_by false pooled fits self t) [] (sym (append-nil self.pool)) refl refl refl
  came-gives true true fits t g w = fewer self other by_s by_u g (transaction_by true true fits self t) [] (λ x. not (is_same_id x t.id)) (sym (append-nil self.pool)) refl refl refl
  came-gives true false false t g w = same self other by_s by_u g (transaction_by true false false self t) [] (sym (append-nil self.pool)) refl refl refl
  came-gives true false true t g w = fewer self other by_s by_u g (transaction_by true false true self t) (t ∷ []) (λ x. not (is_same_id x t.id)) refl refl refl refl

  gives_tx : (tx : List ℕ) → Goes (message.Tx tx)
  unfolding in_relay
  gives_tx tx g b =
      subst Went (sym (relays_past self.machine.phase self (message.Tx tx) past)) (came-gives (is_listed self.wants.asked (transaction_of tx).id) (is_in_pool self.pool (transaction_of tx).id) (has_byte_room self.pool (transaction_of tx).bytes) (transaction_of tx) g)

  lacks_wanted : AllByRecursion (λ id. is_in_pool self.pool id ≡ false) self.wants.wanted
  lacks_wanted = all_weaker (λ id. not (is_in_pool self.pool id) ≡ true) (λ id. is_in_pool self.pool id ≡ false) (λ id h. not-true (is_in_pool self.pool id) h) self.wants.wanted mine.unwanted

  pong_by-gives : (r : Role) (ends : Bool) → HaveServedOnce self other by_s by_u → AllByRecursion (IsPooled self.pool) other.wants.asked → Went (pong_by r ends self)
  unfolding pong_by
  pong_by-gives role.Opener true g has wanting =
      more_asked self other by_s by_u g (pong_by role.Opener true self) self.wants.wanted refl refl refl (getdata_parts self.pool self.wants.wanted).0 lacks_wanted wanting.once has
  pong_by-gives role.Opener false g has wanting = same self other by_s by_u g (unchanged self) [] (sym (append-nil self.pool)) refl refl refl
  pong_by-gives role.Accepter ends g has wanting = same self other by_s by_u g (unchanged self) [] (sym (append-nil self.pool)) refl refl refl

  gives_pong : (n : ℕ) → Goes (message.Pong n)
  unfolding in_relay
  gives_pong n g b = subst Went (sym (relays_past self.machine.phase self (message.Pong n) past)) (pong_by-gives self.config.role (is_barrier_end (initiator_of self) n) g b.theirs.asked)

  gives_special : (m : Message) → is_about_wants m ≡ true → Goes m
  unfolding is_about_wants HasTxEntries
  gives_special (message.Inv es) h = gives_inv es
  gives_special (message.GetData es) h = gives_getdata es
  gives_special (message.Tx tx) h = gives_tx tx
  gives_special (message.Pong n) h = gives_pong n
  gives_special (message.NotFound es) h = λ g b. absurd (b.mine.honest.0.honest)
  gives_special _ h = absurd (let apart : false ≡ true = h in cc)

gives_apart : (self other : NodeState) (by_s by_u : List Message) (t : Turn) → Apart self t → HaveServedOnce self other by_s by_u → HaveServedOnce t.state other (by_s ++ t.out) by_u
gives_apart self other by_s by_u t a g = same self other by_s by_u g t [] (a.pool ∙ sym (append-nil self.pool)) (ap (λ w. w.served) a.wants) (ap (λ w. w.asked) a.wants) a.says.carries

gives_by : (special : Bool) (self other : NodeState) (m : Message) (ms to_other by_s by_u : List Message) → is_about_wants m ≡ special → (is_about_wants m ≡ true → stage_of self.machine.phase ≡ Past) → IsSetUp self → IsWanting self → IsWanting other
    → AllByRecursion IsTransaction self.pool → HaveServedOnce self other by_s by_u → AreMutualWants self other (m ∷ ms) to_other → IsWanting (on_message self m).state → HaveServedOnce (on_message self m).state other (by_s ++ (on_message self m).out) by_u
gives_by false self other m ms to_other by_s by_u e past set mine theirs each g b w = gives_apart self other by_s by_u (on_message self m) (takes-apart self set m e) g
gives_by true self other m ms to_other by_s by_u e past set mine theirs each g b w = gives_special self other ms to_other (past e) mine theirs each by_s by_u m e g b w

pub giving-takes : (self other : NodeState) (m : Message) (ms to_other by_s by_u : List Message) → (is_about_wants m ≡ true → stage_of self.machine.phase ≡ Past) → IsSetUp self → IsWanting self → IsWanting other
    → AllByRecursion IsTransaction self.pool → HaveServedOnce self other by_s by_u → AreMutualWants self other (m ∷ ms) to_other → IsWanting (on_message self m).state → HaveServedOnce (on_message self m).state other (by_s ++ (on_message self m).out) by_u
giving-takes self other m ms to_other by_s by_u past set mine theirs each g b w = gives_by (is_about_wants m) self other m ms to_other by_s by_u refl past set mine theirs each g b w

pub giving-adds : (self other : NodeState) (tx : List ℕ) (by_s by_u : List Message) → self.plain ≡ false → HaveServedOnce self other by_s by_u → HaveServedOnce (on_addition self tx).turn.state other (by_s ++ (on_addition self tx).turn.out) by_u
giving-adds self other tx by_s by_u plain g =
    let t : Turn = (on_addition self tx).turn in
    let grows : IsLater self t.state = on_addition-later self tx in
    let q : Quiet self t = adds-quiet self tx plain in
    let a : Adds (λ id. Unit {0}) self t = added_by-adds (λ id. Unit {0}) (is_some self.ended) (is_in_pool self.pool (transaction_of tx).id) (is_full self (transaction_of tx)) self (transaction_of tx) in
    same self other by_s by_u g t grows.new_held grows.pool a.served a.asked (ap carried_transactions q.out)

pub giving-begins : (self other : NodeState) (by_s by_u : List Message) → self.plain ≡ false → HaveServedOnce self other by_s by_u → HaveServedOnce (on_start self).turn.state other (by_s ++ (on_start self).turn.out) by_u
giving-begins self other by_s by_u plain g = gives_apart self other by_s by_u (on_start self).turn (begins-apart self plain) g

pub giving-swap : (s u : NodeState) (xs ys : List Message) → HaveServedOnce s u xs ys → HaveServedOnce u s ys xs
giving-swap s u xs ys g = swap s u xs ys g
