-- What both nodes want of each other is kept by every step of a pair.
use Rattle.std.proofs.Common.{◌≡◌, ℕ, ◌+◌, nat_lt, length, Bool, true, false, List, [], ◌∷◌, ◌++◌, is_some, Option, Some, None, refl, sym, ap, ◌∙◌, subst, append-nil}
use Rattle.std.specs.List.{AllByRecursion}
use Rattle.base_types.specs.declared.lists.Hash32.{Hash32}
use Rattle.wire_rules.specs.declared.message.InvEntry.{InvEntry}
use Rattle.wire_rules.specs.declared.message.Message.{Message}
use Rattle.wire_rules.specs.declared.message.Message.TheVariants as message
use Rattle.pool_rules.specs.Pools.{Transaction, transaction_of, is_listed, is_in_pool, has_byte_room, IsTransaction}
use Rattle.pool_rules.specs.Snapshots.{Member}
use Rattle.pool_rules.specs.declared.limits.TheConstants.{POOL_LIMIT}
use Rattle.node_rules.specs.Inventory.{unknown_ids, without_announced, inv_by, on_inv, on_getdata, transaction_by, on_tx}
use Rattle.node_rules.specs.State.{initiator_of, NodeState, open_wants, taken_room}
use Rattle.node_rules.specs.Invariant.{IsWanting}
use Rattle.node_rules.specs.Barrier.{with_wants_requested}
use Rattle.node_rules.specs.Turns.{Turn, unchanged, turn_with, getdata_of}
use Rattle.node_rules.specs.declared.config.Role.{Role}
use Rattle.node_rules.specs.declared.config.Role.TheVariants as role
use Rattle.node_rules.specs.declared.end.End.{End}
use Rattle.pair_invariant_rules.specs.Wants.{requested_ids_of, announced_ids_of, carried_transactions_of, requested_ids, announced_ids, carried_transactions, IsTxEntry, HasTxEntries, IsHonest, IsPooled, AreWantsOf}
use Rattle.node_laws.proofs.NewIds.{without_kept}
use Rattle.node_laws.specs.Later.{IsLater}
use Rattle.node_laws.proofs.Rows.{on_message-step}
use Rattle.node_laws.proofs.LaterSteps.{on_addition-later}
use Rattle.node_rules.specs.Additions.{after_addition_by, with_pooled, on_addition_by, on_addition, is_full}
use Rattle.node_rules.specs.Barrier.{is_barrier_end}
use Rattle.node_rules.specs.Stages.{is_after_handshake, is_idle}
use Rattle.node_rules.specs.Invariant.{IsSetUp}
use Rattle.node_rules.specs.Steps.{on_message, in_relay, round_by, on_start_by, on_start}
use Rattle.node_rules.specs.Barrier.{pong_by}
use Rattle.pair_invariant_rules.specs.Wants.{AreMutualWants}
use Rattle.pair_invariant_rules.specs.Handshake.{Past, stage_of}
use Rattle.pair_invariant_laws.proofs.PlainTalk.{relays_past}
use Rattle.pair_invariant_laws.proofs.Saying.{takes-apart, says_request, says_none}
use Rattle.pair_invariant_laws.proofs.Served.{all_served, out_is, holder_getdata, reader_tx}
use Rattle.pair_invariant_laws.proofs.Shaking.{Quiet, adds-quiet}
use Rattle.pair_invariant_laws.proofs.Wanted.{reader_drop, holder_drop, reader_more, holder_more, reader_inv, reader_pong}
use Rattle.pair_invariant_laws.proofs.Saying.{Apart, getdata_parts}
use Rattle.pair_invariant_rules.specs.Wants.{is_about_wants}

-- ---- pools that grow

-- ---- a message that has nothing to do with wants

special_carries : (m : Message) → is_about_wants m ≡ false → carried_transactions_of m ≡ []
unfolding is_about_wants carried_transactions_of
special_carries (message.Tx tx) h = absurd (cc)
special_carries _ h = refl

special_asks : (m : Message) → is_about_wants m ≡ false → requested_ids_of m ≡ []
unfolding is_about_wants requested_ids_of
special_asks (message.GetData es) h = absurd (cc)
special_asks _ h = refl

special_announces : (m : Message) → is_about_wants m ≡ false → announced_ids_of m ≡ []
unfolding is_about_wants announced_ids_of
special_announces (message.Inv es) h = absurd (cc)
special_announces _ h = refl

-- a step that is apart from wants, with what is on the way to it as it was
pub both_apart : (self other : NodeState) (to_self to_other : List Message) (t : Turn) → Apart self t → AreMutualWants self other to_self to_other → AreMutualWants t.state other to_self (to_other ++ t.out)
both_apart self other to_self to_other t a b = record {
  mine =
      reader_more self other to_self to_other t.state [] t.out (a.pool ∙ sym (append-nil self.pool)) (ap (λ w. w.asked) a.wants)
      (subst (λ w. AllByRecursion (IsPooled other.pool) w.wanted) (sym a.wants) b.mine.wanted) a.says.asks b.mine;
  theirs =
      holder_more other self to_other to_self t.state [] t.out (a.pool ∙ sym (append-nil self.pool)) (ap (λ w. w.served) a.wants) a.says.carries
      (subst (λ p. AllByRecursion (IsPooled p) (announced_ids t.out)) (sym a.pool) a.says.announces) a.says.honest b.theirs;
}

both_drop : (self other : NodeState) (m : Message) (ms to_other : List Message) → is_about_wants m ≡ false → AreMutualWants self other (m ∷ ms) to_other → AreMutualWants self other ms to_other
both_drop self other m ms to_other h b = record {
  mine = reader_drop self other ms to_other m (special_carries m h) (special_announces m h) b.mine;
  theirs = holder_drop other self to_other ms m (special_asks m h) b.theirs;
}

-- ---- the others

-- a step that leaves pool and served ids, and only with_wants_requested
pub record Asks (s : NodeState) (t : Turn) : Type 0 where
  pub pool : t.state.pool ≡ s.pool
  pub served : t.state.wants.served ≡ s.wants.served
  pub carries : carried_transactions t.out ≡ []
  pub announces : announced_ids t.out ≡ []
  pub honest : AllByRecursion IsHonest t.out

asks_getdata : (s : NodeState) (t : Turn) (ids : List Hash32) → t.state.pool ≡ s.pool → t.state.wants.served ≡ s.wants.served → t.out ≡ getdata_of ids → Asks s t
asks_getdata s t ids p v e =
    let parts = getdata_parts s.pool ids in
    record { pool = p; served = v; carries = ap carried_transactions e ∙ parts.0; announces = ap announced_ids e ∙ parts.1; honest = subst (AllByRecursion IsHonest) (sym e) parts.2 }

pub inv_by-asks : (full : Bool) (r : Role) (s : NodeState) (set : List Member) (ids : List Hash32) → Asks s (inv_by full r s set ids)
unfolding inv_by
inv_by-asks true r s set ids = asks_getdata s (inv_by true r s set ids) [] refl refl refl
inv_by-asks false role.Opener s set ids = asks_getdata s (inv_by false role.Opener s set ids) [] refl refl refl
inv_by-asks false role.Accepter s set ids = asks_getdata s (inv_by false role.Accepter s set ids) ids refl refl refl

holder_asks : (reader s : NodeState) (to_reader to_holder : List Message) (t : Turn) → Asks s t → AreWantsOf reader s to_reader to_holder → AreWantsOf reader t.state (to_reader ++ t.out) to_holder
holder_asks reader s to_reader to_holder t a w =
    holder_more reader s to_reader to_holder t.state [] t.out (a.pool ∙ sym (append-nil s.pool)) a.served a.carries (subst (AllByRecursion (IsPooled t.state.pool)) (sym a.announces) tt) a.honest w

pub record Comes (s : NodeState) (t : Turn) : Type 0 where
  pub served : t.state.wants.served ≡ s.wants.served
  pub out : t.out ≡ []

pub came-comes : (asked with_pooled fits : Bool) (s : NodeState) (t : Transaction) → Comes s (transaction_by asked with_pooled fits s t)
unfolding transaction_by
came-comes false with_pooled fits s t = record { served = refl; out = refl }
came-comes true true fits s t = record { served = refl; out = refl }
came-comes true false false s t = record { served = refl; out = refl }
came-comes true false true s t = record { served = refl; out = refl }

module _ (self other : NodeState) (ms to_other : List Message) (past : stage_of self.machine.phase ≡ Past) (mine : IsWanting self) (theirs : IsWanting other) (each : AllByRecursion IsTransaction self.pool) where
  abbrev Goes : Message → Type 0
  Goes m = AreMutualWants self other (m ∷ ms) to_other → (on_message self m).state.ended ≡ None → AreMutualWants (on_message self m).state other ms (to_other ++ (on_message self m).out)

  abbrev Went : Turn → Type 0
  Went t = AreMutualWants t.state other ms (to_other ++ t.out)

  takes_inv : (es : List InvEntry) → Goes (message.Inv es)
  unfolding in_relay requested_ids_of
  takes_inv es b going =
      let row = relays_past self.machine.phase self (message.Inv es) past in
      subst Went (sym row) (record {
        mine = reader_inv self other ms to_other es b.mine (sym (ap (λ t. t.state.ended) row) ∙ going);
        theirs =
            holder_asks other self to_other ms (on_inv self es) (inv_by-asks (nat_lt POOL_LIMIT (taken_room self + length (unknown_ids self es))) self.config.role self (without_announced self.set es) (unknown_ids self es))
            (holder_drop other self to_other ms (message.Inv es) refl b.theirs);
      })

  takes_getdata : (es : List InvEntry) → Goes (message.GetData es)
  unfolding in_relay HasTxEntries carried_transactions_of announced_ids_of
  takes_getdata es b going =
      let row = relays_past self.machine.phase self (message.GetData es) past in
      let kinds : AllByRecursion IsTxEntry es = b.mine.honest.0.honest in
      let all = all_served other self to_other ms es b.theirs theirs each kinds in
      let out = out_is other self to_other ms es b.theirs theirs each kinds in
      subst Went (sym row) (record {
        mine =
            reader_more self other ms to_other (on_getdata self es).state [] (on_getdata self es).out (sym (append-nil self.pool)) refl b.mine.wanted (ap requested_ids out ∙ all.asks)
            (reader_drop self other ms to_other (message.GetData es) refl refl b.mine);
        theirs = holder_getdata other self to_other ms es b.theirs theirs each kinds;
      })

  takes_tx : (tx : List ℕ) → Goes (message.Tx tx)
  unfolding in_relay requested_ids_of
  takes_tx tx b going =
      let row = relays_past self.machine.phase self (message.Tx tx) past in
      let t : Turn = on_tx self tx in
      let comes : Comes self t = came-comes (is_listed self.wants.asked (transaction_of tx).id) (is_in_pool self.pool (transaction_of tx).id) (has_byte_room self.pool (transaction_of tx).bytes) self (transaction_of tx) in
      let g : IsLater self t.state = subst (λ u. IsLater self u.state) row (on_message-step self self.inbox (message.Tx tx)).later in
      subst Went (sym row) (record {
        mine = reader_tx self other ms to_other tx b.mine mine (sym (ap (λ t. t.state.ended) row) ∙ going);
        theirs =
            holder_more other self to_other ms t.state g.new_held t.out g.pool comes.served (ap carried_transactions comes.out) (subst (AllByRecursion (IsPooled t.state.pool)) (sym (ap announced_ids comes.out)) tt)
            (subst (AllByRecursion IsHonest) (sym comes.out) tt) (holder_drop other self to_other ms (message.Tx tx) refl b.theirs);
      })

  pong_by-goes : (r : Role) (ends : Bool) → AreMutualWants self other ms to_other → Went (pong_by r ends self)
  unfolding pong_by
  pong_by-goes role.Opener true b = record {
    mine = reader_pong self other ms to_other b.mine mine;
    theirs = holder_asks other self to_other ms (turn_with (with_wants_requested self) (getdata_of self.wants.wanted)) (asks_getdata self (turn_with (with_wants_requested self) (getdata_of self.wants.wanted)) self.wants.wanted refl refl refl) b.theirs;
  }
  pong_by-goes role.Opener false b = both_apart self other ms to_other (unchanged self) (record { wants = refl; pool = refl; says = says_none self.pool }) b
  pong_by-goes role.Accepter ends b = both_apart self other ms to_other (unchanged self) (record { wants = refl; pool = refl; says = says_none self.pool }) b

  takes_pong : (n : ℕ) → Goes (message.Pong n)
  unfolding in_relay carried_transactions_of requested_ids_of announced_ids_of
  takes_pong n b going =
      subst Went (sym (relays_past self.machine.phase self (message.Pong n) past))
      (pong_by-goes self.config.role (is_barrier_end (initiator_of self) n) (record {
        mine = reader_drop self other ms to_other (message.Pong n) refl refl b.mine;
        theirs = holder_drop other self to_other ms (message.Pong n) refl b.theirs;
      }))

  takes_special : (m : Message) → is_about_wants m ≡ true → Goes m
  unfolding is_about_wants HasTxEntries
  takes_special (message.Inv es) h = takes_inv es
  takes_special (message.GetData es) h = takes_getdata es
  takes_special (message.Tx tx) h = takes_tx tx
  takes_special (message.Pong n) h = takes_pong n
  takes_special (message.NotFound es) h = λ b going. absurd (b.mine.honest.0.honest)
  takes_special _ h = absurd (let apart : false ≡ true = h in cc)

boths_by : (special : Bool) (self other : NodeState) (m : Message) (ms to_other : List Message) → is_about_wants m ≡ special → (is_about_wants m ≡ true → stage_of self.machine.phase ≡ Past)
    → IsSetUp self → IsWanting self → IsWanting other → AllByRecursion IsTransaction self.pool → AreMutualWants self other (m ∷ ms) to_other → (on_message self m).state.ended ≡ None
    → AreMutualWants (on_message self m).state other ms (to_other ++ (on_message self m).out)
boths_by false self other m ms to_other e past set mine theirs each b going = both_apart self other ms to_other (on_message self m) (takes-apart self set m e) (both_drop self other m ms to_other e b)
boths_by true self other m ms to_other e past set mine theirs each b going = takes_special self other ms to_other (past e) mine theirs each m e b going

pub boths-takes : (self other : NodeState) (m : Message) (ms to_other : List Message) → (is_about_wants m ≡ true → stage_of self.machine.phase ≡ Past) → IsSetUp self → IsWanting self → IsWanting other
    → AllByRecursion IsTransaction self.pool → AreMutualWants self other (m ∷ ms) to_other → (on_message self m).state.ended ≡ None → AreMutualWants (on_message self m).state other ms (to_other ++ (on_message self m).out)
boths-takes self other m ms to_other past set mine theirs each b going = boths_by (is_about_wants m) self other m ms to_other refl past set mine theirs each b going

-- ---- additions

pub record Adds (P : Hash32 → Type 0) (s : NodeState) (t : Turn) : Type 0 where
  pub asked : t.state.wants.asked ≡ s.wants.asked
  pub served : t.state.wants.served ≡ s.wants.served
  pub wanted : AllByRecursion P s.wants.wanted → AllByRecursion P t.state.wants.wanted

told_by-adds : (P : Hash32 → Type 0) (open_want past plain : Bool) (s : NodeState) (id : Hash32) → Adds P s (after_addition_by open_want past plain s id)
unfolding after_addition_by
told_by-adds P true past plain s id = record { asked = refl; served = refl; wanted = λ h. h }
told_by-adds P false false plain s id = record { asked = refl; served = refl; wanted = λ h. h }
told_by-adds P false true true s id = record { asked = refl; served = refl; wanted = λ h. h }
told_by-adds P false true false s id = record { asked = refl; served = refl; wanted = λ h. h }

pub added_by-adds : (P : Hash32 → Type 0) (ended present full : Bool) (s : NodeState) (t : Transaction) → Adds P s (on_addition_by ended present full s t).turn
unfolding on_addition_by
added_by-adds P true present full s t = record { asked = refl; served = refl; wanted = λ h. h }
added_by-adds P false true full s t = record { asked = refl; served = refl; wanted = λ h. h }
added_by-adds P false false true s t = record { asked = refl; served = refl; wanted = λ h. h }
added_by-adds P false false false s t =
    let told = told_by-adds P (is_listed (open_wants s) t.id) (is_after_handshake s.machine.phase) s.plain (with_pooled s t) t.id in
    record { asked = told.asked; served = told.served; wanted = λ h. told.wanted (without_kept P s.wants.wanted t.id h) }

pub boths-adds : (self other : NodeState) (to_self to_other : List Message) (tx : List ℕ) → self.plain ≡ false → AreMutualWants self other to_self to_other
    → AreMutualWants (on_addition self tx).turn.state other to_self (to_other ++ (on_addition self tx).turn.out)
boths-adds self other to_self to_other tx plain b =
    let t : Turn = (on_addition self tx).turn in
    let g : IsLater self t.state = on_addition-later self tx in
    let q : Quiet self t = adds-quiet self tx plain in
    let a : Adds (IsPooled other.pool) self t = added_by-adds (IsPooled other.pool) (is_some self.ended) (is_in_pool self.pool (transaction_of tx).id) (is_full self (transaction_of tx)) self (transaction_of tx) in
    record {
      mine = reader_more self other to_self to_other t.state g.new_held t.out g.pool a.asked (a.wanted b.mine.wanted) (ap requested_ids q.out) b.mine;
      theirs =
          holder_more other self to_other to_self t.state g.new_held t.out g.pool a.served (ap carried_transactions q.out) (subst (AllByRecursion (IsPooled t.state.pool)) (sym (ap announced_ids q.out)) tt)
          (subst (AllByRecursion IsHonest) (sym q.out) tt) b.theirs;
    }

-- ---- a round

pub begins_by-apart : (e : Option End) (r : Role) (idle : Bool) (s : NodeState) → s.plain ≡ false → Apart s (on_start_by e r idle s).turn
unfolding on_start_by round_by
begins_by-apart None role.Opener true s plain = subst (λ b. Apart s (round_by b s)) (sym plain) (record { wants = refl; pool = refl; says = says_request s.pool _ _ })
begins_by-apart None role.Opener false s plain = record { wants = refl; pool = refl; says = says_none s.pool }
begins_by-apart None role.Accepter idle s plain = record { wants = refl; pool = refl; says = says_none s.pool }
begins_by-apart (Some e) r idle s plain = record { wants = refl; pool = refl; says = says_none s.pool }

pub boths-begins : (self other : NodeState) (to_self to_other : List Message) → self.plain ≡ false → AreMutualWants self other to_self to_other
    → AreMutualWants (on_start self).turn.state other to_self (to_other ++ (on_start self).turn.out)
boths-begins self other to_self to_other plain b = both_apart self other to_self to_other (on_start self).turn (begins_by-apart self.ended self.config.role (is_idle self.machine.phase) self plain) b

pub begins-apart : (s : NodeState) → s.plain ≡ false → Apart s (on_start s).turn
begins-apart s plain = begins_by-apart s.ended s.config.role (is_idle s.machine.phase) s plain

round_by-reports : (plain : Bool) (s : NodeState) → (round_by plain s).state.machine.reports ≡ s.machine.reports
unfolding round_by
round_by-reports true s = refl
round_by-reports false s = refl

begins_by-reports : (e : Option End) (r : Role) (idle : Bool) (s : NodeState) → (on_start_by e r idle s).turn.state.machine.reports ≡ s.machine.reports
unfolding on_start_by
begins_by-reports None role.Opener true s = round_by-reports s.plain s
begins_by-reports None role.Opener false s = refl
begins_by-reports None role.Accepter idle s = refl
begins_by-reports (Some e) r idle s = refl

pub begins-reports : (s : NodeState) → (on_start s).turn.state.machine.reports ≡ s.machine.reports
begins-reports s = begins_by-reports s.ended s.config.role (is_idle s.machine.phase) s
