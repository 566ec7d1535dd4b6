-- What a step of a node says of rounds is what its new report says.
use Rattle.std.proofs.Common.{◌≡◌, ℕ, zero, suc, not, ◌&&◌, Bool, true, false, List, [], ◌∷◌, ◌++◌, Option, Some, None, refl, sym, ap, ap₂, ◌∙◌, subst, append-nil}
use Rattle.std.specs.List.{AllByRecursion}
use Rattle.std.proofs.lemmas.List.Elements.{filter-append}
use Rattle.std.proofs.lemmas.List.Concat.{flat_map-append}
use Rattle.base_types.specs.declared.lists.Hash32.{Hash32}
use Rattle.id_rules.specs.Ids.{KeyPair}
use Rattle.wire_rules.specs.Limits.{IsMessage}
use Rattle.wire_rules.specs.declared.message.InvEntry.{InvEntry}
use Rattle.wire_rules.specs.declared.message.Message.{Message}
use Rattle.wire_rules.specs.declared.message.Message.TheVariants as message
use Rattle.wire_rules.specs.declared.phase.Phase.{Phase}
use Rattle.wire_rules.specs.declared.phase.Phase.TheVariants as phase
use Rattle.pool_rules.specs.Pools.{Transaction, IsTransaction, transaction_of, is_listed, bytes_of_id}
use Rattle.pool_rules.specs.Snapshots.{Member, ids_of}
use Rattle.pool_rules.specs.declared.report.Ending.TheVariants as ending
use Rattle.pool_rules.specs.declared.report.Report.{Report}
use Rattle.node_rules.specs.Accepter.{accepter_announcement, diff_fault, ending_of}
use Rattle.node_rules.specs.Additions.{on_addition}
use Rattle.node_rules.specs.Handshake.{reply}
use Rattle.node_rules.specs.Inventory.{Serving, serving_after, serving_after_entry, serving_by, serving_of, is_tx_entry}
use Rattle.node_rules.specs.Invariant.{IsMember, IsSetUp}
use Rattle.node_rules.specs.Opener.{round_after_sketch}
use Rattle.node_rules.specs.Outcomes.{announcement, missing_short_ids, report_of}
use Rattle.node_rules.specs.Stages.{requested_extensions, sent_extensions, answered_ending, extensions_in}
use Rattle.node_rules.specs.State.{NodeState, Round, node_keys}
use Rattle.node_rules.specs.Steps.{on_message, on_start}
use Rattle.node_rules.specs.Turns.{Turn, inv_of, getdata_of, notfound_of}
use Rattle.node_rules.specs.declared.config.Config.{Config}
use Rattle.node_rules.specs.declared.config.Role.{Role}
use Rattle.node_rules.specs.declared.config.Role.TheVariants as role
use Rattle.invariant_laws.proofs.Rows.{EachRow, on_message-rows, on_addition-rows, on_start-rows}
use Rattle.pair_rules.specs.Announcements.{is_outcome, outcomes, outcomes_of, outcome_of, difference_of}
use Rattle.pair_rules.specs.Rounds.{announced_by, announced_of}
use Rattle.pair_invariant_rules.specs.Handshake.{Past, stage_of}
use Rattle.pair_invariant_laws.proofs.SketchSteps.{members_again}
use Rattle.pair_invariant_laws.proofs.Telling.{asked_stage, given_stage}

-- the reports are those before and then more, of which just what is announced was said
pub record Announces (side : Role) (keys : KeyPair) (before after : List Report) (out : List Message) : Type 0 where
  pub more : List Report
  pub reports : after ≡ before ++ more
  pub said : outcomes out ≡ outcomes_of side keys more

-- ---- what is said

outcomes_append : (xs ys : List Message) → outcomes (xs ++ ys) ≡ outcomes xs ++ outcomes ys
outcomes_append xs ys = filter-append is_outcome xs ys

outcomes_none : (xs ys : List Message) → outcomes xs ≡ [] → outcomes ys ≡ [] → outcomes (xs ++ ys) ≡ []
outcomes_none xs ys e h = outcomes_append xs ys ∙ ap₂ (λ u v. u ++ v) e h

of_inv : (ids : List Hash32) → outcomes (inv_of ids) ≡ inv_of ids
unfolding is_outcome
of_inv [] = refl
of_inv (id ∷ ids) = refl

of_getdata : (ids : List Hash32) → outcomes (getdata_of ids) ≡ []
unfolding is_outcome
of_getdata [] = refl
of_getdata (id ∷ ids) = refl

of_notfound : (es : List InvEntry) → outcomes (notfound_of es) ≡ []
unfolding is_outcome
of_notfound [] = refl
of_notfound (e ∷ es) = refl

of_reply : (r : Role) (c : Config) → outcomes (reply r c) ≡ []
unfolding is_outcome reply
of_reply role.Opener c = refl
of_reply role.Accepter c = refl

of_served : (may : Bool) (tx : Option (List ℕ)) (e : InvEntry) (v : Serving) → outcomes v.sent ≡ [] → outcomes (serving_by may tx e v).sent ≡ []
unfolding serving_by is_outcome
of_served true (Some tx) e v h = outcomes_none v.sent (message.Tx tx ∷ []) h refl
of_served true None e v h = h
of_served false tx e v h = h

of_serving : (pool : List Transaction) (v : Serving) (es : List InvEntry) → outcomes v.sent ≡ [] → outcomes (serving_after pool v es).sent ≡ []
unfolding serving_after
of_serving pool v [] h = h
of_serving pool v (e ∷ es) h = of_serving pool (serving_after_entry pool v e) es (of_served (is_tx_entry e && not (is_listed v.served e.id)) (bytes_of_id pool e.id) e v h)

of_diff : (success : Bool) (asks : List ℕ) (ids : List Hash32) (number : ℕ) → outcomes (message.ReconcilDiff success asks ∷ (inv_of ids ++ message.Ping number ∷ [])) ≡ message.ReconcilDiff success asks ∷ inv_of ids
unfolding is_outcome
of_diff success asks ids number =
    ap (λ xs. message.ReconcilDiff success asks ∷ xs) (outcomes_append (inv_of ids) (message.Ping number ∷ []) ∙ append-nil (outcomes (inv_of ids)) ∙ of_inv ids)

-- ---- what reports say

asked_past : (p : Phase) (n : ℕ) → requested_extensions p ≡ Some n → stage_of p ≡ Past
unfolding requested_extensions stage_of
asked_past phase.Greeting n e = absurd (let apart : None ≡ Some n = e in cc)
asked_past phase.Greeted n e = absurd (let apart : None ≡ Some n = e in cc)
asked_past other n e = refl

given_past : (p : Phase) (n : ℕ) → sent_extensions p ≡ Some n → stage_of p ≡ Past
unfolding sent_extensions stage_of
given_past phase.Greeting n e = absurd (let apart : None ≡ Some n = e in cc)
given_past phase.Greeted n e = absurd (let apart : None ≡ Some n = e in cc)
given_past other n e = refl

no_asks : (success : Bool) (r : Round) (asks : List ℕ) → diff_fault success r asks ≡ None → success ≡ false → asks ≡ []
no_asks true r asks f e = absurd (let apart : true ≡ false = e in cc)
no_asks false r [] f e = refl
no_asks false r (x ∷ xs) f e = absurd (cc)

module _ (keys : KeyPair) (pool : List Transaction) where
  abbrev Answered : List Member → ℕ → ℕ → List ℕ → Report
  Answered ms c n shorts = record { snapshot = ids_of ms; capacity = c; ending = answered_ending n; answered = shorts }

  answered_is : (n : ℕ) (ms : List Member) (c : ℕ) (shorts : List ℕ) → extensions_in (answered_ending n) ≡ Some n → AllByRecursion (IsMember keys pool) ms → announcement ms shorts ≡ announced_of keys (Answered ms c n shorts)
  unfolding announced_by
  answered_is n ms c shorts stage h = ap (λ q. announcement q shorts) (sym (members_again keys pool ms h)) ∙ ap (λ o. announced_by o keys (Answered ms c n shorts)) (sym stage)

  difference_is : (n : ℕ) (ms : List Member) (c : ℕ) (shorts : List ℕ) → extensions_in (answered_ending n) ≡ Some n → AllByRecursion (IsMember keys pool) ms
      → message.ReconcilDiff true (missing_short_ids ms shorts) ≡ difference_of (extensions_in (answered_ending n)) keys (Answered ms c n shorts)
  unfolding difference_of
  difference_is n ms c shorts stage h =
      ap (λ q. message.ReconcilDiff true (missing_short_ids q shorts)) (sym (members_again keys pool ms h)) ∙ ap (λ o. difference_of o keys (Answered ms c n shorts)) (sym stage)

  fallback_is : (ms : List Member) (c : ℕ) → ids_of ms ≡ announced_of keys (record { snapshot = ids_of ms; capacity = c; ending = ending.Fallback; answered = [] })
  unfolding announced_by extensions_in
  fallback_is ms c = refl

  -- an accepter's announcement
  announced_is : (success : Bool) (r : Round) (n : ℕ) (asks : List ℕ) → (success ≡ false → asks ≡ []) → extensions_in (answered_ending n) ≡ Some n → AllByRecursion (IsMember keys pool) r.snapshot
      → outcomes (inv_of (accepter_announcement success r asks)) ≡ outcome_of role.Accepter keys (report_of r (ending_of success n) asks)
  unfolding outcome_of
  announced_is true r n asks none stage h = of_inv (accepter_announcement true r asks) ∙ ap inv_of (answered_is n r.snapshot r.capacity asks stage h)
  announced_is false r n asks none stage h =
      of_inv (accepter_announcement false r asks) ∙ ap inv_of (fallback_is r.snapshot r.capacity ∙ ap (λ xs. announced_of keys (report_of r ending.Fallback xs)) (sym (none refl)))

-- ---- the rows

-- under the keys that a node has behind the handshake
module _ (s : NodeState) (mine : IsSetUp s) (keys : KeyPair) (same : stage_of s.machine.phase ≡ Past → node_keys s ≡ keys) where
  -- of a node that isn't plain behind the step
  record Says (t : Turn) : Type 0 where
    says : t.state.plain ≡ false → Announces s.config.role keys s.machine.reports t.state.machine.reports t.out

  silent : (t : Turn) → t.state.machine.reports ≡ s.machine.reports → outcomes t.out ≡ [] → Says t
  silent t e h = record { says = λ whole. record { more = []; reports = e ∙ sym (append-nil s.machine.reports); said = h } }

  reports_in : (side : Role) (t : Turn) (r : Report) → s.config.role ≡ side → t.state.machine.reports ≡ s.machine.reports ++ r ∷ [] → outcomes t.out ≡ outcome_of side keys r → Says t
  reports_in side t r e h said = record {
    says = λ whole.
        subst (λ side. Announces side keys s.machine.reports t.state.machine.reports t.out) (sym e) (record { more = r ∷ []; reports = h; said = said ∙ sym (append-nil (outcome_of side keys r)) });
  }

  snapshot_members : stage_of s.machine.phase ≡ Past → AllByRecursion (IsMember keys s.pool) s.machine.round.snapshot
  snapshot_members past = subst (λ k. AllByRecursion (IsMember k s.pool) s.machine.round.snapshot) (same past) mine.snapshot.each

  sketch_members : (n : ℕ) (bytes : List ℕ) → stage_of s.machine.phase ≡ Past → AllByRecursion (IsMember keys s.pool) (round_after_sketch s.machine s.set n bytes).snapshot
  unfolding round_after_sketch
  sketch_members zero bytes past = subst (λ k. AllByRecursion (IsMember k s.pool) s.set) (same past) mine.set.each
  sketch_members (suc n) bytes past = snapshot_members past

  each_says : EachRow s Says
  unfolding is_outcome outcome_of difference_of extensions_in
  each_says = record {
    stays = silent _ refl refl;
    ends = λ e. silent _ refl refl;
    version = λ e. silent _ refl (of_reply s.config.role s.config);
    wtxidrelay = λ e. silent _ refl refl;
    offer = λ o e is none. silent _ refl refl;
    plain = λ e by_id none. record { says = λ whole. absurd (let apart : true ≡ false = whole in cc) };
    whole = λ o e by_id some. silent _ refl refl;
    answer = λ n bytes es a e.
        let r : Round = round_after_sketch s.machine s.set n bytes in
        let stage = asked_stage s.machine.phase n a.waits in
        let each = sketch_members n bytes (asked_past s.machine.phase n a.waits) in
        reports_in role.Opener _ (report_of r (answered_ending n) es) a.opener.role refl
        (of_diff true (missing_short_ids r.snapshot es) (announcement r.snapshot es) s.requests.begun
        ∙ ap₂ (λ d ids. d ∷ inv_of ids) (difference_is keys s.pool n r.snapshot r.capacity es stage each) (answered_is keys s.pool n r.snapshot r.capacity es stage each));
    more = λ n bytes a e. silent _ refl refl;
    fallback = λ n bytes a.
        let r : Round = round_after_sketch s.machine s.set n bytes in
        reports_in role.Opener _ (report_of r ending.Fallback []) a.opener.role refl
        (of_diff false [] (ids_of r.snapshot) s.requests.begun ∙ ap (λ ids. message.ReconcilDiff false [] ∷ inv_of ids) (fallback_is keys s.pool r.snapshot r.capacity));
    first = λ size q a e. silent _ refl refl;
    extension = λ n a g e. silent _ refl refl;
    difference = λ n success asks a g f m.
        reports_in role.Accepter _ (report_of s.machine.round (ending_of success n) asks) a.role refl
        (announced_is keys s.pool success s.machine.round n asks (no_asks success s.machine.round asks f) (given_stage s.machine.phase n g) (snapshot_members (given_past s.machine.phase n g)));
    wants = λ es n. silent _ refl refl;
    request = λ es n. silent _ refl (of_getdata _);
    getdata = λ es past m. silent _ refl
        (outcomes_none (serving_of s es).sent (notfound_of (serving_of s es).missing) (of_serving s.pool (record { served = s.wants.served; sent = []; missing = [] }) es refl) (of_notfound (serving_of s es).missing));
    notfound = λ es past m. silent _ refl refl;
    known = λ t past a k. silent _ refl refl;
    gained = λ t past a k f. silent _ refl refl;
    ping = λ n past m. silent _ refl refl;
    pong = λ r e. silent _ refl (of_getdata s.wants.wanted);
    addition = λ t a. silent _ refl refl;
    announcement = λ t a k past plain. record { says = λ whole. absurd (let apart : true ≡ false = sym plain ∙ whole in cc) };
    member = λ t a k past whole. silent _ refl refl;
    round = λ r idle. silent _ refl refl;
    plain_round = λ r idle plain. silent _ refl refl;
  }

  pub on_message-announces : (m : Message) → IsMessage m → (on_message s m).state.plain ≡ false → Announces s.config.role keys s.machine.reports (on_message s m).state.machine.reports (on_message s m).out
  on_message-announces m sound = (on_message-rows s Says each_says m sound).says

  pub on_addition-announces : (tx : List ℕ) → IsTransaction (transaction_of tx) → (on_addition s tx).turn.state.plain ≡ false
      → Announces s.config.role keys s.machine.reports (on_addition s tx).turn.state.machine.reports (on_addition s tx).turn.out
  on_addition-announces tx sound = (on_addition-rows s Says each_says tx sound).says

  pub on_start-announces : (on_start s).turn.state.plain ≡ false → Announces s.config.role keys s.machine.reports (on_start s).turn.state.machine.reports (on_start s).turn.out
  on_start-announces = (on_start-rows s Says each_says).says

-- ---- in a row

pub said_on : (side : Role) (keys : KeyPair) (before after : List Report) (by out : List Message) → Announces side keys before after out → outcomes by ≡ outcomes_of side keys before → outcomes (by ++ out) ≡ outcomes_of side keys after
said_on side keys before after by out a h =
    outcomes_append by out
    ∙ (ap₂ (λ u v. u ++ v) h a.said
    ∙ (sym (flat_map-append (outcome_of side keys) before a.more)
    ∙ ap (outcomes_of side keys) (sym a.reports)))
