-- Each step of the machine that is kept.
use Rattle.std.proofs.Common.{◌≡◌, ◌+◌, ◌<◌, ◌≤◌, ℕ, zero, suc, Bool, true, false, nat_lt, List, [], ◌∷◌, ◌++◌, length, Some, None, Option, Result, Ok, Err, IfSome, refl, sym, ap, ap₂, subst, ◌∙◌, arith}
use Rattle.std.specs.Option.{is_some}
use Rattle.std.proofs.lemmas.Bool.{lt-ltb, le-ltb}
use Rattle.base_types.specs.declared.lists.Hash32.{Hash32}
use Rattle.wire_rules.specs.declared.message.Message.{Message}
use Rattle.wire_rules.specs.declared.message.Message.TheVariants as message
use Rattle.wire_rules.specs.declared.name.Name.TheVariants as name
use Rattle.wire_rules.specs.declared.phase.Phase.TheVariants as phase
use Rattle.pool_rules.specs.Capacity.{capacity}
use Rattle.pool_rules.specs.Snapshots.{Member, snapshot_sums}
use Rattle.pool_rules.specs.declared.limits.TheConstants.{FIRST_LIMIT}
use Rattle.pool_rules.specs.declared.report.Report.{Report}
use Rattle.sketch_rules.specs.Sketches.{bytes_of}
use Rattle.sketch_rules.specs.declared.limits.TheConstants.{MAX_CAPACITY}
use Rattle.node_rules.specs.Stages.{sent_phase, sent_extensions, is_idle, capacity_after}
use Rattle.node_rules.specs.State.{Machine}
use Rattle.node_rules.specs.Turns.{Response, inv_of}
use Rattle.node_rules.specs.Outcomes.{report_of}
use Rattle.node_rules.specs.Accepter.{accepter_reqrecon, reqrecon_by, accepter_extension, extension_after, extension_by, next_portion, accepter_diff, diff_after, diff_by, diff_fault, accepter_announcement, ending_of}
use Rattle.node_rules.specs.declared.end.End.{End}
use Rattle.node_rules.specs.declared.end.End.TheVariants as end
use Rattle.invariant_laws.proofs.Stages.{sent_extensions-sent_phase}
use Rattle.responder.specs.Refusals.{end_of, IsFault, IsRefusal}
use Rattle.responder.specs.Machines.{Progress, round_of, idle_machine, machine_of}
use Rattle.responder.specs.declared.fault.ResponderFault.{ResponderFault}
use Rattle.responder.specs.declared.fault.ResponderFault.TheVariants as fault

-- what is sent after a step, and the machine behind it
abbrev pub response : ℕ → List Report → Progress → List ℕ → Response
response level reports p bytes = record { machine = machine_of level (Some p) reports; out = message.Sketch bytes ∷ [] }

busy : (n : ℕ) → is_idle (sent_phase n) ≡ false
unfolding is_idle sent_phase
busy zero = refl
busy (suc zero) = refl
busy (suc (suc n)) = refl

-- ---- a request for a sketch

module _ (level : ℕ) (reports : List Report) (set : List Member) (size q : ℕ) where
  request_refused : (p : Option Progress) → is_some p ≡ true → accepter_reqrecon (machine_of level p reports) set size q ≡ Err (end.Misplaced name.ReqRecon (machine_of level p reports).phase)
  unfolding reqrecon_by
  request_refused None some = cc
  request_refused (Some p) some = ap (λ b. reqrecon_by b (machine_of level (Some p) reports) set size q) (busy p.extensions)

  pub busy_refuses : (p : Option Progress) (m : Machine) (f : ResponderFault) → machine_of level p reports ≡ m → is_some p ≡ true → f ≡ fault.Misplaced name.ReqRecon m.phase → IsRefusal (accepter_reqrecon m set size q) f
  busy_refuses p m f view some is =
      subst (IsRefusal (accepter_reqrecon m set size q)) (sym is) (subst (λ z. accepter_reqrecon z set size q ≡ Err (end.Misplaced name.ReqRecon z.phase)) view (request_refused p some))

  request_answered : (p : Option Progress) → is_some p ≡ false
      → accepter_reqrecon (machine_of level p reports) set size q
      ≡ Ok (response level reports (record { snapshot = set; capacity = capacity size (length set) q; extensions = 0 }) (bytes_of (snapshot_sums set 0 (capacity size (length set) q))))
  unfolding is_idle reqrecon_by
  request_answered None none = refl
  request_answered (Some p) none = cc

  pub idle_answers : (p : Option Progress) (m : Machine) (taken : List Member) (c : ℕ) (r : Progress) (bytes : List ℕ) → machine_of level p reports ≡ m → is_some p ≡ false → taken ≡ set → c ≡ capacity size (length set) q
      → r ≡ record { snapshot = taken; capacity = c; extensions = 0 } → bytes ≡ bytes_of (snapshot_sums set 0 c) → accepter_reqrecon m set size q ≡ Ok (response level reports r bytes)
  idle_answers p m taken c r bytes view none whole count is sent =
      ap (λ z. accepter_reqrecon z set size q) (sym view)
      ∙ request_answered p none
      ∙ ap₂ (λ z n. Ok (response level reports (record { snapshot = z; capacity = n; extensions = 0 }) (bytes_of (snapshot_sums set 0 n)))) (sym whole) (sym count)
      ∙ ap₂ (λ z b. Ok (response level reports z b)) (sym is) (sym sent)

-- ---- a request for an extension

-- the largest sketch has all sums that are ever sent
pub within_largest : (c n : ℕ) → c ≤ FIRST_LIMIT → n < 2 → capacity_after c n + capacity_after c n ≤ MAX_CAPACITY
within_largest c zero le lt = omega arith
within_largest c (suc zero) le lt = omega arith
within_largest c (suc (suc n)) le lt = absurd (omega arith)

module _ (level : ℕ) (reports : List Report) (m : Machine) where
  idle_refused : accepter_extension (machine_of level None reports) ≡ Err (end.Misplaced name.ReqSketchExt phase.Idle)
  unfolding sent_extensions extension_after
  idle_refused = refl

  pub idle_extends_not : (o : Option Progress) (f : ResponderFault) → machine_of level o reports ≡ m → o ≡ None → f ≡ fault.Misplaced name.ReqSketchExt m.phase → IsRefusal (accepter_extension m) f
  idle_extends_not o f view none is =
      let idle : machine_of level None reports ≡ m = ap (λ z. machine_of level z reports) (sym none) ∙ view in
      subst (IsRefusal (accepter_extension m)) (sym is) (subst (λ z. accepter_extension z ≡ Err (end.Misplaced name.ReqSketchExt z.phase)) idle idle_refused)

  extension_by_test : (p : Progress) (b : Bool) → p.extensions ≤ 2 → nat_lt p.extensions level ≡ b
      → accepter_extension (machine_of level (Some p) reports) ≡ extension_by b (machine_of level (Some p) reports) p.extensions
  unfolding extension_after
  extension_by_test p b few test =
      ap (λ o. extension_after o (machine_of level (Some p) reports)) (sent_extensions-sent_phase p.extensions few)
      ∙ ap (λ t. extension_by t (machine_of level (Some p) reports) p.extensions) test

  level_refused : (p : Progress) → p.extensions ≤ 2 → level ≤ p.extensions → accepter_extension (machine_of level (Some p) reports) ≡ Err (end.Misplaced name.ReqSketchExt (sent_phase p.extensions))
  unfolding extension_by
  level_refused p few reached = extension_by_test p false few (le-ltb p.extensions level reached)

  pub level_extends_not : (o : Option Progress) (p : Progress) (f : ResponderFault) → machine_of level o reports ≡ m → o ≡ Some p → p.extensions ≤ 2 → level ≤ p.extensions
      → f ≡ fault.Misplaced name.ReqSketchExt m.phase → IsRefusal (accepter_extension m) f
  level_extends_not o p f view some few reached is =
      let under : machine_of level (Some p) reports ≡ m = ap (λ z. machine_of level z reports) (sym some) ∙ view in
      subst (IsRefusal (accepter_extension m)) (sym is) (subst (λ z. accepter_extension z ≡ Err (end.Misplaced name.ReqSketchExt z.phase)) under (level_refused p few reached))

  extension_sent : (p : Progress) → p.extensions ≤ 2 → p.extensions < level
      → accepter_extension (machine_of level (Some p) reports) ≡ Ok (response level reports (record p { extensions = suc p.extensions }) (next_portion (round_of p) p.extensions))
  unfolding extension_by
  extension_sent p few below = extension_by_test p true few (lt-ltb p.extensions level below)

  pub extension_answers : (o : Option Progress) (p next : Progress) (bytes : List ℕ) → machine_of level o reports ≡ m → o ≡ Some p → p.extensions ≤ 2 → p.extensions < level
      → next ≡ record p { extensions = suc p.extensions } → bytes ≡ next_portion (round_of p) p.extensions → accepter_extension m ≡ Ok (response level reports next bytes)
  extension_answers o p next bytes view some few below is sent =
      ap accepter_extension (sym view ∙ ap (λ z. machine_of level z reports) some)
      ∙ extension_sent p few below
      ∙ ap₂ (λ z b. Ok (response level reports z b)) (sym is) (sym sent)

-- ---- the difference

-- a fault that there is is refused
refuses : (first : Option End) (due : Result Response End) (f : ResponderFault) → ((e : End) → first ≡ Some e → due ≡ Err e) → IsFault first f → IsRefusal due f
refuses first due f as_due is = each (end_of f) is
  where
    each : (o : Option End) → IfSome o (λ e. first ≡ Some e) → IfSome o (λ e. due ≡ Err e)
    each None h = tt
    each (Some e) h = as_due e h

module _ (level : ℕ) (reports : List Report) (m : Machine) (success : Bool) (asks : List ℕ) where
  diff_misplaced : accepter_diff (machine_of level None reports) success asks ≡ Err (end.Misplaced name.ReconcilDiff phase.Idle)
  unfolding sent_extensions diff_after
  diff_misplaced = refl

  pub idle_ends_not : (o : Option Progress) (f : ResponderFault) → machine_of level o reports ≡ m → o ≡ None → f ≡ fault.Misplaced name.ReconcilDiff m.phase → IsRefusal (accepter_diff m success asks) f
  idle_ends_not o f view none is =
      let idle : machine_of level None reports ≡ m = ap (λ z. machine_of level z reports) (sym none) ∙ view in
      subst (IsRefusal (accepter_diff m success asks)) (sym is) (subst (λ z. accepter_diff z success asks ≡ Err (end.Misplaced name.ReconcilDiff z.phase)) idle diff_misplaced)

  module _ (o : Option Progress) (p : Progress) (view : machine_of level o reports ≡ m) (some : o ≡ Some p) (few : p.extensions ≤ 2) where
    diff_by_fault : (first : Option End) → diff_fault success (round_of p) asks ≡ first → accepter_diff m success asks ≡ diff_by first (machine_of level (Some p) reports) p.extensions success asks
    unfolding diff_after
    diff_by_fault first is =
        ap (λ z. accepter_diff z success asks) (sym view ∙ ap (λ z. machine_of level z reports) some)
        ∙ ap (λ n. diff_after n (machine_of level (Some p) reports) success asks) (sent_extensions-sent_phase p.extensions few)
        ∙ ap (λ z. diff_by z (machine_of level (Some p) reports) p.extensions success asks) is

    pub faults_refused : (f : ResponderFault) → IsFault (diff_fault success (round_of p) asks) f → IsRefusal (accepter_diff m success asks) f
    unfolding diff_by
    faults_refused f is = refuses (diff_fault success (round_of p) asks) (accepter_diff m success asks) f as_due is
      where
        as_due : (e : End) → diff_fault success (round_of p) asks ≡ Some e → accepter_diff m success asks ≡ Err e
        as_due e first = diff_by_fault (Some e) first

    pub diff_answers : (report : Report) (more : List Report) (ids : List Hash32) (out : List Message) → diff_fault success (round_of p) asks ≡ None
        → ids ≡ accepter_announcement success (round_of p) asks → report ≡ report_of (round_of p) (ending_of success p.extensions) asks → more ≡ reports ++ report ∷ [] → out ≡ inv_of ids
        → accepter_diff m success asks ≡ Ok (record { machine = idle_machine level more; out = out })
    unfolding diff_by
    diff_answers report more ids out sound announced told kept sent =
        diff_by_fault None sound
        ∙ ap₂ (λ z b. Ok (record { machine = idle_machine level z; out = b }))
        (ap (λ r. reports ++ r ∷ []) (sym told) ∙ sym kept)
        (ap inv_of (sym announced) ∙ sym sent)
