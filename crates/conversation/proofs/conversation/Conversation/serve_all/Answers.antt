use Rattle.std.proofs.Common.{◌∷◌, [], Bool, true, false, if◌then◌else◌, get_or, take, sym, ap, ◌∙◌, subst, append-nil}
use Rattle.std.proofs.lemmas.List.{take_all, take_more}
use Rattle.std.specs.List.{AllByRecursion}
use Rattle.id_rules.proofs.Lists.{all_right}
use Rattle.wire_rules.specs.Limits.{IsMessage}
use Rattle.node_rules.specs.Inventory.{serving_of}
use Rattle.node_rules.specs.State.{NodeView}
use Rattle.node_rules.specs.Turns.{notfound_of}
use Rattle.relay_store.proofs.Entries.{no_entry}
use Rattle.conversation.specs.Inventories.{missing_in, view_serving}
use Rattle.conversation.proofs.Serving.{first_missing, first_view, more_missing, next_view}
use Rattle.conversation.proofs.conversation.Conversation.serve_all.Goals as goal
use Rattle.conversation.proofs.conversation.Conversation.serve_all.Goals.{then-not-branch+in_ok-push, else-not-branch}

pub loop-entry-init : goal.loop-entry-init
loop-entry-init c = record { served = first_view c.args.self.now; missing = c.new-missing.ensures.items ∙ sym (first_missing c.args.self.now.state) }

pub loop-entry-preserved : goal.loop-entry-preserved
loop-entry-preserved c =
    let es = c.args.entries.now in
    let k = c.loop-entry.entry-index in
    let e = get_or es k no_entry in
    let v = c.args.self.now in
    let more = take_more es k no_entry c.loop-entry-test.true in
    let told = ap (λ (w : NodeView). missing_in w.state (e ∷ [])) c.loop-entry.invariant.served in
    record {
      served =
          c.in_ok-serve.ensures.ok
          ∙ ap (λ w. view_serving w (e ∷ [])) c.loop-entry.invariant.served
          ∙ next_view v (take k es) e
          ∙ ap (view_serving v) (sym more);
      missing =
          elim c.if-not-branch.branch [
            | then-not-branch+in_ok-push w ↦
                more_missing v (take k es) e false c.loop-entry.missing.items c.if-not-branch.missing.items c.loop-entry.invariant.missing
                (sym told ∙ c.in_ok-serve.ensures.told ∙ ap (λ (b : Bool). (if b then [] else (e ∷ []))) w.if-not-branch.true)
                (ap (λ m. m.items) w.missing-is ∙ w.in_ok-push.ensures.items)
                ∙ ap (missing_in v.state) (sym more)
            | else-not-branch w ↦
                more_missing v (take k es) e true c.loop-entry.missing.items c.if-not-branch.missing.items c.loop-entry.invariant.missing
                (sym told ∙ c.in_ok-serve.ensures.told ∙ ap (λ (b : Bool). (if b then [] else (e ∷ []))) w.if-not-branch.false)
                (ap (λ m. m.items) w.missing-is ∙ sym (append-nil c.loop-entry.missing.items))
                ∙ ap (missing_in v.state) (sym more)
          ];
    }

pub push_all-requires : goal.push_all-requires
push_all-requires c =
    let es = c.args.entries.now in
    let all = take_all c.loop-entry.entry-index es c.loop-entry-test.false in
    subst (λ ms. AllByRecursion IsMessage ms)
    (sym (c.as_slice-2.ensures.value ∙ c.in_ok-messages.ensures ∙ ap notfound_of (c.as_slice.ensures.value ∙ c.loop-entry.invariant.missing ∙ ap (missing_in c.args.self.now.state) all)))
    (all_right IsMessage (serving_of c.args.self.now.state es).sent (notfound_of (missing_in c.args.self.now.state es)) c.requires.sendable)
