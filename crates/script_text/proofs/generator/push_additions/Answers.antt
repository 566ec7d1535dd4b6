use Rattle.std.proofs.Common.{◌≡◌, ◌++◌, ◌/◌, ◌^◌, ◌∷◌, [], OnOk, rules, subst, ap, ◌∙◌}
use Rattle.pair_rules.specs.declared.event.Event.TheVariants as event
use Rattle.protocol_text_rules.specs.Generator.{additions_by, generated_tx}
use Rattle.script_text.proofs.Lists.{additions_by-a, additions_by-b, additions_by-both}
use Rattle.script_text.proofs.generator.push_additions.Goals as goal

pub returns-in-0 : goal.returns-in-0
returns-in-0 c =
    subst (λ more. OnOk c.push_event.result (c.push_event.new.events.items ≡ c.args.events.now.items ++ more)) (additions_by-a (c.args.number / 2 ^ 60) c.in_ok-tx.tx c.in-0.is ∙ ap (additions_by (c.args.number / 2 ^ 60)) c.in_ok-tx.ensures) c.push_event.ensures

pub returns-in-1 : goal.returns-in-1
returns-in-1 c =
    subst (λ more. OnOk c.push_event-in-1.result (c.push_event-in-1.new.events.items ≡ c.args.events.now.items ++ more)) (additions_by-b (c.args.number / 2 ^ 60) c.in_ok-tx.tx c.in-1.is ∙ ap (additions_by (c.args.number / 2 ^ 60)) c.in_ok-tx.ensures) c.push_event-in-1.ensures

pub returns-in_ok-generated_tx-in_default : goal.returns-in_ok-generated_tx-in_default
returns-in_ok-generated_tx-in_default c =
    let r = c.args.number / 2 ^ 60 in
    let tx = generated_tx c.args.i c.args.number in
    let first = c.in_ok-push_event-in_default.ensures ∙ ap (λ t. c.args.events.now.items ++ event.AddA t ∷ []) c.in_ok-tx.ensures in
    let both = additions_by-both r tx c.args.events.now.items c.push_event-in_default.new.events.items (search rules) (search rules) first in
    subst (λ all. OnOk c.push_event-in_default-2.result (c.push_event-in_default-2.new.events.items ≡ all)) (ap (λ t. c.push_event-in_default.new.events.items ++ event.AddB t ∷ []) c.in_ok-generated_tx-in_default.ensures ∙ both) c.push_event-in_default-2.ensures
