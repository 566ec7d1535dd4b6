use Rattle.std.proofs.Common.{codes, List, [], ◌∷◌, subst, sym, ap, ◌∙◌}
use Rattle.pair_rules.specs.declared.event.Event.{Event}
use Rattle.pair_rules.specs.declared.event.Event.TheVariants as event
use Rattle.protocol_text_rules.specs.Scripts.{addition, delivered_bytes, delivery}
use Rattle.tx_pool.specs.Lines.{IsLineOutcome}
use Rattle.script_text.proofs.Forms.{line_test, line_events-round, line_events-ab, line_events-ba, line_events-a, line_events-b, line_events-none}
use Rattle.script_text.proofs.line.event_of.Goals as goal

pub returns-then-eq : goal.returns-then-eq
returns-then-eq c = line_events-round c.args.line.now (line_test c.args.line.now c.as_slice.result.now (codes "round") c.eq.ensures c.as_slice.ensures c.if-eq.true)

pub returns-in-Some : goal.returns-in-Some
returns-in-Some c =
    let is = line_events-ab c.args.line.now (line_test c.args.line.now c.as_slice.result.now (codes "round") c.eq.ensures c.as_slice.ensures c.if-eq.false) c.requires c.in-Some.ensures.cases.0 in
    subst (IsLineOutcome {A = Event} {B = List Event} (λ event. event ∷ []) c.delivered.result) (ap (λ word. delivery event.DeliverAb (delivered_bytes word)) c.in-Some.ensures.cases.1 ∙ sym is) c.delivered.ensures

pub returns-in-Some-strip_prefix : goal.returns-in-Some-strip_prefix
returns-in-Some-strip_prefix c =
    let is = line_events-ba c.args.line.now (line_test c.args.line.now c.as_slice.result.now (codes "round") c.eq.ensures c.as_slice.ensures c.if-eq.false) c.requires c.in_default.ensures.cases c.in-Some-strip_prefix.ensures.cases.0 in
    subst (IsLineOutcome {A = Event} {B = List Event} (λ event. event ∷ []) c.delivered-in-Some-strip_prefix.result) (ap (λ word. delivery event.DeliverBa (delivered_bytes word)) c.in-Some-strip_prefix.ensures.cases.1 ∙ sym is) c.delivered-in-Some-strip_prefix.ensures

pub returns-in-Some-strip_prefix-2 : goal.returns-in-Some-strip_prefix-2
returns-in-Some-strip_prefix-2 c =
    let is = line_events-a c.args.line.now (line_test c.args.line.now c.as_slice.result.now (codes "round") c.eq.ensures c.as_slice.ensures c.if-eq.false) c.requires c.in_default.ensures.cases c.in_default-strip_prefix.ensures.cases c.in-Some-strip_prefix-2.ensures.cases.0 in
    subst (IsLineOutcome {A = Event} {B = List Event} (λ event. event ∷ []) c.added.result) (ap (addition event.AddA) c.in-Some-strip_prefix-2.ensures.cases.1 ∙ sym is) c.added.ensures

pub returns-in-Some-strip_prefix-3 : goal.returns-in-Some-strip_prefix-3
returns-in-Some-strip_prefix-3 c =
    let is = line_events-b c.args.line.now (line_test c.args.line.now c.as_slice.result.now (codes "round") c.eq.ensures c.as_slice.ensures c.if-eq.false) c.requires c.in_default.ensures.cases c.in_default-strip_prefix.ensures.cases c.in_default-strip_prefix-2.ensures.cases c.in-Some-strip_prefix-3.ensures.cases.0 in
    subst (IsLineOutcome {A = Event} {B = List Event} (λ event. event ∷ []) c.added-in-Some-strip_prefix-3.result) (ap (addition event.AddB) c.in-Some-strip_prefix-3.ensures.cases.1 ∙ sym is) c.added-in-Some-strip_prefix-3.ensures

pub returns : goal.returns
returns c = line_events-none c.args.line.now (line_test c.args.line.now c.as_slice.result.now (codes "round") c.eq.ensures c.as_slice.ensures c.if-eq.false) c.requires c.in_default.ensures.cases c.in_default-strip_prefix.ensures.cases c.in_default-strip_prefix-2.ensures.cases c.in_default-strip_prefix-3.ensures.cases
