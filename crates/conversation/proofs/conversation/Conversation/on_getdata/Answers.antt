use Rattle.std.proofs.Common.{take, length, sym, ap, ◌∙◌, subst}
use Rattle.std.specs.List.{AllByRecursion}
use Rattle.wire_rules.specs.Limits.{IsMessage}
use Rattle.node_rules.specs.Inventory.{on_getdata}
use Rattle.node_rules.specs.State.{NodeView}
use Rattle.node_rules.specs.Turns.{after_turn}
use Rattle.outbox.specs.Waiting.{Waiting}
use Rattle.conversation.specs.contracts.conversation.Conversation.{the_view}
use Rattle.conversation.proofs.Relaying.{starved, taken}
use Rattle.conversation.proofs.Serving.{getdata-sendable}
use Rattle.conversation.proofs.conversation.Conversation.on_getdata.Goals as goal

pub serve_all-requires-clause-sendable : goal.serve_all-requires-clause-sendable
serve_all-requires-clause-sendable c =
    let s = c.args.self.now.state in
    subst (λ es. AllByRecursion IsMessage (on_getdata s es).out) (sym c.as_slice.ensures) (getdata-sendable s c.args.entries.now c.requires.node c.requires.message c.requires.relaying)

pub returns-in_default : goal.returns-in_default
returns-in_default c =
    let v : NodeView = the_view c.self-2.inside in
    starved (on_getdata c.args.self.now.state c.args.entries.now) c.args.self.now (record v { outbox = c.truncate.new.self.bytes })
    (record {
      config = ap (λ (v : NodeView). v.state.config) c.self-2.view_is ∙ c.in_default.ensures.config;
      pool = ap (λ (v : NodeView). v.state.pool) c.self-2.view_is ∙ c.in_default.ensures.pool;
      outbox =
          ap (λ (w : Waiting). w.bytes) c.truncate.ensures
          ∙ ap (λ n. take n v.outbox) (c.len-len.ensures ∙ ap (λ (v : NodeView). length v.outbox) c.self.view_is)
          ∙ ap (λ (u : NodeView). take (length c.args.self.now.outbox) u.outbox) c.self-2.view_is
          ∙ c.in_default.ensures.front;
    })

pub returns : goal.returns
returns c =
    let v = c.args.self.now in
    taken (on_getdata v.state c.args.entries.now) v c.serve_all.new.self (c.in-Ok.ensures.ok ∙ ap (λ es. after_turn v (on_getdata v.state es)) c.as_slice.ensures) (ap (λ (v : NodeView). v.state.ended) (sym c.self.view_is))
