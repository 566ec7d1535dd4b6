use Rattle.std.proofs.Common.{◌≡◌, sym, ap, ◌∙◌, subst, IsTrue}
use Rattle.node_rules.specs.Invariant.{is_phase_of}
use Rattle.node_rules.specs.State.{NodeView}
use Rattle.conversation.specs.Views.{IsStageOf}
use Rattle.conversation.specs.contracts.conversation.Conversation.{the_view}
use Rattle.conversation.specs.declared.conversation.Conversation.TheInside.{Inside}
use Rattle.conversation.proofs.Fetching.{after_asking, fetched_stage, fetched_view, other_view, still_asking}
use Rattle.conversation.proofs.conversation.Conversation.end_fetching.Goals as goal
use Rattle.conversation.proofs.conversation.Conversation.end_fetching.Goals.{in-Opener, in_default}

pub returns-then-has_asked : goal.returns-then-has_asked
returns-then-has_asked c = still_asking c.args.self.now (λ e. c.has_asked.ensures.asked c.if-has_asked.true (ap (λ (v : NodeView). v.state.wants.asked) c.self.view_is ∙ e))

pub invariant_of-self : goal.invariant_of-self
invariant_of-self c =
    elim c.match-self.branch [
      | in-Opener w ↦
          subst (λ (i : Inside). IsStageOf i.config.role i.stage × (i.outbox.magic ≡ i.config.magic)) (sym w.self-inside-is)
          (fetched_stage c.self.inside.config.role c.self.inside.stage w.in-Opener.machine w.on_last_want.new.self w.in-Opener.is w.on_last_want.ensures c.self.invariant.0, c.self.invariant.1)
      | in_default w ↦ subst (λ (i : Inside). IsStageOf i.config.role i.stage × (i.outbox.magic ≡ i.config.magic)) (sym w.self-inside-is) c.self.invariant
    ]

pub returns : goal.returns
returns c =
    let i = c.self.inside in
    let none = c.has_asked.ensures.none c.if-has_asked.false in
    let of_role = subst (λ (v : NodeView). IsTrue (is_phase_of v.state.config.role v.state.machine.phase)) (sym c.self.view_is) c.requires in
    elim c.match-self.branch [
      | in-Opener w ↦
          ap the_view w.self-inside-is
          ∙ fetched_view i.config i.set i.store i.peer i.outbox.bytes i.stage w.in-Opener.machine w.on_last_want.new.self w.in-Opener.is w.on_last_want.ensures none
          ∙ ap after_asking c.self.view_is
      | in_default w ↦
          ap the_view w.self-inside-is
          ∙ other_view i.config i.set i.store i.peer i.outbox.bytes i.stage w.in_default.not-Opener c.self.invariant.0 of_role none
          ∙ ap after_asking c.self.view_is
    ]
