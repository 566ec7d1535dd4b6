use Rattle.std.proofs.Common.{◌≡◌, ◌∙◌, ◌==◌, ℕ, Bool, not, length, List, ap, sym, subst, arith, refl}
use Rattle.node_rules.specs.State.{opening_state}
use Rattle.session_rules.specs.Session.{session_start}
use Rattle.session_rules.specs.declared.session_end.SessionEnd.TheVariants as session_end
use Rattle.session.specs.Standing.{IsOver, IsStanding, IsTurn}
use Rattle.session.proofs.Bounds.{first-standing, first-starved, over-busy, over-input, over-session}
use Rattle.session.proofs.exchange.session.Given as given
use Rattle.session.proofs.exchange.session.Goals as goal

-- ---- no memory for a piece

starved : (g : given.Over) (c : goal.In_default g) → IsOver (not (length c.args.node.now.outbox == 0)) c.args.rounds (session_start (opening_state c.args.node.now.state.config c.args.node.now.state.pool)) (g.W.Wire.link c.args.wire.now) (g.W.Wire.link c.args.wire.now) (g.W.Wire.has_ended c.args.wire.now) c.args.node.now session_end.OutOfMemory
starved g c = first-starved c.args.rounds (g.W.Wire.link c.args.wire.now) (g.W.Wire.has_ended c.args.wire.now) c.args.node.now c.requires.node c.requires.unused c.requires.input

pub returns-in_default-clause-session : goal.returns-in_default-clause-session
returns-in_default-clause-session g c =
    let ended = g.W.Wire.has_ended c.args.wire.now in
    let link = g.W.Wire.link c.args.wire.now in
    over-session (not (length c.args.node.now.outbox == 0)) c.args.rounds c.args.node.now c.args.node.now link ended session_end.OutOfMemory link (starved g c)

pub returns-in_default-clause-ended : goal.returns-in_default-clause-ended
returns-in_default-clause-ended g c = (starved g c).end

pub returns-in_default-clause-input : goal.returns-in_default-clause-input
returns-in_default-clause-input g c = (starved g c).input_by

pub returns-in_default-clause-busy : goal.returns-in_default-clause-busy
returns-in_default-clause-busy g c =
    let v = c.args.node.now in
    let link = g.W.Wire.link c.args.wire.now in
    over-busy (not (length v.outbox == 0)) c.args.rounds (session_start (opening_state v.state.config v.state.pool)) link link (g.W.Wire.has_ended c.args.wire.now) v session_end.OutOfMemory (starved g c) v.state.config.role (starved g c).opener

-- ---- the first turn

pub loop-answer-init : goal.loop-answer-init
loop-answer-init g c =
    let v = c.args.node.now in
    let speaks : not c.is_empty.result ≡ not (length v.outbox == 0) = ap not (c.is_empty.ensures ∙ ap (λ (o : List ℕ). length o == 0) c.outbox.ensures) in
    let first = first-standing (not c.is_empty.result) c.args.rounds (g.W.Wire.link c.args.wire.now) (g.W.Wire.has_ended c.args.wire.now) v c.requires.node c.requires.unused c.requires.input speaks in
    record {
      linked = c.requires.linked;
      buffer = c.in-Ok.ensures.len;
      most = omega arith;
      role = first.at.opener;
      standing = first;
      same = refl;
    }

-- ---- the last one

over : (g : given.Over) (c : goal.After-drop-buffer g) → IsOver c.loop-answer.progress.opens c.args.rounds (session_start (opening_state c.args.node.now.state.config c.args.node.now.state.pool)) (g.W.Wire.link c.args.wire.now) (g.W.Wire.link c.turn.new.wire) (g.W.Wire.has_ended c.turn.new.wire) c.turn.new.node c.in-Err.answer
unfolding IsTurn
over g c = c.in-Err.ensures.turn c.args.rounds (session_start (opening_state c.args.node.now.state.config c.args.node.now.state.pool)) (g.W.Wire.link c.args.wire.now) c.loop-answer.invariant.standing

pub returns-in-Err-clause-session : goal.returns-in-Err-clause-session
returns-in-Err-clause-session g c =
    over-session c.loop-answer.progress.opens c.args.rounds c.args.node.now c.turn.new.node (g.W.Wire.link c.turn.new.wire) (g.W.Wire.has_ended c.turn.new.wire) c.in-Err.answer (g.W.Wire.link c.args.wire.now) (over g c)

pub returns-in-Err-clause-ended : goal.returns-in-Err-clause-ended
returns-in-Err-clause-ended g c = (over g c).end

pub returns-in-Err-clause-input : goal.returns-in-Err-clause-input
returns-in-Err-clause-input g c =
    over-input c.loop-answer.progress.opens c.args.rounds (session_start (opening_state c.args.node.now.state.config c.args.node.now.state.pool)) (g.W.Wire.link c.args.wire.now) (g.W.Wire.link c.turn.new.wire) (g.W.Wire.has_ended c.turn.new.wire) c.turn.new.node c.in-Err.answer (over g c) c.args.node.now.state.config.role c.loop-answer.invariant.role

pub returns-in-Err-clause-busy : goal.returns-in-Err-clause-busy
returns-in-Err-clause-busy g c =
    over-busy c.loop-answer.progress.opens c.args.rounds (session_start (opening_state c.args.node.now.state.config c.args.node.now.state.pool)) (g.W.Wire.link c.args.wire.now) (g.W.Wire.link c.turn.new.wire) (g.W.Wire.has_ended c.turn.new.wire) c.turn.new.node c.in-Err.answer (over g c) c.args.node.now.state.config.role c.loop-answer.invariant.role

pub returns-in-Err-clause-memory : goal.returns-in-Err-clause-memory
returns-in-Err-clause-memory g c = λ other. ((over g c).left other).memory

-- ---- the next one

pub loop-answer-preserved : goal.loop-answer-preserved
unfolding IsTurn
loop-answer-preserved g c =
    let start = session_start (opening_state c.args.node.now.state.config c.args.node.now.state.pool) in
    let before = g.W.Wire.link c.args.wire.now in
    let stands = c.in_default-turn.ensures.turn c.args.rounds start before c.loop-answer.invariant.standing in
    let ok = c.in_default-turn.is in
    record {
      linked = c.in_default-turn.ensures.linked;
      buffer = c.loop-answer.invariant.buffer;
      most = c.in_default-turn.ensures.most;
      role = c.in_default-turn.ensures.opens ∙ c.loop-answer.invariant.role;
      standing = subst (λ (o : Bool). IsStanding o c.args.rounds start before (g.W.Wire.link c.turn.new.wire) (g.W.Wire.has_ended c.turn.new.wire) c.turn.new.node c.turn.new.progress.left c.turn.new.progress.received) (sym c.in_default-turn.ensures.opens) stands;
      same = c.in_default-turn.ensures.no_fault ∙ c.loop-answer.invariant.same;
    }
