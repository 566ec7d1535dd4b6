use Rattle.std.proofs.Common.{◌≡◌, ◌∙◌, take, Bool, List, ℕ, sym, subst}
use Rattle.node_rules.specs.State.{NodeView}
use Rattle.erlay_base.specs.Told.{AreTold}
use Rattle.session.specs.Standing.{IsStanding}
use Rattle.session.proofs.Endings.{standing-sent, standing-still}
use Rattle.session.proofs.Links.{with_sent}
use Rattle.session.proofs.exchange.send_all.Goals as goal

pub returns-in_err-count-clause-standing : goal.returns-in_err-count-clause-standing
returns-in_err-count-clause-standing g c = λ opens rounds start before left received h.
    let told = g.W.Wire.link c.loop-wire.wire in
    let ended = g.W.Wire.has_ended c.loop-wire.wire in
    let after = g.W.Wire.link c.send.new.self in
    let over = g.W.Wire.has_ended c.send.new.self in
    standing-still opens rounds start before told ended c.loop-wire.node left received (c.loop-wire.invariant.standing opens rounds start before left received h) after over c.in_err-count.ensures.link c.in_err-count.ensures.still_ended

pub loop-wire-preserved : goal.loop-wire-preserved
loop-wire-preserved g c =
    let told = g.W.Wire.link c.loop-wire.wire in
    let ended = g.W.Wire.has_ended c.loop-wire.wire in
    let after = g.W.Wire.link c.send.new.self in
    let over = g.W.Wire.has_ended c.send.new.self in
    let v = c.loop-wire.node in
    let n = c.in_ok-count.count in
    let link : AreTold told after (λ a b. b ≡ with_sent a (take n v.outbox)) =
    subst (λ (bytes : List ℕ). AreTold told after (λ a b. b ≡ with_sent a (take n bytes))) c.outbox-in-loop-wire.ensures c.in_ok-count.ensures.link in
    record {
      linked = c.in_ok-count.ensures.still_linked;
      standing = λ opens rounds start before left received h.
          let sent = standing-sent opens rounds start before told ended v left received (c.loop-wire.invariant.standing opens rounds start before left received h) after n link in
          subst (λ (b : Bool). IsStanding opens rounds start before after b c.drain.new.self left received) (sym c.in_ok-count.ensures.still_ended)
          (subst (λ (d : NodeView). IsStanding opens rounds start before after ended d left received) (sym c.drain.ensures) sent);
      same = c.in_ok-count.ensures.cause.success ∙ c.loop-wire.invariant.same;
    }
