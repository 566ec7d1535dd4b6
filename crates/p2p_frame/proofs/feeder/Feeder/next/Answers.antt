use Rattle.std.proofs.Common.{Ok, subst}
use Rattle.p2p_frame.specs.Fed.{IsAnswered}
use Rattle.p2p_frame.specs.Views.{owned_answer}
use Rattle.p2p_frame.proofs.feeder.Feeder.next.Goals as goal

pub returns-in-Ok-None-clause-fed : goal.returns-in-Ok-None-clause-fed
returns-in-Ok-None-clause-fed c bytes frames fed = (
  fed,
  subst (λ o. IsAnswered c.args.self.now bytes frames (owned_answer (Ok o))) c.in-Ok-None.field-0-is
      (subst (λ r. IsAnswered c.args.self.now bytes frames (owned_answer r)) c.in-Ok-None.is (c.front.ensures.fed bytes frames fed)),
)
