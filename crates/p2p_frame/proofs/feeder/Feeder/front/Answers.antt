use Rattle.std.proofs.Common.{◌≡◌, sym, subst, ap, ◌∙◌, rules}
use Rattle.p2p_frame.specs.Fed.{IsAnswered, IsFeeder}
use Rattle.p2p_frame.specs.Feeding.{feed_front, frame_in}
use Rattle.p2p_frame.specs.Views.{owned_answer}
use Rattle.p2p_frame.proofs.Fed.{fed-answered}
use Rattle.p2p_frame.proofs.feeder.Feeder.front.Goals as goal

pub returns-clause-fed : goal.returns-clause-fed
returns-clause-fed c bytes frames fed =
    let answer : owned_answer c.answer_in_front.result ≡ frame_in (feed_front c.args.self.now) = search rules in
    let sound : IsFeeder c.args.self.now = search rules in
    subst (IsAnswered c.args.self.now bytes frames) (sym answer) (fed-answered c.args.self.now bytes frames sound fed)
