use Rattle.std.proofs.Common.{lit<}
use Rattle.clmul_lanes.proofs.PlaneLists.{words_are}
use Rattle.clmul_lanes.proofs.planes.words_of.Goals as goal

pub returns : goal.returns
returns c words long fits are =
    words_are words _ _ _ _ c.four_words-a.result c.four_words-b.result c.four_words-c.result c.four_words-d.result long fits (are 0 (lit< tt)) (are 1 (lit< tt)) (are 2 (lit< tt)) (are 3 (lit< tt))
    c.four_words-a.ensures c.four_words-b.ensures c.four_words-c.ensures c.four_words-d.ensures
