use Rattle.std.proofs.Common.{rules, ◌≡◌, length, refl, ◌∙◌}
use Rattle.clmul_lanes.proofs.RowFactors.{column_kept, column_others, column_made}
use Rattle.clmul_lanes.proofs.rows.set_column.Goals as goal

pub loop-v-preserved : goal.loop-v-preserved
loop-v-preserved c = let size : length c.loop-v.rows ≡ 4096 = search rules in record {
  kept = λ r m lt inside. column_kept c.args.i c.args.j c.loop-v.v _ c.loop-v.rows c.args.words.now size c.requires.0 c.requires.1 c.loop-v-test.true r m lt inside ∙ c.loop-v.invariant.kept r m lt inside;
  others = λ r m inside apart. column_others c.args.i c.args.j c.loop-v.v _ c.loop-v.rows c.args.words.now size c.requires.0 c.requires.1 c.loop-v-test.true r m inside apart ∙ c.loop-v.invariant.others r m inside apart;
  made = column_made c.args.i c.args.j c.loop-v.v _ c.loop-v.rows c.args.words.now size c.requires.0 c.requires.1 c.loop-v-test.true refl c.loop-v.invariant.made;
}
