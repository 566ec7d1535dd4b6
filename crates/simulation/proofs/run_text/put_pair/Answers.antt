use Rattle.std.proofs.Common.{◌≡◌, ◌++◌, List, [], ◌∷◌, ℕ, append_assoc}
use Rattle.pair_rules.specs.declared.side.Side.TheVariants as side
use Rattle.protocol_text_rules.specs.Ends.{side_text}
use Rattle.protocol_text_rules.specs.Pairs.{drained_line, full_line, phase_line, pool_lines, report_lines}
use Rattle.simulation.proofs.run_text.put_pair.Goals as goal

-- the parts of the text as they are put together
parts : (out ra rb pa pb full la lb drained : List ℕ) → (((((((out ++ ra) ++ rb) ++ pa) ++ pb) ++ full) ++ la) ++ lb) ++ drained ≡ out ++ (ra ++ rb ++ pa ++ pb ++ full ++ la ++ lb ++ drained)
parts out ra rb pa pb full la lb drained = simp append_assoc

pub returns : goal.returns
returns c =
    let w = c.args.duet.now.world in
    rw (
      c.in_ok-put_drained_line.ensures,
      c.in_ok-put_pool-2.ensures,
      c.pool-2.ensures,
      c.b-3.ensures.state,
      c.in_ok-put_pool.ensures,
      c.pool.ensures,
      c.a-3.ensures.state,
      c.in_ok-put_full_line.ensures,
      c.full.ensures.full,
      c.in_ok-put_phase_line-2.ensures,
      c.phase-2.ensures.phase,
      c.b-2.ensures.state,
      c.in_ok-put_phase_line.ensures,
      c.phase.ensures.phase,
      c.a-2.ensures.state,
      c.in_ok-put_reports-2.ensures,
      c.b.ensures.state,
      c.in_ok-put_reports.ensures,
      c.a.ensures.state,
    )
    (parts c.args.out.now.items (report_lines (side_text side.A ∷ []) 1 w.a.machine.reports) (report_lines (side_text side.B ∷ []) 1 w.b.machine.reports) (phase_line side.A w.a) (phase_line side.B w.b) (full_line c.args.duet.now.full) (pool_lines c.args.with_ids side.A w.a.pool) (pool_lines c.args.with_ids side.B w.b.pool) (drained_line w))
