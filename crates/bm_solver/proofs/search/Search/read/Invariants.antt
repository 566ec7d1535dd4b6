use Rattle.std.proofs.Common.{◌≡◌, ◌+◌}
use Rattle.bm_solver.specs.Searches.{IsSearching}
use Rattle.bm_solver.proofs.search.Search.read.Given as goal

abbrev pub invariant-loop : goal.invariant-loop
invariant-loop g l = record {
  items : l.solver.items.now ≡ l.fn.self.items;
  read : l.solver.read ≡ l.fn.self.read + l.counter;
  so_far : IsSearching g.F.Field.ops l.solver.items.now l.solver.read
      l.solver.current.monic.items l.solver.saved.monic.items l.solver.inverse
      l.solver.current.discrepancies.items l.solver.saved.discrepancies.items l.solver.spare.discrepancies.items;
}
