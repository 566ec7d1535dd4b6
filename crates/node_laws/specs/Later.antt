-- What no step takes from a node.
use Rattle.std.specs.Prelude.{◌≡◌, List, ◌++◌}
use Rattle.pool_rules.specs.Pools.{Transaction}
use Rattle.pool_rules.specs.declared.report.Report.{Report}
use Rattle.node_rules.specs.State.{NodeState}

-- the configuration is what it was, and so are the pool and the reports, with more behind them
pub record IsLater (s u : NodeState) : Type 0 where
  pub config : u.config ≡ s.config
  pub new_held : List Transaction
  pub pool : u.pool ≡ s.pool ++ new_held
  pub new_reports : List Report
  pub reports : u.machine.reports ≡ s.machine.reports ++ new_reports
