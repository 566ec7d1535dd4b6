use Rattle.std.proofs.Common.{◌-◌}
use Rattle.trace_roots.proofs.members.+find_members.Given as goal

abbrev pub decreases-find_members : goal.decreases-find_members
decreases-find_members g l = g.F.Field.BITS - l.exponent
