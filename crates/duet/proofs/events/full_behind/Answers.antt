use Rattle.std.proofs.Common.{inl, inr}
use Rattle.pair_rules.specs.World.{fullness}
use Rattle.duet.proofs.Happening.{counted}
use Rattle.duet.proofs.events.full_behind.Goals as goal

pub returns-in-Full : goal.returns-in-Full
unfolding fullness
returns-in-Full c = rw c.in-Full.is c.saturating_add.ensures

pub returns-in-New : goal.returns-in-New
unfolding fullness
returns-in-New c =
    elim c.in-New.is [
      | inl e ↦ rw e (counted c.args.full c.ranges.full.fits)
      | inr others ↦ elim others [ inl e ↦ rw e (counted c.args.full c.ranges.full.fits) | inr e ↦ rw e (counted c.args.full c.ranges.full.fits) ]
    ]
