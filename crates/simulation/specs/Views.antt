-- Two nodes behind a run.
use Rattle.std.specs.Prelude.{false}
use Rattle.std.specs.Option.{option_or}
use Rattle.std.specs.declared.option.Option.{Option}
use Rattle.node_rules.specs.declared.end.End.{End}
use Rattle.pair_rules.specs.World.{World, Effect}
use Rattle.duet.specs.Views.{PairView}

-- as they are seen where no memory was refused
abbrev pub view_of : Effect → PairView
view_of x = record { world = x.world; full = x.full; out_of_memory = false }

-- why one has ended: a's end, and b's where a has none
abbrev pub end_in : World → Option End
end_in w = option_or w.a.ended w.b.ended
