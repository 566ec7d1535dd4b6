use Rattle.std.proofs.Common.{ap, ◌*◌, ◌/◌, ◌%◌}
use Rattle.sketch_text.specs.Seats.{home}
use Rattle.sketch_text.proofs.seats.home_of.Goals as goal

pub returns-clause-home : goal.returns-clause-home
unfolding home
returns-clause-home c = ap (λ spread. spread * c.args.seats % 18446744073709551616 / 4294967296) c.from-spread.ensures
