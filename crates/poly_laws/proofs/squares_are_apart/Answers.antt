-- The clause is a lemma.
use Rattle.poly_laws.proofs.Squares.{square_is}
use Rattle.poly_laws.proofs.squares_are_apart.Goals as goal

pub returns : goal.returns
returns g c = λ ops f ring. square_is ops ring f
