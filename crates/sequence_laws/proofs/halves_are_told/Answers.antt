-- Each clause is a lemma.
use Rattle.std.proofs.Common.{◌∷◌, reverse, refl}
use Rattle.sequence_laws.proofs.Steps.{alike_still}
use Rattle.sequence_laws.proofs.Found.{half_of_front, half_of_whole}
use Rattle.sequence_laws.proofs.halves_are_told.Goals as goal

pub returns-clause-none : goal.returns-clause-none
returns-clause-none g c = λ ops bits_of bits exponent m b u es z cs ring field numbered is differ unit size traced alike shortest empty.
    alike_still ops ring bits_of bits field numbered exponent b is u es differ unit m size z traced cs shortest empty alike

pub returns-clause-front : goal.returns-clause-front
returns-clause-front g c = λ ops bits_of bits exponent m b u es z cs ring field numbered is differ unit size traced alike shortest some bit.
    half_of_front ops ring bits_of bits field numbered exponent b is u es differ unit m size z traced alike cs shortest (reverse (ops.one ∷ cs)) some bit refl

pub returns-clause-whole : goal.returns-clause-whole
returns-clause-whole g c = λ ops bits_of bits exponent m b u es z cs ds ring field numbered is differ unit size traced alike shortest none one whole.
    half_of_whole ops ring bits_of bits field numbered exponent b is u es differ unit m size z traced alike cs shortest (reverse (ops.one ∷ ds)) ds none one whole refl
