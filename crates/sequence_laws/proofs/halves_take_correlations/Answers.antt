-- Each clause is a lemma.
use Rattle.sequence_laws.proofs.Steps.{whole_part, half_part, other_part}
use Rattle.sequence_laws.proofs.halves_take_correlations.Goals as goal

pub returns-clause-whole : goal.returns-clause-whole
returns-clause-whole g c = λ ops bits_of bits first es f ring field numbered. whole_part ops ring bits_of bits field numbered first es f

pub returns-clause-part : goal.returns-clause-part
returns-clause-part g c = λ ops bits_of bits first u es f g h sequences correlations q ring field numbered.
    half_part ops ring bits_of bits field numbered first u es f g h sequences correlations q

pub returns-clause-other : goal.returns-clause-other
returns-clause-other g c = λ ops bits_of bits first u es f g h sequences correlations q ring field numbered.
    other_part ops ring bits_of bits field numbered first u es f g h sequences correlations q
