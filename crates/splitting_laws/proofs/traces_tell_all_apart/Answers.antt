-- Each clause is a lemma.
use Rattle.splitting_laws.proofs.Alike.{alike_first, alike_end}
use Rattle.splitting_laws.proofs.traces_tell_all_apart.Goals as goal

pub returns-clause-begins : goal.returns-clause-begins
returns-clause-begins g c = λ ops bits_of bits es. alike_first ops bits_of bits es

pub returns-clause-ends : goal.returns-clause-ends
returns-clause-ends g c = λ ops bits_of bits es separates differ alike. alike_end ops bits_of bits separates es differ alike
