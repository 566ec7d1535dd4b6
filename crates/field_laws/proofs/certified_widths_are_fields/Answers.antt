-- Each clause is a lemma.
use Rattle.field_laws.proofs.Rings.{ring_of_numbered}
use Rattle.field_laws.proofs.Fields.{field_of_certificate}
use Rattle.field_laws.proofs.Certified32.{certificate_32}
use Rattle.field_laws.proofs.certified_widths_are_fields.Goals as goal

pub returns-clause-ring : goal.returns-clause-ring
returns-clause-ring g c = λ ops bits_of width. ring_of_numbered ops bits_of width

pub returns-clause-field : goal.returns-clause-field
returns-clause-field g c = λ ops bits_of width certified numbered.
    field_of_certificate ops bits_of width (ring_of_numbered ops bits_of width certified.is_width numbered) numbered certified

pub returns-clause-certified : goal.returns-clause-certified
returns-clause-certified g c = certificate_32
