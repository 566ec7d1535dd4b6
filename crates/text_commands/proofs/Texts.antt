-- Texts that are written as they stand.
use Rattle.std.proofs.Common.{◌≡◌, refl}
use Rattle.std.specs.Prelude.{codes}
use Rattle.std.specs.Fmt.{digits}
use Rattle.line_rules.specs.Lines.{line}
use Rattle.sketch_text_rules.specs.Faults.{too_long_text}
use Rattle.sketch_text_rules.specs.Limits.{input_limit}

pub too_long_line : line (too_long_text input_limit) ≡ line (codes "too long 67108864")
unfolding digits
too_long_line = refl
