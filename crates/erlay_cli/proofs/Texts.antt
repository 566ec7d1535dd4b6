-- Texts that are written as they stand.
use Rattle.std.proofs.Common.{◌≡◌, refl}
use Rattle.std.specs.Prelude.{codes}
use Rattle.std.specs.Fmt.{digits}
use Rattle.line_rules.specs.Lines.{line}
use Rattle.sketch_text_rules.specs.Faults.{too_long_text}
use Rattle.pool_rules.specs.declared.limits.TheConstants.{POOL_FILE_LIMIT}
use Rattle.session_rules.specs.declared.limits.TheConstants.{SESSION_LIMIT}

pub long_pool_line : line (too_long_text POOL_FILE_LIMIT) ≡ line (codes "too long 272000000")
unfolding digits
long_pool_line = refl

pub long_session_line : line (too_long_text SESSION_LIMIT) ≡ line (codes "too long 1073741824")
unfolding digits
long_session_line = refl
