-- How much text a command reads.
use Rattle.std.specs.Prelude.{ℕ}
use Rattle.sketch_text_rules.specs.declared.limits.TheConstants.{INPUT_LIMIT}

-- how many bytes of standard input a command reads
abbrev pub input_limit : ℕ
input_limit = INPUT_LIMIT
