use Rattle.std.proofs.Common.{◌≡◌, ◌∷◌, ◌++◌, flat_map, take}
use Rattle.line_rules.specs.Digits.{eight_digits}
use Rattle.shown_messages.proofs.fields.put_each_short.Given as goal

abbrev pub invariant-loop-short : goal.invariant-loop-short
invariant-loop-short l = l.out.items ≡ l.fn.out.items ++ flat_map (λ x. 32 ∷ eight_digits x) (take l.short-index l.shorts)
