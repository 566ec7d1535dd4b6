use Rattle.std.proofs.Common.{◌≡◌, ℕ, ◌+◌, ◌≤◌, List, [], ◌∷◌, ◌++◌, length, drop, vec_len, sym, ap, ◌∙◌, arith, append_assoc, subst}
use Rattle.std.proofs.lemmas.List.{drop-drop, length-drop, take_rest}
use Rattle.line_rules.specs.Lines.{lines, numbered_lines}
use Rattle.sketch_text.specs.Readings.{IsPlain, elements_before, first_fault}
use Rattle.sketch_text.proofs.Digits.{elements_before-plain, first_fault-plain}
use Rattle.sketch_text.proofs.plain.plain_elements.Goals as goal

pub loop-number-preserved : goal.loop-number-preserved
loop-number-preserved c =
    let text = c.args.text.now in
    let at = c.loop-number.at in
    let numbers = c.loop-number.numbers.items in
    let count = vec_len c.loop-number.numbers in
    let e = c.in-Some.number in
    let plain = subst (λ (behind : List ℕ). IsPlain behind e) (take_rest text at) c.in-Some.ensures in
    let within : 9 ≤ length (drop at text) = plain.within in
    let more : vec_len c.push.new.self ≡ count + 1 = c.in_ok-push.ensures.len in
    let rest = numbered_lines (count + 1 + 1) (lines (drop 9 (drop at text))) in
    let left = numbered_lines (vec_len c.push.new.self + 1) (lines (drop (at + 9) text)) in
    let same : rest ≡ left = ap (λ n. numbered_lines (n + 1) (lines (drop 9 (drop at text)))) (sym more) ∙ ap (λ behind. numbered_lines (vec_len c.push.new.self + 1) (lines behind)) (drop-drop 9 at text) in
    record {
      within = omega (arith, length-drop at text);
      at = omega (arith, more);
      numbers =
          c.loop-number.invariant.numbers ∙ ap (λ (xs : List ℕ). numbers ++ xs) (elements_before-plain (count + 1) (drop at text) e plain)
          ∙ sym (append_assoc numbers (e ∷ []) (elements_before rest)) ∙ ap (λ ls. (numbers ++ e ∷ []) ++ elements_before ls) same
          ∙ ap (λ (xs : List ℕ). xs ++ elements_before left) (sym c.in_ok-push.ensures.items);
      fault = c.loop-number.invariant.fault ∙ first_fault-plain (count + 1) (drop at text) e plain ∙ ap first_fault same;
    }
