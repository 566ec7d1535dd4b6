use Rattle.std.proofs.Common.{◌≡◌, ◌+◌, ◌<◌, ◌≤◌, ◌++◌, ◌∷◌, [], ◌∙◌, List, ℕ, length, get_or, drop, ap, sym, add_assoc, append_assoc, append-nil, arith}
use Rattle.std.proofs.lemmas.List.{at_drop_more, drop_all}
use Rattle.line_rules.specs.Lines.{line}
use Rattle.pool_rules.specs.declared.report.Report.{Report}
use Rattle.protocol_text_rules.specs.Pairs.{report_lines, report_words, words_text}
use Rattle.round_text.specs.Fronts.{side_words}
use Rattle.round_text.proofs.report.put_report_lines.Goals as goal

-- the lines of the reports that are left: the next one's, and the others'
next_line : (front : List (List ℕ)) (first i : ℕ) (rs : List Report) (r : Report) → i < length rs → r ≡ get_or rs i r
    → report_lines front (first + i) (drop i rs) ≡ line (words_text (front ++ report_words (first + i) r)) ++ report_lines front (first + (i + 1)) (drop (i + 1) rs)
unfolding report_lines
next_line front first i rs r lt is =
    let rest = drop (i + 1) rs in
    at_drop_more (λ left. report_lines front (first + i) left) rs i r lt
    ∙ (ap (λ (x : Report). report_lines front (first + i) (x ∷ rest)) (sym is)
    ∙ ap (λ (n : ℕ). line (words_text (front ++ report_words (first + i) r)) ++ report_lines front n rest) (add_assoc first i 1))

-- and where none is left
no_line : (front : List (List ℕ)) (n i : ℕ) (rs : List Report) → length rs ≤ i → report_lines front n (drop i rs) ≡ []
unfolding report_lines
no_line front n i rs le = ap (λ (left : List Report). report_lines front n left) (drop_all i rs le)

pub loop-index-preserved : goal.loop-index-preserved
loop-index-preserved c =
    let front = side_words c.args.side in
    let first = c.args.first in
    let i = c.loop-index.index in
    let reports = c.args.reports.now in
    let r = c.index-reports-index.result in
    let out = c.loop-index.out.items in
    let written = line (words_text (front ++ report_words (first + i) r)) in
    rw c.in_ok-put_report.ensures
    (append_assoc out written (report_lines front (first + (i + 1)) (drop (i + 1) reports))
    ∙ (ap (λ (text : List ℕ). out ++ text) (sym (next_line front first i reports r c.loop-index-test.true c.index-reports-index.is))
    ∙ c.loop-index.invariant))

pub returns : goal.returns
returns c =
    let front = side_words c.args.side in
    let i = c.loop-index.index in
    let out = c.loop-index.out.items in
    sym (append-nil out)
    ∙ (ap (λ (text : List ℕ). out ++ text) (sym (no_line front (c.args.first + i) i c.args.reports.now (omega (arith, c.loop-index-test.false))))
    ∙ c.loop-index.invariant)
