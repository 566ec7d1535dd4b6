use Rattle.std.proofs.Common.{◌≡◌, ◌∙◌, sym, ap, codes, bytes_eq, List, ℕ}
use Rattle.std.proofs.lemmas.Bool.{false≢true}
use Rattle.std.proofs.lemmas.Slice.Eq.{bytes_eq-Decides}
use Rattle.shown_reading.proofs.OneWord.{bytes_failed, bytes_only, dash_only}
use Rattle.shown_reading.proofs.fields.bytes_of.Goals as goal

pub returns-then-eq : goal.returns-then-eq
returns-then-eq c =
    let test = ap (λ (s : List ℕ). bytes_eq c.args.word.now s) (sym c.as_slice.ensures) ∙ (sym c.eq.ensures ∙ c.if-eq.true) in
    dash_only c.args.word.now c.from_vec.result ((bytes_eq-Decides c.args.word.now (codes "-")).0 test) (c.from_vec.ensures ∙ c.new.ensures.items)

pub returns-in-Ok : goal.returns-in-Ok
returns-in-Ok c =
    let other = λ (same : c.args.word.now ≡ codes "-"). false≢true (sym c.if-eq.false ∙ (c.eq.ensures ∙ (ap (λ (s : List ℕ). bytes_eq c.args.word.now s) c.as_slice.ensures ∙ (bytes_eq-Decides c.args.word.now (codes "-")).1 same))) in
    bytes_only c.args.word.now c.in-Ok.bytes.items c.from_vec-in-Ok.result other c.in-Ok.ensures.ok c.from_vec-in-Ok.ensures

pub returns-in-Err : goal.returns-in-Err
returns-in-Err c =
    let other = λ (same : c.args.word.now ≡ codes "-"). false≢true (sym c.if-eq.false ∙ (c.eq.ensures ∙ (ap (λ (s : List ℕ). bytes_eq c.args.word.now s) c.as_slice.ensures ∙ (bytes_eq-Decides c.args.word.now (codes "-")).1 same))) in
    rw c.fault_of.ensures (bytes_failed c.args.word.now c.in-Err.fault other c.in-Err.ensures.err)
