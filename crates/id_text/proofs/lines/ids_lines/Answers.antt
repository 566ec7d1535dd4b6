use Rattle.std.proofs.Common.{◌≡◌, ◌++◌, ◌∙◌, ℕ, List, [], ◌∷◌, Ok, Err, ap, sym}
use Rattle.line_text.specs.Views.{line_of}
use Rattle.line_rules.specs.Reading.{line_fold}
use Rattle.line_rules.specs.Lines.{line}
use Rattle.id_rules.specs.Ids.{KeyPair, keys_of}
use Rattle.protocol_text_rules.specs.Works.{id_line, id_of_line, id_step, ids_text, with_text}
use Rattle.id_text.proofs.Folds.{folded_end, folded_more, folded_none, ids_text-more}
use Rattle.id_text.proofs.lines.ids_lines.Goals as goal

pub loop-line-init : goal.loop-line-init
loop-line-init c =
    ([], c.in_ok-rows.ensures.items, ap (line_fold id_step []) (sym (c.into_iter-line-iterator.ensures.into_iter_gives ∙ c.of-line-items.ensures)))

pub loop-line-preserved : goal.loop-line-preserved
loop-line-preserved c =
    let ids = c.loop-line.invariant.0 in
    let id = c.in-Ok.id in
    let is : id_of_line c.in-Some.line.bytes.now ≡ Ok id = sym c.id_of.ensures ∙ c.in-Ok.is in
    let row = λ (keys : KeyPair). line (id_line keys id) in
    let rows : c.push_row.new.rows.items ≡ ids_text c.args.salt c.args.other (ids ++ id ∷ []) =
    c.in_ok-push_row-in-Ok.ensures ∙ ap (λ (keys : KeyPair). c.loop-line.rows.items ++ row keys) c.from_salts-keys.ensures
    ∙ ap (λ (before : List ℕ). before ++ row (keys_of c.args.salt c.args.other)) c.loop-line.invariant.1 ∙ sym (ids_text-more c.args.salt c.args.other ids id) in
    (ids ++ id ∷ [], rows, c.loop-line.invariant.2 ∙ ap (line_fold id_step ids) c.in-Some.ensures.steps ∙ folded_more ids (line_of c.in-Some.line) c.next.new.self id is)

pub returns-in-Err : goal.returns-in-Err
returns-in-Err c =
    let ids = c.loop-line.invariant.0 in
    let is : id_of_line c.in-Some.line.bytes.now ≡ Err c.in-Err.kind = sym c.id_of.ensures ∙ c.in-Err.is in
    ap (with_text (ids_text c.args.salt c.args.other)) (c.loop-line.invariant.2 ∙ ap (line_fold id_step ids) c.in-Some.ensures.steps ∙ folded_end ids (line_of c.in-Some.line) c.next.new.self c.in-Err.kind is)

pub returns : goal.returns
returns c =
    let ids = c.loop-line.invariant.0 in
    ap (with_text (ids_text c.args.salt c.args.other)) (c.loop-line.invariant.2 ∙ ap (line_fold id_step ids) c.in-None.ensures.steps.0 ∙ folded_none ids) ∙ ap Ok (sym c.loop-line.invariant.1)
