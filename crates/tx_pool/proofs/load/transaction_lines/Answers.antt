use Rattle.std.proofs.Common.{◌≡◌, ◌≢◌, ◌-◌, length, sym, ap, ◌∙◌, arith, Err}
use Rattle.base_types.specs.declared.text.Kind.TheVariants as kind
use Rattle.line_rules.specs.Lines.{lines_of}
use Rattle.line_rules.specs.Reading.{line_fold}
use Rattle.line_text.specs.Views.{line_of}
use Rattle.pool_rules.specs.PoolFile.{pool_step}
use Rattle.tx_pool.proofs.Headings.{pool_of_lines-none, pool_of_lines-bare, pool_of_lines-form, pool_of_lines-count, pool_of_lines-told}
use Rattle.tx_pool.proofs.load.transaction_lines.Goals as goal

pub returns-in_default-clause-lines : goal.returns-in_default-clause-lines
returns-in_default-clause-lines c =
    pool_of_lines-none (lines_of c.args.text.now) c.next.new.self (sym c.of-lines.ensures ∙ c.in_default.ensures.steps.0) c.in_default.ensures.steps.1

pub returns-then-not-is_heading-clause-lines : goal.returns-then-not-is_heading-clause-lines
returns-then-not-is_heading-clause-lines c =
    let all = lines_of c.args.text.now in
    pool_of_lines-bare all (line_of c.in-Some.first) c.next.new.self (sym c.of-lines.ensures ∙ c.in-Some.ensures.steps) (sym c.is_heading.ensures ∙ c.if-not-is_heading.true)
    ∙ ap (line_fold pool_step _) (sym c.of.ensures)

pub returns-in_default-heading_count-clause-fault :
    goal.returns-in_default-heading_count-clause-fault
returns-in_default-heading_count-clause-fault c =
    pool_of_lines-form (lines_of c.args.text.now) (line_of c.in-Some.first) c.next.new.self (sym c.of-lines.ensures ∙ c.in-Some.ensures.steps) (sym c.is_heading.ensures ∙ c.if-not-is_heading.false)
    (sym c.heading_count.ensures ∙ c.in_default-heading_count.is)

pub returns-then-place-told-clause-fault : goal.returns-then-place-told-clause-fault
returns-then-place-told-clause-fault c =
    let all = lines_of c.args.text.now in
    let first = sym c.of-lines.ensures ∙ c.in-Some.ensures.steps in
    let long = ap length first in
    let other : length c.next.new.self ≢ c.in-Some-heading_count.told = λ e. absurd (omega (arith, long, c.count-place.ensures, c.if-place-told.true)) in
    let place : length c.next.new.self ≡ c.count-place.result - 1 = omega (arith, long, c.count-place.ensures) in
    pool_of_lines-count all (line_of c.in-Some.first) c.next.new.self first c.in-Some-heading_count.told (sym c.is_heading.ensures ∙ c.if-not-is_heading.false)
    (sym c.heading_count.ensures ∙ c.in-Some-heading_count.is) other
    ∙ ap (λ n. Err (record { place = n; kind = kind.LineCount })) place

pub returns-clause-lines : goal.returns-clause-lines
returns-clause-lines c =
    let all = lines_of c.args.text.now in
    let first = sym c.of-lines.ensures ∙ c.in-Some.ensures.steps in
    let long = ap length first in
    let same : length c.next.new.self ≡ c.in-Some-heading_count.told = omega (arith, long, c.count-place.ensures, c.if-place-told.false) in
    pool_of_lines-told all (line_of c.in-Some.first) c.next.new.self first c.in-Some-heading_count.told (sym c.is_heading.ensures ∙ c.if-not-is_heading.false)
    (sym c.heading_count.ensures ∙ c.in-Some-heading_count.is) same
