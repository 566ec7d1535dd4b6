use Rattle.std.proofs.Common.{rules, ◌^◌, ◌<◌, lit<, sym, subst, arith}
use Rattle.field_laws.proofs.Rings.{product-one}
use Rattle.clmul_lanes.specs.Planes.{ArePlanes}
use Rattle.clmul_lanes.proofs.Nibbles.{table_is, shifted_next}
use Rattle.clmul_lanes.proofs.TableRows.{row, row_is, row_fits, row_up, all_rows}
use Rattle.clmul_lanes.proofs.lane_multiples.byte_tables.Goals as goal

pub returns : goal.returns
returns c =
    let k = c.args.factor in
    let fits : k < 2 ^ 32 = search rules in
    let first_is : ArePlanes (row k fits 0) c.planes_of-first.result =
    subst (λ z. ArePlanes z c.planes_of-first.result) (row_is k fits 0 c.nibble_multiples-even.result (omega arith) (table_is k k 0 c.nibble_multiples-even.result fits (lit< tt) (sym (product-one 32 k (lit< tt) fits)) c.nibble_multiples-even.ensures)) c.planes_of-first.ensures in
    let second_is : ArePlanes (row k fits 1) c.planes_of-second.result =
    subst (λ z. ArePlanes z c.planes_of-second.result) (row_is k fits 1 c.nibble_multiples-odd.result (omega arith) (table_is k c.doubled.result 1 c.nibble_multiples-odd.result fits (lit< tt)
    (shifted_next k k _ c.doubled.result 0 fits (lit< tt) (sym (product-one 32 k (lit< tt) fits)) (c.nibble_multiples-even.ensures 8 (lit< tt)) c.doubled.ensures) c.nibble_multiples-odd.ensures)) c.planes_of-second.ensures in
    let third_is : ArePlanes (row k fits 2) c.byte_up-third.result = subst (λ z. ArePlanes z c.byte_up-third.result) (row_up k fits 0 (lit< tt)) (c.byte_up-third.ensures (row k fits 0) (row_fits k fits 0 (lit< tt)) first_is) in
    let fourth_is : ArePlanes (row k fits 3) c.byte_up-fourth.result = subst (λ z. ArePlanes z c.byte_up-fourth.result) (row_up k fits 1 (lit< tt)) (c.byte_up-fourth.ensures (row k fits 1) (row_fits k fits 1 (lit< tt)) second_is) in
    let fifth_is : ArePlanes (row k fits 4) c.byte_up-fifth.result = subst (λ z. ArePlanes z c.byte_up-fifth.result) (row_up k fits 2 (lit< tt)) (c.byte_up-fifth.ensures (row k fits 2) (row_fits k fits 2 (lit< tt)) third_is) in
    let sixth_is : ArePlanes (row k fits 5) c.byte_up-sixth.result = subst (λ z. ArePlanes z c.byte_up-sixth.result) (row_up k fits 3 (lit< tt)) (c.byte_up-sixth.ensures (row k fits 3) (row_fits k fits 3 (lit< tt)) fourth_is) in
    let seventh_is : ArePlanes (row k fits 6) c.byte_up-seventh.result = subst (λ z. ArePlanes z c.byte_up-seventh.result) (row_up k fits 4 (lit< tt)) (c.byte_up-seventh.ensures (row k fits 4) (row_fits k fits 4 (lit< tt)) fifth_is) in
    let eighth_is : ArePlanes (row k fits 7) c.byte_up-eighth.result = subst (λ z. ArePlanes z c.byte_up-eighth.result) (row_up k fits 5 (lit< tt)) (c.byte_up-eighth.ensures (row k fits 5) (row_fits k fits 5 (lit< tt)) sixth_is) in
    all_rows k fits _ _ _ _ _ _ _ _ first_is second_is third_is fourth_is fifth_is sixth_is seventh_is eighth_is
