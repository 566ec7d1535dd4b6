use Rattle.clmul_lanes.proofs.fractions.add_fraction.Goals as goal

pub returns : goal.returns
returns c =
    c.add_terms.ensures c.args.elements.now c.squares_of.result c.requires
    (c.product_of_halves.ensures c.args.elements.now c.requires c.locator_of-locator.ensures)
    (c.squares_of.ensures c.args.elements.now c.locator_of-locator.ensures)
    c.fill_rows.ensures
