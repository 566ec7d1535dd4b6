use Rattle.std.proofs.Common.{◌≡◌, ◌↔◌, IsTrue, arith, sym, ◌∙◌}
use Rattle.field_laws.proofs.Numbers.{equal_bits}
use Rattle.bm_solver.proofs.Steps.{kept, mended, grown}
use Rattle.bm_solver.proofs.solver.Solver.read_next.Goals as goal

pub returns-then-eq-clause-so_far : goal.returns-then-eq-clause-so_far
returns-then-eq-clause-so_far g c =
    let tested : IsTrue c.eq.result ↔ (c.index.result.now ≡ c.ZERO.result) = equal_bits g.F.Field.ops g.F.Field.bits_of g.F.Field.BITS g.met.F.Field.numbered c.eq.result c.index.result.now c.ZERO.result (c.eq.ensures ∙ g.met.F.Field.equal c.index.result.now c.ZERO.result) in
    kept g.F.Field.ops g.met.F.Field.ring c.requires.so_far c.requires.inside c.index.ensures (tested.0 c.if-eq.true ∙ c.ZERO.ensures ∙ sym g.met.F.Field.zero_is)

pub returns-then-start-length-clause-so_far : goal.returns-then-start-length-clause-so_far
returns-then-start-length-clause-so_far g c =
    mended g.F.Field.ops g.met.F.Field.ring c.requires.so_far c.requires.inside c.index.ensures c.len-length.result c.len.result c.mul-factor.result c.add.new.self.discrepancies.items (omega arith) (omega arith) c.mul-factor.ensures.times
    c.add.ensures.size c.add.ensures.discrepancies c.if-start-length.true c.add.ensures.monic

pub returns-in_ok-grow-clause-so_far : goal.returns-in_ok-grow-clause-so_far
returns-in_ok-grow-clause-so_far g c =
    rw c.in_ok-grow.ensures.saved
    (grown g.F.Field.ops g.met.F.Field.ring c.requires.so_far c.requires.inside c.index.ensures c.len-length.result c.len.result c.mul-factor.result c.grow.new.self.current.discrepancies.items (omega arith) (omega arith) c.mul-factor.ensures.times
    c.in_ok-grow.ensures.current_size c.in_ok-grow.ensures.discrepancies c.if-start-length.false c.in_ok-grow.ensures.monic c.inv-self.ensures c.in_ok-grow.ensures.room_size)

pub overflow_add-behind : goal.overflow_add-behind
overflow_add-behind g c = omega arith

pub add-requires : goal.add-requires
add-requires g c = record {
  coefficients = omega arith;
  next = (omega arith, omega arith);
  sizes = omega arith;
}

pub grow-requires : goal.grow-requires
grow-requires g c = record {
  coefficients = omega arith;
  next = (omega arith, omega arith);
  saved_size = omega arith;
  spare_size = omega arith;
}
