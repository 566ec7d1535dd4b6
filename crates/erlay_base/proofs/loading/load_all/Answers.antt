use Rattle.std.proofs.Common.{◌≡◌, ◌∙◌, ◌++◌, length, take, arith}
use Rattle.std.proofs.lemmas.Grind.{common_steps}
use Rattle.erlay_base.proofs.Loads.{loaded_more, reads_failed, reads_more}
use Rattle.erlay_base.proofs.loading.load_all.Goals as goal

pub returns-in_default-read_at-clause-reads : goal.returns-in_default-read_at-clause-reads
returns-in_default-read_at-clause-reads g c =
    reads_failed _ _ _ _ c.loop-buf.bytes.items c.loop-buf.invariant.loaded c.in_default-read_at.ensures.told

pub returns-then-count-eq0-clause-reads : goal.returns-then-count-eq0-clause-reads
returns-then-count-eq0-clause-reads g c =
    reads_more _ _ _ _ c.loop-buf.bytes.items c.read_at.new.buf _ _ c.loop-buf.invariant.loaded c.in-Ok-read_at.ensures.told

pub returns-then-is_err-clause-reads : goal.returns-then-is_err-clause-reads
returns-then-is_err-clause-reads g c =
    reads_more _ _ _ _ c.loop-buf.bytes.items c.read_at.new.buf _ _ c.loop-buf.invariant.loaded c.in-Ok-read_at.ensures.told

pub loop-buf-preserved : goal.loop-buf-preserved
loop-buf-preserved g c =
    let appended : c.extend_from_slice.new.self.items ≡ c.loop-buf.bytes.items ++ take c.in-Ok-read_at.count c.read_at.new.buf = grind (arith, common_steps) in
    let at : c.len-in-loop-buf-2.result ≡ length c.loop-buf.bytes.items = omega (arith, c.loop-buf.bytes.ok.0) in
    let read = rw at at c.in-Ok-read_at.ensures.told in
    record {
      room = grind (arith, common_steps);
      within = grind (arith, common_steps);
      loaded = rw appended (loaded_more _ _ _ _ c.loop-buf.bytes.items c.read_at.new.buf c.in-Ok-read_at.count c.loop-buf.invariant.loaded read);
      same = c.in-Ok-read_at.ensures.cause.success ∙ c.loop-buf.invariant.same;
    }
