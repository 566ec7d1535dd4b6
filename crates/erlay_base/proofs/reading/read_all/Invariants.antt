use Rattle.std.proofs.Common.{length, vec_len, ◌<◌, ◌+◌, ◌-◌, ◌≤◌, ◌≡◌}
use Rattle.std.specs.Io.KnownBytes.{Consumes}
use Rattle.erlay_base.proofs.reading.read_all.Given as goal

-- `bytes` is what the source gave so far, at most one more than the limit
abbrev pub invariant-loop-buf : goal.invariant-loop-buf
invariant-loop-buf g l = record {
  room : 0 < length l.buf;
  within : vec_len l.bytes ≤ l.limit + 1;
  done : Consumes (g.S.Source.left l.initial.source) (g.S.Source.left l.source) l.bytes.items;
  same : g.S.Source.faults l.source ≡ g.S.Source.faults l.initial.source;
}

abbrev pub decreases-loop-buf : goal.decreases-loop-buf
decreases-loop-buf g l = l.limit + 1 - vec_len l.bytes
