use Rattle.std.proofs.Common.{length, vec_len, ◌<◌, ◌+◌, ◌-◌, ◌≤◌, ◌≡◌}
use Rattle.erlay_base.specs.Told.{AreTold}
use Rattle.erlay_base.proofs.Loads.{IsLoaded}
use Rattle.erlay_base.proofs.loading.load_all.Given as goal

-- `bytes` is the front of the content, at most one more than the limit
abbrev pub invariant-loop-buf : goal.invariant-loop-buf
invariant-loop-buf g l = record {
  room : 0 < length l.buf;
  within : vec_len l.bytes ≤ l.limit + 1;
  loaded : AreTold (g.S.Shelf.told l.initial.shelf) (g.S.Shelf.told l.shelf) (IsLoaded l.name l.bytes.items);
  same : g.S.Shelf.faults l.shelf ≡ g.S.Shelf.faults l.initial.shelf;
}

abbrev pub decreases-loop-buf : goal.decreases-loop-buf
decreases-loop-buf g l = l.limit + 1 - vec_len l.bytes
