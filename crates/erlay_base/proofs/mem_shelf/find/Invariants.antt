use Rattle.std.proofs.Common.{◌≡◌, drop}
use Rattle.erlay_base.specs.LinkFakes.{content_among, contents_of}
use Rattle.erlay_base.proofs.mem_shelf.find.Given as goal

-- no entry before has the name
abbrev pub invariant-loop-key : goal.invariant-loop-key
invariant-loop-key l = content_among (contents_of (drop l.key-index l.held)) l.name ≡ content_among (contents_of l.held) l.name
