-- What the fakes and the adapters are, as callers see them.
use Rattle.std.specs.Prelude.{ℕ, List}

-- a source over given bytes: the bytes left, the most bytes that a call gives, the numbers of the
-- calls that fail, and the calls and the faults so far
pub record SourceState : Type 0 where
  pub left : List ℕ
  pub cut : ℕ
  pub failing : List ℕ
  pub calls : ℕ
  pub faults : ℕ

-- a sink that keeps its bytes: the bytes taken, the most bytes that a call takes, the numbers of the
-- calls that fail, and the calls and the faults so far
pub record SinkState : Type 0 where
  pub written : List ℕ
  pub cut : ℕ
  pub failing : List ℕ
  pub calls : ℕ
  pub faults : ℕ

-- an adapter over a stream of the standard library: the stream, and the faults so far
pub record Adapter (Stream : Type 0) : Type 0 where
  pub stream : Stream
  pub faults : ℕ
