-- The lemma.
use Rattle.pair_end_laws.proofs.Gaining.{pools_gain_what_is_added_or_shared}
use Rattle.pair_end_laws.proofs.pools_gain_what_is_added_or_shared.Goals as goal

pub returns : goal.returns
returns c = pools_gain_what_is_added_or_shared
