use Rattle.id_list.proofs.Changes.{is_indexed-none}
use Rattle.id_list.proofs.list.IdList.clear.Goals as goal

pub invariant_of-self : goal.invariant_of-self
invariant_of-self g c = is_indexed-none _ c.clear-2.ensures.empty _ c.clear.ensures.empty
