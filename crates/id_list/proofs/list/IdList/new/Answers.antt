use Rattle.id_list.proofs.Changes.{is_indexed-none}
use Rattle.id_list.proofs.list.IdList.new.Goals as goal

pub invariant_of-result : goal.invariant_of-result
invariant_of-result g c = is_indexed-none _ c.new-2.ensures.empty _ c.new.ensures.empty
