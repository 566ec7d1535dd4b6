-- What a node may hold, by one node that holds it.
use Rattle.std.proofs.Common.{◌≡◌, ◌+◌, ◌≤◌, not, [], ◌∷◌, ◌++◌, length, IsTrue, true, sym, subst, refl, arith}
use Rattle.std.specs.List.{AllByRecursion}
use Rattle.base_types.specs.declared.lists.Hash32.{Hash32}
use Rattle.id_rules.specs.Bytes.{is_id}
use Rattle.pool_rules.specs.Pools.{AreDistinctIds, IsPool, is_in_pool}
use Rattle.pool_rules.specs.declared.limits.TheConstants.{POOL_LIMIT}
use Rattle.pool_laws.proofs.IdLists.{one_alone}
use Rattle.node_rules.specs.Invariant.{IsStore}
use Rattle.node_rules.specs.State.{NodeState}
use Rattle.invariant_laws.proofs.Rooms.{lack}
use Rattle.relay_store.specs.Holdings.{Holdings, AreHoldings, holdings_of}
use Rattle.relay_store.proofs.Changes.{holdings}
use Rattle.relay_store.proofs.Rooms.{node_with}

-- the holdings of a node may be held
pub held_of : (s : NodeState) → IsStore s → AreHoldings (holdings_of s)
held_of s store = λ u same.
    let e : holdings_of s ≡ holdings_of u = sym same in
    record {
      pool = subst (λ (h : Holdings). IsPool h.pool) e store.pool;
      wanting = record {
        once = subst (λ (h : Holdings). AreDistinctIds (h.wants.wanted ++ h.wants.asked)) e store.wanting.once;
        unwanted = subst (λ (h : Holdings). AllByRecursion (λ id. IsTrue (not (is_in_pool h.pool id))) h.wants.wanted) e store.wanting.unwanted;
        room = subst (λ (h : Holdings). length h.pool + lack h.pool (h.wants.wanted ++ h.wants.asked) ≤ POOL_LIMIT) e store.wanting.room;
      };
      ids = subst (λ (h : Holdings). AllByRecursion (λ id. IsTrue (is_id id)) (h.wants.wanted ++ h.wants.asked)) e store.ids;
      serving = record {
        once = subst (λ (h : Holdings). AreDistinctIds h.wants.served) e store.serving.once;
        pooled = subst (λ (h : Holdings). AllByRecursion (λ id. IsTrue (is_in_pool h.pool id)) h.wants.served) e store.serving.pooled;
      };
    }

-- one id is asked for, and there is nothing else
pub held_asking : (id : Hash32) → is_id id ≡ true → AreHoldings (holdings [] [] (id ∷ []) [])
unfolding AreDistinctIds
held_asking id is =
    held_of (node_with (holdings [] [] (id ∷ []) []))
    (record {
      pool = record { distinct = tt; each = tt; count = omega arith; size = omega arith };
      wanting = record { once = one_alone id; unwanted = tt; room = omega arith };
      ids = (is, tt);
      serving = record { once = tt; pooled = tt };
    })

-- one id is wanted
pub held_wanting : (id : Hash32) → is_id id ≡ true → AreHoldings (holdings [] (id ∷ []) [] [])
unfolding AreDistinctIds
held_wanting id is =
    held_of (node_with (holdings [] (id ∷ []) [] []))
    (record {
      pool = record { distinct = tt; each = tt; count = omega arith; size = omega arith };
      wanting = record { once = one_alone id; unwanted = (refl, tt); room = omega arith };
      ids = (is, tt);
      serving = record { once = tt; pooled = tt };
    })
