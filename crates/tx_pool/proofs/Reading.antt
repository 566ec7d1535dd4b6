-- The line of a transaction, read.
use Rattle.std.proofs.Common.{◌≡◌, ℕ, ◌<◌, ◌≤◌, nat_le, nat_lt, Bool, true, false, not, if◌then◌else◌, List, [], ◌∷◌, ◌++◌, length, drop, Result, Ok, Err, refl, sym, ap, ap₂, ◌∙◌, arith, le-leb, lt-ltb}
use Rattle.std.proofs.lemmas.Bool.{and_from, not-true}
use Rattle.hex.specs.Hex.{decode_of}
use Rattle.hex.proofs.HexLemmas.{decode_of-ok}
use Rattle.base_types.specs.declared.lists.Hash32.{Hash32}
use Rattle.base_types.specs.declared.text.Kind.{Kind}
use Rattle.base_types.specs.declared.text.Kind.TheVariants as kind
use Rattle.line_rules.specs.Digits.{◌>>=◌}
use Rattle.id_rules.specs.Bytes.{is_tx_length}
use Rattle.id_rules.specs.Ids.{wtxid}
use Rattle.id_rules.specs.declared.TheConstants.{TX_LIMIT}
use Rattle.pool_rules.specs.Pools.{Transaction, has_room, insertion_by, insertion_of, is_in_pool, is_same_id, transaction_of}
use Rattle.tx_pool.specs.Lines.{IsLineOutcome}
use Rattle.tx_pool.specs.declared.line.LineStop.{LineStop}
use Rattle.tx_pool.specs.declared.line.LineStop.TheVariants as stop
use Rattle.pool_rules.specs.PoolFile.{id_in, new_tx, pool_step, tx_in, tx_of_id, with_transaction}
use Rattle.pool_rules.specs.declared.insertion.Inserted.{Inserted}
use Rattle.pool_rules.specs.declared.insertion.Inserted.TheVariants as inserted

-- ---- its transaction

pub tx_in-sized : (digits tx : List ℕ) → 0 < length digits → decode_of digits ≡ Ok tx → length tx ≤ TX_LIMIT → is_tx_length (length tx) ≡ true
tx_in-sized digits tx some is limited =
    let twice = (decode_of-ok digits tx is).2 in
    and_from (nat_lt 0 (length tx)) (nat_le (length tx) TX_LIMIT) (lt-ltb 0 (length tx) (omega arith)) (le-leb (length tx) TX_LIMIT limited)

-- ---- a pool with one line more

module _ (pool : List Transaction) (line : List ℕ) where
  pub pool_step-id : (k : Kind) → id_in line ≡ Err k → pool_step pool line ≡ Err k
  unfolding pool_step
  pool_step-id k e = ap (λ r. r >>= (λ id. tx_in (drop 65 line) >>= (λ read. tx_of_id id read >>= (λ named. new_tx pool named >>= (λ tx. with_transaction pool tx))))) e

  pub pool_step-tx : (id : Hash32) (k : Kind) → id_in line ≡ Ok id → tx_in (drop 65 line) ≡ Err k → pool_step pool line ≡ Err k
  unfolding pool_step
  pool_step-tx id k e h =
      ap (λ r. r >>= (λ id. tx_in (drop 65 line) >>= (λ read. tx_of_id id read >>= (λ named. new_tx pool named >>= (λ tx. with_transaction pool tx))))) e
      ∙ ap (λ r. r >>= (λ read. tx_of_id id read >>= (λ named. new_tx pool named >>= (λ tx. with_transaction pool tx)))) h

  pool_step-read : (id : Hash32) (tx : List ℕ) (same : Bool) → id_in line ≡ Ok id → tx_in (drop 65 line) ≡ Ok tx → is_same_id id (wtxid tx) ≡ same
      → pool_step pool line ≡ ((if same then Ok tx else Err (kind.IdMismatch id (wtxid tx))) >>= (λ named. new_tx pool named >>= (λ tx. with_transaction pool tx)))
  unfolding pool_step
  pool_step-read id tx same e h s =
      ap (λ r. r >>= (λ id. tx_in (drop 65 line) >>= (λ read. tx_of_id id read >>= (λ named. new_tx pool named >>= (λ tx. with_transaction pool tx))))) e
      ∙ ap (λ r. r >>= (λ read. tx_of_id id read >>= (λ named. new_tx pool named >>= (λ tx. with_transaction pool tx)))) h
      ∙ ap (λ b. (if b then Ok tx else Err (kind.IdMismatch id (wtxid tx))) >>= (λ named. new_tx pool named >>= (λ tx. with_transaction pool tx))) s

  pub pool_step-mismatch : (id : Hash32) (tx : List ℕ) → id_in line ≡ Ok id → tx_in (drop 65 line) ≡ Ok tx → is_same_id id (wtxid tx) ≡ false → pool_step pool line ≡ Err (kind.IdMismatch id (wtxid tx))
  pool_step-mismatch id tx e h s = pool_step-read id tx false e h s

  -- by what becomes of the transaction
  abbrev pub step_of : Inserted → List Transaction → Result (List Transaction) Kind
  step_of inserted.New after = Ok after
  step_of inserted.Present after = Err kind.Repeated
  step_of inserted.Full after = Err kind.PoolFull

  put_of : (there room : Bool) (tx : List ℕ) → ((if there then Err kind.Repeated else Ok tx) >>= (λ tx. if room then Ok (pool ++ transaction_of tx ∷ []) else Err kind.PoolFull))
      ≡ step_of (insertion_by there room pool tx).inserted (insertion_by there room pool tx).pool
  unfolding insertion_by
  put_of true room tx = refl
  put_of false true tx = refl
  put_of false false tx = refl

  put_by : (there : Bool) (tx : List ℕ) → ((if there then Err kind.Repeated else Ok tx) >>= (λ tx. with_transaction pool tx)) ≡ ((if there then Err kind.Repeated else Ok tx) >>= (λ ty. if has_room pool tx then Ok (pool ++ transaction_of ty ∷ []) else Err kind.PoolFull))
  put_by true tx = refl
  put_by false tx = refl

  pub pool_step-put : (id : Hash32) (tx : List ℕ) → id_in line ≡ Ok id → tx_in (drop 65 line) ≡ Ok tx → is_same_id id (wtxid tx) ≡ true → pool_step pool line ≡ step_of (insertion_of pool tx).inserted (insertion_of pool tx).pool
  pool_step-put id tx e h s = pool_step-read id tx true e h s ∙ put_by (is_in_pool pool (wtxid tx)) tx ∙ put_of (is_in_pool pool (wtxid tx)) (has_room pool tx) tx

  -- the same of a call whose answers were looked at

  no_more : (b : Bool) → not b ≡ false → b ≡ true
  no_more true e = refl
  no_more false e = sym e

  pub outcome_of-tx : {A C : Type 0} (see : A → List ℕ) (view : C → List Transaction) (id : Hash32) (s : LineStop) → id_in line ≡ Ok id → IsLineOutcome see (Err s) (tx_in (drop 65 line)) → IsLineOutcome view (Err s) (pool_step pool line)
  outcome_of-tx see view id (stop.Faulty k) e h = pool_step-tx id k e h
  outcome_of-tx see view id stop.OutOfMemory e h = tt

  pub outcome_of-mismatch : (id computed : Hash32) (tx : List ℕ) → id_in line ≡ Ok id → tx_in (drop 65 line) ≡ Ok tx → computed ≡ wtxid tx → not (is_same_id id computed) ≡ true → pool_step pool line ≡ Err (kind.IdMismatch id computed)
  outcome_of-mismatch id computed tx e h is differs =
      pool_step-mismatch id tx e h (ap (is_same_id id) (sym is) ∙ not-true (is_same_id id computed) differs) ∙ ap (λ i. Err (kind.IdMismatch id i)) (sym is)

  pub outcome_of-put : (id computed : Hash32) (tx : List ℕ) (i : Inserted) (after : List Transaction) → id_in line ≡ Ok id → tx_in (drop 65 line) ≡ Ok tx → computed ≡ wtxid tx → not (is_same_id id computed) ≡ false
      → after ≡ (insertion_of pool tx).pool → i ≡ (insertion_of pool tx).inserted → pool_step pool line ≡ step_of i after
  outcome_of-put id computed tx i after e h is same grown answered =
      pool_step-put id tx e h (ap (is_same_id id) (sym is) ∙ no_more (is_same_id id computed) same) ∙ ap₂ step_of (sym answered) (sym grown)
