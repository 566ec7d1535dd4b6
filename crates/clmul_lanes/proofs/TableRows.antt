-- The rows of a factor's multiples by the values of a nibble, and their planes.
use Rattle.std.proofs.Common.{◌≡◌, ℕ, zero, suc, ◌+◌, ◌*◌, ◌^◌, ◌<◌, List, [], ◌∷◌, length, map, get_or, slice_index_or, Fits, w32, sym, ap, subst, ◌∙◌, arith, lit<}
use Rattle.std.specs.List.{range_with_len}
use Rattle.std.specs.Simd.Lanes.{Each1}
use Rattle.std.proofs.lemmas.Nat.{pow-add}
use Rattle.std.proofs.Math.Nat.{mul_assoc}
use Rattle.std.proofs.lemmas.Simd.{map-map}
use Rattle.std.proofs.lemmas.List.FromFn.{get_or-map-range_with_len}
use Rattle.field_rules.specs.Elements.{product}
use Rattle.field_laws.proofs.Products.{product-below, product-shift}
use Rattle.field_laws.proofs.Rings.{product-assoc, product-comm}
use Rattle.clmul_lanes.specs.Planes.{byte_of, ArePlanes}
use Rattle.clmul_lanes.specs.Tables.{IsTable, IsByteTable, AreByteTables}
use Rattle.clmul_lanes.proofs.LaneLists.{map_same}
use Rattle.clmul_lanes.proofs.PlaneLists.{listed}
use Rattle.field_core.proofs.LinearMaps.{nibble_fits}

pub below_sixteen : Each1 (λ j. j < 16) (range_with_len 0 16)
below_sixteen = (lit< tt, (lit< tt, (lit< tt, (lit< tt, (lit< tt, (lit< tt, (lit< tt, (lit< tt, (lit< tt, (lit< tt, (lit< tt, (lit< tt, (lit< tt, (lit< tt, (lit< tt, (lit< tt, tt))))))))))))))))

module _ (factor : ℕ) (fits : factor < 2 ^ 32) where
  abbrev pub row : ℕ → List ℕ
  row i = map (λ j. product 32 factor (j * 2 ^ (4 * i))) (range_with_len 0 16)

  -- a table is a row
  pub row_is : (i : ℕ) (table : List ℕ) → length table ≡ 16 → IsTable factor i table → table ≡ row i
  row_is i table long are =
      listed 16 table long ∙ map_same (λ j. j < 16) (λ j. get_or table j 0) (λ j. product 32 factor (j * 2 ^ (4 * i))) are (range_with_len 0 16) below_sixteen

  pub row_fits : (i : ℕ) → i < 8 → Each1 (Fits w32) (row i)
  row_fits i lt = each (range_with_len 0 16) below_sixteen
    where
      each : (js : List ℕ) → Each1 (λ j. j < 16) js → Each1 (Fits w32) (map (λ j. product 32 factor (j * 2 ^ (4 * i))) js)
      each [] below = tt
      each (j ∷ js) below = (record { fits = product-below 32 factor (j * 2 ^ (4 * i)) (lit< tt) fits (nibble_fits i j lt below.0) }, each js below.1)

  -- the row two nibbles up
  pub row_up : (i : ℕ) → i + 2 < 8 → map (λ w. product 32 w 256) (row i) ≡ row (i + 2)
  row_up i lt =
      map-map (λ w. product 32 w 256) (λ j. product 32 factor (j * 2 ^ (4 * i))) (range_with_len 0 16)
      ∙ map_same (λ j. j < 16) (λ j. product 32 (product 32 factor (j * 2 ^ (4 * i))) 256) (λ j. product 32 factor (j * 2 ^ (4 * (i + 2)))) same (range_with_len 0 16) below_sixteen
    where
      places : 4 * (i + 2) ≡ 4 * i + 8
      places = omega arith

      up : (j : ℕ) → j * 2 ^ (4 * i) * 2 ^ 8 ≡ j * 2 ^ (4 * (i + 2))
      up j = mul_assoc j (2 ^ (4 * i)) (2 ^ 8) ∙ ap (λ z. j * z) (sym (pow-add 2 (4 * i) 8) ∙ ap (λ z. 2 ^ z) (sym places))

      same : (j : ℕ) → j < 16 → product 32 (product 32 factor (j * 2 ^ (4 * i))) 256 ≡ product 32 factor (j * 2 ^ (4 * (i + 2)))
      same j below =
          let small : j * 2 ^ (4 * i) < 2 ^ 32 = nibble_fits i j (omega arith) below in
          product-assoc 32 factor (j * 2 ^ (4 * i)) 256 (lit< tt) fits small (lit< tt)
          ∙ ap (product 32 factor) (product-comm 32 (j * 2 ^ (4 * i)) 256 small (lit< tt) ∙ product-shift 32 8 (j * 2 ^ (4 * i)) (lit< tt) (lit< tt) small (subst (λ z. z < 2 ^ 32) (sym (up j)) (nibble_fits (i + 2) j lt below)) ∙ up j)

  -- its planes are the tables of its bytes
  row_tables : (i : ℕ) (planes : List (List ℕ)) → ArePlanes (row i) planes → (b : ℕ) → b < 4 → IsByteTable factor i b (slice_index_or planes b [])
  row_tables i planes are b lt j below =
      ap (λ z. get_or z j 0) (are b lt ∙ map-map (byte_of b) (λ j. product 32 factor (j * 2 ^ (4 * i))) (range_with_len 0 16))
      ∙ get_or-map-range_with_len (λ j. byte_of b (product 32 factor (j * 2 ^ (4 * i)))) 0 16 j j 0 below (omega arith)

  pub all_rows : (t0 t1 t2 t3 t4 t5 t6 t7 : List (List ℕ)) → ArePlanes (row 0) t0 → ArePlanes (row 1) t1 → ArePlanes (row 2) t2 → ArePlanes (row 3) t3 → ArePlanes (row 4) t4 → ArePlanes (row 5) t5 → ArePlanes (row 6) t6 → ArePlanes (row 7) t7
      → AreByteTables factor (t0 ∷ t1 ∷ t2 ∷ t3 ∷ t4 ∷ t5 ∷ t6 ∷ t7 ∷ [])
  all_rows t0 t1 t2 t3 t4 t5 t6 t7 a0 a1 a2 a3 a4 a5 a6 a7 zero lt = row_tables 0 t0 a0
  all_rows t0 t1 t2 t3 t4 t5 t6 t7 a0 a1 a2 a3 a4 a5 a6 a7 (suc zero) lt = row_tables 1 t1 a1
  all_rows t0 t1 t2 t3 t4 t5 t6 t7 a0 a1 a2 a3 a4 a5 a6 a7 (suc (suc zero)) lt = row_tables 2 t2 a2
  all_rows t0 t1 t2 t3 t4 t5 t6 t7 a0 a1 a2 a3 a4 a5 a6 a7 (suc (suc (suc zero))) lt = row_tables 3 t3 a3
  all_rows t0 t1 t2 t3 t4 t5 t6 t7 a0 a1 a2 a3 a4 a5 a6 a7 (suc (suc (suc (suc zero)))) lt = row_tables 4 t4 a4
  all_rows t0 t1 t2 t3 t4 t5 t6 t7 a0 a1 a2 a3 a4 a5 a6 a7 (suc (suc (suc (suc (suc zero))))) lt = row_tables 5 t5 a5
  all_rows t0 t1 t2 t3 t4 t5 t6 t7 a0 a1 a2 a3 a4 a5 a6 a7 (suc (suc (suc (suc (suc (suc zero)))))) lt = row_tables 6 t6 a6
  all_rows t0 t1 t2 t3 t4 t5 t6 t7 a0 a1 a2 a3 a4 a5 a6 a7 (suc (suc (suc (suc (suc (suc (suc zero))))))) lt = row_tables 7 t7 a7
  all_rows t0 t1 t2 t3 t4 t5 t6 t7 a0 a1 a2 a3 a4 a5 a6 a7 (suc (suc (suc (suc (suc (suc (suc (suc i)))))))) lt = absurd (omega arith)
