-- What calls over the sketches of sets leave.
use Rattle.std.proofs.Common.{◌≡◌, ◌≢◌, inl, inr, ℕ, zero, suc, ◌/◌, ◌<◌, ◌≤◌, ◌^◌, List, [], ◌∷◌, ◌++◌, length, drop, Result, Ok, Err, Some, None, refl, sym, ap, ◌∙◌, arith, append-nil}
use Rattle.std.specs.List.{All}
use Rattle.std.proofs.Math.ListN.{drop_of_length-le}
use Rattle.sketch_rules.specs.Answers.{answer_of}
use Rattle.sketch_rules.specs.Sets.{difference}
use Rattle.sketch_rules.specs.Sketches.{IsCapacity, bytes_of, sketch_of, sketch_sum, sums_in}
use Rattle.sketch_laws.proofs.Bytes.{sums_in-bytes_of, length-bytes_of}
use Rattle.sketch_laws.proofs.Differences.{length-sketch_at, of_difference}
use Rattle.sketch_laws.proofs.Merging.{sketch_sum-sketches}
use Rattle.sketch_bytes.proofs.Sketches.{sketch_small}
use Rattle.trace_roots.proofs.Decoded.{differs}
use Rattle.clmul_lanes.specs.Lane32.{bits_of, ops, ring, numbered, field}
use Rattle.erlay_c.specs.declared.refusal.Refusal.{Refusal}
use Rattle.erlay_c.specs.declared.refusal.Refusal.TheVariants as refusal
use Rattle.erlay_c.specs.Codes.{number_of, code_of}
use Rattle.erlay_c.specs.Answers.{IsSet, IsSketchSize, IsToggleAnswer, IsMergeAnswer, IsDecodeAnswer}
use Rattle.erlay_c.specs.Calls.{HasFound, front_after, count_after}
use Rattle.erlay_c.proofs.Lengths.{length-toggled, length-merged}

-- no refusal has the code of a call that did its work
refused_not_done : (refused : Refusal) → 0 ≡ number_of refused → ⊥
refused_not_done refusal.CapacityOutOfRange e = omega arith
refused_not_done refusal.SketchSize e = omega arith
refused_not_done refusal.SizesDiffer e = omega arith
refused_not_done refusal.ZeroElement e = omega arith
refused_not_done refusal.RepeatedElement e = omega arith
refused_not_done refusal.BufferTooShort e = omega arith
refused_not_done refusal.NoSet e = omega arith
refused_not_done refusal.OutOfMemory e = omega arith

-- the bytes of a set's sketch are read as its sums
sketch_read : (xs : List ℕ) (c : ℕ) → All (λ e. (0 < e) × (e < 2 ^ 32)) xs → sums_in (bytes_of (sketch_of xs c)) ≡ sketch_of xs c
sketch_read xs c members = sums_in-bytes_of (sketch_of xs c) (sketch_small ops bits_of 32 numbered xs c (λ k d within. (members k d within).1))

-- a buffer that was written whole
whole_front : (bytes old : List ℕ) → length bytes ≡ length old → bytes ++ drop (length bytes) old ≡ bytes
whole_front bytes old same = let le : length old ≤ length bytes = omega arith in ap (λ rest. bytes ++ rest) (drop_of_length-le old {i = length bytes} le) ∙ append-nil bytes

-- the sum of the sketches of two sets
sum_read : (xs ys sketch others : List ℕ) (c : ℕ) → IsSet xs → IsSet ys → sketch ≡ bytes_of (sketch_of xs c) → others ≡ sketch_of ys c
    → bytes_of (sketch_sum (sums_in sketch) others) ≡ bytes_of (sketch_of (difference xs ys) c)
sum_read xs ys sketch others c set_xs set_ys is others_are =
    ap (λ bytes. bytes_of (sketch_sum (sums_in bytes) others)) is
    ∙ ap (λ sums. bytes_of (sketch_sum sums others)) (sketch_read xs c set_xs.0)
    ∙ ap (λ sums. bytes_of (sketch_sum (sketch_of xs c) sums)) others_are
    ∙ ap bytes_of (sketch_sum-sketches 32 xs ys c set_xs.1 set_ys.1)

-- the capacity of a sketch is told by its bytes
capacity_read : (xs : List ℕ) (c : ℕ) (bytes : List ℕ) → bytes ≡ bytes_of (sketch_of xs c) → length bytes / 4 ≡ c
capacity_read xs c bytes is =
    let long = ap length is ∙ length-bytes_of (sketch_of xs c) in
    let size = length-sketch_at 32 xs c in
    omega arith

-- the set of one element
alone : (element : ℕ) → element ≢ 0 → element < 2 ^ 32 → IsSet (element ∷ [])
alone element some small = (each, λ i j d before within. absurd (omega arith))
  where
    each : All (λ e. (0 < e) × (e < 2 ^ 32)) (element ∷ [])
    each zero d within = (omega arith, small)
    each (suc k) d within = absurd (omega arith)

-- what a call that did its work left
module _ (old new : List ℕ) (code : ℕ) where
  -- an element that came or went
  pub toggled_set : (element : ℕ) (outcome : Result (List ℕ) Refusal) → IsToggleAnswer old element outcome → code ≡ code_of outcome → new ≡ front_after outcome old
      → (xs : List ℕ) (c : ℕ) → element < 2 ^ 32 → IsSet xs → old ≡ bytes_of (sketch_of xs c) → code ≡ 0 → new ≡ bytes_of (sketch_of (difference xs (element ∷ [])) c)
  toggled_set element (Err refused) answers is buffer xs c small set old_is done = absurd (refused_not_done refused (sym done ∙ is))
  toggled_set element (Ok bytes) answers is buffer xs c small set old_is done =
      let size : length bytes ≡ length old = ap length answers.2 ∙ length-toggled old element answers.0.2 in
      let capacity : length old / 4 ≡ c = capacity_read xs c old old_is in
      buffer
      ∙ whole_front bytes old size
      ∙ answers.2
      ∙ sum_read xs (element ∷ []) old (sketch_of (element ∷ []) (length old / 4)) c set (alone element answers.1 small) old_is (ap (sketch_of (element ∷ [])) capacity)

  -- two sketches that were added
  pub merged_set : (other : List ℕ) (outcome : Result (List ℕ) Refusal) → IsMergeAnswer old other outcome → code ≡ code_of outcome → new ≡ front_after outcome old
      → (xs ys : List ℕ) (c : ℕ) → IsSet xs → IsSet ys → old ≡ bytes_of (sketch_of xs c) → other ≡ bytes_of (sketch_of ys c) → code ≡ 0 → new ≡ bytes_of (sketch_of (difference xs ys) c)
  merged_set other (Err refused) answers is buffer xs ys c set_xs set_ys old_is other_is done = absurd (refused_not_done refused (sym done ∙ is))
  merged_set other (Ok bytes) answers is buffer xs ys c set_xs set_ys old_is other_is done =
      let size : length bytes ≡ length old = ap length answers.2 ∙ length-merged old other answers.0.2 answers.1 in
      buffer
      ∙ whole_front bytes old size
      ∙ answers.2
      ∙ sum_read xs ys old (sums_in other) c set_xs set_ys old_is (ap sums_in other_is ∙ sketch_read ys c set_ys.0)

-- the difference of two sets is the answer to its sketch
difference_found : (xs ys sketch : List ℕ) (c : ℕ) → IsSet xs → IsSet ys → length (difference xs ys) ≤ c → sketch ≡ bytes_of (sketch_of (difference xs ys) c) → answer_of (sums_in sketch) ≡ Some (difference xs ys)
difference_found xs ys sketch c set_xs set_ys few is =
    differs ops ring bits_of 32 field numbered (answer_of (sums_in sketch)) (sums_in sketch) xs ys c refl set_xs.0 set_ys.0 set_xs.1 set_ys.1 few
    (ap sums_in is ∙ sketch_read (difference xs ys) c (of_difference (λ e. (0 < e) × (e < 2 ^ 32)) xs ys set_xs.0 set_ys.0) ∙ sym (sketch_sum-sketches 32 xs ys c set_xs.1 set_ys.1))

-- a sketch may have so many bytes
sketch_sized : (es sketch : List ℕ) (c : ℕ) → IsCapacity c → sketch ≡ bytes_of (sketch_of es c) → IsSketchSize (length sketch)
sketch_sized es sketch c capacity is =
    let long = ap length is ∙ length-bytes_of (sketch_of es c) in
    let size = length-sketch_at 32 es c in
    let low = capacity.0 in
    let high = capacity.1 in
    (omega arith, omega arith, omega arith)

-- a set that was found
module _ (sketch old new : List ℕ) (count old_count code : ℕ) where
  found_row : (es : List ℕ) → answer_of (sums_in sketch) ≡ Some es → IsSketchSize (length sketch) → length es ≤ length old → (outcome : Result (List ℕ) Refusal) → IsDecodeAnswer sketch (length old) outcome
      → code ≡ code_of outcome → new ≡ front_after outcome old → count ≡ count_after outcome old_count → HasFound es old new count code
  found_row es found size room (Ok set) answers is buffer counted =
      let same : set ≡ es = (let both : Some set ≡ Some es = sym answers.1 ∙ found in cc) in
      inr (is, buffer ∙ ap (λ zs. zs ++ drop (length zs) old) same, counted ∙ ap length same)
  found_row es found size room (Err refusal.SketchSize) answers is buffer counted = absurd (answers size)
  found_row es found size room (Err refusal.NoSet) answers is buffer counted = let both : Some es ≡ None = sym found ∙ answers.1 in cc
  found_row es found size room (Err refusal.BufferTooShort) answers is buffer counted =
      let same : answers.1.0 ≡ es = (let both : Some answers.1.0 ≡ Some es = sym answers.1.1 ∙ found in cc) in
      let long : length answers.1.0 ≡ length es = ap length same in
      let short = answers.1.2 in
      absurd (omega arith)
  found_row es found size room (Err refusal.OutOfMemory) answers is buffer counted = inl is
  found_row es found size room (Err refusal.CapacityOutOfRange) answers is buffer counted = absurd answers
  found_row es found size room (Err refusal.SizesDiffer) answers is buffer counted = absurd answers
  found_row es found size room (Err refusal.ZeroElement) answers is buffer counted = absurd answers
  found_row es found size room (Err refusal.RepeatedElement) answers is buffer counted = absurd answers

  pub decoded_set : (outcome : Result (List ℕ) Refusal) → IsDecodeAnswer sketch (length old) outcome → code ≡ code_of outcome → new ≡ front_after outcome old → count ≡ count_after outcome old_count
      → (xs ys : List ℕ) (c : ℕ) → IsSet xs → IsSet ys → IsCapacity c → length (difference xs ys) ≤ c → length (difference xs ys) ≤ length old → sketch ≡ bytes_of (sketch_of (difference xs ys) c) → HasFound (difference xs ys) old new count code
  decoded_set outcome answers is buffer counted xs ys c set_xs set_ys capacity few room sketch_is =
      found_row (difference xs ys) (difference_found xs ys sketch c set_xs set_ys few sketch_is) (sketch_sized (difference xs ys) sketch c capacity sketch_is) room outcome answers is buffer counted
