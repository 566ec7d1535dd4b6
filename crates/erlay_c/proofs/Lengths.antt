-- How many bytes and sums the answers have.
use Rattle.std.proofs.Common.{◌≡◌, ℕ, ◌/◌, ◌%◌, ◌≤◌, List, [], ◌∷◌, length, map, Result, Ok, Err, MatchResult, sym, ap, ◌∙◌, arith}
use Rattle.std.proofs.Math.ListN.{length-map}
use Rattle.field_rules.specs.Elements.{numbers}
use Rattle.sketch_rules.specs.Sketches.{bytes_of, sketch_of, sketch_sum, sums_in}
use Rattle.sketch_laws.proofs.Bytes.{length-bytes_of, length-sums_in}
use Rattle.sketch_laws.proofs.Differences.{length-sketch_at}
use Rattle.list_multiples.proofs.Sums.{length-both}
use Rattle.erlay_c.specs.declared.refusal.Refusal.{Refusal}
use Rattle.erlay_c.specs.Answers.{IsMakeAnswer, IsToggleAnswer, IsMergeAnswer, IsDecodeAnswer}

-- how many sums a sketch has
pub length-read : (bytes : List ℕ) → length bytes % 4 ≡ 0 → length (sums_in bytes) ≡ length bytes / 4
length-read bytes whole = let long = length-sums_in bytes whole in omega arith

pub length-items : {A : Type 0} (f : A → ℕ) (items : List A) (bytes : List ℕ) → map f items ≡ sums_in bytes → length bytes % 4 ≡ 0 → length items ≡ length bytes / 4
length-items f items bytes is whole = sym (length-map items f) ∙ ap length is ∙ length-read bytes whole

-- how many bytes the sum of two sketches has
pub length-sum : (bytes ns : List ℕ) → length bytes % 4 ≡ 0 → length ns ≡ length bytes / 4 → length (bytes_of (sketch_sum (sums_in bytes) ns)) ≡ length bytes
length-sum bytes ns whole size =
    let long = length-sums_in bytes whole in
    let same : length (sums_in bytes) ≡ length ns = length-read bytes whole ∙ sym size in
    let both = length-both (numbers 32) (sums_in bytes) ns same in
    let all = length-bytes_of (sketch_sum (sums_in bytes) ns) in
    omega arith

pub length-toggled : (bytes : List ℕ) (element : ℕ) → length bytes % 4 ≡ 0 → length (bytes_of (sketch_sum (sums_in bytes) (sketch_of (element ∷ []) (length bytes / 4)))) ≡ length bytes
length-toggled bytes element whole = length-sum bytes (sketch_of (element ∷ []) (length bytes / 4)) whole (length-sketch_at 32 (element ∷ []) (length bytes / 4))

pub length-merged : (bytes others : List ℕ) → length bytes % 4 ≡ 0 → length others ≡ length bytes → length (bytes_of (sketch_sum (sums_in bytes) (sums_in others))) ≡ length bytes
length-merged bytes others whole same =
    length-sum bytes (sums_in others) whole (let other : length others % 4 ≡ 0 = ap (λ n. n % 4) same ∙ whole in length-read others other ∙ ap (λ n. n / 4) same)

-- what is written fits into the buffer
pub make_fits : (elements : List ℕ) (capacity room : ℕ) (outcome : Result (List ℕ) Refusal) → IsMakeAnswer elements capacity room outcome → MatchResult outcome (λ bytes. length bytes ≤ room) (λ _. Unit {0})
make_fits elements capacity room (Ok bytes) is =
    let long = ap length is.3 ∙ length-bytes_of (sketch_of elements capacity) in
    let size = length-sketch_at 32 elements capacity in
    let room_is = is.0.1 in
    omega arith
make_fits elements capacity room (Err refused) is = tt

pub toggle_fits : (sketch : List ℕ) (element : ℕ) (outcome : Result (List ℕ) Refusal) → IsToggleAnswer sketch element outcome → MatchResult outcome (λ bytes. length bytes ≤ length sketch) (λ _. Unit {0})
toggle_fits sketch element (Ok bytes) is = let long = ap length is.2 ∙ length-toggled sketch element is.0.2 in omega arith
toggle_fits sketch element (Err refused) is = tt

pub merge_fits : (sketch other : List ℕ) (outcome : Result (List ℕ) Refusal) → IsMergeAnswer sketch other outcome → MatchResult outcome (λ bytes. length bytes ≤ length sketch) (λ _. Unit {0})
merge_fits sketch other (Ok bytes) is = let long = ap length is.2 ∙ length-merged sketch other is.0.2 is.1 in omega arith
merge_fits sketch other (Err refused) is = tt

pub decode_fits : (sketch : List ℕ) (room : ℕ) (outcome : Result (List ℕ) Refusal) → IsDecodeAnswer sketch room outcome → MatchResult outcome (λ es. length es ≤ room) (λ _. Unit {0})
decode_fits sketch room (Ok es) is = is.2
decode_fits sketch room (Err refused) is = tt
