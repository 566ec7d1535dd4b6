-- The words of a message.
use Rattle.std.proofs.Common.{◌≡◌, ℕ, ◌%◌, ◌<◌, ◌≤◌, List, [], ◌∷◌, ◌++◌, length, take, drop, slice_set, fold, refl, sym, ap, ◌∙◌, arith}
use Rattle.std.specs.Int.{w64, from_le_bytes}
use Rattle.id_rules.specs.SipHash.{SipState, after_word, words_of}

-- the first word of a message that has one
pub words_of-more : (n : ℕ) (bytes : List ℕ) → 8 ≤ length bytes → words_of n bytes ≡ from_le_bytes w64 (take 8 bytes) ∷ words_of n (drop 8 bytes)
unfolding words_of
words_of-more n (a ∷ b ∷ c ∷ d ∷ e ∷ f ∷ g ∷ h ∷ rest) enough = refl
words_of-more n (a ∷ b ∷ c ∷ d ∷ e ∷ f ∷ g ∷ []) enough = absurd (omega arith)
words_of-more n (a ∷ b ∷ c ∷ d ∷ e ∷ f ∷ []) enough = absurd (omega arith)
words_of-more n (a ∷ b ∷ c ∷ d ∷ e ∷ []) enough = absurd (omega arith)
words_of-more n (a ∷ b ∷ c ∷ d ∷ []) enough = absurd (omega arith)
words_of-more n (a ∷ b ∷ c ∷ []) enough = absurd (omega arith)
words_of-more n (a ∷ b ∷ []) enough = absurd (omega arith)
words_of-more n (a ∷ []) enough = absurd (omega arith)
words_of-more n [] enough = absurd (omega arith)

-- the last word: the bytes that are left, zeros, and the lowest byte of the length
abbrev pub zeros : List ℕ
zeros = 0 ∷ 0 ∷ 0 ∷ 0 ∷ 0 ∷ 0 ∷ 0 ∷ 0 ∷ []

pub words_of-last : (n : ℕ) (rest : List ℕ) → length rest < 8 → words_of n rest ≡ from_le_bytes w64 (slice_set (rest ++ drop (length rest) zeros) 7 (n % 256)) ∷ []
unfolding words_of
words_of-last n [] few = ap (λ w. w ∷ []) (omega arith)
words_of-last n (a ∷ []) few = ap (λ w. w ∷ []) (omega arith)
words_of-last n (a ∷ b ∷ []) few = ap (λ w. w ∷ []) (omega arith)
words_of-last n (a ∷ b ∷ c ∷ []) few = ap (λ w. w ∷ []) (omega arith)
words_of-last n (a ∷ b ∷ c ∷ d ∷ []) few = ap (λ w. w ∷ []) (omega arith)
words_of-last n (a ∷ b ∷ c ∷ d ∷ e ∷ []) few = ap (λ w. w ∷ []) (omega arith)
words_of-last n (a ∷ b ∷ c ∷ d ∷ e ∷ f ∷ []) few = ap (λ w. w ∷ []) (omega arith)
words_of-last n (a ∷ b ∷ c ∷ d ∷ e ∷ f ∷ g ∷ []) few = ap (λ w. w ∷ []) (omega arith)
words_of-last n (a ∷ b ∷ c ∷ d ∷ e ∷ f ∷ g ∷ h ∷ rest) few = absurd (omega arith)

-- one word of those that are left, onto the state
pub word_taken : (n word : ℕ) (s t : SipState) (rest first behind : List ℕ) → 8 ≤ length rest → first ≡ take 8 rest → behind ≡ drop 8 rest → word ≡ from_le_bytes w64 first → t ≡ after_word s word
    → fold after_word t (words_of n behind) ≡ fold after_word s (words_of n rest)
word_taken n word s t rest first behind enough is_first is_behind is_word is_state =
    ap (λ u. fold after_word u (words_of n behind)) is_state
    ∙ ap (λ w. fold after_word (after_word s w) (words_of n behind)) (is_word ∙ ap (from_le_bytes w64) is_first)
    ∙ ap (λ bytes. fold after_word (after_word s (from_le_bytes w64 (take 8 rest))) (words_of n bytes)) is_behind
    ∙ sym (ap (fold after_word s) (words_of-more n rest enough))
