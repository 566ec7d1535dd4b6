-- The text of a pool, line by line.
use Rattle.std.proofs.Common.{◌≡◌, ℕ, List, [], ◌∷◌, ◌++◌, length, sym, ap, ◌∙◌, append_assoc, append-nil}
use Rattle.std.specs.Prelude.{flat_map}
use Rattle.base_types.specs.declared.lists.Hash32.{Hash32}
use Rattle.line_rules.specs.Lines.{line}
use Rattle.pool_rules.specs.Pools.{Transaction}
use Rattle.pool_rules.specs.PoolFile.{heading, pool_text, transaction_line}
use Rattle.tx_pool.specs.Views.{transactions_of}

-- the lines of some entries
abbrev pub lines_text : List (Hash32 × List ℕ) → List ℕ
lines_text entries = flat_map (λ t. line (transaction_line t)) (transactions_of entries)

-- one line more behind what was written, of those that are left
pub written_more : (text more : List ℕ) (id : Hash32) (tx : List ℕ) (rest left : List (Hash32 × List ℕ)) → left ≡ (id, tx) ∷ rest → more ≡ text ++ line (transaction_line (record { id = id; bytes = tx }))
    → more ++ lines_text rest ≡ text ++ lines_text left
written_more text more id tx rest left next written =
    ap (λ t. t ++ lines_text rest) written
    ∙ append_assoc text (line (transaction_line (record { id = id; bytes = tx }))) (lines_text rest)
    ∙ ap (λ es. text ++ lines_text es) (sym next)

-- the heading is written, and no line yet
pub text_begun : (pool : List Transaction) (text none : List ℕ) (n : ℕ) (entries left : List (Hash32 × List ℕ)) → none ≡ [] → n ≡ length pool → text ≡ none ++ line (heading n) → left ≡ entries → transactions_of entries ≡ pool
    → text ++ lines_text left ≡ pool_text pool
text_begun pool text none n entries left empty count written all is =
    ap (λ t. t ++ lines_text left) (written ∙ ap (λ t. t ++ line (heading n)) empty ∙ ap (λ m. line (heading m)) count)
    ∙ ap (λ ts. line (heading (length pool)) ++ flat_map (λ t. line (transaction_line t)) ts) (ap transactions_of all ∙ is)

-- no line is left
pub text_ended : (text whole : List ℕ) (left : List (Hash32 × List ℕ)) → text ++ lines_text left ≡ whole → left ≡ [] → text ≡ whole
text_ended text whole left so_far none = sym (append-nil text) ∙ ap (λ es. text ++ lines_text es) (sym none) ∙ so_far
