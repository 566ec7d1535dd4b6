-- Words ask for a command or for an exchange, and never for both.
use Rattle.std.proofs.Common.{◌≡◌, ℕ, List, [], length, get_or, refl, ap, sym, ◌∙◌}
use Rattle.node_rules.specs.declared.config.Role.{Role}
use Rattle.node_rules.specs.declared.config.Role.TheVariants as role
use Rattle.command_words.specs.declared.command.Command.{Command}
use Rattle.command_words.specs.declared.command.Command.TheVariants as command
use Rattle.command_words.specs.Words.{HasForm}
use Rattle.erlay_cli.specs.Exchanges.{Exchange, HasExchange, HasNoExchange, role_word}

-- the words of a command are three at most
form_length : (words : List (List ℕ)) (c : Command) → HasForm words c → length words ≡ 4 → ⊥
form_length words (command.Make capacity) form four = cc (ap length form.0, four)
form_length words command.Merge form four = cc (ap length form, four)
form_length words command.Decode form four = cc (ap length form, four)
form_length words (command.Ids salt other) (first, second, form, one, two) four = cc (ap length form, four)
form_length words command.Show form four = cc (ap length form, four)
form_length words command.Pack form four = cc (ap length form, four)
form_length words command.Sim form four = cc (ap length form, four)
form_length words (command.Gen number) form four = cc (ap length form.0, four)

pub no_command : (words : List (List ℕ)) (x : Exchange) (c : Command) → HasExchange words x → HasForm words c → ⊥
no_command words x c asks form = form_length words c form (ap length asks)

pub no_words : HasNoExchange []
no_words x asks = cc asks

-- words ask for one exchange
one_role : (r q : Role) → role_word r ≡ role_word q → r ≡ q
one_role role.Opener role.Opener same = refl
one_role role.Opener role.Accepter same = cc (ap length same)
one_role role.Accepter role.Opener same = cc (ap length same)
one_role role.Accepter role.Accepter same = refl

abbrev with_parts : Role → List ℕ → List ℕ → List ℕ → Exchange
with_parts r address pool out = record { role = r; address = address; pool = pool; out = out }

same_parts : (x y : Exchange) → x.role ≡ y.role → x.address ≡ y.address → x.pool ≡ y.pool → x.out ≡ y.out → x ≡ y
same_parts x y r address pool out =
    ap (λ (q : Role). with_parts q x.address x.pool x.out) r ∙ ap (λ (b : List ℕ). with_parts y.role b x.pool x.out) address
    ∙ ap (λ (b : List ℕ). with_parts y.role y.address b x.out) pool ∙ ap (λ (b : List ℕ). with_parts y.role y.address y.pool b) out

-- the words at a place
abbrev word_at : ℕ → List (List ℕ) → List ℕ
word_at n words = get_or words n []

pub one_exchange : (words : List (List ℕ)) (x y : Exchange) → HasExchange words x → HasExchange words y → x ≡ y
one_exchange words x y asks other =
    let same = sym asks ∙ other in
    same_parts x y (one_role x.role y.role (ap (word_at 0) same)) (ap (word_at 1) same) (ap (word_at 2) same) (ap (word_at 3) same)
