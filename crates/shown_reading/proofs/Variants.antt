-- Words that stand for a message, by the command.
use Rattle.std.proofs.Common.{◌≡◌, ℕ, ◌^◌, ◌&&◌, Bool, true, List, [], ◌∷◌, Option, Some, None, Err, map, nat_lt, codes, refl, sym, ap, ◌∙◌}
use Rattle.std.specs.Prelude.{IsTrue}
use Rattle.std.specs.Fmt.{decimal}
use Rattle.std.specs.List.{list_all}
use Rattle.std.proofs.lemmas.Bool.{and_from, and_parts}
use Rattle.line_rules.specs.Digits.{eight_digits}
use Rattle.hex.specs.Hex.{encode_lower}
use Rattle.id_rules.specs.Bytes.{are_bytes, are_bytes_of}
use Rattle.wire_rules.specs.Commands.{name_of, name_of_word, word_of}
use Rattle.wire_rules.specs.Limits.{is_entry, is_in_range, is_version_in_range}
use Rattle.wire_rules.specs.Shown.{bytes_word, entry_word, flag_word, salt_word, version_words, words_of}
use Rattle.wire_rules.specs.declared.name.Name.{Name}
use Rattle.wire_rules.specs.declared.name.Name.TheVariants as name
use Rattle.wire_rules.specs.declared.message.InvEntry.{InvEntry}
use Rattle.wire_rules.specs.declared.message.VersionMsg.{VersionMsg}
use Rattle.wire_rules.specs.declared.message.Message.{Message}
use Rattle.wire_rules.specs.declared.message.Message.TheVariants as message
use Rattle.shown_reading.specs.Reads.{IsOnly, is_typed}
use Rattle.shown_reading.specs.Words.{first_word, other_words}
use Rattle.shown_reading.specs.declared.fault.ShownFault.{ShownFault}
use Rattle.shown_reading.proofs.OneWord.{Only, failed}

-- ---- the first word

word_name : (n : Name) → name_of_word (word_of n) ≡ Some n
unfolding word_of
word_name name.Version = refl
word_name name.Verack = refl
word_name name.WtxidRelay = refl
word_name name.SendTxRcncl = refl
word_name name.ReqRecon = refl
word_name name.Sketch = refl
word_name name.ReqSketchExt = refl
word_name name.ReconcilDiff = refl
word_name name.Inv = refl
word_name name.GetData = refl
word_name name.NotFound = refl
word_name name.Tx = refl
word_name name.Ping = refl
word_name name.Pong = refl

-- a message of a known command begins with its word
pub first_named : (m : Message) (n : Name) → name_of m ≡ Some n → words_of m ≡ word_of n ∷ other_words (words_of m)
unfolding name_of words_of
first_named (message.Version v) n e = ap (λ k. word_of k ∷ version_words v) cc
first_named message.Verack n e = ap (λ k. word_of k ∷ []) cc
first_named message.WtxidRelay n e = ap (λ k. word_of k ∷ []) cc
first_named (message.SendTxRcncl version salt) n e = ap (λ k. word_of k ∷ decimal version ∷ salt_word salt ∷ []) cc
first_named (message.ReqRecon size q) n e = ap (λ k. word_of k ∷ decimal size ∷ decimal q ∷ []) cc
first_named (message.Sketch bytes) n e = ap (λ k. word_of k ∷ bytes_word bytes ∷ []) cc
first_named message.ReqSketchExt n e = ap (λ k. word_of k ∷ []) cc
first_named (message.ReconcilDiff success asks) n e = ap (λ k. word_of k ∷ flag_word success ∷ map eight_digits asks) cc
first_named (message.Inv es) n e = ap (λ k. word_of k ∷ map entry_word es) cc
first_named (message.GetData es) n e = ap (λ k. word_of k ∷ map entry_word es) cc
first_named (message.NotFound es) n e = ap (λ k. word_of k ∷ map entry_word es) cc
first_named (message.Tx tx) n e = ap (λ k. word_of k ∷ bytes_word tx ∷ []) cc
first_named (message.Ping x) n e = ap (λ k. word_of k ∷ decimal x ∷ []) cc
first_named (message.Pong x) n e = ap (λ k. word_of k ∷ decimal x ∷ []) cc
first_named (message.Other command payload) n e = absurd (cc)

-- another one with `other`
pub first_other : (m : Message) → name_of m ≡ None → first_word (words_of m) ≡ codes "other"
unfolding name_of words_of
first_other (message.Other command payload) e = refl
first_other other e = absurd (cc)

named_by : (o : Option Name) (m : Message) → name_of m ≡ o → name_of_word (first_word (words_of m)) ≡ o
unfolding word_of
named_by (Some n) m e = ap (λ ws. name_of_word (first_word ws)) (first_named m n e) ∙ word_name n
named_by None m e = ap name_of_word (first_other m e)

-- the first word tells the command
pub told : (m : Message) → name_of_word (first_word (words_of m)) ≡ name_of m
told m = named_by (name_of m) m refl

-- words that begin with the word of a command
pub behind_name : (words left : List (List ℕ)) (m : Message) (n : Name) → left ≡ other_words words → name_of_word (first_word words) ≡ Some n → words ≡ words_of m → word_of n ∷ left ≡ words_of m
behind_name words left m n is command e =
    let named : name_of m ≡ Some n = sym (told m) ∙ (ap (λ ws. name_of_word (first_word ws)) (sym e) ∙ command) in
    ap (λ ws. word_of n ∷ ws) (is ∙ ap other_words e) ∙ sym (first_named m n named)

-- ---- the words behind it

-- the messages of a command, by what they hold
pub record IsVariant {A : Type 0} (n : Name) (build : A → Message) (fits : A → Bool) (spell : A → List (List ℕ)) : Type 0 where
  pub range : (x : A) → is_typed (build x) ≡ fits x
  pub words : (x : A) → words_of (build x) ≡ word_of n ∷ spell x
  pub one : (m : Message) → name_of m ≡ Some n → (x : A) × (m ≡ build x)

module _ {A : Type 0} {n : Name} {build : A → Message} {fits : A → Bool} {spell : A → List (List ℕ)} (variant : IsVariant n build fits spell) (at : Name) (is : at ≡ n) (words : List (List ℕ)) where
  abbrev Stands : Message → Type 0
  Stands m = word_of at ∷ words ≡ words_of m

  named : (m : Message) → Stands m → name_of m ≡ Some n
  named m e = sym (told m) ∙ (ap (λ ws. name_of_word (first_word ws)) (sym e) ∙ (ap (λ k. name_of_word (word_of k)) is ∙ word_name n))

  pub held : (m : Message) → IsTrue (is_typed m) → Stands m → (x : A) × (m ≡ build x) × IsTrue (fits x) × (words ≡ spell x)
  held m h e =
      let x = variant.one m (named m e) in
      (x.0, x.1, sym (variant.range x.0) ∙ (ap is_typed (sym x.1) ∙ h), ap other_words (e ∙ (ap words_of x.1 ∙ variant.words x.0)))

  pub built : (x : A) → fits x ≡ true → ((y : A) → IsTrue (fits y) → words ≡ spell y → y ≡ x) → Only is_typed Stands (build x)
  built x fit only = (variant.range x ∙ fit, λ m h e. let y = held m h e in y.1 ∙ ap build (only y.0 y.2 y.3))

  pub unbuilt : {C : Type 0} (part : C → Bool) (stands : C → Type 0) (e : ShownFault) → ((y : A) → IsTrue (fits y) → words ≡ spell y → (x : C) × IsTrue (part x) × stands x) → IsOnly part stands (Err e) → IsOnly is_typed Stands (Err e)
  unbuilt part stands e leads none = failed part stands is_typed Stands e (λ m h same. let y = held m h same in leads y.0 y.2 y.3) none

-- ---- each command

only_version : (m : Message) → name_of m ≡ Some name.Version → (x : VersionMsg) × (m ≡ message.Version x)
unfolding name_of
only_version (message.Version v) e = (v, refl)
only_version other e = absurd (cc)

pub is_version : IsVariant {A = VersionMsg} name.Version message.Version is_version_in_range version_words
unfolding is_in_range words_of
is_version = record { range = λ x. refl; words = λ x. refl; one = only_version }

only_verack : (m : Message) → name_of m ≡ Some name.Verack → (x : Unit {0}) × (m ≡ message.Verack)
unfolding name_of
only_verack message.Verack e = (tt, refl)
only_verack other e = absurd (cc)

pub is_verack : IsVariant {A = Unit {0}} name.Verack (λ x. message.Verack) (λ x. true) (λ x. [])
unfolding is_in_range words_of
is_verack = record { range = λ x. refl; words = λ x. refl; one = only_verack }

only_wtxidrelay : (m : Message) → name_of m ≡ Some name.WtxidRelay → (x : Unit {0}) × (m ≡ message.WtxidRelay)
unfolding name_of
only_wtxidrelay message.WtxidRelay e = (tt, refl)
only_wtxidrelay other e = absurd (cc)

pub is_wtxidrelay : IsVariant {A = Unit {0}} name.WtxidRelay (λ x. message.WtxidRelay) (λ x. true) (λ x. [])
unfolding is_in_range words_of
is_wtxidrelay = record { range = λ x. refl; words = λ x. refl; one = only_wtxidrelay }

only_sendtxrcncl : (m : Message) → name_of m ≡ Some name.SendTxRcncl → (p : (ℕ × ℕ)) × (m ≡ message.SendTxRcncl p.0 p.1)
unfolding name_of
only_sendtxrcncl (message.SendTxRcncl version salt) e = ((version, salt), refl)
only_sendtxrcncl other e = absurd (cc)

pub is_sendtxrcncl : IsVariant {A = ℕ × ℕ} name.SendTxRcncl (λ p. message.SendTxRcncl p.0 p.1) (λ p. nat_lt p.0 (2 ^ 32) && nat_lt p.1 (2 ^ 64)) (λ p. decimal p.0 ∷ salt_word p.1 ∷ [])
unfolding is_in_range words_of
is_sendtxrcncl = record { range = λ x. refl; words = λ x. refl; one = only_sendtxrcncl }

only_reqrecon : (m : Message) → name_of m ≡ Some name.ReqRecon → (p : (ℕ × ℕ)) × (m ≡ message.ReqRecon p.0 p.1)
unfolding name_of
only_reqrecon (message.ReqRecon size q) e = ((size, q), refl)
only_reqrecon other e = absurd (cc)

pub is_reqrecon : IsVariant {A = ℕ × ℕ} name.ReqRecon (λ p. message.ReqRecon p.0 p.1) (λ p. nat_lt p.0 (2 ^ 16) && nat_lt p.1 (2 ^ 16)) (λ p. decimal p.0 ∷ decimal p.1 ∷ [])
unfolding is_in_range words_of
is_reqrecon = record { range = λ x. refl; words = λ x. refl; one = only_reqrecon }

only_sketch : (m : Message) → name_of m ≡ Some name.Sketch → (x : List ℕ) × (m ≡ message.Sketch x)
unfolding name_of
only_sketch (message.Sketch bytes) e = (bytes, refl)
only_sketch other e = absurd (cc)

pub is_sketch : IsVariant {A = List ℕ} name.Sketch message.Sketch are_bytes (λ bytes. bytes_word bytes ∷ [])
unfolding is_in_range words_of
is_sketch = record { range = λ x. refl; words = λ x. refl; one = only_sketch }

only_reqsketchext : (m : Message) → name_of m ≡ Some name.ReqSketchExt → (x : Unit {0}) × (m ≡ message.ReqSketchExt)
unfolding name_of
only_reqsketchext message.ReqSketchExt e = (tt, refl)
only_reqsketchext other e = absurd (cc)

pub is_reqsketchext : IsVariant {A = Unit {0}} name.ReqSketchExt (λ x. message.ReqSketchExt) (λ x. true) (λ x. [])
unfolding is_in_range words_of
is_reqsketchext = record { range = λ x. refl; words = λ x. refl; one = only_reqsketchext }

only_reconcildiff : (m : Message) → name_of m ≡ Some name.ReconcilDiff → (p : (Bool × List ℕ)) × (m ≡ message.ReconcilDiff p.0 p.1)
unfolding name_of
only_reconcildiff (message.ReconcilDiff success asks) e = ((success, asks), refl)
only_reconcildiff other e = absurd (cc)

pub is_reconcildiff : IsVariant {A = Bool × List ℕ} name.ReconcilDiff (λ p. message.ReconcilDiff p.0 p.1) (λ p. list_all (λ n. nat_lt n (2 ^ 32)) p.1) (λ p. flag_word p.0 ∷ map eight_digits p.1)
unfolding is_in_range words_of
is_reconcildiff = record { range = λ x. refl; words = λ x. refl; one = only_reconcildiff }

only_inv : (m : Message) → name_of m ≡ Some name.Inv → (x : List InvEntry) × (m ≡ message.Inv x)
unfolding name_of
only_inv (message.Inv es) e = (es, refl)
only_inv other e = absurd (cc)

pub is_inv : IsVariant {A = List InvEntry} name.Inv message.Inv (list_all is_entry) (map entry_word)
unfolding is_in_range words_of
is_inv = record { range = λ x. refl; words = λ x. refl; one = only_inv }

only_getdata : (m : Message) → name_of m ≡ Some name.GetData → (x : List InvEntry) × (m ≡ message.GetData x)
unfolding name_of
only_getdata (message.GetData es) e = (es, refl)
only_getdata other e = absurd (cc)

pub is_getdata : IsVariant {A = List InvEntry} name.GetData message.GetData (list_all is_entry) (map entry_word)
unfolding is_in_range words_of
is_getdata = record { range = λ x. refl; words = λ x. refl; one = only_getdata }

only_notfound : (m : Message) → name_of m ≡ Some name.NotFound → (x : List InvEntry) × (m ≡ message.NotFound x)
unfolding name_of
only_notfound (message.NotFound es) e = (es, refl)
only_notfound other e = absurd (cc)

pub is_notfound : IsVariant {A = List InvEntry} name.NotFound message.NotFound (list_all is_entry) (map entry_word)
unfolding is_in_range words_of
is_notfound = record { range = λ x. refl; words = λ x. refl; one = only_notfound }

only_tx : (m : Message) → name_of m ≡ Some name.Tx → (x : List ℕ) × (m ≡ message.Tx x)
unfolding name_of
only_tx (message.Tx tx) e = (tx, refl)
only_tx other e = absurd (cc)

pub is_tx : IsVariant {A = List ℕ} name.Tx message.Tx are_bytes (λ bytes. bytes_word bytes ∷ [])
unfolding is_in_range words_of
is_tx = record { range = λ x. refl; words = λ x. refl; one = only_tx }

only_ping : (m : Message) → name_of m ≡ Some name.Ping → (x : ℕ) × (m ≡ message.Ping x)
unfolding name_of
only_ping (message.Ping n) e = (n, refl)
only_ping other e = absurd (cc)

pub is_ping : IsVariant {A = ℕ} name.Ping message.Ping (λ n. nat_lt n (2 ^ 64)) (λ n. decimal n ∷ [])
unfolding is_in_range words_of
is_ping = record { range = λ x. refl; words = λ x. refl; one = only_ping }

only_pong : (m : Message) → name_of m ≡ Some name.Pong → (x : ℕ) × (m ≡ message.Pong x)
unfolding name_of
only_pong (message.Pong n) e = (n, refl)
only_pong other e = absurd (cc)

pub is_pong : IsVariant {A = ℕ} name.Pong message.Pong (λ n. nat_lt n (2 ^ 64)) (λ n. decimal n ∷ [])
unfolding is_in_range words_of
is_pong = record { range = λ x. refl; words = λ x. refl; one = only_pong }

-- ---- another command

module _ (words : List (List ℕ)) where
  nameless : (m : Message) → codes "other" ∷ words ≡ words_of m → name_of m ≡ None
  unfolding word_of
  nameless m e = sym (told m) ∙ ap (λ ws. name_of_word (first_word ws)) (sym e)

  held_by : (m : Message) → IsTrue (is_typed m) → codes "other" ∷ words ≡ words_of m → name_of m ≡ None
      → (command : List ℕ) × (payload : List ℕ) × (m ≡ message.Other command payload) × IsTrue (are_bytes_of 12 command) × IsTrue (are_bytes payload) × (words ≡ encode_lower command ∷ bytes_word payload ∷ [])
  unfolding name_of words_of
  held_by (message.Other command payload) h e none =
      let tests = and_parts (are_bytes_of 12 command) (are_bytes payload) h in (command, payload, refl, tests.0, tests.1, ap other_words e)
  held_by other h e none = absurd (cc)

  pub other_held : (m : Message) → IsTrue (is_typed m) → codes "other" ∷ words ≡ words_of m
      → (command : List ℕ) × (payload : List ℕ) × (m ≡ message.Other command payload) × IsTrue (are_bytes_of 12 command) × IsTrue (are_bytes payload) × (words ≡ encode_lower command ∷ bytes_word payload ∷ [])
  other_held m h e = held_by m h e (nameless m e)

  pub other_only : (first second : List ℕ) → first ≡ first_word words → second ≡ first_word (other_words words) → (command payload : List ℕ) → Only (are_bytes_of 12) (λ y. first ≡ encode_lower y) command
      → Only are_bytes (λ y. second ≡ bytes_word y) payload → Only is_typed (λ m. codes "other" ∷ words ≡ words_of m) (message.Other command payload)
  other_only first second at next command payload commands payloads = (
    and_from (are_bytes_of 12 command) (are_bytes payload) commands.0 payloads.0,
    λ m h e.
        let o = other_held m h e in
        o.2 ∙ (ap (λ c. message.Other c o.1) (commands.1 o.0 o.3 (at ∙ ap first_word o.5)) ∙ ap (λ p. message.Other command p) (payloads.1 o.1 o.4 (next ∙ ap (λ ws. first_word (other_words ws)) o.5))),
  )
