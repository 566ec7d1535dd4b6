-- The stage of a conversation, by its role and its phase.
use Rattle.std.proofs.Common.{◌≡◌, true, false, refl, sym, ap, subst, ◌∙◌}
use Rattle.wire_rules.specs.declared.phase.Phase.TheVariants as phase
use Rattle.node_rules.specs.Stages.{is_after_handshake}
use Rattle.node_rules.specs.State.{Initiator, Machine}
use Rattle.node_rules.specs.declared.config.Role.{Role}
use Rattle.node_rules.specs.declared.config.Role.TheVariants as role
use Rattle.conversation.specs.Views.{IsStageOf, machine_at}
use Rattle.conversation.specs.declared.stage.Stage.{Stage}
use Rattle.conversation.specs.declared.stage.Stage.TheVariants as stage

pub opener_of : (r : Role) (at : Stage) (i : Initiator) → IsStageOf r at → at ≡ stage.Opener i → r ≡ role.Opener
unfolding IsStageOf
opener_of role.Opener at i is e = refl
opener_of role.Accepter at i is e = let never : IsStageOf role.Accepter (stage.Opener i) = subst (λ x. IsStageOf role.Accepter x) e is in absurd never

pub accepter_of : (r : Role) (at : Stage) (m : Machine) → IsStageOf r at → at ≡ stage.Accepter m → r ≡ role.Accepter
unfolding IsStageOf
accepter_of role.Accepter at m is e = refl
accepter_of role.Opener at m is e = let never : IsStageOf role.Opener (stage.Accepter m) = subst (λ x. IsStageOf role.Opener x) e is in absurd never

-- behind the handshake there is a machine
pub no_opener : (r : Role) (at : Stage) → IsStageOf r at → is_after_handshake (machine_at at).phase ≡ true → ((i : Initiator) → at ≡ stage.Opener i → ⊥) → r ≡ role.Accepter
unfolding IsStageOf is_after_handshake
no_opener r stage.Greeting is past never = absurd (let apart : false ≡ true = past in cc)
no_opener r stage.Greeted is past never = absurd (let apart : false ≡ true = past in cc)
no_opener r (stage.Opener i) is past never = absurd (never i refl)
no_opener role.Accepter (stage.Accepter m) is past never = refl
no_opener role.Opener (stage.Accepter m) is past never = absurd is

pub no_accepter : (r : Role) (at : Stage) → IsStageOf r at → is_after_handshake (machine_at at).phase ≡ true → ((m : Machine) → at ≡ stage.Accepter m → ⊥) → r ≡ role.Opener
unfolding IsStageOf is_after_handshake
no_accepter r stage.Greeting is past never = absurd (let apart : false ≡ true = past in cc)
no_accepter r stage.Greeted is past never = absurd (let apart : false ≡ true = past in cc)
no_accepter r (stage.Accepter m) is past never = absurd (never m refl)
no_accepter role.Opener (stage.Opener i) is past never = refl
no_accepter role.Accepter (stage.Opener i) is past never = absurd is

before : is_after_handshake phase.Greeting ≡ false
unfolding is_after_handshake
before = refl

greeted_before : is_after_handshake phase.Greeted ≡ false
unfolding is_after_handshake
greeted_before = refl

-- before its end there is none
pub greeting_stage : (r : Role) (at : Stage) → IsStageOf r at → (machine_at at).phase ≡ phase.Greeting → at ≡ stage.Greeting
unfolding IsStageOf
greeting_stage r stage.Greeting is e = refl
greeting_stage r stage.Greeted is e = absurd (cc)
greeting_stage role.Opener (stage.Opener i) is e = absurd (let apart : false ≡ true = sym before ∙ (sym (ap is_after_handshake e) ∙ is) in cc)
greeting_stage role.Accepter (stage.Accepter m) is e = absurd (let apart : false ≡ true = sym before ∙ (sym (ap is_after_handshake e) ∙ is) in cc)
greeting_stage role.Accepter (stage.Opener i) is e = absurd is
greeting_stage role.Opener (stage.Accepter m) is e = absurd is

pub greeted_stage : (r : Role) (at : Stage) → IsStageOf r at → (machine_at at).phase ≡ phase.Greeted → at ≡ stage.Greeted
unfolding IsStageOf
greeted_stage r stage.Greeted is e = refl
greeted_stage r stage.Greeting is e = absurd (cc)
greeted_stage role.Opener (stage.Opener i) is e = absurd (let apart : false ≡ true = sym greeted_before ∙ (sym (ap is_after_handshake e) ∙ is) in cc)
greeted_stage role.Accepter (stage.Accepter m) is e = absurd (let apart : false ≡ true = sym greeted_before ∙ (sym (ap is_after_handshake e) ∙ is) in cc)
greeted_stage role.Accepter (stage.Opener i) is e = absurd is
greeted_stage role.Opener (stage.Accepter m) is e = absurd is

pub fresh : (r : Role) → IsStageOf r stage.Greeting
unfolding IsStageOf
fresh role.Opener = tt
fresh role.Accepter = tt

pub fresh_greeted : (r : Role) → IsStageOf r stage.Greeted
unfolding IsStageOf
fresh_greeted role.Opener = tt
fresh_greeted role.Accepter = tt
