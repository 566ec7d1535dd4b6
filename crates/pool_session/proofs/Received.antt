-- What was received where memory ran out.
use Rattle.std.proofs.Common.{◌≡◌, ℕ, Bool, List, [], ◌++◌, length, Option, Some, None, Result, Ok, Err, OnErr, refl, sym, ap, subst, arith}
use Rattle.std.specs.List.{concat}
use Rattle.link_rules.specs.Links.{Link, Piece, bytes_of_pieces}
use Rattle.pool_rules.specs.Pools.{Transaction}
use Rattle.node_rules.specs.State.{NodeView, opening_state}
use Rattle.node_rules.specs.declared.config.Config.{Config}
use Rattle.session_rules.specs.Session.{AreInTime, IsSession, Session, session_start}
use Rattle.session_rules.specs.declared.session_end.SessionEnd.{SessionEnd}
use Rattle.session_rules.specs.declared.session_end.SessionEnd.TheVariants as session_end
use Rattle.erlay_base.specs.Told.{AreTold}
use Rattle.erlay_base.specs.WireCalls.{IsUnused}
use Rattle.session.specs.Sessions.{HasSession, IsReceivedInTime, IsSessionBy}

of-session : (rounds : ℕ) (c : Config) (pool : List Transaction) (old new : Link) (v : NodeView) (answer : SessionEnd) → IsSession rounds c pool old new v answer → IsReceivedInTime rounds (session_start (opening_state c pool)) old new
of-session rounds c pool old new v answer h = record { in_time = h.in_time; received = h.received; most = h.most; calls = h.calls }

by-answer : (answer : SessionEnd) (rounds : ℕ) (c : Config) (pool : List Transaction) (old new : Link) (v : NodeView) → IsSessionBy answer rounds c pool old new v → IsReceivedInTime rounds (session_start (opening_state c pool)) old new
unfolding IsSessionBy
by-answer session_end.OutOfMemory rounds c pool old new v h = h
by-answer session_end.Done rounds c pool old new v h = of-session rounds c pool old new v session_end.Done h
by-answer (session_end.Refused e) rounds c pool old new v h = of-session rounds c pool old new v (session_end.Refused e) h
by-answer (session_end.Truncated p) rounds c pool old new v h = of-session rounds c pool old new v (session_end.Truncated p) h
by-answer session_end.LinkFault rounds c pool old new v h = of-session rounds c pool old new v session_end.LinkFault h
by-answer session_end.SessionLimit rounds c pool old new v h = of-session rounds c pool old new v session_end.SessionLimit h

where-told : (rounds : ℕ) (start : Session) (before after : Option Link) (old new : Link) → AreTold before after (λ o n. (o ≡ old) × (n ≡ new)) → IsReceivedInTime rounds start old new → AreTold before after (IsReceivedInTime rounds start)
where-told rounds start None after old new told h = tt
where-told rounds start (Some o) None old new told h = absurd told
where-told rounds start (Some o) (Some n) old new told h = subst (λ (l : Link). IsReceivedInTime rounds start l n) (sym told.0) (subst (IsReceivedInTime rounds start old) (sym told.1) h)

-- over a session, whatever its answer is
pub received-by : (rounds : ℕ) (first : NodeView) (before after : Option Link) (ended : Bool) (last : NodeView) (answer : SessionEnd) → HasSession rounds first before after ended last answer
    → AreTold before after (IsReceivedInTime rounds (session_start (opening_state first.state.config first.state.pool)))
received-by rounds first before after ended last answer h =
    where-told rounds (session_start (opening_state first.state.config first.state.pool)) before after h.old h.new h.told
    (by-answer answer rounds first.state.config first.state.pool h.old h.new last h.is_session)

pub where-err : {T E A : Type 0} → (r : Result T E) → A → OnErr r A
where-err (Ok t) a = tt
where-err (Err e) a = a

-- before a session nothing was received
pub received-none : (link : Option Link) (rounds : ℕ) (start : Session) → IsUnused link → AreTold link link (IsReceivedInTime rounds start)
unfolding AreInTime
received-none None rounds start unused = tt
received-none (Some l) rounds start unused =
    let pieces : l.pieces ≡ [] = ap (λ (k : Link). k.pieces) unused in
    record {
      in_time = subst (AreInTime rounds start) (sym pieces) tt;
      received = ap (λ (ps : List Piece). concat (bytes_of_pieces ps) ++ l.coming) (sym pieces);
      most = omega (arith, ap (λ (ps : List Piece). length (concat (bytes_of_pieces ps))) pieces);
      calls = refl;
    }
