use Rattle.std.proofs.Common.{◌≡◌, ◌+◌, ◌-◌, ◌≤◌, length, drop, vec_len, sym, subst, ap, ◌∙◌, arith, rules, length-drop}
use Rattle.std.proofs.lemmas.List.{drop-drop}
use Rattle.wire_rules.specs.Stream.{header_of}
use Rattle.p2p_frame.specs.Feeding.{IsWhole, feed_after, feed_front}
use Rattle.p2p_frame.proofs.Headers.{passed-long, passed-within, passed-behind, passed-open}
use Rattle.p2p_frame.specs.contracts.feeder.Feeder.{the_view}
use Rattle.p2p_frame.proofs.feeder.Feeder.skip.Goals as goal

pub read-requires : goal.read-requires
read-requires c = rw c.unread.ensures (passed-long c.args.self.now c.requires)

pub invariant_of-self : goal.invariant_of-self
invariant_of-self c =
    let whole = subst (λ s. IsWhole (feed_front s)) (sym c.self.view_is) c.requires in
    let told = c.frame_size-size.ensures ∙ ap (λ h. 24 + h.size) (c.read.ensures ∙ ap header_of (c.unread.ensures ∙ sym (ap (λ s. s.unread) c.self.view_is))) in
    let within = passed-within (the_view c.self.inside) whole c.frame_size-size.result told in
    let left = length-drop c.self.inside.skipped c.self.inside.bytes.items in
    let long : vec_len c.self.inside.bytes ≡ length c.self.inside.bytes.items = search rules in
    let skipped = c.self.invariant.0 in
    (omega arith, λ fault e. absurd (passed-open (the_view c.self.inside) whole fault (c.self.invariant.1 fault e)))

pub returns : goal.returns
returns c =
    let whole = subst (λ s. IsWhole (feed_front s)) (sym c.self.view_is) c.requires in
    let told = c.frame_size-size.ensures ∙ ap (λ h. 24 + h.size) (c.read.ensures ∙ ap header_of (c.unread.ensures ∙ sym (ap (λ s. s.unread) c.self.view_is))) in
    let behind = passed-behind (the_view c.self.inside) whole c.frame_size-size.result told in
    let dropped = drop-drop c.frame_size-size.result c.self.inside.skipped c.self.inside.bytes.items in
    sym (ap (λ s. feed_after (feed_front s) s) (sym c.self.view_is) ∙ (behind ∙ (λ i. record { magic = c.self.inside.magic; unread = dropped i; place = sym c.saturating_add-self-inside.ensures i; stop = c.self.inside.stop })))
