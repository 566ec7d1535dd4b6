-- Two nodes, the bytes on the wires between them, and what happens to them. The wires lose nothing and keep the order.
use Rattle.std.specs.Prelude.{◌≡◌, ℕ, zero, suc, ◌+◌, ◌-◌, ◌^◌, ◌||◌, min, is_some, Bool, true, false, IsTrue, List, [], ◌∷◌, ◌++◌, length, take, drop}
use Rattle.std.specs.List.{list_all}
use Rattle.std.specs.declared.option.Option.{Option}
use Rattle.id_rules.specs.Bytes.{is_tx}
use Rattle.wire_rules.specs.Layout.{wire_bytes}
use Rattle.wire_rules.specs.declared.message.Message.{Message}
use Rattle.pool_rules.specs.Pools.{Transaction, IsPool}
use Rattle.node_rules.specs.Additions.{Addition, on_addition}
use Rattle.node_rules.specs.Handshake.{opening_messages}
use Rattle.node_rules.specs.Invariant.{IsConfig}
use Rattle.node_rules.specs.State.{NodeState, opening_state}
use Rattle.node_rules.specs.Steps.{on_piece, on_start}
use Rattle.node_rules.specs.Turns.{Turn}
use Rattle.node_rules.specs.declared.added.Added.{Added}
use Rattle.node_rules.specs.declared.added.Added.TheVariants as added
use Rattle.node_rules.specs.declared.config.Config.{Config}
use Rattle.node_rules.specs.declared.config.Role.TheVariants as role
use Rattle.node_rules.specs.declared.end.End.{End}
use Rattle.pair_rules.specs.declared.event.Event.{Event}
use Rattle.pair_rules.specs.declared.event.Event.TheVariants as event
use Rattle.pair_rules.specs.declared.side.Side.{Side}
use Rattle.pair_rules.specs.declared.side.Side.TheVariants as side

-- both nodes, the bytes on the way from a to b, and those from b to a
pub record World : Type 0 where
  pub a : NodeState
  pub b : NodeState
  pub ab : List ℕ
  pub ba : List ℕ

-- a world, the messages that each side has sent in the run, and how many additions found no room, up to 2 ^ 64 - 1, where the
-- count stays. What new nodes have to send is on the wires before a run, so no run sends it
pub record Effect : Type 0 where
  pub world : World
  pub by_a : List Message
  pub by_b : List Message
  pub full : ℕ

abbrev pub no_effect : World → Effect
no_effect w = record { world = w; by_a = []; by_b = []; full = 0 }

abbrev pub effect_sequence : Effect → Effect → Effect
effect_sequence first second = record {
  world = second.world;
  by_a = first.by_a ++ second.by_a;
  by_b = first.by_b ++ second.by_b;
  full = min (first.full + second.full) (2 ^ 64 - 1);
}

-- a step of a side: the frames of its messages go to the end of its wire
abbrev pub turn_a : World → Turn → ℕ → Effect
turn_a w t full = record { world = record w { a = t.state; ab = w.ab ++ wire_bytes t.state.config.magic t.out }; by_a = t.out; by_b = []; full = full }

abbrev pub turn_b : World → Turn → ℕ → Effect
turn_b w t full = record { world = record w { b = t.state; ba = w.ba ++ wire_bytes t.state.config.magic t.out }; by_a = []; by_b = t.out; full = full }

unfoldable pub fullness : Added → ℕ
fullness added.Full = 1
fullness other = 0

abbrev pub addition_a : World → Addition → Effect
addition_a w x = turn_a w x.turn (fullness x.added)

abbrev pub addition_b : World → Addition → Effect
addition_b w x = turn_b w x.turn (fullness x.added)

-- what an event does, where no node has ended
unfoldable pub effect_of : World → Event → Effect
effect_of w (event.DeliverAb n) = turn_b (record w { ab = drop n w.ab }) (on_piece w.b (take n w.ab)) 0
effect_of w (event.DeliverBa n) = turn_a (record w { ba = drop n w.ba }) (on_piece w.a (take n w.ba)) 0
effect_of w (event.AddA tx) = addition_a w (on_addition w.a tx)
effect_of w (event.AddB tx) = addition_b w (on_addition w.b tx)
effect_of w event.Round = turn_a w (on_start w.a).turn 0

abbrev pub has_end : World → Bool
has_end w = is_some w.a.ended || is_some w.b.ended

-- a world with an ended node takes no event
unfoldable pub unless_ended : Bool → World → Effect → (World → Effect) → Effect
unless_ended true w x next = no_effect w
unless_ended false w x next = effect_sequence x (next x.world)

unfoldable pub run_from : List Event → World → Effect
run_from [] w = no_effect w
run_from (e ∷ es) w = unless_ended (has_end w) w (effect_of w e) (run_from es)

-- what the events of a script do, up to the one in which a node ends
abbrev pub run : World → List Event → Effect
run w script = run_from script w

-- why a side ended
unfoldable pub end_on : World → Side → Option End
end_on w side.A = w.a.ended
end_on w side.B = w.b.ended

-- all that waits on the wire from a, and then all that waits on the other, so many times
unfoldable pub deliveries : ℕ → List Event
deliveries zero = []
deliveries (suc n) = event.DeliverAb (2 ^ 64 - 1) ∷ event.DeliverBa (2 ^ 64 - 1) ∷ deliveries n

-- ---- how a world begins

-- two new nodes: what the opener says first is on its way
abbrev pub opening_world : Config → Config → List Transaction → List Transaction → World
opening_world c d p q = record {
  a = opening_state c p;
  b = opening_state d q;
  ab = wire_bytes c.magic (opening_messages c);
  ba = wire_bytes d.magic (opening_messages d);
}

-- nodes in opposite roles of one network, with pools
pub record ArePair (c d : Config) (p q : List Transaction) : Type 0 where
  pub opener : c.role ≡ role.Opener
  pub accepter : d.role ≡ role.Accepter
  pub magic : c.magic ≡ d.magic
  pub config_a : IsConfig c
  pub config_b : IsConfig d
  pub pool_a : IsPool p
  pub pool_b : IsPool q

unfoldable pub is_event : Event → Bool
is_event (event.AddA tx) = is_tx tx
is_event (event.AddB tx) = is_tx tx
is_event other = true

abbrev pub IsScript : List Event → Type 0
IsScript script = IsTrue (list_all is_event script)

-- nothing is on the way
pub record IsDrained (w : World) : Type 0 where
  pub ab : w.ab ≡ []
  pub ba : w.ba ≡ []
