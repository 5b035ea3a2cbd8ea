-- The parts of a world, and what holds of them.
use Rattle.std.specs.Prelude.{◌≡◌, map, All}
use Rattle.std.specs.Arc.{arc_value}
use Rattle.link_schedule.specs.declared.world.World.TheInside.{Inside}
use Rattle.replica_worker.specs.Cache.{AreSessionsOf}
use Rattle.replica_worker.specs.Replica.{ReplicaState}
use Rattle.schedule_laws.specs.Promise.{setting}
use Rattle.link_schedule.specs.World.{WorldState, IsWorld}

-- the rows and the lines are those of the charter
abbrev pub view_of : Inside → WorldState
view_of w = record {
  setting = setting (arc_value w.law.charter).rows (arc_value w.law.charter).lines w.count;
  events = w.log;
  parts = record {
    rows = w.store.rows;
    hands = map (λ (r : ReplicaState). r.hand) w.replicas.items;
    windows = w.agents.items;
    gateway = w.gateway;
    subscriber = w.server;
    sent = w.sent.items;
    pushed = w.pushed.items;
  };
}

-- the store is under the same charter, and what the replicas remember are sessions of it
pub record IsInside (w : Inside) : Type 0 where
  pub charter : w.store.charter ≡ arc_value w.law.charter
  pub caches : All (λ (r : ReplicaState). AreSessionsOf (arc_value w.law.charter) r.cache) w.replicas.items
  pub world : IsWorld (view_of w)
