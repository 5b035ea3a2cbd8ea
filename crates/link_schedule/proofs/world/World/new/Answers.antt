use Rattle.std.proofs.Common.{◌≡◌, length, map, ap, ◌∙◌, subst}
use Rattle.std.specs.Arc.{arc_value}
use Rattle.session_store.specs.Charter.{CharterState, IsCharter}
use Rattle.session_store.specs.Rows.{StoreState}
use Rattle.schedule_laws.specs.Promise.{setting}
use Rattle.link_schedule.specs.World.{fresh_window, Parts}
use Rattle.link_schedule.proofs.Remembered.{hands_of, idle_hands, idle_caches}
use Rattle.link_schedule.proofs.Worlds.{charter_setting, opens}
use Rattle.link_schedule.proofs.world.World.new.Goals as goal

pub invariant_of-result : goal.invariant_of-result
invariant_of-result c =
    let charter = arc_value c.in_ok-law.law.charter in
    let s = setting charter.rows charter.lines c.args.replicas in
    let is = subst IsCharter c.charter.ensures c.rows.ensures.charter in
    let devices = length c.rows.result.now in
    let count : devices ≡ length charter.rows = ap length (c.rows.ensures.rows ∙ ap (λ (x : CharterState). x.rows) c.charter.ensures) in
    let p : Parts = record {
      rows = c.in_ok-store.store.rows;
      hands = hands_of c.in_ok-hands.hands.items;
      windows = c.in_ok-agents.agents.items;
      gateway = c.in_ok-gateway.gateway;
      subscriber = c.in_ok-server.server;
      sent = c.in_ok-sent.sent.items;
      pushed = c.in_ok-pushed.pushed.items;
    } in
    let windows = c.in_ok-agents.ensures ∙ ap (map fresh_window) (c.lines.ensures.lines ∙ ap (λ (x : CharterState). x.lines) c.charter-2.ensures) in
    record {
      charter = ap (λ (x : StoreState). x.charter) c.in_ok-store.ensures ∙ c.in_ok-copy.ensures;
      caches = idle_caches charter c.in_ok-hands.hands.items c.args.replicas c.in_ok-hands.ensures;
      world = rw c.new-5.ensures
          (opens s devices p (charter_setting charter c.args.replicas is c.requires.replicas) count
          (ap (λ (x : StoreState). x.rows) c.in_ok-store.ensures) (idle_hands c.in_ok-hands.hands.items c.args.replicas c.in_ok-hands.ensures) windows c.in_ok-gateway.ensures c.in_ok-server.ensures c.in_ok-sent.ensures c.in_ok-pushed.ensures);
    }

pub returns-clause-world : goal.returns-clause-world
returns-clause-world c = (invariant_of-result c).world
