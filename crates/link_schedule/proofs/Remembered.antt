-- The replicas of a world: the hand of each, and the sessions that it remembers.
use Rattle.std.proofs.Common.{◌≡◌, ℕ, zero, suc, ◌-◌, ◌<◌, List, [], ◌∷◌, length, map, set, get_or, replicate, refl, sym, ap, ◌∙◌, subst, arith}
use Rattle.std.specs.Prelude.{All}
use Rattle.std.proofs.Math.ListN.{get_or-map}
use Rattle.std.proofs.lemmas.List.{map-set, length-map, set-get_or}
use Rattle.std.proofs.lemmas.List.Elements.{All-nil, All-get_or, All-set, All-replicate}
use Rattle.device_types.specs.Numbers.{IsWithin}
use Rattle.replica_worker.specs.declared.hand.Hand.{Hand}
use Rattle.replica_worker.specs.declared.hand.Hand.TheVariants as hands
use Rattle.replica_worker.specs.Cache.{IsSessionOf, AreSessionsOf}
use Rattle.replica_worker.specs.Replica.{ReplicaState}
use Rattle.session_store.specs.Charter.{CharterState}
use Rattle.schedule_laws.specs.Counts.{Turn}
use Rattle.schedule_laws.specs.Setting.{Setting}
use Rattle.link_schedule.specs.World.{Parts, ArePartsOf}

abbrev pub hands_of : List ReplicaState → List Hand
hands_of replicas = map (λ (r : ReplicaState). r.hand) replicas

-- each replica remembers sessions under the charter
abbrev pub AreCaches : CharterState → List ReplicaState → Type 0
AreCaches charter replicas = All (λ (r : ReplicaState). AreSessionsOf charter r.cache) replicas

pub hand_at : (replicas : List ReplicaState) (i : ℕ) (r : ReplicaState) → r ≡ get_or replicas i r → r.hand ≡ get_or (hands_of replicas) i r.hand
hand_at replicas i r at = ap (λ (x : ReplicaState). x.hand) at ∙ sym (get_or-map (λ (x : ReplicaState). x.hand) replicas i r)

pub hands_set : (replicas : List ReplicaState) (i : ℕ) (r : ReplicaState) → hands_of (set replicas i r) ≡ set (hands_of replicas) i r.hand
hands_set replicas i r = map-set (λ (x : ReplicaState). x.hand) replicas i r

-- a replica of the world
pub replica_within : (s : Setting) (H : List Turn) (p : Parts) (replicas : List ReplicaState) (r : ℕ) → p.hands ≡ hands_of replicas → IsWithin s.replicas r → ArePartsOf s H p → r - 1 < length replicas
replica_within s H p replicas r e within m =
    let long : length replicas ≡ s.replicas = sym (length-map replicas (λ (x : ReplicaState). x.hand)) ∙ ap length (sym e) ∙ m.hands.long in
    omega (arith, long, within.0, within.1)

pub cache_at : (charter : CharterState) (replicas : List ReplicaState) (i : ℕ) (r : ReplicaState) → AreCaches charter replicas → i < length replicas → r ≡ get_or replicas i r → AreSessionsOf charter r.cache
cache_at charter replicas i r all within at = subst (λ (x : ReplicaState). AreSessionsOf charter x.cache) (sym at) (All-get_or (λ (x : ReplicaState). AreSessionsOf charter x.cache) replicas i r within all)

pub caches_set : (charter : CharterState) (replicas : List ReplicaState) (i : ℕ) (r : ReplicaState) → AreCaches charter replicas → AreSessionsOf charter r.cache → AreCaches charter (set replicas i r)
caches_set charter replicas i r all own = All-set (λ (x : ReplicaState). AreSessionsOf charter x.cache) replicas i r own all

-- replicas that hold nothing, and remember nothing
none_held : (count : ℕ) → hands_of (replicate count (record { hand = hands.Empty; cache = [] })) ≡ replicate count hands.Empty
none_held zero = refl
none_held (suc count) = ap (λ held. hands.Empty ∷ held) (none_held count)

pub idle_hands : (replicas : List ReplicaState) (count : ℕ) → replicas ≡ replicate count (record { hand = hands.Empty; cache = [] }) → hands_of replicas ≡ replicate count hands.Empty
idle_hands replicas count e = ap hands_of e ∙ none_held count

pub idle_caches : (charter : CharterState) (replicas : List ReplicaState) (count : ℕ) → replicas ≡ replicate count (record { hand = hands.Empty; cache = [] }) → AreCaches charter replicas
idle_caches charter replicas count e = rw e (All-replicate (λ (x : ReplicaState). AreSessionsOf charter x.cache) count (record { hand = hands.Empty; cache = [] }) (All-nil (IsSessionOf charter)))

-- a replica that takes an input remembers what it did
pub caches_kept : (charter : CharterState) (replicas : List ReplicaState) (i : ℕ) (was now : ReplicaState) → AreCaches charter replicas → i < length replicas → was ≡ get_or replicas i was → now.cache ≡ was.cache → AreCaches charter (set replicas i now)
caches_kept charter replicas i was now all within at same = caches_set charter replicas i now all (subst (AreSessionsOf charter) (sym same) (cache_at charter replicas i was all within at))

-- a replica put back as it was
pub hands_same : (replicas : List ReplicaState) (i : ℕ) (was now : ReplicaState) → was ≡ get_or replicas i was → now ≡ was → hands_of (set replicas i now) ≡ hands_of replicas
hands_same replicas i was now at e = ap hands_of (ap (set replicas i) (e ∙ at) ∙ set-get_or replicas i was)
