-- A world that has noted an event.
use Rattle.std.proofs.Common.{◌≡◌, ℕ, ◌-◌, List, [], ◌∷◌, ◌++◌, length, set, true, sym, ap, ◌∙◌, subst}
use Rattle.device_types.specs.declared.event.Event.{Event}
use Rattle.device_types.specs.declared.event.EventAnswer.{EventAnswer}
use Rattle.device_types.specs.declared.event.Lane.{Lane}
use Rattle.device_types.specs.Numbers.{IsWithin}
use Rattle.replica_worker.specs.declared.hand.Hand.{Hand}
use Rattle.replica_worker.specs.Replica.{ReplicaState}
use Rattle.schedule_laws.specs.Answer.{answer, history, IsEvent}
use Rattle.schedule_laws.specs.Counts.{hand, effect_pushed}
use Rattle.schedule_laws.specs.Promise.{is_void}
use Rattle.link_schedule.specs.World.{Parts, WorldState, ArePartsOf, IsWorld, Answers}
use Rattle.link_schedule.proofs.Events.{stays}
use Rattle.schedule_laws.proofs.Promises.{is_quiet, quiet_stays, void_stays}
use Rattle.link_schedule.proofs.Remembered.{hands_of, hands_set}
use Rattle.link_schedule.proofs.Worlds.{goes_on, answered}

-- the event is one of the setting, and comes to this answer, with these parts after it
pub record ComesTo (w : WorldState) (e : Event) (a : EventAnswer) (p : Parts) : Type 0 where
  pub event : IsEvent w.setting e
  pub given : a ≡ answer w.setting (history w.setting w.events) e
  pub parts : ArePartsOf w.setting ((e, a) ∷ history w.setting w.events) p

-- what holds of the world as the caller saw it
pub event_in : (old w : WorldState) (e : Event) → w ≡ old → IsEvent old.setting e → IsEvent w.setting e
event_in old w e same i = subst (λ (x : WorldState). IsEvent x.setting e) (sym same) i

pub device_in : (old w : WorldState) (d : ℕ) → w ≡ old → IsWithin (length old.setting.rows) d → IsWithin (length w.setting.rows) d
device_in old w d same within = subst (λ (x : WorldState). IsWithin (length x.setting.rows) d) (sym same) within

pub on_link_in : (old w : WorldState) (d : ℕ) (l : Lane) (k : ℕ) → w ≡ old → effect_pushed d l k (history old.setting old.events) ≡ true → effect_pushed d l k (history w.setting w.events) ≡ true
on_link_in old w d l k same on = subst (λ (x : WorldState). effect_pushed d l k (history x.setting x.events) ≡ true) (sym same) on

-- what it is, whatever the list that has the event at its end
pub notes : (w : WorldState) (e : Event) (a : EventAnswer) (p : Parts) (es : List Event) → es ≡ w.events ++ e ∷ [] → IsWorld w → IsEvent w.setting e → a ≡ answer w.setting (history w.setting w.events) e → ArePartsOf w.setting ((e, a) ∷ history w.setting w.events) p → IsWorld (record { setting = w.setting; events = es; parts = p })
notes w e a p es more is i given parts = subst (λ (xs : List Event). IsWorld (record { setting = w.setting; events = xs; parts = p })) (sym more) (goes_on w e a p is i given parts)

-- after a void event the parts are as before
pub notes_void : (w : WorldState) (e : Event) (a : EventAnswer) (es : List Event) → es ≡ w.events ++ e ∷ [] → IsWorld w → IsEvent w.setting e → a ≡ answer w.setting (history w.setting w.events) e → is_void a ≡ true → IsWorld (record { setting = w.setting; events = es; parts = w.parts })
notes_void w e a es more is i given void =
    let s = w.setting in
    let H = history s w.events in
    let b = void_stays s H e a is.lawful given void in
    notes w e a w.parts es more is i given (stays s H ((e, a) ∷ H) w.parts b.counts b.hands is.parts)

-- its answer, over the world as the caller saw it
pub gives : (old w : WorldState) (e : Event) (a : EventAnswer) (p : Parts) (es : List Event) → w ≡ old → es ≡ w.events ++ e ∷ [] → a ≡ answer w.setting (history w.setting w.events) e → Answers old (record { setting = w.setting; events = es; parts = p }) e a
gives old w e a p es same more given =
    subst (λ (v : WorldState). Answers v (record { setting = w.setting; events = es; parts = p }) e a) same
    (subst (λ (xs : List Event). Answers w (record { setting = w.setting; events = xs; parts = p }) e a) (sym more) (answered w e a p given))

-- the hand of a replica is another
pub notes_hand : (w : WorldState) (e : Event) (a : EventAnswer) (r : ℕ) (replicas : List ReplicaState) (now : ReplicaState) (held : Hand) (es : List Event) → now.hand ≡ held → es ≡ w.events ++ e ∷ [] → IsWorld w → IsEvent w.setting e → a ≡ answer w.setting (history w.setting w.events) e
    → ArePartsOf w.setting ((e, a) ∷ history w.setting w.events) (record w.parts { hands = set (hands_of replicas) (r - 1) held }) → IsWorld (record { setting = w.setting; events = es; parts = record w.parts { hands = hands_of (set replicas (r - 1) now) } })
notes_hand w e a r replicas now held es same more is i given parts =
    let hands : hands_of (set replicas (r - 1) now) ≡ set (hands_of replicas) (r - 1) held = hands_set replicas (r - 1) now ∙ ap (set (hands_of replicas) (r - 1)) same in
    notes w e a (record w.parts { hands = hands_of (set replicas (r - 1) now) }) es more is i given
    (subst (λ (hs : List Hand). ArePartsOf w.setting ((e, a) ∷ history w.setting w.events) (record w.parts { hands = hs })) (sym hands) parts)

-- an event whose answer changes nothing: the counts and the hands are as before
pub notes_quiet : (w : WorldState) (e : Event) (a : EventAnswer) (es : List Event) → es ≡ w.events ++ e ∷ [] → IsWorld w → IsEvent w.setting e → a ≡ answer w.setting (history w.setting w.events) e → is_quiet a ≡ true → ((r : ℕ) → hand r ((e, a) ∷ history w.setting w.events) ≡ hand r (history w.setting w.events)) → IsWorld (record { setting = w.setting; events = es; parts = w.parts })
notes_quiet w e a es more is i given quiet hands =
    let H = history w.setting w.events in
    notes w e a w.parts es more is i given (stays w.setting H ((e, a) ∷ H) w.parts (quiet_stays H e a quiet) hands is.parts)
