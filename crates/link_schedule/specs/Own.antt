-- The exact floor: it has a world of its own, once it was opened.
use Rattle.std.specs.Prelude.{◌≡◌, List, [], ◌∷◌, map, reverse, Option, Some, None, refl}
use Rattle.std.specs.List.{fold}
use Rattle.std.proofs.Common.{sym, ap, ◌∙◌}
use Rattle.std.proofs.lemmas.List.{reverse-reverse}
use mathlib.Core.List.{reverse_aux}
use Rattle.device_types.specs.declared.event.Event.{Event}
use Rattle.device_types.specs.declared.finals.DeviceEnd.{DeviceEnd}
use Rattle.device_machine.specs.Ends.{finals_of}
use Rattle.schedule_laws.specs.Answer.{turn, history}
use Rattle.schedule_laws.specs.Counts.{Turn}
use Rattle.link_schedule.specs.Finals.{finals_in}
use Rattle.link_schedule.specs.Floor.{events_of, AreAnswered}
use Rattle.schedule_laws.specs.Setting.{Setting}
use Rattle.link_schedule.specs.Settled.{turns_in, IsSettled}
use Rattle.link_schedule.specs.World.{WorldState, IsWorld}

-- what the floor runs on, what it was given, and what became of the devices, by its world
abbrev pub setting_by : Option WorldState → Option Setting
setting_by None = None
setting_by (Some w) = Some w.setting

abbrev pub given_by : Option WorldState → List Turn
given_by None = []
given_by (Some w) = reverse (turns_in w)

abbrev pub ends_by : Option WorldState → List DeviceEnd
ends_by None = []
ends_by (Some w) = finals_in w

-- each part of its world is what the events make of it
abbrev pub IsWorldIn : Option WorldState → Type 0
IsWorldIn None = Unit {0}
IsWorldIn (Some w) = IsWorld w

-- there is a world, each part of which is what its events make of it, each journal is whole, and each lane was accepted whole
abbrev pub IsWhole : Option WorldState → Type 0
IsWhole None = ⊥
IsWhole (Some w) = IsWorld w × IsSettled w

-- where it runs on a setting and its ends are those of the definition, it is whole
abbrev pub IsWholeByEnds : Option WorldState → Type 0
IsWholeByEnds o = (s : Setting) → setting_by o ≡ Some s → ends_by o ≡ finals_of s.rows s.book → IsWhole o

-- ---- the turns of a world are its events with the answers of the definition

events_behind : (s : Setting) (H : List Turn) (es : List Event) → map (λ turn. turn.0) (fold (turn s) H es) ≡ reverse_aux es (map (λ turn. turn.0) H)
events_behind s H [] = refl
events_behind s H (e ∷ es) = events_behind s (turn s H e) es

events_turned : (S T : List Turn) → map (λ turn. turn.0) (reverse_aux S T) ≡ reverse_aux (map (λ turn. turn.0) S) (map (λ turn. turn.0) T)
events_turned [] T = refl
events_turned (t ∷ S) T = events_turned S (t ∷ T)

events_of-history : (s : Setting) (es : List Event) → events_of (reverse (history s es)) ≡ es
events_of-history s es = events_turned (history s es) [] ∙ ap reverse (events_behind s [] es) ∙ reverse-reverse es

pub answered_by : (o : Option WorldState) (s : Setting) → setting_by o ≡ Some s → AreAnswered s (given_by o)
answered_by None s h = absurd (cc)
answered_by (Some w) s h =
    let e : w.setting ≡ s = cc in
    ap (λ (x : Setting). reverse (history x w.events)) e ∙ ap (λ (es : List Event). reverse (history s es)) (sym (events_of-history w.setting w.events))
