-- A value that is spelled under an id is in the range of its type, and what is written for it spells it, is something, and ends no later.
use Rattle.std.proofs.Common.{◌≡◌, ℕ, ◌<◌, Bool, true, false, eqb, List, [], ◌∷◌, length, refl, sym, subst, inl, inr}
use Rattle.std.proofs.lemmas.Bool.{cases_Bool}
use Rattle.aper_fields.specs.Spelling.{IsOctets}
use Rattle.aper_fields.specs.Format.{IsExactly, IsSpelledBy}
use Rattle.aper_fields.proofs.Periodic.{IsPeriodic}
use Rattle.aper_fields.specs.Asn1.{AsnType, format, reading, by_test, takes_some, IsSound}
use Rattle.aper_fields.proofs.Types.{exactly, periodic, fits_by}
use Rattle.aper_fields.proofs.Sizes.{some}
use Rattle.aper_fields.proofs.Spelled.{spelled}
use Rattle.aper_fields.proofs.Least.{least}
use Rattle.aper_fields.proofs.Room.{IsLeast}
use Rattle.s1ap_pdu.specs.declared.value.IeValue.TheVariants as value
use Rattle.s1ap_pdu.specs.Values.{FieldValue, IeType, IsOwn, Listed, type_of, by_ie, one_of, found_among, ie_with, among, ies_before_last, last_ie, value_type, id_of, asn1_of}
use Rattle.s1ap_pdu.specs.Run.{value_run, IsRightValue, HasOctetsIn}

pub value_exactly : (id : ℕ) → IsExactly (format (value_type id)) (reading (value_type id))
value_exactly id = exactly (value_type id)

-- ---- each value is one of its IE

one_own : (e : IeType) → IsOwn e → (at : ℕ) (v : FieldValue) (run : List Bool) → (format (type_of e)).Spells at v run → (format (asn1_of v)).Spells at v run
unfolding format
one_own e own at v run s = subst (λ w. (format (asn1_of w)).Spells at w run) (sym s.1) (own.spelled s.0 at run (s.0, refl, s.2))

among_own : (es : List Listed) (last : IeType) → IsOwn last → (id at : ℕ) (v : FieldValue) (run : List Bool) → (format (among es last id)).Spells at v run → (format (asn1_of v)).Spells at v run
unfolding format
among_own [] last own_last id at v run s = one_own last own_last at v run s
among_own (e ∷ others) last own_last id at v run s =
    elim (cases_Bool (eqb id e.ie.id)) [
      | inl t ↦ one_own e.ie e.own at v run (rw t at s)
      | inr f ↦ among_own others last own_last id at v run (rw f at s)
    ]

by_type : (id at : ℕ) (v : FieldValue) (run : List Bool) → (format (value_type id)).Spells at v run → (format (asn1_of v)).Spells at v run
unfolding value_type
by_type id at v run s = among_own ies_before_last last_ie.ie last_ie.own id at v run s

-- what is spelled under an id is spelled as the IE with that id
one_known : (b : Bool) (e rest : IeType) (p : AsnType FieldValue) (at : ℕ) (v : FieldValue) (run : List Bool) → ((format p).Spells at v run → (format (type_of rest)).Spells at v run) → (format (by_test b (type_of e) p)).Spells at v run → (format (type_of (one_of b e rest))).Spells at v run
unfolding format
one_known true e rest p at v run step s = s
one_known false e rest p at v run step s = step s

known_among : (es : List Listed) (last : IeType) (id at : ℕ) (v : FieldValue) (run : List Bool) → (format (among es last id)).Spells at v run → (format (type_of (found_among es last id))).Spells at v run
known_among [] last id at v run s = s
known_among (e ∷ others) last id at v run s = one_known (eqb id e.ie.id) e.ie (found_among others last id) (among others last id) at v run (λ t. known_among others last id at v run t) s

pub known : (id at : ℕ) (v : FieldValue) (run : List Bool) → (format (value_type id)).Spells at v run → (format (type_of (ie_with id))).Spells at v run
unfolding value_type
known id at v run s = known_among ies_before_last last_ie.ie id at v run s

-- values of the IE with an id are of its id
own_among : (es : List Listed) (last : IeType) → IsOwn last → (id : ℕ) → (a : (found_among es last id).Value) → id_of ((found_among es last id).kind.make a) ≡ (found_among es last id).id
own_among [] last own_last id = own_last.id
own_among (e ∷ others) last own_last id =
    elim (cases_Bool (eqb id e.ie.id)) [
      | inl t ↦ rw t (e.own.id)
      | inr f ↦ rw f (own_among others last own_last id)
    ]

pub own_id : (id : ℕ) (a : (ie_with id).Value) → id_of ((ie_with id).kind.make a) ≡ (ie_with id).id
own_id id a = own_among ies_before_last last_ie.ie last_ie.own id a

-- ---- what is spelled is right, and what is written spells it

pub value_sound : (v : FieldValue) → IsSound (asn1_of v)
value_sound (value.Mme mme) = (by_ie (λ e. e) (value.Mme mme)).sound
value_sound v = (by_ie (λ e. e) v).sound

-- each value is written in something
each_some : (v : FieldValue) → takes_some (asn1_of v) ≡ true
each_some (value.Mme mme) = (by_ie (λ e. e) (value.Mme mme)).some
each_some v = (by_ie (λ e. e) v).some

pub right_value : (v : FieldValue) → HasOctetsIn v → IsRightValue v
right_value v fits = fits_by IsOctets (λ octets. Unit {0}) (λ octets s. tt) (asn1_of v) v fits

pub value_some : (v : FieldValue) → IsRightValue v → 0 < length (value_run v 0)
unfolding value_run
value_some v right = some (λ octets. Unit {0}) (asn1_of v) (each_some v) v right

pub value_periodic : (v : FieldValue) → IsPeriodic (value_run v)
unfolding value_run
value_periodic v = periodic (asn1_of v) v

pub value_octets : (id at : ℕ) (v : FieldValue) (run : List Bool) → (format (value_type id)).Spells at v run → HasOctetsIn v
value_octets id at v run s = (least (asn1_of v) (value_sound v) v at run (by_type id at v run s)).0

pub value_least : (id : ℕ) (v : FieldValue) → IsRightValue v → IsLeast (format (value_type id)) v (value_run v)
unfolding value_run
value_least id v right = record { some = value_some v right; periodic = value_periodic v; ends = λ at run s. (least (asn1_of v) (value_sound v) v at run (by_type id at v run s)).1 }

under_id : (v : FieldValue) (at : ℕ) (run : List Bool) → (format (asn1_of v)).Spells at v run → (format (value_type (id_of v))).Spells at v run
unfolding format value_type
under_id (value.Mme mme) at run s = s
under_id _ at run s = s

pub value_spelled : (v : FieldValue) → HasOctetsIn v → IsSpelledBy (format (value_type (id_of v))) v (value_run v)
unfolding value_run
value_spelled v fits = record { everywhere = λ at. under_id v at _ (spelled (asn1_of v) (value_sound v) v fits at) }
