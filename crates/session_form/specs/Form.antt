-- The forms of a session: their table of fields, and what follows from it.
use Rattle.std.specs.Prelude.{◌≡◌, ◌≢◌, ◌⊎◌, ℕ, Bool, true, false, List, [], ◌∷◌, slice_get, replicate, Some, Result}
use Rattle.std.proofs.Common.{inl, inr, refl}
use Rattle.echo_base.specs.declared.reason.Reason.TheVariants as reasons
use Rattle.device_types.specs.declared.session.Link.{Link}
use Rattle.device_types.specs.declared.session.Link.TheVariants.{Off, On}
use Rattle.device_types.specs.declared.session.Bearer.{Bearer}
use Rattle.device_types.specs.declared.session.Bearer.TheVariants as bearer
use Rattle.device_types.specs.declared.session.Second.{Second}
use Rattle.device_types.specs.declared.session.Second.TheVariants as second
use Rattle.device_types.specs.declared.session.Stage.{Stage}
use Rattle.device_types.specs.declared.session.Stage.TheVariants as stage
use Rattle.device_types.specs.declared.session.Session.{Session}
use Rattle.device_types.specs.Rule.{number as stage_number}
use Rattle.device_types.specs.Second.{second_number}
use Rattle.echo_base.specs.declared.refusal.Refusal.{Refusal}
use Rattle.echo_base.specs.Format as formats
use Rattle.echo_base.specs.Format.{just}
use Rattle.echo_base.specs.Reading as readings
use Rattle.echo_base.specs.Reading.{done, value_of}
use Rattle.session_form.specs.Fields.{Input, Format, Reader, Code, plain, only, from, listed, is_most, Field, number, always, octets, counted, either, also, on, named, Row, Rows, last, ◌▸◌, section, taken, Table, whole, format_alone, reading_alone, run, InRange}
use Rattle.session_form.specs.declared.version.Version.{Version}
use Rattle.session_form.specs.declared.version.Version.TheVariants as version

-- ---- values by their numbers

-- the stages in the order of their numbers, from 0
abbrev pub stages : List Stage
stages = stage.Detached ∷ stage.AwaitVectors ∷ stage.Authenticating ∷ stage.Securing ∷ stage.AwaitLocation ∷ stage.AwaitCreate ∷ stage.Accepting ∷ stage.AcceptingContext ∷ stage.AcceptingDone ∷ stage.AwaitModify ∷ stage.Connecting ∷ stage.Connected ∷ stage.AwaitRelease ∷ stage.Releasing ∷ stage.Idle ∷ stage.AwaitDelete ∷ stage.AwaitSecond ∷ stage.AwaitSecondModify ∷ []

-- the states of the default bearer
abbrev pub bearers : List Bearer
bearers = bearer.None ∷ bearer.Made ∷ bearer.Active ∷ []

abbrev pub bearer_number : Bearer → ℕ
bearer_number bearer.None = 0
bearer_number bearer.Made = 1
bearer_number bearer.Active = 2

-- the forms
abbrev pub versions : List Version
versions = version.One ∷ version.Two ∷ []

-- their places in that list
abbrev pub version_number : Version → ℕ
version_number version.One = 0
version_number version.Two = 1

-- the states of the second connection
abbrev pub seconds : List Second
seconds = second.None ∷ second.Made ∷ second.Radio ∷ second.Accepted ∷ second.Active ∷ []

-- truth values
abbrev pub truths : List Bool
truths = false ∷ true ∷ []

abbrev pub truth_number : Bool → ℕ
truth_number false = 0
truth_number true = 1

pub each_stage : (s : Stage) → slice_get stages (stage_number s) ≡ Some s
each_stage stage.Detached = refl
each_stage s = refl

pub each_bearer : (b : Bearer) → slice_get bearers (bearer_number b) ≡ Some b
each_bearer bearer.None = refl
each_bearer b = refl

pub each_version : (v : Version) → slice_get versions (version_number v) ≡ Some v
each_version version.One = refl
each_version v = refl

pub each_second : (s : Second) → slice_get seconds (second_number s) ≡ Some s
each_second second.None = refl
each_second s = refl

pub each_truth : (b : Bool) → slice_get truths (truth_number b) ≡ Some b
each_truth false = refl
each_truth true = refl

-- ---- kinds of fields

-- which form it is
abbrev pub version_field : Field Version
version_field = number (from 1 (listed versions version_number each_version refl)) 1 1 2 refl

abbrev pub stage_code : Code Stage
stage_code = listed stages stage_number each_stage refl

-- a stage; form 1 has none of a second connection
abbrev pub stage_field : Version → Field Stage
stage_field version.One = number stage_code 1 0 15 refl
stage_field version.Two = number stage_code 1 0 17 refl

abbrev pub bearer_field : Field Bearer
bearer_field = number (listed bearers bearer_number each_bearer refl) 1 0 2 refl

abbrev pub second_field : Field Second
second_field = number (listed seconds second_number each_second refl) 1 0 4 refl

-- a field of form 2; form 1 has no octets for it, and always this value
abbrev pub later : {A : Type 0} → Version → A → Field A → Field A
later version.One value field = always value
later version.Two value field = field

-- a truth value: 0 or 1
abbrev pub truth_field : Field Bool
truth_field = number (listed truths truth_number each_truth refl) 1 0 1 refl

-- a number of n octets, from 0 to most
abbrev pub up_to : (n most : ℕ) → is_most n most ≡ true → Field ℕ
up_to n most fits = number plain n 0 most fits

-- n octets of zero
abbrev pub zeros : (n : ℕ) → is_most n 0 ≡ true → Field (Unit {0})
zeros n fits = number (only 0) n 0 0 fits

abbrev pub link_of : (Unit {0} × Unit {0}) ⊎ (ℕ × ℕ) → Link
link_of (inl none) = Off
link_of (inr pair) = On pair.0 pair.1

abbrev pub link_parts : Link → (Unit {0} × Unit {0}) ⊎ (ℕ × ℕ)
link_parts Off = inl (tt, tt)
link_parts (On station enb) = inr (station, enb)

pub link_back : (v : (Unit {0} × Unit {0}) ⊎ (ℕ × ℕ)) → link_parts (link_of v) ≡ v
link_back (inl none) = refl
link_back (inr pair) = refl

pub link_again : (v : Link) → link_of (link_parts v) ≡ v
link_again Off = refl
link_again (On station enb) = refl

-- a link: an octet that says whether it is on, its station of two octets and its eNB id of four, which are zeros where it is off
abbrev pub link_field : Field Link
link_field = named (record { make = link_of; parts = link_parts; back = link_back; again = link_again })
    (either (also (zeros 2 refl) (zeros 4 refl)) (also (number plain 2 1 65535 refl) (up_to 4 16777215 refl)))

-- ---- the table

abbrev pub row : {A : Type 0} → (Session → A) → Field A → Row Session A
row part field = record { part = part; field = field }

-- where the device is, and what it can do
abbrev pub front : Version → Rows Session (Stage × (Link × (ℕ × (ℕ × (ℕ × (ℕ × ℕ))))))
front version =
    row (λ s. s.stage) (stage_field version) ▸
    row (λ s. s.link) link_field ▸
    row (λ s. s.plmn) (up_to 3 16777215 refl) ▸
    row (λ s. s.tac) (up_to 2 65535 refl) ▸
    row (λ s. s.eea) (up_to 1 255 refl) ▸
    row (λ s. s.eia) (up_to 1 255 refl) ▸
    last (row (λ s. s.pti) (up_to 1 255 refl))

-- its bit rates, and the ends of its tunnel
abbrev pub tunnel : Rows Session (ℕ × (ℕ × (ℕ × (ℕ × (ℕ × (ℕ × ℕ))))))
tunnel =
    row (λ s. s.dl) (up_to 8 10000000000 refl) ▸
    row (λ s. s.ul) (up_to 8 10000000000 refl) ▸
    row (λ s. s.sgw) (up_to 4 4294967295 refl) ▸
    row (λ s. s.teid) (up_to 4 4294967295 refl) ▸
    row (λ s. s.ip) (up_to 4 4294967295 refl) ▸
    row (λ s. s.side_addr) (up_to 4 4294967295 refl) ▸
    last (row (λ s. s.side_teid) (up_to 4 4294967295 refl))

-- how it is served
abbrev pub service : Rows Session (Bearer × (Bool × (Bool × (ℕ × (Bool × (ℕ × ℕ))))))
service =
    row (λ s. s.bearer) bearer_field ▸
    row (λ s. s.registered) truth_field ▸
    row (λ s. s.off) truth_field ▸
    row (λ s. s.cause.group) (up_to 1 4 refl) ▸
    row (λ s. s.cause.extended) truth_field ▸
    row (λ s. s.cause.index) (up_to 1 63 refl) ▸
    last (row (λ s. s.radio) (up_to 4 4294967295 refl))

-- its second connection
abbrev pub second_rows : Version → Rows Session (Second × (ℕ × (ℕ × (ℕ × (ℕ × (ℕ × ℕ))))))
second_rows version =
    row (λ s. s.second) (later version second.None second_field) ▸
    row (λ s. s.pti2) (later version 0 (up_to 1 255 refl)) ▸
    row (λ s. s.sgw2) (later version 0 (up_to 4 4294967295 refl)) ▸
    row (λ s. s.teid2) (later version 0 (up_to 4 4294967295 refl)) ▸
    row (λ s. s.ip2) (later version 0 (up_to 4 4294967295 refl)) ▸
    row (λ s. s.side2_addr) (later version 0 (up_to 4 4294967295 refl)) ▸
    last (row (λ s. s.side2_teid) (later version 0 (up_to 4 4294967295 refl)))

-- each field of a session in its order, with its octets and its greatest number
abbrev pub table : Version → Table Session
table version = record {
  Parts = _;
  rows =
      section (front version) ▸
      row (λ s. s.res) (counted 16 refl) ▸
      row (λ s. s.key) (octets 32) ▸
      section tunnel ▸
      section service ▸
      last (section (second_rows version));
  make = λ in_front res key in_tunnel in_service in_second.
      taken (front version) (λ stage link plmn tac eea eia pti.
      taken tunnel (λ dl ul sgw teid ip side_addr side_teid.
      taken service (λ bearer registered off group extended index radio.
      taken (second_rows version) (λ second pti2 sgw2 teid2 ip2 side2_addr side2_teid. record {
        stage = stage;
        link = link;
        plmn = plmn;
        tac = tac;
        eea = eea;
        eia = eia;
        pti = pti;
        res = res;
        key = key;
        dl = dl;
        ul = ul;
        sgw = sgw;
        teid = teid;
        ip = ip;
        side_addr = side_addr;
        side_teid = side_teid;
        bearer = bearer;
        registered = registered;
        off = off;
        cause = record { group = group; extended = extended; index = index };
        radio = radio;
        second = second;
        pti2 = pti2;
        sgw2 = sgw2;
        teid2 = teid2;
        ip2 = ip2;
        side2_addr = side2_addr;
        side2_teid = side2_teid;
      }) in_second) in_service) in_tunnel) in_front;
  back = λ parts. refl;
  again = λ s. refl;
}

-- a session behind the octet that says which form it is
abbrev pub session_field : Version → Field Session
session_field version = whole (table version)

abbrev pub form_field : Field (Version × Session)
form_field = on version_field session_field

-- ---- what follows from the table

-- a session whose fields are in their ranges
abbrev pub IsInRange : Session → Type 0
IsInRange s = InRange (session_field version.Two) s

-- the octets of a session, in form 2
unfoldable pub form_of : Session → List ℕ
form_of s = run form_field (version.Two, s)

-- octets that are a session in one of the forms
abbrev pub IsFormOf : List ℕ → Session → Type 0
IsFormOf os s = (version : Version) × InRange form_field (version, s) × (os ≡ run form_field (version, s))

abbrev pub start : List ℕ → Input
start os = record { place = 0; left = os }

-- a session in one of the forms, and nothing behind it
unfoldable pub session_format : Format Session
session_format = formats.◌>>=◌ (format_alone form_field) (λ form. just form.1)

-- the first octet of the first field that is not whole or not in its range, or the first octet too many, is at that place
unfoldable pub IsWrongAt : List ℕ → ℕ → Type 0
IsWrongAt os place = session_format.Refuses (start os) (record { reason = reasons.BadSession; place = place })

-- a session of which something is kept in memory of its own: a key that is not zeros
abbrev pub TakesMemory : Session → Type 0
TakesMemory s = s.key ≢ replicate 32 0

-- what reading gives
unfoldable pub session_at : Reader Session
session_at = readings.◌>>=◌ (reading_alone form_field) (λ form. done form.1)

unfoldable pub session_in : List ℕ → Result Session Refusal
session_in os = value_of (session_at (start os))
