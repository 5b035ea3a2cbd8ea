-- How many octets a form of a session has at most.
use Rattle.std.proofs.Common.{lit≤, ◌≡◌, ◌≤◌, ℕ, ◌+◌, ◌&&◌, Bool, true, false, max, List, length, inl, inr, refl, arith, length-append, ap}
use Rattle.std.proofs.lemmas.Bool.{and_parts}
use Rattle.byteorder.specs.Numbers.{length-bytes_high_first}
use Rattle.device_types.specs.declared.session.Session.{Session}
use Rattle.session_form.specs.Fields.{Field, number, always, octets, counted, either, also, on, named, number_of, number_run, run, InRange}
use Rattle.session_form.specs.Form.{session_field, form_field, form_of, IsInRange, IsFormOf}
use Rattle.session_form.specs.declared.version.Version.{Version}
use Rattle.session_form.specs.declared.version.Version.TheVariants as version
use Rattle.session_form.proofs.Sessions.{is_form}

-- no field stands in it whose octets depend on another
abbrev is_plain : {A : Type 0} → Field A → Bool
is_plain (on p q) = false
is_plain (either p q) = is_plain p && is_plain q
is_plain (also p q) = is_plain p && is_plain q
is_plain (named same p) = is_plain p
is_plain _ = true

-- how many octets a field has at most
abbrev most_of : {A : Type 0} → Field A → ℕ
most_of (number code n least most fits) = n
most_of (always a) = 0
most_of (octets n) = n
most_of (counted most fits) = 1 + most
most_of (either p q) = 1 + max (most_of p) (most_of q)
most_of (also p q) = most_of p + most_of q
most_of (on p q) = most_of p
most_of (named same p) = most_of p

length-number_run : (n v : ℕ) → length (number_run n v) ≡ n
unfolding number_run
length-number_run n v = length-bytes_high_first n v

run_few : {A : Type 0} (p : Field A) (v : A) → is_plain p ≡ true → InRange p v → length (run p v) ≤ most_of p
unfolding run
run_few (number code n least most fits) v plain range = omega (arith, length-number_run n (number_of code v))
run_few (always a) v plain range = lit≤ tt
run_few (octets n) v plain range = omega (arith, range.0)
run_few (counted most fits) v plain range = omega (arith, range.0, length-number_run 1 (length v), length-append (number_run 1 (length v)) v)
run_few (either p q) (inl a) plain range =
    let both = and_parts (is_plain p) (is_plain q) plain in omega (arith, run_few p a both.0 range, length-number_run 1 0, length-append (number_run 1 0) (run p a))
run_few (either p q) (inr b) plain range =
    let both = and_parts (is_plain p) (is_plain q) plain in omega (arith, run_few q b both.1 range, length-number_run 1 1, length-append (number_run 1 1) (run q b))
run_few (also p q) v plain range =
    let both = and_parts (is_plain p) (is_plain q) plain in omega (arith, run_few p v.0 both.0 range.0, run_few q v.1 both.1 range.1, length-append (run p v.0) (run q v.1))
run_few (on p q) v plain range = absurd (cc)
run_few (named same p) v plain range = run_few p (same.parts v) plain range

-- those of a session have at most 134
pub forms_few : (os : List ℕ) (s : Session) → IsFormOf os s → length os ≤ 134
unfolding run
forms_few os s form = by form.0 form.1 form.2
  where
    by : (v : Version) → InRange form_field (v, s) → os ≡ run form_field (v, s) → length os ≤ 134
    by version.One range is =
        omega (arith, ap length is, run_few (session_field version.One) s refl range.1, length-number_run 1 1, length-append (number_run 1 1) (run (session_field version.One) s))
    by version.Two range is =
        omega (arith, ap length is, run_few (session_field version.Two) s refl range.1, length-number_run 1 2, length-append (number_run 1 2) (run (session_field version.Two) s))

pub form_few : (s : Session) → IsInRange s → length (form_of s) ≤ 134
form_few s range = forms_few (form_of s) s (is_form s range (form_of s) refl)
