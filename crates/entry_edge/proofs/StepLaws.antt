-- What a line makes of the bindings and of the messages.
use Rattle.std.proofs.Common.{◌≡◌, ◌≢◌, ℕ, Bool, true, false, ◌&&◌, eqb, List, ◌∷◌, Option, Some, None, Ok, Err, refl, sym, ap, ◌∙◌, inl, inr}
use Rattle.std.specs.Prelude.{if◌then◌else◌}
use Rattle.std.proofs.lemmas.Bool.{cases_Bool, eqb-true, eq-eqb, ne_eqb}
use Rattle.echo_base.specs.declared.refusal.Refusal.{Refusal}
use Rattle.device_types.specs.declared.subscriber.DeviceId.{DeviceId}
use Rattle.device_types.specs.declared.subscriber.Subscriber.{Subscriber}
use Rattle.case_form.specs.declared.case.TraceLine.{TraceLine}
use Rattle.entry_edge.specs.declared.check.Taken.{Taken}
use Rattle.entry_edge.specs.declared.admission.RefusedLine.{RefusedLine}
use Rattle.entry_edge.specs.Trace.{Turn, Admitted, Refused, Pair, pair_of, same_pair, binds, frees, left_by, opened, place, is_there, if_there, bound, taken_at, turn, and_message, messages_of}
use Rattle.entry_edge.specs.Bound.{without, bound_after}

-- ---- a pair and a device

-- the parts of a test of two
both : (a b : Bool) → (a && b) ≡ true → (a ≡ true) × (b ≡ true)
both true true e = (refl, refl)
both true false e = absurd (cc e)
both false b e = absurd (cc e)

abbrev pair : ℕ → ℕ → Pair
pair station enb = (station, enb)

pub one_pair : (p q : Pair) → same_pair p q ≡ true → p ≡ q
one_pair p q e =
    let parts = both (eqb p.0 q.0) (eqb p.1 q.1) e in
    let first : p.0 ≡ q.0 = eqb-true p.0 q.0 parts.0 in
    let second : p.1 ≡ q.1 = eqb-true p.1 q.1 parts.1 in
    ap (λ (n : ℕ). pair n p.1) first ∙ ap (λ (n : ℕ). pair q.0 n) second

pub there : (pair : Pair) (o : Option Pair) → is_there pair o ≡ true → o ≡ Some pair
there pair None e = absurd (cc e)
there pair (Some other) e = ap (λ (p : Pair). let some : Option Pair = Some p in some) (one_pair other pair e)

placed_by : (pair : Pair) (H : List Turn) (o : Option DeviceId) (d : DeviceId) → if_there pair H o ≡ Some d → place d.0 H ≡ Some pair
placed_by pair H None d e = absurd (cc e)
placed_by pair H (Some x) d e =
    elim (cases_Bool (is_there pair (place x.0 H))) [
      | inl y ↦ let at : Some x ≡ Some d = rw y at e in let same : x ≡ d = cc in ap (λ (z : DeviceId). place z.0 H) (sym same) ∙ there pair (place x.0 H) y
      | inr n ↦ let at : None ≡ Some d = rw n at e in absurd (cc at)
    ]

-- a device is bound to one pair
pub one_place : (H : List Turn) (p q : Pair) (d : DeviceId) → bound p H ≡ Some d → bound q H ≡ Some d → p ≡ q
unfolding bound
one_place H p q d e f =
    let at = placed_by p H (opened p H) d e in
    let to = placed_by q H (opened q H) d f in cc

-- ---- a refused line

there_still : (pair : Pair) (H : List Turn) (r : RefusedLine) (o : Option DeviceId) → if_there pair (Refused r ∷ H) o ≡ if_there pair H o
there_still pair H r None = refl
there_still pair H r (Some d) = refl

pub bound_still : (pair : Pair) (H : List Turn) (r : RefusedLine) → bound pair (Refused r ∷ H) ≡ bound pair H
unfolding bound
bound_still pair H r = there_still pair H r (opened pair H)

pub refused_turn : (rows : List Subscriber) (H : List Turn) (line : TraceLine) (e : Refusal) → taken_at rows H line ≡ Err e → turn rows H line ≡ Refused (record { line = line.line; refusal = e }) ∷ H
refused_turn rows H line e is = rw is refl

-- ---- an admitted line

pub admitted_turn : (rows : List Subscriber) (H : List Turn) (line : TraceLine) (t : Taken) → taken_at rows H line ≡ Ok t → turn rows H line ≡ Admitted t ∷ H
admitted_turn rows H line t is = rw is refl

pub next_message : (H : List Turn) (t : Taken) → messages_of t.device.0 (Admitted t ∷ H) ≡ and_message (messages_of t.device.0 H) t
next_message H t = rw (eq-eqb t.device.0 t.device.0 refl) refl

pub same_messages : (d : ℕ) (H : List Turn) (t : Taken) → d ≢ t.device.0 → messages_of d (Admitted t ∷ H) ≡ messages_of d H
same_messages d H t other = rw (ne_eqb t.device.0 d (λ e. other (sym e))) refl

-- on the pair of the message
on_pair : (pair : Pair) (H : List Turn) (t : Taken) (b f : Bool) (o : Option DeviceId) → binds t ≡ b → frees t ≡ f → same_pair (pair_of t) pair ≡ true → if_there pair (Admitted t ∷ H) (if b then Some t.device else (if f then None else o)) ≡ (if b then Some t.device else (if f then None else if_there pair H o))
on_pair pair H t true f o b e s = rw (b, eq-eqb t.device.0 t.device.0 refl, s) refl
on_pair pair H t false true o b e s = refl
on_pair pair H t false false None b e s = refl
on_pair pair H t false false (Some d) b e s = rw b refl

-- on another pair
moved_on : (pair : Pair) (H : List Turn) (t : Taken) (d : DeviceId) (m y : Bool) → eqb t.device.0 d.0 ≡ m → is_there pair (place d.0 H) ≡ y → same_pair (pair_of t) pair ≡ false → (if is_there pair (if m then Some (pair_of t) else place d.0 H) then Some d else None) ≡ without t.device (if y then Some d else None)
moved_on pair H t d true true same at s = rw (s, same) refl
moved_on pair H t d true false same at s = rw s refl
moved_on pair H t d false true same at s = rw (at, same) refl
moved_on pair H t d false false same at s = rw at refl

off_pair : (pair : Pair) (H : List Turn) (t : Taken) (b : Bool) (o : Option DeviceId) → binds t ≡ b → same_pair (pair_of t) pair ≡ false → if_there pair (Admitted t ∷ H) o ≡ (if b then without t.device (if_there pair H o) else if_there pair H o)
off_pair pair H t true None b s = refl
off_pair pair H t false None b s = refl
off_pair pair H t true (Some d) b s = rw b (moved_on pair H t d (eqb t.device.0 d.0) (is_there pair (place d.0 H)) refl refl s)
off_pair pair H t false (Some d) b s = rw b refl

after_by : (pair : Pair) (H : List Turn) (t : Taken) (s : Bool) → same_pair (pair_of t) pair ≡ s → if_there pair (Admitted t ∷ H) (if s then left_by t (opened pair H) else opened pair H) ≡ (if s then left_by t (if_there pair H (opened pair H)) else (if binds t then without t.device (if_there pair H (opened pair H)) else if_there pair H (opened pair H)))
after_by pair H t true s = on_pair pair H t (binds t) (frees t) (opened pair H) refl refl s
after_by pair H t false s = off_pair pair H t (binds t) (opened pair H) refl s

pub bound_step : (pair : Pair) (H : List Turn) (t : Taken) → bound pair (Admitted t ∷ H) ≡ bound_after t pair (bound pair H)
unfolding bound
bound_step pair H t = after_by pair H t (same_pair (pair_of t) pair) refl
