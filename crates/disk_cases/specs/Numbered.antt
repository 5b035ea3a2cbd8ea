-- A law of tests: the first entries of each device are messages by their numbers, each with a session of its own.
use Rattle.std.proofs.Common.{rules, ◌≡◌, ◌<◌, ℕ, suc, ◌+◌, ◌-◌, ◌&&◌, true, false, ltb, leb, cond, List, [], ◌∷◌, length, take, Option, Some, None, lit<, refl, arith}
use Rattle.std.specs.Prelude.{nat_lt, slice_get, option_and_then, if◌then◌else◌}
use Rattle.std.proofs.lemmas.Bool.{ltb-true, le-ltb, lt-leb, and_parts}
use Rattle.std.proofs.lemmas.List.Elements.{All-replicate}
use Rattle.std.proofs.lemmas.List.Sums.{sum_by-cons}
use Rattle.std.proofs.lemmas.Option.{cond_some}
use Rattle.device_types.specs.declared.input.Input.TheVariants as inputs
use Rattle.device_types.specs.declared.message.Body.TheVariants as bodies
use Rattle.device_types.specs.declared.step.Entry.{Entry}
use Rattle.device_types.specs.Journal.{is_message, taken_count, awaited_behind, awaited_call, last_of}
use Rattle.device_types.specs.Session.{opening}
use Rattle.session_store.specs.Charter.{CharterState, IsCharter}
use Rattle.session_store.specs.Law.{IsLawful, CanFollow}

-- entry v of device d, from 0: message v + 1, behind which the session tells both
abbrev pub numbered : ℕ → ℕ → Entry
numbered d v = record {
  input = inputs.Message (record { number = v + 1; station = 1; enb = 7; body = bodies.Service });
  step = record { session = record opening { teid = d; ip = v + 1 }; effects = [] };
}

-- 99 devices have a million of them
abbrev pub numbered_at : ℕ → ℕ → Option Entry
numbered_at d v = if nat_lt d 100 && nat_lt v 1000000 then Some (numbered d v) else None

abbrev pub follows_number : CharterState → ℕ → List Entry → Entry → Type 0
follows_number charter d journal entry = numbered_at d (length journal) ≡ Some entry

-- ---- a row takes it

pub is_numbered : (d v : ℕ) (entry : Entry) → numbered_at d v ≡ Some entry → (d < 100) × (v < 1000000) × (numbered d v ≡ entry)
is_numbered d v entry at =
    let t = cond_some (ltb d 100 && ltb v 1000000) (numbered d v) entry at in
    let both = and_parts (ltb d 100) (ltb v 1000000) t.0 in
    (ltb-true d 100 both.0, ltb-true v 1000000 both.1, t.1)

all_taken : (journal : List Entry) → ((v : ℕ) (entry : Entry) → slice_get journal v ≡ Some entry → is_message entry.input ≡ true) → taken_count journal ≡ length journal
all_taken [] each = refl
all_taken (entry ∷ journal) each =
    let first : ◌≡◌ {A = ℕ} (cond (is_message entry.input) 1 0) 1 = rw (each 0 entry refl) refl in
    let others : taken_count journal ≡ length journal = all_taken journal (λ v e at. each (suc v) e at) in
    omega (arith, sum_by-cons (λ (e : Entry). cond (is_message e.input) 1 0) entry journal, first, others)

none_awaited : (journal : List Entry) (last : Option Entry) → ((entry : Entry) → last ≡ Some entry → entry.step.effects ≡ []) → option_and_then (λ (e : Entry). awaited_behind (take (length journal - 1) journal) e.step.effects) last ≡ None
none_awaited journal None each = refl
none_awaited journal (Some entry) each = rw (each entry refl) refl

pub numbered_can_follow : (charter : CharterState) (d : ℕ) (journal : List Entry) (entry : Entry) → IsCharter charter → IsLawful (follows_number charter d) journal → follows_number charter d journal entry → CanFollow journal entry
numbered_can_follow charter d journal entry in_form lawful follows =
    let is = is_numbered d (length journal) entry follows in
    let n = length journal in
    let taken : taken_count journal ≡ n = all_taken journal (λ v e at. message_of v e (lawful v e at)) in
    let none : awaited_call journal ≡ None = none_awaited journal (last_of journal) (λ e at. silent (n - 1) e (lawful (n - 1) e at)) in
    let late : leb (n + 1 + 4) n ≡ false = lt-leb _ _ (omega arith) in
    let past : leb (n + 1) n ≡ false = lt-leb _ _ (omega arith) in
    let next : ltb (n + 1) (n + 1) ≡ false = le-ltb _ _ (omega arith) in
    rw (← is.2) (record {
      ready = rw (taken, none, late, past, next) refl;
      session = record {
        link = tt;
        area = search rules;
        eea = omega arith;
        eia = omega arith;
        pti = omega arith;
        res = omega arith;
        res_octets = search rules;
        key = record { count = refl; octets = All-replicate (λ octet. octet < 256) 32 0 (lit< tt) };
        dl = search rules;
        ul = search rules;
        sgw = omega arith;
        teid = omega (arith, is.0);
        ip = omega (arith, is.1);
        side_addr = omega arith;
        side_teid = omega arith;
        cause = search rules;
        radio = search rules;
        pti2 = omega arith;
        sgw2 = omega arith;
        teid2 = omega arith;
        ip2 = omega arith;
        side2_addr = omega arith;
        side2_teid = omega arith;
      };
      calls = omega arith;
    })
  where
    message_of : (v : ℕ) (e : Entry) → follows_number charter d (take v journal) e → is_message e.input ≡ true
    message_of v e f = let t = is_numbered d (length (take v journal)) e f in rw (← t.2) refl

    silent : (v : ℕ) (e : Entry) → follows_number charter d (take v journal) e → e.step.effects ≡ []
    silent v e f = let t = is_numbered d (length (take v journal)) e f in rw (← t.2) refl
