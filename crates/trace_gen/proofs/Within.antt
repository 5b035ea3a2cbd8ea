-- The devices of a made trace are those of the case, and it is short.
use Rattle.std.proofs.Common.{◌≡◌, ℕ, suc, ◌+◌, ◌-◌, ◌*◌, ◌%◌, ◌<◌, ◌≤◌, Bool, true, false, cond, List, [], ◌∷◌, ◌++◌, length, refl, sym, ap, ◌∙◌, arith, length-append}
use Rattle.std.specs.Prelude.{All, nat_lt, ◌==◌, map}
use Rattle.std.specs.List.{flat_map, range_with_len}
use Rattle.std.proofs.Math.Nat.{mod-lt}
use Rattle.std.proofs.lemmas.List.Elements.{All-nil, All-append, All-map}
use Rattle.std.proofs.lemmas.List.FromFn.{length-range_with_len}
use Rattle.device_types.specs.Numbers.{IsWithin}
use Rattle.trace_gen.specs.declared.script.Script.{Script}
use Rattle.trace_gen.specs.declared.script.Script.TheVariants.{Attach, Release, Service, Area, Detach}
use Rattle.trace_gen.specs.declared.script.Sent.{Sent}
use Rattle.trace_gen.specs.Draws.{drawn}
use Rattle.trace_gen.specs.Scripts.{scripts_of, sendings_of}
use Rattle.trace_gen.specs.Trace.{device_at, scripts_at, sent_in, sent_at, made_trace}

all_of_each : {X : Type 0} (P : Sent → Type 0) (f : X → List Sent) → ((x : X) → All P (f x)) → (xs : List X) → All P (flat_map f xs)
all_of_each P f h [] = All-nil P
all_of_each P f h (x ∷ xs) = All-append P (f x) (flat_map f xs) (h x) (all_of_each P f h xs)

in_script : (P : ℕ → Type 0) (device : ℕ) → P device → (script : Script) → All (λ s. P s.device) (sent_in device script)
in_script P device p script = All-map (λ s. P s.device) (λ sending. record { device = device; sending = sending }) (sendings_of script) (λ k d lt. p)

pub all_devices : (P : ℕ → Type 0) (number devices rounds : ℕ) → ((visit : ℕ) → P (device_at devices visit)) → All (λ s. P s.device) (made_trace number devices rounds)
unfolding made_trace sent_at
all_devices P number devices rounds h =
    all_of_each (λ s. P s.device) (λ visit. flat_map (sent_in (device_at devices visit)) (scripts_at number devices visit))
    (λ visit. all_of_each (λ s. P s.device) (sent_in (device_at devices visit)) (in_script P (device_at devices visit) (h visit)) (scripts_at number devices visit))
    (range_with_len 0 (devices * (rounds + 1)))

pub device_within : (devices visit : ℕ) → 1 ≤ devices → IsWithin devices (device_at devices visit)
device_within devices visit some = let below = mod-lt visit some in (omega arith, omega (arith, below))

drawn_few : (d : ℕ) (a b : Bool) → length (flat_map (sent_in d) (cond a (Release ∷ Service ∷ []) (cond b (Release ∷ Area ∷ Service ∷ []) (Detach ∷ Attach ∷ [])))) ≤ 8
drawn_few d true b = omega arith
drawn_few d false true = omega arith
drawn_few d false false = omega arith

visit_few : (d n : ℕ) (b : Bool) → length (flat_map (sent_in d) (cond b (Attach ∷ []) (scripts_of n))) ≤ 8
visit_few d n true = omega arith
visit_few d n false = drawn_few d (n == 0) (n == 1)

each_few : (f : ℕ → List Sent) → ((x : ℕ) → length (f x) ≤ 8) → (xs : List ℕ) → length (flat_map f xs) ≤ 8 * length xs
each_few f h [] = omega arith
each_few f h (x ∷ xs) = omega (arith, h x, length-append (f x) (flat_map f xs), each_few f h xs)

pub trace_few : (number devices rounds : ℕ) → devices * (rounds + 1) ≤ 800 → length (made_trace number devices rounds) < 4294967296
unfolding made_trace sent_at
trace_few number devices rounds few =
    omega (arith, few, length-range_with_len 0 (devices * (rounds + 1)), each_few (λ visit. flat_map (sent_in (device_at devices visit)) (scripts_at number devices visit)) (λ visit. visit_few (device_at devices visit) (drawn number 3 (visit - devices)) (nat_lt visit devices)) (range_with_len 0 (devices * (rounds + 1))))
