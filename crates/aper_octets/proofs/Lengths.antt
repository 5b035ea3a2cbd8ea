-- Lengths, and octets behind them.
use Rattle.std.proofs.Common.{◌≡◌, ℕ, ◌+◌, ◌-◌, ◌*◌, ◌/◌, ◌%◌, ◌<◌, ◌≤◌, List, [], ◌∷◌, ◌++◌, length, Option, Some, None, IfSome, take, drop, slice_set, insert, refl, sym, ◌∙◌, append_assoc, arith}
use Rattle.std.proofs.lemmas.Bool.{lt-ltb, le-ltb}
use Rattle.std.proofs.lemmas.List.{length-append, take-append-drop}
use Rattle.aper_octets.specs.Octets.{count_octets, counted, ie_octets}

pub short_count : (n : ℕ) → n < 128 → count_octets n ≡ n ∷ []
unfolding count_octets
short_count n short = rw (lt-ltb n 128 short) refl

pub long_count : (a b : ℕ) → a < 192 → b < 256 → 32896 ≤ a * 256 + b → count_octets (a * 256 + b - 32768) ≡ a ∷ b ∷ []
unfolding count_octets
long_count a b small low long =
    let n = a * 256 + b - 32768 in
    let high : 128 + n / 256 ≡ a = omega arith in
    let rest : n % 256 ≡ b = omega arith in
    rw (le-ltb n 128 (omega arith), high, rest) refl

pub counted_front : (octets rest front back : List ℕ) (n : ℕ) → octets ≡ count_octets n ++ rest → front ≡ take n rest → back ≡ drop n rest → length front ≡ n → octets ≡ counted front ++ back
unfolding counted
counted_front octets rest front back n e f b l =
    let whole : front ++ back ≡ rest = rw (f, b) (take-append-drop n rest) in
    e ∙ rw (← whole, l) (sym (append_assoc (count_octets n) front back))

-- behind an id and a criticality
pub ie_front : {A : Type 0} (found : Option A) (front back : A → List ℕ) (octets rest : List ℕ) (high low third id criticality : ℕ) → octets ≡ high ∷ low ∷ third ∷ rest → high ≡ 0 → low ≡ id → third ≡ 64 * criticality → IfSome found (λ x. rest ≡ counted (front x) ++ back x) → IfSome found (λ x. octets ≡ ie_octets id criticality (front x) ++ back x)
unfolding ie_octets
ie_front None front back octets rest high low third id criticality e h l t stands = tt
ie_front (Some x) front back octets rest high low third id criticality e h l t stands = e ∙ rw (h, l, t, stands) refl

pub counted_length : (octets : List ℕ) → length (counted octets) ≡ length (count_octets (length octets)) + length octets
unfolding counted
counted_length octets = length-append (count_octets (length octets)) octets

-- a length of one octet
pub short_body : (out : List ℕ) (n : ℕ) → 4 ≤ length out → n ≡ length out - 4 → n < 128 → slice_set out 3 n ≡ take 3 out ++ counted (drop 4 out)
unfolding counted count_octets
short_body (a ∷ b ∷ c ∷ d ∷ rest) n some e short =
    let l : length rest ≡ n = omega (arith, e) in
    rw (l, lt-ltb n 128 short) refl
short_body [] n some e short = absurd (omega arith)
short_body (a ∷ []) n some e short = absurd (omega arith)
short_body (a ∷ b ∷ []) n some e short = absurd (omega arith)
short_body (a ∷ b ∷ c ∷ []) n some e short = absurd (omega arith)

-- a length of two octets
pub long_body : (out : List ℕ) (n : ℕ) → 4 ≤ length out → n ≡ length out - 4 → 128 ≤ n → insert (slice_set out 3 (128 + n / 256)) 4 (n % 256) ≡ take 3 out ++ counted (drop 4 out)
unfolding counted count_octets
long_body (a ∷ b ∷ c ∷ d ∷ rest) n some e long =
    let l : length rest ≡ n = omega (arith, e) in
    rw (l, le-ltb n 128 long) refl
long_body [] n some e long = absurd (omega arith)
long_body (a ∷ []) n some e long = absurd (omega arith)
long_body (a ∷ b ∷ []) n some e long = absurd (omega arith)
long_body (a ∷ b ∷ c ∷ []) n some e long = absurd (omega arith)
