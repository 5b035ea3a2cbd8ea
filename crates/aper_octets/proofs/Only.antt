-- Octets are read in one way, so what was not read is spelled by nothing.
use Rattle.std.proofs.Common.{◌≡◌, ◌≢◌, ℕ, ◌+◌, ◌-◌, ◌*◌, ◌/◌, ◌%◌, ◌<◌, ◌≤◌, List, [], ◌∷◌, ◌++◌, length, refl, sym, ap, ◌∙◌, inl, inr, Option, Some, None, IfNone, append_assoc, arith}
use Rattle.std.proofs.lemmas.Bool.{cases_lt, lt-ltb, le-ltb}
use Rattle.std.proofs.lemmas.List.{length-append}
use Rattle.std.proofs.Math.Nat.{mul-div_cancel_left, mul-mod_right}
use Rattle.aper_octets.specs.Octets.{count_octets, counted, least_octets, number_octets, ie_octets}
use Rattle.aper_octets.proofs.Lengths.{short_count}
use Rattle.aper_octets.proofs.Numbers.{least_one}

first : List ℕ → ℕ
first [] = 0
first (a ∷ more) = a

behind : List ℕ → List ℕ
behind [] = []
behind (a ∷ more) = more

pub same_first : (a b : ℕ) (more rest : List ℕ) → a ∷ more ≡ b ∷ rest → a ≡ b
unfolding first
same_first a b more rest e = ap first e

pub same_behind : (a b : ℕ) (more rest : List ℕ) → a ∷ more ≡ b ∷ rest → more ≡ rest
unfolding behind
same_behind a b more rest e = ap behind e

count_long : (n : ℕ) → 128 ≤ n → count_octets n ≡ (128 + n / 256) ∷ n % 256 ∷ []
unfolding count_octets
count_long n long = rw (le-ltb n 128 long) refl

-- a length of one octet, and one of two
short_front : (n : ℕ) (x octets : List ℕ) → n < 128 → octets ≡ count_octets n ++ x → octets ≡ n ∷ x
short_front n x octets short e = e ∙ ap (λ (l : List ℕ). l ++ x) (short_count n short)

long_front : (n : ℕ) (x octets : List ℕ) → 128 ≤ n → octets ≡ count_octets n ++ x → octets ≡ (128 + n / 256) ∷ n % 256 ∷ x
long_front n x octets long e = e ∙ ap (λ (l : List ℕ). l ++ x) (count_long n long)

-- a length, and what stands behind it, are those of their octets
pub one_count : (n m : ℕ) (x y octets : List ℕ) → octets ≡ count_octets n ++ x → octets ≡ count_octets m ++ y → (n ≡ m) × (x ≡ y)
one_count n m x y octets e f =
    elim (cases_lt n 128) [
      | inl low ↦
          elim (cases_lt m 128) [
            | inl short ↦
                let whole = sym (short_front n x octets low e) ∙ short_front m y octets short f in
                (same_first _ _ _ _ whole, same_behind _ _ _ _ whole)
            | inr long ↦
                let whole = sym (short_front n x octets low e) ∙ long_front m y octets long f in
                absurd (omega (arith, low, same_first _ _ _ _ whole))
          ]
      | inr high ↦
          elim (cases_lt m 128) [
            | inl short ↦
                let whole = sym (long_front n x octets high e) ∙ short_front m y octets short f in
                absurd (omega (arith, short, same_first _ _ _ _ whole))
            | inr long ↦
                let whole = sym (long_front n x octets high e) ∙ long_front m y octets long f in
                let rest = same_behind _ _ _ _ whole in
                (omega (arith, same_first _ _ _ _ whole, same_first _ _ _ _ rest), same_behind _ _ _ _ rest)
          ]
    ]

-- two octets that tell a length
pub long_told : (a b n : ℕ) → n < 16384 → count_octets n ≡ a ∷ b ∷ [] → (a < 192) × (32896 ≤ a * 256 + b)
long_told a b n few e =
    elim (cases_lt n 128) [
      | inl short ↦ absurd (omega (arith, ap length (sym (short_count n short) ∙ e)))
      | inr long ↦
          let whole = sym (count_long n long) ∙ e in
          let high = same_first _ _ _ _ whole in
          let low = same_first _ _ _ _ (same_behind _ _ _ _ whole) in
          (omega (arith, high, few), omega (arith, high, low, few, long))
    ]

-- there is a first octet of a length
pub count_some : (n : ℕ) (rest octets : List ℕ) → octets ≡ [] → octets ≢ count_octets n ++ rest
count_some n rest octets none e =
    elim (cases_lt n 128) [
      | inl short ↦ absurd (omega (arith, ap length (sym none ∙ short_front n rest octets short e)))
      | inr long ↦ absurd (omega (arith, ap length (sym none ∙ long_front n rest octets long e)))
    ]

-- a second one, where the first is not below 128
pub count_second : (a n : ℕ) (more rest octets : List ℕ) → octets ≡ a ∷ more → 128 ≤ a → octets ≡ count_octets n ++ rest → (more ≡ n % 256 ∷ rest) × (count_octets n ≡ a ∷ n % 256 ∷ [])
count_second a n more rest octets o high e =
    elim (cases_lt n 128) [
      | inl short ↦ absurd (omega (arith, high, same_first _ _ _ _ (sym o ∙ short_front n rest octets short e)))
      | inr long ↦
          let whole = sym o ∙ long_front n rest octets long e in
          (same_behind _ _ _ _ whole, count_long n long ∙ ap (λ (x : ℕ). x ∷ n % 256 ∷ []) (sym (same_first _ _ _ _ whole)))
    ]

pub not_second : (a n : ℕ) (more rest octets : List ℕ) → octets ≡ a ∷ more → 128 ≤ a → more ≡ [] → octets ≢ count_octets n ++ rest
not_second a n more rest octets o high none e = absurd (omega (arith, ap length (sym none ∙ (count_second a n more rest octets o high e).0)))

pub not_long : (a b n : ℕ) (more most rest octets : List ℕ) → octets ≡ a ∷ more → 128 ≤ a → more ≡ b ∷ most → count_octets n ≢ a ∷ b ∷ [] → octets ≢ count_octets n ++ rest
not_long a b n more most rest octets o high m none e =
    let both = count_second a n more rest octets o high e in
    none (both.1 ∙ ap (λ (x : ℕ). a ∷ x ∷ []) (sym (same_first _ _ _ _ (sym m ∙ both.0))))

-- octets behind their length
pub counted_split : (content rest octets : List ℕ) → octets ≡ counted content ++ rest → octets ≡ count_octets (length content) ++ (content ++ rest)
unfolding counted
counted_split content rest octets e = e ∙ append_assoc (count_octets (length content)) content rest

pub not_counted : (n : ℕ) (content more rest octets : List ℕ) → octets ≡ count_octets n ++ more → length more < n → octets ≢ counted content ++ rest
not_counted n content more rest octets o few e =
    let both = one_count n (length content) more (content ++ rest) octets o (counted_split content rest octets e) in
    absurd (omega (arith, few, both.0, ap length both.1, length-append content rest))

-- an IE, behind its id and its criticality
ie_split : (id criticality : ℕ) (content rest octets : List ℕ) → octets ≡ ie_octets id criticality content ++ rest → octets ≡ 0 ∷ id ∷ 64 * criticality ∷ (counted content ++ rest)
unfolding ie_octets
ie_split id criticality content rest octets e = e

pub not_three : (id criticality : ℕ) (content rest octets : List ℕ) → length octets < 3 → octets ≢ ie_octets id criticality content ++ rest
not_three id criticality content rest octets few e = absurd (omega (arith, few, ap length (ie_split id criticality content rest octets e)))

pub ie_heads : (high low third id criticality : ℕ) (more content rest octets : List ℕ) → octets ≡ high ∷ low ∷ third ∷ more → octets ≡ ie_octets id criticality content ++ rest → (high ≡ 0) × (low ≡ id) × (third ≡ 64 * criticality) × (more ≡ counted content ++ rest)
ie_heads high low third id criticality more content rest octets o e =
    let whole = sym o ∙ ie_split id criticality content rest octets e in
    let second = same_behind _ _ _ _ whole in
    let last = same_behind _ _ _ _ second in
    (same_first _ _ _ _ whole, same_first _ _ _ _ second, same_first _ _ _ _ last, same_behind _ _ _ _ last)

pub ie_none : {A : Type 0} (found : Option A) (high low third id criticality : ℕ) (more octets : List ℕ) → octets ≡ high ∷ low ∷ third ∷ more → IfNone found ((content rest : List ℕ) → length content < 16384 → more ≢ counted content ++ rest) → IfNone found ((content rest : List ℕ) → length content < 16384 → octets ≢ ie_octets id criticality content ++ rest)
ie_none None high low third id criticality more octets o none = λ content rest few e. none content rest few (ie_heads high low third id criticality more content rest octets o e).3
ie_none (Some x) high low third id criticality more octets o none = tt

-- how many octets a number has
pub least_count : (n : ℕ) → (1 ≤ length (least_octets n)) × (length (least_octets n) ≤ 5) × (n < 4294967296 → length (least_octets n) ≤ 4) × (4294967296 ≤ n → length (least_octets n) ≡ 5)
unfolding least_octets
least_count n =
    elim (cases_lt n 256) [
      | inl below ↦ rw (lt-ltb n 256 below) (omega arith, omega arith, λ fits. omega arith, λ long. absurd (omega (arith, below, long)))
      | inr above ↦
          elim (cases_lt n 65536) [
            | inl below ↦ rw (le-ltb n 256 above, lt-ltb n 65536 below) (omega arith, omega arith, λ fits. omega arith, λ long. absurd (omega (arith, below, long)))
            | inr above2 ↦
                elim (cases_lt n 16777216) [
                  | inl below ↦ rw (le-ltb n 256 above, le-ltb n 65536 above2, lt-ltb n 16777216 below) (omega arith, omega arith, λ fits. omega arith, λ long. absurd (omega (arith, below, long)))
                  | inr above3 ↦
                      elim (cases_lt n 4294967296) [
                        | inl below ↦ rw (le-ltb n 256 above, le-ltb n 65536 above2, le-ltb n 16777216 above3, lt-ltb n 4294967296 below) (omega arith, omega arith, λ fits. omega arith, λ long. absurd (omega (arith, below, long)))
                        | inr above4 ↦ rw (le-ltb n 256 above, le-ltb n 65536 above2, le-ltb n 16777216 above3, le-ltb n 4294967296 above4) (omega arith, omega arith, λ fits. absurd (omega (arith, above4, fits)), λ long. refl)
                      ]
                ]
          ]
    ]

-- no number but 0 begins with an octet of zeros
pub least_zero : (n : ℕ) (more : List ℕ) → least_octets n ≡ 0 ∷ more → more ≡ []
unfolding least_octets
least_zero n more =
    elim (cases_lt n 256) [
      | inl below ↦ rw (lt-ltb n 256 below) (λ e. sym (same_behind _ _ _ _ e))
      | inr above ↦
          elim (cases_lt n 65536) [
            | inl below ↦ rw (le-ltb n 256 above, lt-ltb n 65536 below) (λ e. absurd (omega (arith, above, same_first _ _ _ _ e)))
            | inr above2 ↦
                elim (cases_lt n 16777216) [
                  | inl below ↦ rw (le-ltb n 256 above, le-ltb n 65536 above2, lt-ltb n 16777216 below) (λ e. absurd (omega (arith, above2, same_first _ _ _ _ e)))
                  | inr above3 ↦
                      elim (cases_lt n 4294967296) [
                        | inl below ↦ rw (le-ltb n 256 above, le-ltb n 65536 above2, le-ltb n 16777216 above3, lt-ltb n 4294967296 below) (λ e. absurd (omega (arith, above3, same_first _ _ _ _ e)))
                        | inr above4 ↦ rw (le-ltb n 256 above, le-ltb n 65536 above2, le-ltb n 16777216 above3, le-ltb n 4294967296 above4) (λ e. absurd (omega (arith, above4, same_first _ _ _ _ e)))
                      ]
                ]
          ]
    ]

-- a number of more octets than another, which it begins with, where that one is 0 or has five
front_zero : (l rest octets : List ℕ) → 0 ∷ octets ≡ l ++ rest → 2 ≤ length l → (m : List ℕ) × (l ≡ 0 ∷ m) × (1 ≤ length m)
front_zero [] rest octets e two = absurd (omega (arith, two))
front_zero (a ∷ m) rest octets e two = (m, ap (λ (x : ℕ). x ∷ m) (sym (same_first _ _ _ _ e)), omega (arith, two))

pub not_longer : (high low more n : ℕ) (octets most rest : List ℕ) → octets ≡ low ∷ most → (0 < high → 4294967296 ≤ high) → 0 < more → length (least_octets n) ≡ length (least_octets high) + more → least_octets high ++ octets ≢ least_octets n ++ rest
not_longer high low more n octets most rest o ends some l e =
    elim (cases_lt 0 high) [
      | inl is_some ↦ absurd (omega (arith, some, l, (least_count n).1, (least_count high).3 (ends is_some)))
      | inr none ↦
          let zero_high : high ≡ 0 = omega (arith, none) in
          let zeros : least_octets high ≡ 0 ∷ [] = ap least_octets zero_high ∙ least_one 0 (omega arith) in
          let whole : 0 ∷ octets ≡ least_octets n ++ rest = ap (λ (x : List ℕ). x ++ octets) (sym zeros) ∙ e in
          let front = front_zero (least_octets n) rest octets whole (omega (arith, some, l, ap length zeros)) in
          absurd (omega (arith, front.2, ap length (least_zero n front.0 front.1)))
    ]

cancel : (u a b : ℕ) → 0 < u → u * a ≡ u * b → a ≡ b
cancel u a b some e = sym (mul-div_cancel_left a some) ∙ ap (λ (x : ℕ). x / u) e ∙ mul-div_cancel_left b some

-- the octet with a count
pub not_a_count : (head before unit k : ℕ) → before ≤ head → ((head - before) % unit ≡ 0 → ⊥) → head ≢ before + unit * k
not_a_count head before unit k low none e =
    let above : head - before ≡ unit * k = omega (arith, e) in
    none (ap (λ (x : ℕ). x % unit) above ∙ mul-mod_right unit k)

number_split : (before unit n : ℕ) (rest octets : List ℕ) → octets ≡ number_octets before unit n ++ rest → octets ≡ (before + unit * (length (least_octets n) - 1)) ∷ (least_octets n ++ rest)
unfolding number_octets
number_split before unit n rest octets e = e

pub number_some : (before unit n : ℕ) (rest octets : List ℕ) → octets ≡ [] → octets ≢ number_octets before unit n ++ rest
number_some before unit n rest octets none e = absurd (omega (arith, ap length (sym none ∙ number_split before unit n rest octets e)))

pub not_counting : (before unit head n : ℕ) (more rest octets : List ℕ) → octets ≡ head ∷ more → ((k : ℕ) → k ≤ 4 → head ≢ before + unit * k) → octets ≢ number_octets before unit n ++ rest
not_counting before unit head n more rest octets o none e =
    none (length (least_octets n) - 1) (omega (arith, (least_count n).1)) (same_first _ _ _ _ (sym o ∙ number_split before unit n rest octets e))

pub not_least : (before unit head count n : ℕ) (more rest octets : List ℕ) → 0 < unit → octets ≡ head ∷ more → head ≡ before + unit * count → (length (least_octets n) ≡ count + 1 → more ≢ least_octets n ++ rest) → octets ≢ number_octets before unit n ++ rest
not_least before unit head count n more rest octets some o h none e =
    let whole = sym o ∙ number_split before unit n rest octets e in
    let same : count ≡ length (least_octets n) - 1 = cancel unit _ _ some (omega (arith, h, same_first _ _ _ _ whole)) in
    none (omega (arith, same, (least_count n).0)) (same_behind _ _ _ _ whole)

-- a number of five octets is none of four
pub not_an_id : (before unit n m : ℕ) (more rest octets : List ℕ) → 0 < unit → octets ≡ number_octets before unit n ++ more → 4294967296 ≤ n → m < 4294967296 → octets ≢ number_octets before unit m ++ rest
not_an_id before unit n m more rest octets some o long short e =
    let whole = sym (number_split before unit n more octets o) ∙ number_split before unit m rest octets e in
    let heads = same_first _ _ _ _ whole in
    let same : length (least_octets n) - 1 ≡ length (least_octets m) - 1 = cancel unit _ _ some (omega (arith, heads)) in
    absurd (omega (arith, same, (least_count n).3 long, (least_count m).2 short, (least_count m).0))
