-- The bits of octets of which the first ones were read: those that are left, those that are taken and those behind octets that are cut off.
use Rattle.std.proofs.Common.{◌≡◌, ℕ, zero, suc, ◌+◌, ◌-◌, ◌*◌, ◌/◌, ◌%◌, ◌^◌, ◌<◌, ◌≤◌, Bool, List, [], ◌∷◌, ◌++◌, length, get_or, take, drop, Result, Ok, refl, sym, ap, ◌∙◌, arith}
use Rattle.std.proofs.lemmas.List.{drop_at, length-drop, drop-append-le, take-append-le, drop-drop, take_rest, drop_all, take_all}
use Rattle.std.proofs.Math.Seq.{take-append-add}
use Rattle.aper_fields.specs.Bits.{bits, number_of, bits_of, octets_of}
use Rattle.echo_base.specs.declared.refusal.Refusal.{Refusal}
use Rattle.aper_fields.specs.Reading.{Input, forward}
use Rattle.aper_fields.proofs.BitLaws.{length-bits, length-bits_of, take-bits, drop-bits, number_of-bits}

pub length-left : (u : ℕ) (bs : List ℕ) → length (drop u (bits_of bs)) ≡ 8 * length bs - u
length-left u bs = omega (arith, length-drop u (bits_of bs), length-bits_of bs)

-- the bits of an octet behind the first u
pub drop-octet : (u b : ℕ) (bs : List ℕ) → u ≤ 8 → drop u (bits_of (b ∷ bs)) ≡ bits (8 - u) b ++ bits_of bs
unfolding bits_of
drop-octet u b bs h =
    let within : u ≤ length (bits 8 b) = omega (arith, length-bits 8 b) in
    let e : 8 ≡ u + (8 - u) = omega arith in
    let part : drop u (bits 8 b) ≡ bits (8 - u) b = ap (λ n. drop u (bits n b)) e ∙ drop-bits u (8 - u) b in
    drop-append-le u (bits 8 b) (bits_of bs) within ∙ ap (λ (x : List Bool). x ++ bits_of bs) part

-- bits within the first octet
pub take-octet : (u k b : ℕ) (bs : List ℕ) → u + k ≤ 8 → number_of (take k (drop u (bits_of (b ∷ bs)))) ≡ b / 2 ^ (8 - u - k) % 2 ^ k
take-octet u k b bs h =
    let within : k ≤ length (bits (8 - u) b) = omega (arith, length-bits (8 - u) b) in
    let e : 8 - u ≡ k + (8 - u - k) = omega arith in
    let part : take k (bits (8 - u) b) ≡ bits k (b / 2 ^ (8 - u - k)) = ap (λ n. take k (bits n b)) e ∙ take-bits k (8 - u - k) b in
    ap number_of (ap (take k) (drop-octet u b bs (omega arith)) ∙ take-append-le k (bits (8 - u) b) (bits_of bs) within ∙ part) ∙ number_of-bits k (b / 2 ^ (8 - u - k))

pub taken : (u k : ℕ) (bs : List ℕ) → 0 < length bs → u + k ≤ 8 → number_of (take k (drop u (bits_of bs))) ≡ get_or bs 0 0 / 2 ^ (8 - u - k) % 2 ^ k
taken u k [] some h = absurd (omega arith)
taken u k (b ∷ bs) some h = take-octet u k b bs h

-- past the first octet
pub passed : (u k : ℕ) (bs : List ℕ) → 0 < length bs → u + k ≡ 8 → drop k (drop u (bits_of bs)) ≡ bits_of (drop 1 bs)
unfolding bits_of
passed u k [] some h = absurd (omega arith)
passed u k (b ∷ bs) some h = drop-drop k u (bits_of (b ∷ bs)) ∙ ap (λ n. drop n (bits_of (b ∷ bs))) h ∙ drop_at (bits 8 b) (bits_of bs) 8 (length-bits 8 b)

abbrev pub input : ℕ → List Bool → Input
input offset left = record { offset = offset; left = left }

pub same_input : (o o' : ℕ) (l l' : List Bool) → o ≡ o' → l ≡ l' → input o l ≡ input o' l'
same_input o o' l l' e f = cc

pub passed_input : (u k p : ℕ) (bs : List ℕ) → 0 < length bs → u + k ≡ 8 → input (8 * (p + 1) + 0) (bits_of (take (length bs - 1) (drop 1 bs))) ≡ forward k (input (8 * p + u) (drop u (bits_of bs)))
passed_input u k p bs some h = same_input _ _ _ _ (omega arith) (ap bits_of (take_rest bs 1) ∙ sym (passed u k bs some h))

-- ---- whole octets

pub drop-octets : (n : ℕ) (bs : List ℕ) → drop (8 * n) (bits_of bs) ≡ bits_of (drop n bs)
unfolding bits_of
drop-octets zero bs = refl
drop-octets (suc n) [] = drop_all (8 * suc n) [] (omega arith)
drop-octets (suc n) (b ∷ bs) =
    let e : 8 * suc n ≡ 8 + 8 * n = omega arith in
    rw (e, ← drop-drop (8 * n) 8 (bits 8 b ++ bits_of bs), drop_at (bits 8 b) (bits_of bs) 8 (length-bits 8 b)) (drop-octets n bs)

pub take-octets : (n : ℕ) (bs : List ℕ) → take (8 * n) (bits_of bs) ≡ bits_of (take n bs)
unfolding bits_of
take-octets zero bs = refl
take-octets (suc n) [] = take_all (8 * suc n) [] (omega arith)
take-octets (suc n) (b ∷ bs) =
    let e : 8 * suc n ≡ length (bits 8 b) + 8 * n = omega (arith, length-bits 8 b) in
    rw (e, take-append-add (bits 8 b) (bits_of bs) (8 * n)) (ap (λ (x : List Bool). bits 8 b ++ x) (take-octets n bs))

pub split_front : (u n p : ℕ) (bs : List ℕ) → u ≡ 0 → input (8 * p + 0) (bits_of (take n bs)) ≡ input (8 * p + u) (take (8 * n) (drop u (bits_of bs)))
split_front u n p bs h = rw h (same_input _ _ _ _ refl (sym (take-octets n bs)))

pub split_back : (u n p : ℕ) (bs : List ℕ) → u ≡ 0 → input (8 * (p + n) + u) (drop u (bits_of (drop n bs))) ≡ forward (8 * n) (input (8 * p + u) (drop u (bits_of bs)))
split_back u n p bs h = rw h (same_input _ _ _ _ (omega arith) (sym (drop-octets n bs)))

abbrev taken_octets : List ℕ → Input → Result (List ℕ × Input) Refusal
taken_octets octets i = Ok (octets, i)

pub cut_is : (u n p : ℕ) (bs : List ℕ) → u ≡ 0 → taken_octets (octets_of n (drop u (bits_of bs))) (forward (8 * n) (input (8 * p + u) (drop u (bits_of bs)))) ≡ taken_octets (octets_of n (bits_of bs)) (input (8 * (p + n) + u) (drop u (bits_of (drop n bs))))
cut_is u n p bs h = rw h (ap (taken_octets (octets_of n (bits_of bs))) (same_input _ _ _ _ (omega arith) (drop-octets n bs)))
