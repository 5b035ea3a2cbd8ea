-- The digits of an IMSI: the octets that are read are those that are written.
use Rattle.std.proofs.Common.{◌≡◌, ℕ, ◌+◌, ◌*◌, ◌/◌, ◌%◌, ◌^◌, ◌<◌, ◌≤◌, ◌&&◌, eqb, leb, Bool, true, false, cond, List, [], ◌∷◌, ◌++◌, length, take, get_or, Some, None, refl, sym, ap, ◌∙◌, arith}
use Rattle.std.proofs.lemmas.Bool.{eqb-true, leb-true, le-leb}
use Rattle.std.proofs.lemmas.List.{take-append-drop, take_at, length-take, drop_all, length-append, get_or-append_right}
use Rattle.std.proofs.Math.Seq.{drop-cons}
use Rattle.echo_base.specs.Format.{Decides}
use Rattle.tlv_elements.specs.Piece.{passing}
use Rattle.tlv_elements.specs.Digits.{coded, number_from}
use Rattle.tlv_elements.proofs.Pieces.{passing_decides, both_true}
use Rattle.tlv_elements.proofs.Digits.{and_some, digits_found, digits_back, coded_length}
use Rattle.gtp2_ies.specs.Values.{imsi, pair_run, pair_of, imsi_run, imsi_of, imsi_decode}

abbrev pub IsImsi : List ℕ → ℕ → Type 0
IsImsi octets v = (v < 10 ^ 15) × (octets ≡ imsi_run v)

pair_found : (octet n : ℕ) → pair_of octet ≡ Some n → (n < 100) × (octet ≡ pair_run n)
pair_found octet n h =
    let d = (passing_decides (leb (octet % 16) 9 && leb (octet / 16) 9) (10 * (octet % 16) + octet / 16) ((octet % 16 ≤ 9) × (octet / 16 ≤ 9)) (λ h. both_true (leb (octet % 16) 9) (leb (octet / 16) 9) (octet % 16 ≤ 9) (octet / 16 ≤ 9) (λ h. leb-true _ _ h) (λ h. leb-true _ _ h) h) (λ p. rw (le-leb (octet % 16) 9 p.0, le-leb (octet / 16) 9 p.1) refl)).found n h in
    let low : octet % 16 ≤ 9 = d.1.0 in
    let high : octet / 16 ≤ 9 = d.1.1 in
    let e : n ≡ 10 * (octet % 16) + octet / 16 = d.0 in
    (omega arith, omega arith)

pair_back : (n : ℕ) → n < 100 → pair_of (pair_run n) ≡ Some n
pair_back n few =
    let low : pair_run n % 16 ≡ n / 10 = omega arith in
    let high : pair_run n / 16 ≡ n % 10 = omega arith in
    rw (low, high, le-leb (n / 10) 9 (omega arith), le-leb (n % 10) 9 (omega arith)) (ap (λ x. Some x) (omega arith))

last_found : (n last v : ℕ) → passing (leb (last % 16) 9 && eqb (last / 16) 15) (10 * n + last % 16) ≡ Some v → (v ≡ 10 * n + last % 16) × (last % 16 ≤ 9) × (last / 16 ≡ 15)
last_found n last v h =
    let d = (passing_decides (leb (last % 16) 9 && eqb (last / 16) 15) (10 * n + last % 16) ((last % 16 ≤ 9) × (last / 16 ≡ 15)) (λ h. both_true (leb (last % 16) 9) (eqb (last / 16) 15) (last % 16 ≤ 9) (last / 16 ≡ 15) (λ h. leb-true _ _ h) (λ h. eqb-true _ _ h) h) (λ p. rw (le-leb (last % 16) 9 p.0, p.1) refl)).found v h in
    (d.0, d.1.0, d.1.1)

imsi_of_found : (front : List ℕ) (last v : ℕ) → length front ≡ 7 → imsi_of front last ≡ Some v → IsImsi (front ++ last ∷ []) v
imsi_of_found front last v seven h =
    let x = and_some (number_from pair_of 100 0 front) (λ n. passing (leb (last % 16) 9 && eqb (last / 16) 15) (10 * n + last % 16)) v h in
    let d = digits_found pair_run pair_of 100 (λ o n h. pair_found o n h) 7 0 x.0 front seven x.1 in
    let l = last_found x.0 last v x.2 in
    let few : d.0 < 10 ^ 14 = d.1 in
    let n : x.0 ≡ d.0 = omega (arith, d.2) in
    let front_is : d.0 ≡ v / 10 = omega (arith, n, l.0, l.1) in
    let last_is : last ≡ v % 10 + 240 = omega (arith, n, l.0, l.1, l.2) in
    (omega (arith, n, few, l.0, l.1), rw (← front_is, ← last_is, ← d.3) refl)

imsi_of_back : (v : ℕ) → v < 10 ^ 15 → imsi_of (coded pair_run 100 7 (v / 10)) (v % 10 + 240) ≡ Some v
imsi_of_back v few =
    let front : v / 10 < 100 ^ 7 = omega (arith, few) in
    let low : (v % 10 + 240) % 16 ≡ v % 10 = omega arith in
    let high : (v % 10 + 240) / 16 ≡ 15 = omega arith in
    rw (digits_back pair_run pair_of 100 (λ n few. pair_back n few) 7 0 (v / 10) front, low, high, le-leb (v % 10) 9 (omega arith)) (ap (λ x. Some x) (omega arith))

eight_parts : (octets : List ℕ) → length octets ≡ 8 → octets ≡ take 7 octets ++ get_or octets 7 0 ∷ []
eight_parts octets eight =
    sym (take-append-drop 7 octets) ∙ ap (λ more. take 7 octets ++ more) (drop-cons octets 7 0 (omega arith) ∙ ap (λ more. get_or octets 7 0 ∷ more) (drop_all 8 octets (omega arith)))

pub imsi_decides : (octets : List ℕ) → Decides (imsi.decode octets) (imsi.Means octets)
unfolding imsi_decode
imsi_decides octets = record {
  found = λ v h. by (eqb (length octets) 8) refl v h;
  only = λ v m. rw m.1 (only v m.0);
}
  where
    by : (b : Bool) → eqb (length octets) 8 ≡ b → (v : ℕ) → cond b (imsi_of (take 7 octets) (get_or octets 7 0)) None ≡ Some v → IsImsi octets v
    by true e v h =
        let eight : length octets ≡ 8 = eqb-true (length octets) 8 e in
        rw (eight_parts octets eight) (imsi_of_found (take 7 octets) (get_or octets 7 0) v (omega (arith, length-take 7 octets)) h)
    by false e v h = absurd cc

    only : (v : ℕ) → v < 10 ^ 15 → imsi_decode (imsi_run v) ≡ Some v
    only v few =
        let front = coded pair_run 100 7 (v / 10) in
        let seven : length front ≡ 7 = coded_length pair_run 100 7 (v / 10) in
        let eight : length (front ++ (v % 10 + 240) ∷ []) ≡ 8 = omega (arith, seven, length-append front ((v % 10 + 240) ∷ [])) in
        rw (eight, take_at front ((v % 10 + 240) ∷ []) 7 seven, get_or-append_right front ((v % 10 + 240) ∷ []) 7 7 0 seven (omega arith)) (imsi_of_back v few)

-- the octets of an IMSI as the program makes them
pub imsi_octets_are : (v a b c d e f g : ℕ)
    → a ≡ pair_run (v / 10 / 1000000000000)
    → b ≡ pair_run (v / 10 % 1000000000000 / 10000000000)
    → c ≡ pair_run (v / 10 % 1000000000000 % 10000000000 / 100000000)
    → d ≡ pair_run (v / 10 % 1000000000000 % 10000000000 % 100000000 / 1000000)
    → e ≡ pair_run (v / 10 % 1000000000000 % 10000000000 % 100000000 % 1000000 / 10000)
    → f ≡ pair_run (v / 10 % 1000000000000 % 10000000000 % 100000000 % 1000000 % 10000 / 100)
    → g ≡ pair_run (v / 10 % 1000000000000 % 10000000000 % 100000000 % 1000000 % 10000 % 100)
    → a ∷ b ∷ c ∷ d ∷ e ∷ f ∷ g ∷ (v % 10 + 240) ∷ [] ≡ imsi_run v
unfolding coded
imsi_octets_are v a b c d e f g ha hb hc hd he hf hg =
    let m = v / 10 % 1000000000000 % 10000000000 % 100000000 % 1000000 % 10000 % 100 in
    let one : m ≡ m / 1 = omega arith in
    let last : g ≡ pair_run (m / 1) = hg ∙ ap pair_run one in
    rw (ha, hb, hc, hd, he, hf, last) refl

pub imsi_length : (v : ℕ) → length (imsi_run v) ≡ 8
imsi_length v = omega (arith, coded_length pair_run 100 7 (v / 10), length-append (coded pair_run 100 7 (v / 10)) ((v % 10 + 240) ∷ []))
