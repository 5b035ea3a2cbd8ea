-- One step of a reader, and several: bits that are gathered over turns, and two octets at once.
use Rattle.std.proofs.Common.{◌≡◌, ℕ, ◌+◌, ◌*◌, ◌/◌, ◌%◌, ◌^◌, ◌<◌, ◌≤◌, Bool, true, false, cond, ltb, List, [], ◌∷◌, ◌++◌, length, take, drop, Ok, Err, refl, sym, ap, ◌∙◌, subst, arith}
use Rattle.std.proofs.Math.Seq.{take-add}
use Rattle.std.proofs.lemmas.Bool.{le-ltb}
use Rattle.std.proofs.lemmas.Nat.{pow-add, shl_whole, or_shifted}
use Rattle.std.specs.Prelude.{bit_or}
use Rattle.std.proofs.lemmas.List.{length-append, length-take, length-drop, drop-drop}
use Rattle.echo_base.specs.declared.reason.Reason.TheVariants.{Truncated}
use Rattle.echo_base.proofs.Answers.{refused_ok}
use Rattle.aper_fields.specs.Bits.{number_of, gap}
use Rattle.aper_fields.specs.Reading.{Input, Read, forward, bits_at, padding_at}
use Rattle.aper_fields.proofs.BitLaws.{number_of-lt}
use Rattle.aper_fields.proofs.Octet.{same_input}

pub forward-zero : (i : Input) → forward 0 i ≡ i
forward-zero i = same_input (i.offset + 0) i.offset i.left i.left (omega arith) refl

pub forward-add : (m n : ℕ) (i : Input) → forward n (forward m i) ≡ forward (m + n) i
forward-add m n i = same_input _ _ _ _ (omega arith) (drop-drop n m i.left)

pub number_of-append : (xs ys : List Bool) → number_of (xs ++ ys) ≡ number_of xs * 2 ^ length ys + number_of ys
unfolding number_of
number_of-append [] ys = omega arith
number_of-append (true ∷ xs) ys = omega (arith, number_of-append xs ys, pow-add 2 (length xs) (length ys), ap (λ n. 2 ^ n) (length-append xs ys))
number_of-append (false ∷ xs) ys = omega (arith, number_of-append xs ys)

-- the next bits of a number
pub number_of-more : (m n : ℕ) (bs : List Bool) → m + n ≤ length bs → number_of (take (m + n) bs) ≡ number_of (take m bs) * 2 ^ n + number_of (take n (drop m bs))
number_of-more m n bs h =
    let len : length (take n (drop m bs)) ≡ n = omega (arith, length-take n (drop m bs), length-drop m bs) in
    rw (take-add m n bs, number_of-append (take m bs) (take n (drop m bs)), len) refl

pub number_of-take-lt : (m : ℕ) (bs : List Bool) → m ≤ length bs → number_of (take m bs) < 2 ^ m
number_of-take-lt m bs h =
    let len : length (take m bs) ≡ m = omega (arith, length-take m bs) in
    subst (λ (n : ℕ). number_of (take m bs) < 2 ^ n) len (number_of-lt (take m bs))

-- what a turn of the loop makes of the bits so far
pub gathered : (m k : ℕ) (bs : List Bool) → m + k ≤ length bs → m + k ≤ 64 → bit_or (number_of (take m bs) * 2 ^ k % 2 ^ 64) (number_of (take k (drop m bs))) ≡ number_of (take (m + k) bs)
gathered m k bs h w =
    let fits : number_of (take m bs) < 2 ^ m = number_of-take-lt m bs (omega arith) in
    let low : number_of (take k (drop m bs)) < 2 ^ k = number_of-take-lt k (drop m bs) (omega (arith, length-drop m bs)) in
    rw (shl_whole (number_of (take m bs)) m k 64 fits w, or_shifted (number_of (take m bs)) k (number_of (take k (drop m bs))) low) (sym (number_of-more m k bs h))

pub number_of-none : 0 ≡ number_of []
unfolding number_of
number_of-none = refl

pub bits_at-offset : (n : ℕ) (i : Input) (v : ℕ) (j : Input) → bits_at n i ≡ Ok (v, j) → j.offset ≡ i.offset + n
unfolding bits_at
bits_at-offset n i v j e = ap (λ (x : ℕ × Input). x.1.offset) (sym (refused_ok (ltb (length i.left) n) (record { reason = Truncated; place = i.offset / 8 }) (number_of (take n i.left), forward n i) (v, j) e).1)

abbrev found : ℕ → Input → Read ℕ
found v j = Ok (v, j)

pub bits_at-found : (n : ℕ) (i : Input) → n ≤ length i.left → bits_at n i ≡ found (number_of (take n i.left)) (forward n i)
unfolding bits_at
bits_at-found n i h = ap (λ (b : Bool). cond b (Err (record { reason = Truncated; place = i.offset / 8 })) (found (number_of (take n i.left)) (forward n i))) (le-ltb (length i.left) n h)

-- there is no padding where an octet begins
pub padding_none : (i : Input) → gap i.offset ≡ 0 → padding_at i ≡ Ok (tt, i)
unfolding padding_at number_of
padding_none i h = rw (h, bits_at-found 0 i (omega arith), forward-zero i) refl

-- two octets one behind the other
pub two_value : (i j : Input) (high low : ℕ) → 16 ≤ length i.left → high ≡ number_of (take 8 i.left) → j ≡ forward 8 i → low ≡ number_of (take 8 j.left) → bit_or (high * 2 ^ 8 % 2 ^ 64) low ≡ number_of (take 16 i.left)
two_value i j high low h first moved second =
    let behind : j.left ≡ drop 8 i.left = ap (λ x. x.left) moved in
    rw (first, second, behind) (gathered 8 8 i.left h (omega arith))

pub two_read : (i j k : Input) (high low : ℕ) → 16 ≤ length i.left → high ≡ number_of (take 8 i.left) → j ≡ forward 8 i → low ≡ number_of (take 8 j.left) → k ≡ forward 8 j → bits_at 16 i ≡ Ok (bit_or (high * 2 ^ 8 % 2 ^ 64) low, k)
two_read i j k high low h first moved second again =
    let value = two_value i j high low h first moved second in
    let end : k ≡ forward 16 i = again ∙ ap (forward 8) moved ∙ forward-add 8 8 i in
    rw (value, end) (bits_at-found 16 i h)
