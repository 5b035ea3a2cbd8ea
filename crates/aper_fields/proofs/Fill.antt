-- Bits put where octets are free.
use Rattle.std.proofs.Common.{◌≡◌, ℕ, zero, suc, ◌+◌, ◌-◌, ◌*◌, ◌/◌, ◌%◌, ◌^◌, ◌<◌, ◌≤◌, Bool, false, List, [], ◌∷◌, ◌++◌, length, get_or, set, take, drop, replicate, refl, sym, ap, ◌∙◌, subst, append_assoc, arith}
use Rattle.std.specs.Prelude.{bit_or, bit_and}
use Rattle.std.proofs.lemmas.List.{take_at, drop_at, length-append, length-take, length-replicate, take-append-drop, replicate-append-replicate, drop_more, set_split, append-nil, get_or-take, take_more, set_at, take-take, take_all}
use Rattle.std.proofs.lemmas.Nat.{one_shl, and_mask, shr-shr, or_shifted, shl_whole, shl_below, shr_high, shl-shr, shr_split}
use Rattle.aper_fields.specs.Bits.{bits, number_of, bits_of, zeros, gap, filled}
use Rattle.aper_fields.specs.Buffer.{FreeBehind, before_free}
use Rattle.aper_fields.proofs.Octet.{take-octets}
use Rattle.aper_fields.proofs.BitLaws.{length-bits, length-bits_of, bits-add, bits-low, bits-zero, bits_of-append, number_of-bits}

-- fronts of one length
same_parts : (a b c d : List Bool) → length a ≡ length b → a ++ c ≡ b ++ d → (a ≡ b) × (c ≡ d)
same_parts a b c d len e = (
  sym (take_at a c (length b) len) ∙ ap (take (length b)) e ∙ take_at b d (length b) refl,
  sym (drop_at a c (length b) len) ∙ ap (drop (length b)) e ∙ drop_at b d (length b) refl,
)

-- ---- one octet

pub bits-put : (x f v k : ℕ) → x % 2 ^ f ≡ 0 → v < 2 ^ k → k ≤ f → f ≤ 8 → bits 8 (bit_or x (v * 2 ^ (f - k) % 256)) ≡ bits (8 - f) (x / 2 ^ f) ++ bits k v ++ zeros (f - k)
bits-put x f v k low fits most within =
    let q = x / 2 ^ f in
    let b = v * 2 ^ (f - k) in
    let x-is : x ≡ q * 2 ^ f = omega (arith, low, shr_split x f) in
    let byte : b % 256 ≡ b = shl_whole v k (f - k) 8 fits (omega arith) in
    let split : k + (f - k) ≡ f = omega arith in
    let below : b < 2 ^ f = subst (λ (n : ℕ). b < 2 ^ n) split (shl_below v k (f - k) fits) in
    let sum : bit_or x (b % 256) ≡ q * 2 ^ f + b = rw byte (ap (λ (n : ℕ). bit_or n b) x-is ∙ or_shifted q f b below) in
    let whole : 8 ≡ 8 - f + f = omega arith in
    let no_rest : b ≡ b + 0 = omega arith in
    let back : bits f b ≡ bits k v ++ zeros (f - k) = ap (λ n. bits n b) (sym split) ∙ bits-add k (f - k) b ∙ rw (shl-shr v (f - k)) (ap (λ (l : List Bool). bits k v ++ l) (ap (bits (f - k)) no_rest ∙ bits-low (f - k) v 0 ∙ bits-zero (f - k))) in
    ap (bits 8) sum ∙ ap (λ n. bits n (q * 2 ^ f + b)) whole ∙ bits-add (8 - f) f (q * 2 ^ f + b)
    ∙ rw (shr_high q f b below, bits-low f q b, back) (sym (append_assoc (bits (8 - f) q) (bits k v) (zeros (f - k))))

number_of-zeros : (n : ℕ) → number_of (zeros n) ≡ 0
unfolding number_of
number_of-zeros zero = refl
number_of-zeros (suc n) = omega (arith, number_of-zeros n)

-- an octet whose last bits are free, among others
pub record AtOctet (run : List Bool) (pre : List ℕ) (x : ℕ) (post : List ℕ) (room free : ℕ) : Type 0 where
  pub front : run ≡ bits_of pre ++ bits (8 - room) (x / 2 ^ room)
  pub low : x % 2 ^ room ≡ 0
  pub rest : bits_of post ≡ zeros (free - room)

at_octet : (run : List Bool) (pre : List ℕ) (x : ℕ) (post : List ℕ) (room free : ℕ) → room ≤ 8 → room ≤ free → length run + room ≡ 8 * length pre + 8 → FreeBehind run (pre ++ x ∷ post) free → AtOctet run pre x post room free
unfolding bits_of
at_octet run pre x post room free within most place full =
    let q = x / 2 ^ room in
    let whole : 8 ≡ 8 - room + room = omega arith in
    let octet : bits 8 x ≡ bits (8 - room) q ++ bits room x = ap (λ n. bits n x) whole ∙ bits-add (8 - room) room x in
    let all : bits_of (pre ++ x ∷ post) ≡ (bits_of pre ++ bits (8 - room) q) ++ (bits room x ++ bits_of post) = bits_of-append pre (x ∷ post) ∙ rw octet (simp append_assoc) in
    let len : length (bits_of pre ++ bits (8 - room) q) ≡ length run = omega (arith, length-append (bits_of pre) (bits (8 - room) q), length-bits_of pre, length-bits (8 - room) q) in
    let parts = same_parts (bits_of pre ++ bits (8 - room) q) run (bits room x ++ bits_of post) (zeros free) len (sym all ∙ full) in
    let sum : room + (free - room) ≡ free = omega arith in
    let split : zeros free ≡ zeros room ++ zeros (free - room) = ap zeros (sym sum) ∙ sym (replicate-append-replicate room (free - room) false) in
    let ends = same_parts (bits room x) (zeros room) (bits_of post) (zeros (free - room)) (length-bits room x ∙ sym (length-replicate room false)) (parts.1 ∙ split) in
    record { front = sym parts.0; low = sym (number_of-bits room x) ∙ ap number_of ends.0 ∙ number_of-zeros room; rest = ends.1 }

put_octet : (run chunk : List Bool) (pre : List ℕ) (x y : ℕ) (post : List ℕ) (room free k : ℕ) → k ≤ room → room ≤ free → AtOctet run pre x post room free → bits 8 y ≡ bits (8 - room) (x / 2 ^ room) ++ chunk ++ zeros (room - k) → FreeBehind (run ++ chunk) (pre ++ y ∷ post) (free - k)
unfolding bits_of
put_octet run chunk pre x y post room free k within most at new =
    let sum : free - k ≡ room - k + (free - room) = omega arith in
    let tail : zeros (free - k) ≡ zeros (room - k) ++ zeros (free - room) = ap zeros sum ∙ sym (replicate-append-replicate (room - k) (free - room) false) in
    bits_of-append pre (y ∷ post) ∙ rw (new, at.rest, at.front, tail) (simp append_assoc)

-- the same at a place of a list
pub put_at : (octets : List ℕ) (run chunk : List Bool) (a y room free k : ℕ) → a < length octets → k ≤ room → room ≤ 8 → room ≤ free → length run + room ≡ 8 * a + 8 → FreeBehind run octets free → bits 8 y ≡ bits (8 - room) (get_or octets a 0 / 2 ^ room) ++ chunk ++ zeros (room - k) → FreeBehind (run ++ chunk) (set octets a y) (free - k)
put_at octets run chunk a y room free k here within small most place full new =
    let pre = take a octets in
    let post = drop (a + 1) octets in
    let x = get_or octets a 0 in
    let e : octets ≡ pre ++ x ∷ post = sym (take-append-drop a octets) ∙ ap (λ (l : List ℕ). pre ++ l) (drop_more octets a 0 here) in
    let len : length pre ≡ a = omega (arith, length-take a octets) in
    let one : suc a ≡ a + 1 = omega arith in
    let f : set octets a y ≡ pre ++ y ∷ post = set_split octets a y here ∙ ap (λ (n : ℕ). pre ++ y ∷ drop n octets) one in
    let at = at_octet run pre x post room free small most (omega (arith, place, len)) (subst (λ (l : List ℕ). FreeBehind run l free) e full) in
    subst (λ (l : List ℕ). FreeBehind (run ++ chunk) l (free - k)) (sym f) (put_octet run chunk pre x y post room free k within most at new)

pub low_at : (octets : List ℕ) (run : List Bool) (a room free : ℕ) → a < length octets → room ≤ 8 → room ≤ free → length run + room ≡ 8 * a + 8 → FreeBehind run octets free → get_or octets a 0 % 2 ^ room ≡ 0
low_at octets run a room free here small most place full =
    let pre = take a octets in
    let post = drop (a + 1) octets in
    let x = get_or octets a 0 in
    let e : octets ≡ pre ++ x ∷ post = sym (take-append-drop a octets) ∙ ap (λ (l : List ℕ). pre ++ l) (drop_more octets a 0 here) in
    let len : length pre ≡ a = omega (arith, length-take a octets) in
    (at_octet run pre x post room free small most (omega (arith, place, len)) (subst (λ (l : List ℕ). FreeBehind run l free) e full)).low

-- ---- how much is free

pub length-run : (run : List Bool) (octets : List ℕ) (free : ℕ) → FreeBehind run octets free → length run + free ≡ 8 * length octets
length-run run octets free full = omega (arith, length-bits_of octets, ap length full, length-append run (zeros free), length-replicate free false)

pub before_free-is : (run : List Bool) (octets : List ℕ) (free : ℕ) → FreeBehind run octets free → before_free octets free ≡ run
before_free-is run octets free full =
    let len : length run ≡ 8 * length octets - free = omega (arith, length-run run octets free full) in
    ap (take (8 * length octets - free)) full ∙ take_at run (zeros free) (8 * length octets - free) len

-- where a run ends within the last octet, its free bits lead to the next one
pub free-gap : (run : List Bool) (octets : List ℕ) (free : ℕ) → free < 8 → FreeBehind run octets free → free ≡ gap (length run)
free-gap run octets free few full = omega (arith, length-run run octets free full)

-- octets are the run that they keep, filled up to the next octet
pub filled-is : (run : List Bool) (octets : List ℕ) (free : ℕ) → free < 8 → FreeBehind run octets free → bits_of octets ≡ filled run
filled-is run octets free few full = full ∙ ap (λ n. run ++ zeros n) (free-gap run octets free few full)

pub free_none : FreeBehind (before_free [] 0) [] 0
unfolding bits_of
free_none = refl

pub before_free-whole : (octets : List ℕ) → before_free octets 0 ≡ bits_of octets
before_free-whole octets = take_all (8 * length octets - 0) (bits_of octets) (omega (arith, length-bits_of octets))

-- octets with no free bits
pub free_whole : (octets : List ℕ) → FreeBehind (before_free octets 0) octets 0
free_whole octets = sym (append-nil (before_free octets 0) ∙ before_free-whole octets)

-- a run behind padding
pub padded_run : (octets : List ℕ) (free : ℕ) (run : List Bool) → free < 8 → FreeBehind (before_free octets free) octets free → before_free octets 0 ++ run ≡ before_free octets free ++ (zeros (gap (length (before_free octets free))) ++ run)
padded_run octets free run few full =
    let before = before_free octets free in
    rw (← free-gap before octets free few full) (ap (λ (l : List Bool). l ++ run) (before_free-whole octets ∙ full) ∙ append_assoc before (zeros free) run)

-- ---- a number of some bits

pub bits-none : (run : List Bool) (n v : ℕ) → run ++ bits (n - n) v ≡ run
unfolding bits
bits-none run n v = let e : n - n ≡ 0 = omega arith in rw e (append-nil run)

bits_of-zeros : (m : ℕ) → bits_of (replicate m 0) ≡ zeros (8 * m)
unfolding bits_of
bits_of-zeros zero = refl
bits_of-zeros (suc m) =
    let e : 8 * suc m ≡ 8 + 8 * m = omega arith in
    rw (bits-zero 8, bits_of-zeros m, replicate-append-replicate 8 (8 * m) false, ← e) refl

pub more_free : (run : List Bool) (octets : List ℕ) (free m : ℕ) → FreeBehind run octets free → FreeBehind run (octets ++ replicate m 0) (free + 8 * m)
more_free run octets free m full =
    bits_of-append octets (replicate m 0) ∙ rw (full, bits_of-zeros m) (append_assoc run (zeros free) (zeros (8 * m)) ∙ ap (λ (l : List Bool). run ++ l) (replicate-append-replicate free (8 * m) false))

bits-mod : (k v : ℕ) → bits k (v % 2 ^ k) ≡ bits k v
bits-mod k v = sym (bits-low k (v / 2 ^ k) (v % 2 ^ k)) ∙ ap (bits k) (shr_split v k)

-- the bits of the next octet
pub chunk_bits : (k v : ℕ) → k < 64 → bits k (bit_and v (1 * 2 ^ k % 2 ^ 64 - 1)) ≡ bits k v
chunk_bits k v h = rw (one_shl k 64 h, and_mask) (bits-mod k v)

pub chunk_more : (n l k v : ℕ) → k ≤ l → l ≤ n → bits (n - l) (v / 2 ^ l) ++ bits k (v / 2 ^ (l - k)) ≡ bits (n - (l - k)) (v / 2 ^ (l - k))
chunk_more n l k v h w =
    let sum : n - (l - k) ≡ n - l + k = omega arith in
    let back : l - k + k ≡ l = omega arith in
    rw (sum, bits-add (n - l) k (v / 2 ^ (l - k)), shr-shr v (l - k) k, back) refl

-- a number in one more octet, of which the last bits are free
pub octet_more : (octets : List ℕ) (y k v : ℕ) → bits 8 y ≡ bits (8 - 8) (0 / 2 ^ 8) ++ bits k v ++ zeros (8 - k) → FreeBehind (bits_of octets ++ bits k v) (octets ++ y ∷ []) (8 - k)
unfolding bits bits_of
octet_more octets y k v new = bits_of-append octets (y ∷ []) ∙ rw new (simp append_assoc)

-- a number in two more octets
pub two_more : (octets : List ℕ) (v : ℕ) → FreeBehind (bits_of octets ++ bits 16 v) (octets ++ v / 2 ^ 8 ∷ v % 2 ^ 8 ∷ []) 0
unfolding bits_of
two_more octets v =
    bits_of-append octets (v / 2 ^ 8 ∷ v % 2 ^ 8 ∷ []) ∙ rw (bits-mod 8 v, bits-add 8 8 v) (simp (append_assoc, append-nil))

-- ---- what was written is cut off

bits-clear : (f x : ℕ) → f ≤ 8 → bits 8 (x / 2 ^ f * 2 ^ f % 256) ≡ bits (8 - f) (x / 2 ^ f) ++ zeros f
bits-clear f x h =
    let q = x / 2 ^ f in
    let whole : 8 ≡ 8 - f + f = omega arith in
    let none : q * 2 ^ f ≡ q * 2 ^ f + 0 = omega arith in
    bits-mod 8 (q * 2 ^ f) ∙ ap (λ n. bits n (q * 2 ^ f)) whole ∙ bits-add (8 - f) f (q * 2 ^ f)
    ∙ rw (shl-shr q f) (ap (λ (l : List Bool). bits (8 - f) q ++ l) (ap (bits f) none ∙ bits-low f q 0 ∙ bits-zero f))

pub cut_within : (bs : List ℕ) (n f : ℕ) → n ≤ length bs → 0 < f → f < 8 → f ≤ 8 * n → FreeBehind (take (8 * n - f) (bits_of bs)) (set (take n bs) (n - 1) (get_or (take n bs) (n - 1) 0 / 2 ^ f * 2 ^ f % 256)) f
unfolding bits_of
cut_within bs n f within some few most =
    let p = n - 1 in
    let one : p + 1 ≡ n = omega arith in
    let here : p < length bs = omega arith in
    let x = get_or bs p 0 in
    let q = x / 2 ^ f in
    let same : get_or (take n bs) p 0 ≡ x = get_or-take n bs p 0 (omega arith) in
    let front : take n bs ≡ take p bs ++ x ∷ [] = ap (λ k. take k bs) (sym one) ∙ take_more bs p 0 here in
    let len : length (take p bs) ≡ p = omega (arith, length-take p bs) in
    let y = q * 2 ^ f % 256 in
    let written : set (take n bs) p y ≡ take p bs ++ y ∷ [] = ap (λ (l : List ℕ). set l p y) front ∙ set_at (take p bs) x [] y p len in
    let whole : 8 ≡ 8 - f + f = omega arith in
    let octet : bits 8 x ≡ bits (8 - f) q ++ bits f x = ap (λ k. bits k x) whole ∙ bits-add (8 - f) f x in
    let all : bits_of bs ≡ (bits_of (take p bs) ++ bits (8 - f) q) ++ (bits f x ++ bits_of (drop (p + 1) bs)) = ap bits_of (sym (take-append-drop p bs) ∙ ap (λ (l : List ℕ). take p bs ++ l) (drop_more bs p 0 here)) ∙ bits_of-append (take p bs) (x ∷ drop (p + 1) bs) ∙ rw octet (simp append_assoc) in
    let size : length (bits_of (take p bs) ++ bits (8 - f) q) ≡ 8 * n - f = omega (arith, length-append (bits_of (take p bs)) (bits (8 - f) q), length-bits_of (take p bs), length-bits (8 - f) q, len) in
    let run : take (8 * n - f) (bits_of bs) ≡ bits_of (take p bs) ++ bits (8 - f) q = ap (take (8 * n - f)) all ∙ take_at _ _ (8 * n - f) size in
    rw same (ap bits_of written ∙ bits_of-append (take p bs) (y ∷ []) ∙ rw (bits-clear f x (omega arith), run) (simp (append_assoc, append-nil)))

pub cut_whole : (bs : List ℕ) (n f : ℕ) → f ≤ 0 → FreeBehind (take (8 * n - f) (bits_of bs)) (take n bs) f
cut_whole bs n f h =
    let z : f ≡ 0 = omega arith in
    let e : 8 * n - 0 ≡ 8 * n = omega arith in
    rw (z, e) (sym (take-octets n bs) ∙ sym (append-nil (take (8 * n) (bits_of bs))))

pub take_before : (octets : List ℕ) (free n : ℕ) → n ≤ length (before_free octets free) → take n (bits_of octets) ≡ take n (before_free octets free)
take_before octets free n h = sym (take-take n (8 * length octets - free) (bits_of octets) (omega (arith, h, length-take (8 * length octets - free) (bits_of octets))))
