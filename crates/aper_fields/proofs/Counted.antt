-- The count of an open type, put before octets that stand there already.
use Rattle.std.proofs.Common.{◌≡◌, ℕ, suc, ◌+◌, ◌-◌, ◌*◌, ◌/◌, ◌%◌, ◌^◌, ◌<◌, ◌≤◌, Bool, false, eqb, List, [], ◌∷◌, ◌++◌, length, take, drop, set, get_or, insert, inl, inr, refl, sym, ap, ◌∙◌, subst, append_assoc, arith}
use Rattle.std.proofs.lemmas.Bool.{cases_Bool, eqb-true, eqb-false, ne_eqb}
use Rattle.std.proofs.lemmas.List.{take_at, drop_at, length-append, length-replicate, length-take, take-append-drop, drop_more, append-nil, length-drop, take-append-le, drop-append-le}
use Rattle.std.proofs.lemmas.List.Edits.{insert-append_right}
use Rattle.std.proofs.Math.Seq.{set-append_seam}
use Rattle.aper_fields.specs.Bits.{bits, bits_of, zeros, gap, filled}
use Rattle.aper_fields.specs.Buffer.{FreeBehind}
use Rattle.aper_fields.specs.Run.{Run, then_written, ◌▸◌, length_octets, length_run, octet_string_run, content_of, open_run}
use Rattle.aper_fields.proofs.BitLaws.{length-bits, length-bits_of, bits_of-append}
use Rattle.aper_fields.proofs.Fill.{length-run, free-gap, two_more}
use Rattle.aper_fields.proofs.Packed.{length-filled}
use Rattle.aper_fields.proofs.Periodic.{IsPeriodic, open_periodic}
use Rattle.aper_fields.proofs.Pieces.{length_octets-short, length_octets-long, open_run-none, open_run-some}

whole_filled : (octets : List ℕ) → filled (bits_of octets) ≡ bits_of octets
whole_filled octets =
    let e : gap (length (bits_of octets)) ≡ 0 = omega (arith, length-bits_of octets) in
    ap (λ (n : ℕ). bits_of octets ++ zeros n) e ∙ append-nil (bits_of octets)

-- octets, and one octet among them
octet_among : (pre : List ℕ) (x : ℕ) (post : List ℕ) → bits_of (pre ++ x ∷ post) ≡ bits_of pre ++ (bits 8 x ++ bits_of post)
unfolding bits_of
octet_among pre x post = bits_of-append pre (x ∷ post)

front_is : (pre : List ℕ) (x : ℕ) (post : List ℕ) → take (8 * length pre) (bits_of (pre ++ x ∷ post)) ≡ bits_of pre
front_is pre x post = ap (take (8 * length pre)) (octet_among pre x post) ∙ take_at (bits_of pre) (bits 8 x ++ bits_of post) (8 * length pre) (length-bits_of pre)

rest_is : (pre : List ℕ) (x : ℕ) (post : List ℕ) → drop (8 * length pre + 8) (bits_of (pre ++ x ∷ post)) ≡ bits_of post
rest_is pre x post =
    let len : length (bits_of pre ++ bits 8 x) ≡ 8 * length pre + 8 = omega (arith, length-append (bits_of pre) (bits 8 x), length-bits_of pre, length-bits 8 x) in
    ap (drop (8 * length pre + 8)) (octet_among pre x post ∙ sym (append_assoc (bits_of pre) (bits 8 x) (bits_of post))) ∙ drop_at (bits_of pre ++ bits 8 x) (bits_of post) (8 * length pre + 8) len

-- a count of one octet, and of two
short_string : (pre octets : List ℕ) (n : ℕ) → n ≡ length octets → n < 128 → bits_of (pre ++ n ∷ octets) ≡ bits_of pre ++ octet_string_run octets 0
unfolding octet_string_run length_run
short_string pre octets n e short =
    octet_among pre n octets ∙ ap (λ (l : List Bool). bits_of pre ++ (l ++ bits_of octets)) (length_octets-short n short ∙ ap length_octets e)

long_string : (pre octets : List ℕ) (n : ℕ) → n ≡ length octets → 128 ≤ n → n < 2 ^ 14 → bits_of (pre ++ (32768 + n) / 2 ^ 8 ∷ (32768 + n) % 2 ^ 8 ∷ octets) ≡ bits_of pre ++ octet_string_run octets 0
unfolding octet_string_run length_run
long_string pre octets n e long few =
    let a = (32768 + n) / 2 ^ 8 in
    let b = (32768 + n) % 2 ^ 8 in
    let split : pre ++ a ∷ b ∷ octets ≡ (pre ++ a ∷ b ∷ []) ++ octets = sym (append_assoc pre (a ∷ b ∷ []) octets) in
    let two : bits_of (pre ++ a ∷ b ∷ []) ≡ bits_of pre ++ length_octets (length octets) = two_more pre (32768 + n) ∙ append-nil (bits_of pre ++ bits 16 (32768 + n)) ∙ ap (λ (l : List Bool). bits_of pre ++ l) (length_octets-long n long few ∙ ap length_octets e) in
    ap bits_of split ∙ bits_of-append (pre ++ a ∷ b ∷ []) octets ∙ ap (λ (l : List Bool). l ++ bits_of octets) two ∙ append_assoc (bits_of pre) (length_octets (length octets)) (bits_of octets)

-- octets that are the open type of what stands behind a place
abbrev pub IsCounted : List ℕ → ℕ → List ℕ → Type 0
IsCounted new start old = bits_of new ≡ take (8 * start - 8) (bits_of old) ++ open_run (drop (8 * start) (bits_of old)) 0

counted_of : (new pre : List ℕ) (x : ℕ) (post content : List ℕ) (start : ℕ) → start ≡ length pre + 1 → octet_string_run content 0 ≡ open_run (bits_of post) 0 → bits_of new ≡ bits_of pre ++ octet_string_run content 0 → IsCounted new start (pre ++ x ∷ post)
counted_of new pre x post content start s same e =
    let front : 8 * start - 8 ≡ 8 * length pre = omega (arith, s) in
    let behind : 8 * start ≡ 8 * length pre + 8 = omega (arith, s) in
    rw (front, behind, front_is pre x post, rest_is pre x post) (e ∙ ap (λ (l : List Bool). bits_of pre ++ l) same)

short_at : (pre : List ℕ) (x n : ℕ) (post : List ℕ) (start : ℕ) → start ≡ length pre + 1 → n ≡ length post → 0 < n → n < 128 → IsCounted (pre ++ n ∷ post) start (pre ++ x ∷ post)
short_at pre x n post start s e some short =
    counted_of _ pre x post post start s (open_run-some post (bits_of post) 0 (sym (whole_filled post)) (λ none. absurd (omega (arith, none, e)))) (short_string pre post n e short)

long_at : (pre : List ℕ) (x n : ℕ) (post : List ℕ) (start : ℕ) → start ≡ length pre + 1 → n ≡ length post → 128 ≤ n → n < 2 ^ 14 → IsCounted (pre ++ (32768 + n) / 2 ^ 8 ∷ (32768 + n) % 2 ^ 8 ∷ post) start (pre ++ x ∷ post)
long_at pre x n post start s e long few =
    counted_of _ pre x post post start s (open_run-some post (bits_of post) 0 (sym (whole_filled post)) (λ none. absurd (omega (arith, none, e)))) (long_string pre post n e long few)

none_at : (pre : List ℕ) (x : ℕ) (start : ℕ) → start ≡ length pre + 1 → IsCounted (pre ++ 1 ∷ 0 ∷ []) start (pre ++ x ∷ [])
none_at pre x start s =
    counted_of _ pre x [] (0 ∷ []) start s (open_run-none [] (bits_of []) 0 (sym (whole_filled [])) refl) (short_string pre (0 ∷ []) 1 refl (omega arith))

-- the octets before the one before a place, that one, and those from the place on
record Parts (old : List ℕ) (start : ℕ) : Type 0 where
  pre : List ℕ
  x : ℕ
  post : List ℕ
  old-is : old ≡ pre ++ x ∷ post
  place : start ≡ length pre + 1
  many : length post ≡ length old - start

parts : (old : List ℕ) (start : ℕ) → 1 ≤ start → start ≤ length old → Parts old start
parts old start room within =
    let a = start - 1 in
    let pre = take a old in
    let x = get_or old a 0 in
    let post = drop (a + 1) old in
    let e : old ≡ pre ++ x ∷ post = sym (take-append-drop a old) ∙ ap (λ (l : List ℕ). pre ++ l) (drop_more old a 0 (omega arith)) in
    let len : length pre ≡ a = omega (arith, length-take a old) in
    record { pre = pre; x = x; post = post; old-is = e; place = omega (arith, len); many = omega (arith, len, ap length e, length-append pre (x ∷ post)) }

pub counted_short : (old : List ℕ) (start n : ℕ) → 1 ≤ start → start ≤ length old → n ≡ length old - start → 0 < n → n < 128 → IsCounted (set old (start - 1) n) start old
counted_short old start n room within e some short =
    let p = parts old start room within in
    let a : start - 1 ≡ length p.pre = omega (arith, p.place) in
    let new : set old (start - 1) n ≡ p.pre ++ n ∷ p.post = rw a (ap (λ (l : List ℕ). set l (length p.pre) n) p.old-is ∙ set-append_seam p.pre p.x p.post n) in
    subst (λ (l : List ℕ). IsCounted l start old) (sym new) (subst (λ (l : List ℕ). IsCounted (p.pre ++ n ∷ p.post) start l) (sym p.old-is) (short_at p.pre p.x n p.post start p.place (omega (arith, e, p.many)) some short))

pub counted_long : (old : List ℕ) (start n : ℕ) → 1 ≤ start → start ≤ length old → n ≡ length old - start → 128 ≤ n → n < 2 ^ 14 → IsCounted (set (insert old start ((32768 + n) % 2 ^ 8)) (start - 1) ((32768 + n) / 2 ^ 8)) start old
counted_long old start n room within e long few =
    let p = parts old start room within in
    let h = (32768 + n) / 2 ^ 8 in
    let b = (32768 + n) % 2 ^ 8 in
    let a : start - 1 ≡ length p.pre = omega (arith, p.place) in
    let one : start - length p.pre ≡ 1 = omega (arith, p.place) in
    let put : insert old start b ≡ p.pre ++ p.x ∷ b ∷ p.post = ap (λ (l : List ℕ). insert l start b) p.old-is ∙ insert-append_right p.pre (p.x ∷ p.post) (length p.pre) start b refl (omega (arith, p.place)) ∙ ap (λ (i : ℕ). p.pre ++ insert (p.x ∷ p.post) i b) one in
    let new : set (insert old start b) (start - 1) h ≡ p.pre ++ h ∷ b ∷ p.post = rw (a, put) (set-append_seam p.pre p.x (b ∷ p.post) h) in
    subst (λ (l : List ℕ). IsCounted l start old) (sym new) (subst (λ (l : List ℕ). IsCounted (p.pre ++ h ∷ b ∷ p.post) start l) (sym p.old-is) (long_at p.pre p.x n p.post start p.place (omega (arith, e, p.many)) long few))

nothing : (post : List ℕ) → length post ≡ 0 → post ≡ []
nothing [] e = refl
nothing (x ∷ post) e = absurd (omega (arith, e))

pub counted_none : (old : List ℕ) (start : ℕ) → 1 ≤ start → start ≤ length old → length old - start ≡ 0 → IsCounted (set (old ++ 0 ∷ []) (start - 1) 1) start old
counted_none old start room within e =
    let p = parts old start room within in
    let none : p.post ≡ [] = nothing p.post (p.many ∙ e) in
    let is : old ≡ p.pre ++ p.x ∷ [] = p.old-is ∙ ap (λ (l : List ℕ). p.pre ++ p.x ∷ l) none in
    let a : start - 1 ≡ length p.pre = omega (arith, p.place) in
    let more : old ++ 0 ∷ [] ≡ p.pre ++ p.x ∷ 0 ∷ [] = ap (λ (l : List ℕ). l ++ 0 ∷ []) is ∙ append_assoc p.pre (p.x ∷ []) (0 ∷ []) in
    let new : set (old ++ 0 ∷ []) (start - 1) 1 ≡ p.pre ++ 1 ∷ 0 ∷ [] = rw (a, more) (set-append_seam p.pre p.x (0 ∷ []) 1) in
    subst (λ (l : List ℕ). IsCounted l start old) (sym new) (subst (λ (l : List ℕ). IsCounted (p.pre ++ 1 ∷ 0 ∷ []) start l) (sym is) (none_at p.pre p.x start p.place))

-- ---- a writer of whole octets before a place

-- a content that is filled up is the same content
content_filled : (body : List Bool) → content_of (filled body) ≡ content_of body
content_filled body =
    let n = length body in
    elim (cases_Bool (eqb n 0)) [
      | inl none ↦
          let zero : gap n ≡ 0 = omega (arith, eqb-true n 0 none) in
          let same : filled body ≡ body = ap (λ (m : ℕ). body ++ zeros m) zero ∙ append-nil body in
          ap content_of same
      | inr some ↦
          let zero : gap (length (filled body)) ≡ 0 = omega (arith, length-filled body) in
          let full : filled (filled body) ≡ filled body = ap (λ (m : ℕ). filled body ++ zeros m) zero ∙ append-nil (filled body) in
          let more : eqb (length (filled body)) 0 ≡ false = ne_eqb _ _ (λ z. eqb-false n 0 some (omega (arith, z, length-filled body))) in
          rw (more, some) full
    ]

open_filled : (body : List Bool) → open_run (filled body) 0 ≡ open_run body 0
unfolding open_run
open_filled body = ap (λ (content : List Bool). (length_run (length content / 8) ▸ λ at. content) 0) (content_filled body)

pub counted_run : (run : List Bool) (old new : List ℕ) (free start : ℕ) → free < 8 → FreeBehind run old free → 1 ≤ start → 8 * start ≤ length run → IsCounted new start old → bits_of new ≡ then_written (take (8 * start - 8) run) (open_run (drop (8 * start) run))
counted_run run old new free start small full room within counted =
    let body = drop (8 * start) run in
    let before = take (8 * start - 8) run in
    let front : take (8 * start - 8) (bits_of old) ≡ before = ap (take (8 * start - 8)) full ∙ take-append-le (8 * start - 8) run (zeros free) (omega (arith, within)) in
    let gaps : free ≡ gap (length body) = omega (arith, free-gap run old free small full, length-drop (8 * start) run, within) in
    let rest : drop (8 * start) (bits_of old) ≡ filled body = ap (drop (8 * start)) full ∙ drop-append-le (8 * start) run (zeros free) within ∙ ap (λ (m : ℕ). body ++ zeros m) gaps in
    let place : length before ≡ 8 * (start - 1) + 0 = omega (arith, length-take (8 * start - 8) run, within, room) in
    let same : open_run (filled body) 0 ≡ open_run body (length before) = open_filled body ∙ sym (open_periodic body (start - 1) 0) ∙ ap (open_run body) (sym place) in
    rw (front, rest, same) at counted

pub content_few : (run : List Bool) (octets : List ℕ) (free start : ℕ) → free < 8 → FreeBehind run octets free → 8 * start ≤ length run → length (content_of (drop (8 * start) run)) < 8 * 2 ^ 14 → length octets - start < 2 ^ 14
content_few run octets free start small full within few =
    let body = drop (8 * start) run in
    let len : length body ≡ length run - 8 * start = length-drop (8 * start) run in
    let all : length run + free ≡ 8 * length octets = length-run run octets free full in
    elim (cases_Bool (eqb (length body) 0)) [
      | inl none ↦ omega (arith, eqb-true (length body) 0 none, len, all, small, within)
      | inr some ↦
          let least : length (filled body) < 8 * 2 ^ 14 = rw some at few in
          omega (arith, least, length-filled body, len, all, small, within)
    ]

-- ---- a content that is written behind its place

none_length : length (length_octets 0) ≡ 8
unfolding length_octets
none_length = ap suc (length-bits 7 0)

begun_length : (old new : List Bool) → new ≡ then_written old (length_run 0) → length new ≡ length old + gap (length old) + 8
unfolding length_run
begun_length old new e =
    let head : length (zeros (gap (length old)) ++ length_octets 0) ≡ gap (length old) + 8 = length-append (zeros (gap (length old))) (length_octets 0) ∙ omega (arith, length-replicate (gap (length old)) false, none_length) in
    omega (arith, ap length e, length-append old (zeros (gap (length old)) ++ length_octets 0), head)

pub begun_whole : (old new : List Bool) → new ≡ then_written old (length_run 0) → length new % 8 ≡ 0
begun_whole old new e = omega (arith, begun_length old new e)

pub begun_room : (old new : List Bool) → new ≡ then_written old (length_run 0) → 8 ≤ length new
begun_room old new e = omega (arith, begun_length old new e)

-- what stands behind the place is the run of the content
pub content_behind : (before all : List Bool) (f : Run) (start : ℕ) → IsPeriodic f → start ≡ length before → start % 8 ≡ 0 → all ≡ then_written before f → drop start all ≡ f 0
content_behind before all f start periodic place whole e =
    let at : length before ≡ 8 * (length before / 8) + 0 = omega (arith, place, whole) in
    ap (drop start) e ∙ drop_at before (f (length before)) start (sym place) ∙ ap f at ∙ periodic (length before / 8) 0

-- an open type whose content was written behind its place
pub open_in_place : (old before all new : List Bool) (f : Run) (start : ℕ) → IsPeriodic f → before ≡ then_written old (length_run 0) → start ≡ length before → all ≡ then_written before f → new ≡ then_written (take (start - 8) all) (open_run (drop start all)) → new ≡ then_written old (open_run (f 0))
unfolding length_run open_run
open_in_place old before all new f start periodic b place a n =
    let padding = zeros (gap (length old)) in
    let padded = old ++ padding in
    let place_octet = length_octets 0 in
    let long = begun_length old before b in
    let whole : start % 8 ≡ 0 = omega (arith, place, long) in
    let rest = content_behind before all f start periodic place whole a in
    let len : length padded ≡ start - 8 = omega (arith, place, long, length-append old padding, length-replicate (gap (length old)) false) in
    let split : all ≡ padded ++ (place_octet ++ f (length before)) = a ∙ ap (λ (l : List Bool). l ++ f (length before)) (b ∙ sym (append_assoc old padding place_octet)) ∙ append_assoc padded place_octet (f (length before)) in
    let front : take (start - 8) all ≡ padded = ap (take (start - 8)) split ∙ take_at padded (place_octet ++ f (length before)) (start - 8) len in
    let none : gap (length padded) ≡ 0 = omega (arith, len, place, long) in
    let content = content_of (f 0) in
    let count = length_octets (length content / 8) in
    n ∙ rw (front, rest, none) (append_assoc old padding (count ++ content) ∙ ap (λ (l : List Bool). old ++ l) (sym (append_assoc padding count content)))
