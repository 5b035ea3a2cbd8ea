-- The octets of values of a fixed size, and of strings.
use Rattle.std.proofs.Common.{◌≡◌, ℕ, ◌+◌, ◌-◌, ◌*◌, ◌/◌, ◌%◌, ◌^◌, ◌<◌, ◌≤◌, Bool, true, false, ltb, eqb, List, [], ◌∷◌, ◌++◌, length, refl, sym, ap, ◌∙◌, inl, inr, append_assoc, arith}
use Rattle.std.proofs.lemmas.Bool.{cases_Bool, eqb-true, eqb-false}
use Rattle.std.proofs.lemmas.List.{append-nil, length-append}
use Rattle.aper_fields.specs.declared.enumerated.EnumValue.{EnumValue}
use Rattle.aper_fields.specs.Bits.{bits, bits_of, zeros}
use Rattle.aper_fields.specs.Run.{fixed_bits_run, number_run, octet_string_run, fixed_octets_run, enumerated_run, length_run, length_octets, content_of}
use Rattle.aper_fields.specs.Spelling.{IsEnumValue}
use Rattle.device_types.specs.Cause.{cause_roots}
use Rattle.s1ap_ies.specs.declared.tai.Tai.{Tai}
use Rattle.s1ap_ies.specs.declared.cgi.Cgi.{Cgi}
use Rattle.s1ap_ies.specs.declared.stmsi.Stmsi.{Stmsi}
use Rattle.s1ap_ies.specs.declared.sec_caps.SecCaps.{SecCaps}
use Rattle.s1ap_ies.specs.declared.cause.Cause.{Cause}
use Rattle.s1ap_ies.specs.Run.{IsStmsi, IsSecCaps, IsCause}
use Rattle.aper_fields.specs.Asn1.{run, flags_run, fields_run}
use Rattle.s1ap_ies.specs.Values as types
use Rattle.aper_octets.specs.Octets.{count_octets, counted}
use Rattle.aper_octets.specs.Values.{tai_octets, cgi_octets, stmsi_octets, caps_octets, cause_octets}
use Rattle.s1ap_messages.specs.Usual.{rrc_octets}
use Rattle.s1ap_messages.proofs.UsualBits.{octet, two, three, four, five, four_is, join, shifted, framed, counted_is, Contains, contains_octets}

-- ---- strings

text_parts : (text : List ℕ) → octet_string_run text 0 ≡ length_octets (length text) ++ bits_of text
unfolding octet_string_run length_run
text_parts text = refl

count_some : (n : ℕ) → 0 < length (count_octets n)
unfolding count_octets
count_some n = elim (cases_Bool (ltb n 128)) [ inl a ↦ rw a (omega arith) | inr a ↦ rw a (omega arith) ]

pub count_few : (n : ℕ) → length (count_octets n) ≤ 2
unfolding count_octets
count_few n = elim (cases_Bool (ltb n 128)) [ inl a ↦ rw a (omega arith) | inr a ↦ rw a (omega arith) ]

pub counted_some : (octets : List ℕ) → 0 < length (counted octets)
unfolding counted
counted_some octets = omega (arith, length-append (count_octets (length octets)) octets, count_some (length octets))

pub text_is : (text : List ℕ) → length text < 16384 → octet_string_run text 0 ≡ bits_of (counted text)
text_is text few = text_parts text ∙ sym (counted_is text few)

pub key_is : (key : List ℕ) → fixed_octets_run key 0 ≡ bits_of key
unfolding fixed_octets_run
key_is key = refl

-- ---- areas, cells and identities

tai_parts : (t : Tai) → run types.tai t 0 ≡ bits 8 0 ++ (bits 24 t.plmn ++ bits 16 t.tac)
unfolding run flags_run fields_run fixed_bits_run bits
tai_parts t = refl

pub tai_is : (t : Tai) → Contains (run types.tai t 0) (tai_octets t)
unfolding bits_of tai_octets
tai_is t = contains_octets (run types.tai t 0) (tai_octets t) (omega arith) (rw (tai_parts t, octet (t.plmn / 256), octet t.plmn, octet t.tac, three t.plmn, two t.tac) (simp (append_assoc, append-nil)))

cgi_parts : (t : Cgi) → content_of (run types.cgi t 0) ≡ bits 8 0 ++ (bits 24 t.plmn ++ (bits 28 t.cell ++ zeros 4))
unfolding run flags_run fields_run fixed_bits_run bits
cgi_parts t = refl

cell_octets : (cell : ℕ) → bits 28 cell ++ zeros 4 ≡ bits 8 (cell / 1048576) ++ (bits 8 (cell / 4096) ++ (bits 8 (cell / 16) ++ bits 8 (cell % 16 * 16)))
cell_octets cell =
    let v = cell * 2 ^ 4 + 0 in
    let a : v / 16777216 ≡ cell / 1048576 = omega arith in
    let b : v / 65536 ≡ cell / 4096 = omega arith in
    let c : v / 256 ≡ cell / 16 = omega arith in
    let d : v % 256 ≡ cell % 16 * 16 = omega arith in
    shifted 28 4 cell ∙ four v ∙ rw (a, b, c, ← octet v, d) refl

pub cgi_is : (t : Cgi) → Contains (run types.cgi t 0) (cgi_octets t)
unfolding bits_of cgi_octets
cgi_is t = (rw (cgi_parts t, octet (t.plmn / 256), octet t.plmn, octet (t.cell / 4096), octet (t.cell / 16), three t.plmn, cell_octets t.cell) (simp (append_assoc, append-nil)), omega arith)

stmsi_parts : (v : Stmsi) → run types.stmsi v 0 ≡ bits 2 0 ++ (bits 8 v.mmec ++ (zeros 6 ++ bits 32 v.tmsi))
unfolding run flags_run fields_run fixed_bits_run bits
stmsi_parts v = refl

code_octets : (n : ℕ) → n < 256 → bits 2 0 ++ (bits 8 n ++ zeros 6) ≡ bits 8 (n / 4) ++ bits 8 (n % 4 * 64)
code_octets n small =
    let v = 0 * 2 ^ 14 + (n * 2 ^ 6 + 0) in
    let a : v / 256 ≡ n / 4 = omega arith in
    let b : v % 256 ≡ n % 4 * 64 = omega arith in
    ap (λ (x : List Bool). bits 2 0 ++ x) (shifted 8 6 n) ∙ join 2 14 0 (n * 2 ^ 6 + 0) (omega (arith, small)) ∙ two v ∙ rw (a, ← octet v, b) refl

pub stmsi_is : (v : Stmsi) → IsStmsi v → Contains (run types.stmsi v 0) (stmsi_octets v)
unfolding bits_of stmsi_octets
stmsi_is v right = contains_octets (run types.stmsi v 0) (stmsi_octets v) (omega arith) (rw (stmsi_parts v, four_is v.tmsi, ← append_assoc (bits 8 (v.mmec / 4)) (bits 8 (v.mmec % 4 * 64)) (bits 32 v.tmsi), ← code_octets v.mmec right.0) (simp append_assoc))

-- ---- security capabilities

caps_parts : (v : SecCaps) → content_of (run types.sec_caps v 0) ≡ bits 3 0 ++ (bits 16 v.eea ++ (bits 1 0 ++ (bits 16 v.eia ++ zeros 4)))
unfolding run flags_run fields_run fixed_bits_run bits
caps_parts v = refl

caps_number : (e i : ℕ) → e < 65536 → i < 65536 → bits 3 0 ++ (bits 16 e ++ (bits 1 0 ++ (bits 16 i ++ zeros 4))) ≡ bits 40 (e * 2097152 + i * 16)
caps_number e i small few =
    let low = 0 * 2 ^ 20 + (i * 2 ^ 4 + 0) in
    let all = e * 2 ^ 21 + low in
    let same : 0 * 2 ^ 37 + all ≡ e * 2097152 + i * 16 = omega arith in
    rw (shifted 16 4 i, join 1 20 0 (i * 2 ^ 4 + 0) (omega (arith, few)), join 16 21 e low (omega (arith, few)), join 3 37 0 all (omega (arith, small, few)), same) refl

pub caps_are : (v : SecCaps) → IsSecCaps v → Contains (run types.sec_caps v 0) (caps_octets v)
unfolding bits_of caps_octets
caps_are v right =
    let n = v.eea * 2097152 + v.eia * 16 in
    let a : n / 4294967296 ≡ v.eea / 2048 = omega (arith, right.0, right.1) in
    let b : n / 16777216 % 256 ≡ v.eea / 8 % 256 = omega (arith, right.0, right.1) in
    let c : n / 65536 % 256 ≡ v.eea % 8 * 32 + v.eia / 4096 = omega (arith, right.0, right.1) in
    let d : n / 256 % 256 ≡ v.eia / 16 % 256 = omega (arith, right.0, right.1) in
    let e : n % 256 ≡ v.eia % 16 * 16 = omega (arith, right.0, right.1) in
    (rw (caps_parts v, caps_number v.eea v.eia right.0 right.1, five n, ← a, ← b, ← c, ← d, ← e, octet (n / 16777216), octet (n / 65536), octet (n / 256), octet n) (simp (append_assoc, append-nil)), omega arith)

-- ---- enumerations and causes

rrc_root : (v : EnumValue) → v.extended ≡ false → content_of (enumerated_run 5 true v 0) ≡ bits 1 0 ++ (bits 3 (v.index - 0) ++ zeros 4)
unfolding enumerated_run number_run bits lib.Count.count_leading_zeros
rrc_root v root = rw root refl

rrc_more : (v : EnumValue) → v.extended ≡ true → content_of (enumerated_run 5 true v 0) ≡ bits 2 2 ++ (bits 6 v.index ++ zeros 0)
unfolding enumerated_run bits
rrc_more v more = rw more refl

pub rrc_is : (v : EnumValue) → IsEnumValue 5 true v → Contains (enumerated_run 5 true v 0) (rrc_octets v)
unfolding bits_of rrc_octets
rrc_is v right =
    elim (cases_Bool v.extended) [
      | inl more ↦
          let few = rw more at right in
          let e : 2 * 2 ^ 6 + (v.index * 2 ^ 0 + 0) ≡ 128 + v.index = omega arith in
          (rw (rrc_more v more, framed 2 6 0 2 v.index (omega (arith, few.1)), e, more) (sym (append-nil (bits 8 (128 + v.index)))), rw more (omega arith))
      | inr root ↦
          let few = rw root at right in
          let m : v.index - 0 ≡ v.index = omega arith in
          let e : 0 * 2 ^ 7 + (v.index * 2 ^ 4 + 0) ≡ 16 * v.index = omega arith in
          (rw (rrc_root v root, m, framed 1 3 4 0 v.index (omega (arith, few)), e, root) (sym (append-nil (bits 8 (16 * v.index)))), rw root (omega arith))
    ]

-- behind an extension mark
cause_more : (v : Cause) → v.extended ≡ true → content_of (run types.cause v 0) ≡ bits 1 0 ++ (bits 3 v.group ++ (bits 2 2 ++ (bits 6 v.index ++ zeros 4)))
unfolding run flags_run fields_run enumerated_run fixed_bits_run bits
cause_more v more = rw more refl

-- the roots of the five groups
cause_radio : (v : Cause) → v.group ≡ 0 → v.extended ≡ false → content_of (run types.cause v 0) ≡ bits 5 0 ++ (bits 6 (v.index - 0) ++ zeros 5)
unfolding run flags_run fields_run enumerated_run fixed_bits_run number_run bits cause_roots lib.Count.count_leading_zeros
cause_radio v group root = rw (group, root) refl

cause_transport : (v : Cause) → v.group ≡ 1 → v.extended ≡ false → content_of (run types.cause v 0) ≡ bits 5 2 ++ (bits 1 (v.index - 0) ++ zeros 2)
unfolding run flags_run fields_run enumerated_run fixed_bits_run number_run bits cause_roots lib.Count.count_leading_zeros
cause_transport v group root = rw (group, root) refl

cause_nas : (v : Cause) → v.group ≡ 2 → v.extended ≡ false → content_of (run types.cause v 0) ≡ bits 5 4 ++ (bits 2 (v.index - 0) ++ zeros 1)
unfolding run flags_run fields_run enumerated_run fixed_bits_run number_run bits cause_roots lib.Count.count_leading_zeros
cause_nas v group root = rw (group, root) refl

cause_protocol : (v : Cause) → v.group ≡ 3 → v.extended ≡ false → content_of (run types.cause v 0) ≡ bits 5 6 ++ (bits 3 (v.index - 0) ++ zeros 0)
unfolding run flags_run fields_run enumerated_run fixed_bits_run number_run bits cause_roots lib.Count.count_leading_zeros
cause_protocol v group root = rw (group, root) refl

cause_other : (v : Cause) → v.group ≡ 4 → v.extended ≡ false → content_of (run types.cause v 0) ≡ bits 5 8 ++ (bits 3 (v.index - 0) ++ zeros 0)
unfolding run flags_run fields_run enumerated_run fixed_bits_run number_run bits cause_roots lib.Count.count_leading_zeros
cause_other v group root = rw (group, root) refl

one_octet : (v : Cause) (n : ℕ) → content_of (run types.cause v 0) ≡ bits 8 n → cause_octets v ≡ n ∷ [] → Contains (run types.cause v 0) (cause_octets v)
unfolding bits_of
one_octet v n e octets = rw octets (e ∙ sym (append-nil (bits 8 n)), omega arith)

two_octets : (v : Cause) (n a b : ℕ) → content_of (run types.cause v 0) ≡ bits 16 n → n / 256 ≡ a → n % 256 ≡ b → cause_octets v ≡ a ∷ b ∷ [] → Contains (run types.cause v 0) (cause_octets v)
unfolding bits_of
two_octets v n a b e high low octets = rw octets (e ∙ two n ∙ rw (← octet n, high, low) (simp append-nil), omega arith)

more_is : (v : Cause) → v.extended ≡ true → v.group < 5 → v.index < 64 → Contains (run types.cause v 0) (cause_octets v)
unfolding cause_octets
more_is v more group few =
    let low = 2 * 2 ^ 10 + (v.index * 2 ^ 4 + 0) in
    let all = v.group * 2 ^ 12 + low in
    let n = 0 * 2 ^ 15 + all in
    let run : content_of (run types.cause v 0) ≡ bits 16 n = cause_more v more ∙ rw (framed 2 6 4 2 v.index (omega (arith, few)), join 3 12 v.group low (omega (arith, few)), join 1 15 0 all (omega (arith, few, group))) refl in
    two_octets v n (16 * v.group + 8 + v.index / 16) (v.index % 16 * 16) run (omega (arith, few, group)) (omega (arith, few, group)) (rw more refl)

root_is : (v : Cause) → v.extended ≡ false → v.group < 5 → v.index < cause_roots v.group → Contains (run types.cause v 0) (cause_octets v)
unfolding cause_octets cause_roots
root_is v root group right =
    let m : v.index - 0 ≡ v.index = omega arith in
    elim (cases_Bool (eqb v.group 0)) [
      | inl a ↦
          let g = eqb-true v.group 0 a in
          let few : v.index < 36 = rw g at right in
          two_octets v (0 * 2 ^ 11 + (v.index * 2 ^ 5 + 0)) (v.index / 8) (v.index % 8 * 32) (cause_radio v g root ∙ rw m (framed 5 6 5 0 v.index (omega (arith, few)))) (omega (arith, few)) (omega (arith, few)) (rw (root, g) refl)
      | inr a ↦
          elim (cases_Bool (eqb v.group 1)) [
            | inl b ↦
                let g = eqb-true v.group 1 b in
                let few : v.index < 2 = rw g at right in
                one_octet v (2 * 2 ^ 3 + (v.index * 2 ^ 2 + 0)) (cause_transport v g root ∙ rw m (framed 5 1 2 2 v.index (omega (arith, few)))) (rw (root, g) (ap (λ (x : ℕ). x ∷ []) (omega arith)))
            | inr b ↦
                elim (cases_Bool (eqb v.group 2)) [
                  | inl c ↦
                      let g = eqb-true v.group 2 c in
                      let few : v.index < 4 = rw g at right in
                      one_octet v (4 * 2 ^ 3 + (v.index * 2 ^ 1 + 0)) (cause_nas v g root ∙ rw m (framed 5 2 1 4 v.index (omega (arith, few)))) (rw (root, g) (ap (λ (x : ℕ). x ∷ []) (omega arith)))
                  | inr c ↦
                      elim (cases_Bool (eqb v.group 3)) [
                        | inl d ↦
                            let g = eqb-true v.group 3 d in
                            let few : v.index < 7 = rw g at right in
                            one_octet v (6 * 2 ^ 3 + (v.index * 2 ^ 0 + 0)) (cause_protocol v g root ∙ rw m (framed 5 3 0 6 v.index (omega (arith, few)))) (rw (root, g) (ap (λ (x : ℕ). x ∷ []) (omega arith)))
                        | inr d ↦
                            let g : v.group ≡ 4 = omega (arith, group, eqb-false v.group 0 a, eqb-false v.group 1 b, eqb-false v.group 2 c, eqb-false v.group 3 d) in
                            let few : v.index < 6 = rw g at right in
                            one_octet v (8 * 2 ^ 3 + (v.index * 2 ^ 0 + 0)) (cause_other v g root ∙ rw m (framed 5 3 0 8 v.index (omega (arith, few)))) (rw (root, g) (ap (λ (x : ℕ). x ∷ []) (omega arith)))
                      ]
                ]
          ]
    ]

pub cause_is : (v : Cause) → IsCause v → Contains (run types.cause v 0) (cause_octets v)
cause_is v right =
    elim (cases_Bool v.extended) [
      | inl more ↦ let few = rw more at right.1 in more_is v more right.0 few.1
      | inr root ↦ let few = rw root at right.1 in root_is v root right.0 few
    ]
