-- Which identity octets are is decided.
use Rattle.std.proofs.Common.{◌≡◌, ℕ, ◌+◌, ◌*◌, ◌<◌, Bool, true, false, cond, ltb, eqb, List, [], ◌∷◌, ◌++◌, length, take, drop, Option, Some, None, refl, sym, ap, ◌∙◌, subst, All, fold, arith}
use Rattle.std.proofs.lemmas.Bool.{ltb-false, le-ltb, eqb-true, eq-eqb}
use Rattle.std.proofs.lemmas.List.{drop_at, take-append-drop, length-append, length-take, length-drop}
use Rattle.std.proofs.lemmas.List.Elements.{All-nil, All-cons, All-head, All-tail}
use Rattle.std.proofs.lemmas.Option.{same_Some}
use Rattle.std.specs.Int.{w32, from_be_bytes}
use Rattle.echo_base.specs.Format.{Decides}
use Rattle.echo_base.specs.declared.identity.Identity.{Identity}
use Rattle.echo_base.specs.declared.identity.Identity.TheVariants.{Imsi, Tmsi}
use Rattle.nas_kinds.specs.Identity.{halves, IsImsi, IsGuti, IsIdentity}
use Rattle.nas_kinds.specs.Reading.{decimal_from, imsi_of_halves, imsi_of, guti_of, identity_by, identity_of}

-- ---- decided by a test

-- a test that has to hold
pub if_some : {B : Type 0} (b : Bool) (o : Option B) (w : B) → cond b o None ≡ Some w → (b ≡ true) × (o ≡ Some w)
if_some true o w h = (refl, h)
if_some false o w h = absurd cc

-- a test that must not hold
pub unless_some : {B : Type 0} (b : Bool) (o : Option B) (w : B) → cond b None o ≡ Some w → (b ≡ false) × (o ≡ Some w)
unless_some true o w h = absurd cc
unless_some false o w h = (refl, h)

-- ---- IMSI

abbrev IsDecimal : ℕ → List ℕ → ℕ → Type 0
IsDecimal number digits end = All (λ digit. digit < 10) digits × (end ≡ fold (λ number digit. 10 * number + digit) number digits)

decimal_found : (number : ℕ) (digits : List ℕ) (end : ℕ) → decimal_from number digits ≡ Some end → IsDecimal number digits end
decimal_found number [] end h = (All-nil (λ digit. digit < 10), sym (same_Some _ _ h))
decimal_found number (digit ∷ digits) end h =
    let t = unless_some (ltb 9 digit) (decimal_from (10 * number + digit) digits) end h in
    let more = decimal_found (10 * number + digit) digits end t.1 in
    let here : digit < 10 = omega (arith, ltb-false _ _ t.0) in
    (All-cons (λ digit. digit < 10) digit digits here more.0, more.1)

decimal_only : (number : ℕ) (digits : List ℕ) (end : ℕ) → IsDecimal number digits end → decimal_from number digits ≡ Some end
decimal_only number [] end h = ap (λ (n : ℕ). let o : Option ℕ = Some n in o) (sym h.1)
decimal_only number (digit ∷ digits) end h =
    let here : digit < 10 = All-head (λ digit. digit < 10) digit digits h.0 in
    rw (le-ltb 9 digit (omega arith)) (decimal_only (10 * number + digit) digits end (All-tail (λ digit. digit < 10) digit digits h.0, h.1))

-- the halves of an IMSI
halves_found : (halves : List ℕ) (imsi : ℕ) → imsi_of_halves halves ≡ Some imsi → (digits : List ℕ) × (halves ≡ 9 ∷ digits) × IsDecimal 0 digits imsi
halves_found [] imsi h = absurd cc
halves_found (type ∷ digits) imsi h =
    let t = if_some (eqb type 9) (decimal_from 0 digits) imsi h in
    (digits, ap (λ x. x ∷ digits) (eqb-true type 9 t.0), decimal_found 0 digits imsi t.1)

imsi_decides : (octets : List ℕ) → Decides (imsi_of octets) (IsImsi octets)
imsi_decides octets = record {
  found = λ imsi h.
      let t = if_some (eqb (length octets) 8) (imsi_of_halves (halves octets)) imsi h in
      let x = halves_found (halves octets) imsi t.1 in
      (x.0, eqb-true _ _ t.0, x.1, x.2.0, x.2.1);
  only = λ imsi p. rw (eq-eqb (length octets) 8 p.1, p.2) (decimal_only 0 p.0 imsi (p.3, p.4));
}

-- ---- GUTI

guti_found : (octets : List ℕ) (tmsi : ℕ) → guti_of octets ≡ Some tmsi → IsGuti octets tmsi
guti_found [] tmsi h = absurd cc
guti_found (type ∷ octets) tmsi h =
    let t = if_some (eqb type 0xf6) (cond (eqb (length octets) 10) (Some (from_be_bytes w32 (drop 6 octets))) None) tmsi h in
    let u = if_some (eqb (length octets) 10) (Some (from_be_bytes w32 (drop 6 octets))) tmsi t.1 in
    let len : length octets ≡ 10 = eqb-true _ _ u.0 in
    let kind : type ≡ 0xf6 = eqb-true _ _ t.0 in (
      take 6 octets,
      drop 6 octets,
      ap (λ x. x ∷ octets) kind ∙ ap (λ (l : List ℕ). 0xf6 ∷ l) (sym (take-append-drop 6 octets)),
      omega (arith, length-take 6 octets),
      omega (arith, length-drop 6 octets),
      sym (same_Some _ _ u.1),
    )

guti_only : (octets : List ℕ) (tmsi : ℕ) → IsGuti octets tmsi → guti_of octets ≡ Some tmsi
guti_only octets tmsi p =
    let len : eqb (length (p.0 ++ p.1)) 10 ≡ true = eq-eqb _ _ (omega (arith, length-append p.0 p.1, p.3, p.4)) in
    rw (p.2, len, drop_at p.0 p.1 6 p.3, p.5) refl

-- ---- either

-- an IMSI has eight octets, and a GUTI eleven
apart : (octets : List ℕ) (imsi tmsi : ℕ) → IsImsi octets imsi → IsGuti octets tmsi → ⊥
apart octets imsi tmsi p q = absurd (omega (arith, p.1, ap length q.2, length-append q.0 q.1, q.3, q.4))

by_found : (octets : List ℕ) (imsi guti : Option ℕ) (w : Identity) → ((n : ℕ) → imsi ≡ Some n → IsImsi octets n) → ((n : ℕ) → guti ≡ Some n → IsGuti octets n) → identity_by imsi guti ≡ Some w → IsIdentity octets w
by_found octets (Some imsi) guti w p q h = subst (IsIdentity octets) (same_Some _ _ h) (p imsi refl)
by_found octets None (Some tmsi) w p q h = subst (IsIdentity octets) (same_Some _ _ h) (q tmsi refl)
by_found octets None None w p q h = absurd cc

-- no IMSI is there where a GUTI is
no_imsi : (octets : List ℕ) (imsi : Option ℕ) (tmsi : ℕ) → ((n : ℕ) → imsi ≡ Some n → IsImsi octets n) → IsGuti octets tmsi → imsi ≡ None
no_imsi octets (Some imsi) tmsi p q = absurd (apart octets imsi tmsi (p imsi refl) q)
no_imsi octets None tmsi p q = refl

identity_only : (octets : List ℕ) (w : Identity) → IsIdentity octets w → identity_of octets ≡ Some w
unfolding identity_of
identity_only octets (Imsi imsi) p = rw ((imsi_decides octets).only imsi p) refl
identity_only octets (Tmsi tmsi) p = rw (no_imsi octets (imsi_of octets) tmsi (imsi_decides octets).found p, guti_only octets tmsi p) refl

pub identity_decides : (octets : List ℕ) → Decides (identity_of octets) (IsIdentity octets)
unfolding identity_of
identity_decides octets = record {
  found = λ w h. by_found octets (imsi_of octets) (guti_of octets) w (imsi_decides octets).found (guti_found octets) h;
  only = identity_only octets;
}
