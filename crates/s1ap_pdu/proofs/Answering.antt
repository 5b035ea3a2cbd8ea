-- Octets have one answer.
use Rattle.std.proofs.Common.{◌≡◌, ◌⊎◌, ℕ, ◌+◌, ◌/◌, ◌<◌, Bool, false, eqb, List, [], ◌∷◌, ◌++◌, length, Result, Ok, Err, refl, sym, ap, ◌∙◌, append_assoc, inl, inr, arith}
use Rattle.std.proofs.lemmas.Bool.{ne_eqb}
use Rattle.std.proofs.lemmas.List.{length-append}
use Rattle.echo_base.specs.declared.reason.Reason.TheVariants as reasons
use Rattle.echo_base.specs.declared.refusal.Refusal.{Refusal}
use Rattle.aper_fields.specs.Bits.{bits_of, zeros, gap}
use Rattle.aper_fields.proofs.BitLaws.{length-bits_of, bits_of-append}
use Rattle.aper_fields.proofs.Octet.{input}
use Rattle.echo_base.proofs.Answers.{ok_of, ok_err, err_is}
use Rattle.s1ap_pdu.specs.declared.pdu.Pdu.{Pdu}
use Rattle.s1ap_pdu.specs.Messages.{kind_of}
use Rattle.s1ap_pdu.specs.Grammar.{Spells, Refused}
use Rattle.s1ap_pdu.specs.Built.{message_at}
use Rattle.s1ap_pdu.proofs.Frame.{pdu_some}
use Rattle.aper_fields.proofs.Opens.{closing_some}
use Rattle.s1ap_pdu.proofs.Exact.{found_message, only_message, wrong_message, refused_message}

pub one_message : (octets : List ℕ) (p q : Pdu) → Spells octets p → Spells octets q → p ≡ q
one_message octets p q s t = let e : ok_of p ≡ Ok q = sym (only_message octets p s) ∙ only_message octets q t in cc

pub one_refusal : (octets : List ℕ) (d e : Refusal) → Refused octets d → Refused octets e → d ≡ e
one_refusal octets d e s t = err_is {A = Pdu} d e (sym (refused_message octets d s) ∙ refused_message octets e t)

pub not_both : (octets : List ℕ) (p : Pdu) (e : Refusal) → Spells octets p → Refused octets e → ⊥
not_both octets p e s t = ok_err p e (sym (only_message octets p s) ∙ refused_message octets e t)

one_of : (octets : List ℕ) (r : Result Pdu Refusal) → message_at octets ≡ r → ((p : Pdu) × Spells octets p) ⊎ ((e : Refusal) × Refused octets e)
one_of octets (Ok p) read = inl (p, found_message octets p read)
one_of octets (Err e) read = inr (e, wrong_message octets e read)

pub either_one : (octets : List ℕ) → ((p : Pdu) × Spells octets p) ⊎ ((e : Refusal) × Refused octets e)
either_one octets = one_of octets (message_at octets) refl

-- octets behind a message are refused at the first of them
pub trailing : (octets more : List ℕ) (p : Pdu) → Spells octets p → 0 < length more → Refused (octets ++ more) (record { reason = reasons.TrailingBytes; place = length octets })
trailing octets more p s some =
    let run = s.1.0 in
    let some_bits : 0 < length run = pdu_some 0 (kind_of p, s.0) run s.1.1 in
    let here : bits_of octets ≡ run ++ zeros (gap (0 + length run)) = s.1.2 ∙ ap (λ n. run ++ zeros n) (closing_some 0 run some_bits) in
    let pad = zeros (gap (0 + length run)) in
    let behind = input (0 + length run) (pad ++ bits_of more) in
    let last = input (0 + length run + length pad) (bits_of more) in
    let left : bits_of (octets ++ more) ≡ run ++ (pad ++ bits_of more) = bits_of-append octets more ∙ ap (λ (l : List Bool). l ++ bits_of more) here ∙ append_assoc run pad (bits_of more) in
    let place : length octets ≡ (0 + length run + length pad) / 8 = omega (arith, ap length here, length-bits_of octets, length-append run pad) in
    let moved : eqb (0 + length run) 0 ≡ false = ne_eqb _ _ (λ e. absurd (omega (arith, e, some_bits))) in
    inl (inr ((kind_of p, s.0), behind, (run, s.1.1, left, refl), rw moved (inr (tt, last, (pad, refl, refl, refl), omega (arith, some, length-bits_of more), ap (λ n. record { reason = reasons.TrailingBytes; place = n }) place))))

none_more : (more : List ℕ) → (0 < length more → ⊥) → more ≡ []
none_more [] none = refl
none_more (octet ∷ more) none = absurd (none (omega arith))

pub one_front : (octets more : List ℕ) (p q : Pdu) → Spells octets p → Spells (octets ++ more) q → more ≡ []
one_front octets more p q s t = none_more more (λ some. not_both (octets ++ more) q _ t (trailing octets more p s some))
