-- What is written piece by piece is the run of the message.
use Rattle.std.proofs.Common.{◌≡◌, ℕ, ◌-◌, Bool, cond, List, [], ◌∷◌, ◌++◌, length, take, replicate, Option, Some, None, is_some, Result, OnOk, refl, sym, ap, ◌∙◌, subst, arith}
use Rattle.std.proofs.lemmas.List.{take_at, take-map}
use Rattle.std.proofs.lemmas.List.Sums.{sum_by-cons}
use Rattle.aper_fields.specs.Run.{then_written}
use Rattle.s1ap_pdu.specs.declared.tables.MessageKind.{MessageKind}
use Rattle.s1ap_pdu.specs.Messages.{rows_of}
use Rattle.s1ap_pdu.specs.declared.pdu.Pdu.{Pdu}
use Rattle.s1ap_pdu.specs.declared.pdu.Pdu.TheVariants as pdus
use Rattle.s1ap_pdu.specs.Values.{FieldValue}
use Rattle.s1ap_pdu.specs.Messages.{kind_of, values_of}
use Rattle.s1ap_pdu.specs.Values.{LentValue, seen, all_seen}
use Rattle.protocol_ies.specs.Slots.{count_of}
use Rattle.s1ap_pdu.specs.Run.{ies_run}

-- a message has a value, or none, for each row of its table
pub values-length : (p : Pdu) → length (values_of p) ≡ length (rows_of (kind_of p))
values-length (pdus.InitialUeMessage enb nas tai cgi rrc stmsi) = refl
values-length _ = refl

-- the values of a message, without what stands behind them
pub values_front : (p : Pdu) (kind : MessageKind) (values : List (Option LentValue)) (len : ℕ) → kind ≡ kind_of p → len ≡ length (rows_of kind) → all_seen values ≡ values_of p ++ replicate (6 - length (rows_of (kind_of p))) None → all_seen (take len values) ≡ values_of p
values_front p kind values len k l seen =
    let n : len ≡ length (values_of p) = l ∙ ap (λ x. length (rows_of x)) k ∙ sym (values-length p) in
    sym (take-map _ len values) ∙ ap (take len) seen ∙ take_at (values_of p) _ len (sym n)

-- as many values are seen as are lent
pub count_seen : (values : List (Option LentValue)) → count_of (all_seen values) ≡ count_of values
count_seen [] = refl
count_seen (None ∷ values) =
    let one = sum_by-cons (λ (v : Option FieldValue). cond (is_some v) 1 0) None (all_seen values) in
    let other = sum_by-cons (λ (v : Option LentValue). cond (is_some v) 1 0) None values in
    omega (arith, count_seen values, one, other)
count_seen (Some v ∷ values) =
    let one = sum_by-cons (λ (v : Option FieldValue). cond (is_some v) 1 0) (Some (seen v)) (all_seen values) in
    let other = sum_by-cons (λ (v : Option LentValue). cond (is_some v) 1 0) (Some v) values in
    omega (arith, count_seen values, one, other)

pub body_is : {A E : Type 0} (p : Pdu) (kind : MessageKind) (front : List (Option FieldValue)) (r : Result A E) (old new : List Bool) → kind ≡ kind_of p → front ≡ values_of p → OnOk r (new ≡ then_written old (ies_run kind front)) → OnOk r (new ≡ then_written old (ies_run (kind_of p) (values_of p)))
body_is p kind front r old new k v h = subst (λ (x : MessageKind). OnOk r (new ≡ then_written old (ies_run x (values_of p)))) k (subst (λ (x : List (Option FieldValue)). OnOk r (new ≡ then_written old (ies_run kind x))) v h)
