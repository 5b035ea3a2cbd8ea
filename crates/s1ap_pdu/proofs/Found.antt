-- What is found of a message before memory is taken: its kind, and slots from which it comes.
use Rattle.std.proofs.Common.{◌≡◌, ℕ, Bool, true, false, List, [], ◌∷◌, ◌++◌, length, map, replicate, cond, ◌&&◌, ◌-◌, Option, Some, None, is_none, Result, Ok, Err, IsOk, IsOkAnd, refl, sym, ap, ◌∙◌, subst}
use Rattle.echo_base.specs.declared.reason.Reason.TheVariants as reasons
use Rattle.echo_base.specs.declared.refusal.Refusal.{Refusal}
use Rattle.echo_base.specs.declared.refusal.Bad.{Bad}
use Rattle.echo_base.specs.declared.refusal.Bad.TheVariants.{Refused, OutOfMemory}
use Rattle.aper_fields.specs.Reading.{whole_at}
use Rattle.echo_base.proofs.Answers.{bind, ok_of, ok_err, answers_refused}
use Rattle.aper_fields.proofs.Containers.{whole_found}
use Rattle.protocol_ies.specs.declared.tables.IeRow.{IeRow}
use Rattle.s1ap_pdu.specs.declared.tables.MessageKind.{MessageKind}
use Rattle.s1ap_pdu.specs.Messages.{rows_of}
use Rattle.s1ap_pdu.specs.declared.pdu.Pdu.{Pdu}
use Rattle.s1ap_pdu.specs.Messages.{kind_of, values_of, is_downlink}
use Rattle.s1ap_pdu.specs.Grammar as grammar
use Rattle.s1ap_pdu.specs.Grammar.{Ie, found, fields_of, pdu_in, start, AreIes, Spells, SpellsUplink, RefusedUplink}
use Rattle.protocol_ies.specs.Slots.{lacking}
use Rattle.s1ap_pdu.specs.Reading.{pdu_at}
use Rattle.s1ap_pdu.specs.Rows.{Slots}
use Rattle.s1ap_pdu.specs.Built.{at_end, message_at, received, uplink_at}
use Rattle.s1ap_pdu.specs.Messages.{message_from}
use Rattle.echo_base.specs.Answer.{IsAnswer}
use Rattle.s1ap_pdu.specs.Memory.{takes_memory, IsFound, IsRead}
use Rattle.s1ap_pdu.specs.Values.{FieldValue}
use Rattle.s1ap_pdu.proofs.Frame.{pdu_kept_at, pdu_exactly}
use Rattle.s1ap_pdu.proofs.Kept.{with_slots, whole_is}
use Rattle.s1ap_pdu.proofs.Makes.{Makes, makes, whole_values}
use Rattle.s1ap_pdu.proofs.Exact.{whole_typed, found_message, refused_message, refused_uplink, uplink_found}

abbrev made_of : Pdu → Result Pdu ℕ
made_of p = Ok p

-- ---- slots from which a message comes

-- places behind a table lack nothing
lacking-more : (rows : List IeRow) (f : IeRow → Option FieldValue) (more : Slots) → lacking rows (map f rows ++ more) ≡ lacking rows (map f rows)
unfolding lacking
lacking-more [] f more = refl
lacking-more (row ∷ rows) f more = ap (λ o. cond (row.needed && is_none (f row)) (Some row.id) o) (lacking-more rows f more)

-- what is made of slots goes by the values of a kind, and so does what they lack
abbrev GoesBy : MessageKind × Slots → Type 0
GoesBy x = (values : Slots) × Makes x.0 values (message_from x.0 x.1) × (lacking (rows_of x.0) x.1 ≡ lacking (rows_of x.0) values)

goes_by : (octets : List ℕ) (x : MessageKind × Slots) (r : Result (MessageKind × List Ie) Refusal) → whole_at pdu_kept_at (start octets) ≡ r → bind r (λ y. Ok (with_slots y)) ≡ Ok x → GoesBy x
goes_by octets x (Err d) read e = absurd (ok_err _ _ (sym e))
goes_by octets x (Ok y) read e =
    let here : AreIes octets y.0 y.1 = whole_found pdu_in.Spells pdu_kept_at pdu_exactly.spells (start octets) y read in
    let same : with_slots y ≡ x = let h : ok_of (with_slots y) ≡ Ok x = e in cc in
    subst GoesBy same (fields_of y.0 y.1, makes y.0 y.1 (whole_typed octets y.0 y.1 here), lacking-more (rows_of y.0) (λ row. found row.id y.1) (replicate (6 - length (rows_of y.0)) None))

all_there : (kind : MessageKind) (values : Slots) (m : Result Pdu ℕ) → Makes kind values m → lacking (rows_of kind) values ≡ None → (p : Pdu) × (m ≡ Ok p) × (kind_of p ≡ kind)
all_there kind values (Ok p) h none = (p, refl, h.0)
all_there kind values (Err id) h none = absurd (let e : Some id ≡ None = sym h ∙ none in cc)

one_missing : (kind : MessageKind) (values : Slots) (m : Result Pdu ℕ) (id : ℕ) → Makes kind values m → lacking (rows_of kind) values ≡ Some id → m ≡ Err id
one_missing kind values (Ok p) id h some =
    let lacks : lacking (rows_of (kind_of p)) (values_of p) ≡ Some id = ap (λ (k : MessageKind). lacking (rows_of k) (values_of p)) h.0 ∙ ap (lacking (rows_of kind)) h.1 ∙ some in
    let none = whole_values p in
    absurd cc
one_missing kind values (Err d) id h some =
    let e : Some d ≡ Some id = sym h ∙ some in
    let is : d ≡ id = cc in
    ap (λ i. Err i) is

parts : (octets : List ℕ) (x : MessageKind × Slots) → whole_at pdu_at (start octets) ≡ Ok x → GoesBy x
parts octets x read = goes_by octets x (whole_at pdu_kept_at (start octets)) refl (sym (whole_is (start octets)) ∙ read)

pub wrong_parts : (octets : List ℕ) (e : Refusal) → whole_at pdu_at (start octets) ≡ Err e → message_at octets ≡ Err e
unfolding message_at
wrong_parts octets e read = rw read refl

at_whole : (octets : List ℕ) (x : MessageKind × Slots) → whole_at pdu_at (start octets) ≡ Ok x → message_at octets ≡ at_end (length octets) (message_from x.0 x.1)
unfolding message_at
at_whole octets x read = rw read refl

pub found_whole : (octets : List ℕ) (x : MessageKind × Slots) → whole_at pdu_at (start octets) ≡ Ok x → lacking (rows_of x.0) x.1 ≡ None → IsFound (message_at octets) (Ok x)
found_whole octets x read none =
    let by = parts octets x read in
    let is = all_there x.0 by.0 (message_from x.0 x.1) by.1 (sym by.2 ∙ none) in
    (is.0, at_whole octets x read ∙ ap (at_end (length octets)) is.1, is.1, is.2)

pub found_lacking : (octets : List ℕ) (x : MessageKind × Slots) (id : ℕ) → whole_at pdu_at (start octets) ≡ Ok x → lacking (rows_of x.0) x.1 ≡ Some id → message_at octets ≡ Err (record { reason = reasons.MissingIe id; place = length octets })
found_lacking octets x id read some =
    let by = parts octets x read in
    let is = one_missing x.0 by.0 (message_from x.0 x.1) id by.1 (sym by.2 ∙ some) in
    at_whole octets x read ∙ ap (at_end (length octets)) is

-- ---- what is read

abbrev Takes : Pdu → Type 0
Takes p = takes_memory p ≡ true

pub found_ok : (read : Result Pdu Refusal) (x : MessageKind × Slots) (p : Pdu) → IsFound read (Ok x) → message_from x.0 x.1 ≡ Ok p → read ≡ Ok p
found_ok read x p f made =
    let h : made_of f.0 ≡ Ok p = sym f.2 ∙ made in
    let same : f.0 ≡ p = cc in
    f.1 ∙ ap ok_of same

pub found_short : (read : Result Pdu Refusal) (x : MessageKind × Slots) → IsFound read (Ok x) → IsOkAnd (message_from x.0 x.1) (λ p. takes_memory p ≡ true) → IsOkAnd read (λ p. takes_memory p ≡ true)
found_short read x f short = rw f.1 (subst (λ (r : Result Pdu ℕ). IsOkAnd r Takes) f.2 short)

pub found_made : (read : Result Pdu Refusal) (x : MessageKind × Slots) → IsFound read (Ok x) → IsOk (message_from x.0 x.1)
found_made read x f = rw f.2 refl

-- of messages that an MME receives

uplink_is : (octets : List ℕ) (x : MessageKind × Slots) (b : Bool) → (f : IsFound (message_at octets) (Ok x)) → is_downlink x.0 ≡ b → uplink_at octets ≡ received f.0 b
unfolding uplink_at
uplink_is octets x b f e =
    let is : is_downlink (kind_of f.0) ≡ b = ap is_downlink f.3 ∙ e in
    rw (f.1, is) refl

pub uplink_ok : (octets : List ℕ) (x : MessageKind × Slots) (p : Pdu) → IsFound (message_at octets) (Ok x) → is_downlink x.0 ≡ false → message_from x.0 x.1 ≡ Ok p → uplink_at octets ≡ Ok p
uplink_ok octets x p f e made =
    let h : made_of f.0 ≡ Ok p = sym f.2 ∙ made in
    let same : f.0 ≡ p = cc in
    uplink_is octets x false f e ∙ ap ok_of same

pub uplink_other : (octets : List ℕ) (x : MessageKind × Slots) → IsFound (message_at octets) (Ok x) → is_downlink x.0 ≡ true → uplink_at octets ≡ Err (record { reason = reasons.WrongDirection; place = 1 })
uplink_other octets x f e = uplink_is octets x true f e

pub uplink_short : (octets : List ℕ) (x : MessageKind × Slots) → IsFound (message_at octets) (Ok x) → is_downlink x.0 ≡ false → IsOkAnd (message_from x.0 x.1) (λ p. takes_memory p ≡ true) → IsOkAnd (uplink_at octets) (λ p. takes_memory p ≡ true)
uplink_short octets x f e short = rw (uplink_is octets x false f e) (subst (λ (r : Result Pdu ℕ). IsOkAnd r Takes) f.2 short)

pub uplink_refused : (octets : List ℕ) (e : Refusal) → message_at octets ≡ Err e → uplink_at octets ≡ Err e
unfolding uplink_at
uplink_refused octets e h = rw h refl

-- ---- what a call answers

pub read_answer : (read : Result Pdu Refusal) (r : Result Pdu Bad) → IsRead read r → IsAnswer read r
read_answer read (Ok p) h = h
read_answer read (Err (Refused e)) h = h
read_answer read (Err OutOfMemory) h = tt

-- a refusal is given whatever memory there is
pub refused_read : (octets : List ℕ) (r : Result Pdu Bad) (e : Refusal) → IsRead (message_at octets) r → grammar.Refused octets e → r ≡ Err (Refused e)
refused_read octets r e h due = answers_refused Takes (message_at octets) r h e (refused_message octets e due)

pub refused_received : (octets : List ℕ) (r : Result Pdu Bad) (e : Refusal) → IsRead (uplink_at octets) r → RefusedUplink octets e → r ≡ Err (Refused e)
refused_received octets r e h due = answers_refused Takes (uplink_at octets) r h e (refused_uplink octets e due)

-- memory runs out for a message that takes some
short : (read : Result Pdu Refusal) (r : Result Pdu Bad) → IsRead read r → r ≡ Err OutOfMemory → (p : Pdu) × (read ≡ Ok p) × Takes p
short read (Ok p) h e = absurd cc
short read (Err (Refused d)) h e = absurd cc
short (Ok p) (Err OutOfMemory) h e = (p, refl, h)
short (Err d) (Err OutOfMemory) h e = absurd h

pub short_read : (octets : List ℕ) (r : Result Pdu Bad) → IsRead (message_at octets) r → r ≡ Err OutOfMemory → (p : Pdu) × Spells octets p × (takes_memory p ≡ true)
short_read octets r h e =
    let is = short (message_at octets) r h e in
    (is.0, found_message octets is.0 is.1, is.2)

pub short_received : (octets : List ℕ) (r : Result Pdu Bad) → IsRead (uplink_at octets) r → r ≡ Err OutOfMemory → (p : Pdu) × SpellsUplink octets p × (takes_memory p ≡ true)
unfolding uplink_at
short_received octets r h e =
    let is = short (uplink_at octets) r h e in
    (is.0, uplink_found octets is.0 (message_at octets) refl is.1, is.2)
