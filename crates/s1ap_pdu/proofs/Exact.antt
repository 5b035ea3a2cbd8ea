-- Reading is exact for the grammar of messages, its refusals too.
use Rattle.std.proofs.Common.{◌≡◌, ◌⊎◌, ℕ, Bool, true, false, List, length, Some, Result, Ok, Err, refl, sym, ap, ◌∙◌, subst, inl, inr}
use Rattle.echo_base.specs.declared.reason.Reason.TheVariants as reasons
use Rattle.echo_base.specs.declared.refusal.Refusal.{Refusal}
use Rattle.echo_base.specs.declared.refusal.Bad.{Bad}
use Rattle.echo_base.specs.declared.refusal.Bad.TheVariants.{Refused, OutOfMemory}
use Rattle.aper_fields.specs.Reading.{whole_at}
use Rattle.aper_fields.specs.Format.{WholeRefuses}
use Rattle.echo_base.proofs.Answers.{bind, bind_assoc, ok_of, err_of, ok_err, err_is}
use Rattle.aper_fields.proofs.Containers.{whole_found, whole_only, whole_wrong, whole_refused}
use Rattle.s1ap_pdu.specs.declared.tables.MessageKind.{MessageKind}
use Rattle.s1ap_pdu.specs.Messages.{rows_of}
use Rattle.s1ap_pdu.specs.declared.pdu.Pdu.{Pdu}
use Rattle.s1ap_pdu.specs.Messages.{kind_of, values_of, is_downlink}
use Rattle.s1ap_pdu.specs.Grammar as grammar
use Rattle.s1ap_pdu.specs.Grammar.{Ie, pdu_in, ies_in, start, AreIes, fields_of, Spells, SpellsUplink, RefusedUplink, missing}
use Rattle.protocol_ies.specs.Slots.{lacking}
use Rattle.s1ap_pdu.specs.Built.{at_end, message_at, received, uplink_at}
use Rattle.s1ap_pdu.specs.Messages.{message_from}
use Rattle.echo_base.specs.Answer.{Answers, IsAnswer}
use Rattle.s1ap_pdu.proofs.Frame.{pdu_kept_at, pdu_exactly}
use Rattle.s1ap_pdu.proofs.Kept.{slots_of, with_slots, whole_is}
use Rattle.s1ap_pdu.proofs.Makes.{AreTyped, in_order_typed, Makes, makes, filled_up, made_back, whole_values, missing_is}

-- the values of IEs that stand are of their ids
spelled_typed : (at : ℕ) (x : MessageKind × List Ie) (run : List _) → pdu_in.Spells at x run → AreTyped x.1
unfolding pdu_in ies_in
spelled_typed at x run s =
    let behind = s.5 in
    let opened = behind.4 in
    let held = opened.5.0 in
    let counted = held.1.5 in
    let same : x ≡ (s.0, behind.0) = behind.5.0 in
    subst (λ (y : MessageKind × List Ie). AreTyped y.1) (sym same) (in_order_typed s.0 _ _ behind.0 _ counted.5.1)

pub whole_typed : (octets : List ℕ) (kind : MessageKind) (ies : List Ie) → AreIes octets kind ies → AreTyped ies
whole_typed octets kind ies h = spelled_typed 0 (kind, ies) h.0 h.1

-- what reading makes of IEs that were kept
made : (octets : List ℕ) → message_at octets ≡ bind (whole_at pdu_kept_at (start octets)) (λ x. at_end (length octets) (message_from x.0 (slots_of x.0 x.1)))
unfolding message_at
made octets = ap (λ r. bind r (λ x. at_end (length octets) (message_from x.0 x.1))) (whole_is (start octets)) ∙ bind_assoc (whole_at pdu_kept_at (start octets)) (λ x. Ok (with_slots x)) (λ x. at_end (length octets) (message_from x.0 x.1))

ended_ok : (end : ℕ) (m : Result Pdu ℕ) (p : Pdu) → at_end end m ≡ Ok p → m ≡ Ok p
ended_ok end (Ok q) p e = ap (λ (q : Pdu). Ok q) (let h : ok_of q ≡ Ok p = e in cc)
ended_ok end (Err id) p e = absurd (ok_err _ _ (sym e))

ended_err : (end : ℕ) (m : Result Pdu ℕ) (e : Refusal) → at_end end m ≡ Err e → (id : ℕ) × (m ≡ Err id) × (e ≡ record { reason = reasons.MissingIe id; place = end })
ended_err end (Ok q) e h = absurd (ok_err _ _ h)
ended_err end (Err id) e h = (id, refl, sym (err_is _ e h))

-- ---- messages

makes_ok : (kind : MessageKind) (vs : List _) (m : Result Pdu ℕ) (p : Pdu) → Makes kind vs m → m ≡ Ok p → (kind_of p ≡ kind) × (values_of p ≡ vs)
makes_ok kind vs m p h e = subst (Makes kind vs) e h

makes_err : (kind : MessageKind) (vs : List _) (m : Result Pdu ℕ) (id : ℕ) → Makes kind vs m → m ≡ Err id → lacking (rows_of kind) vs ≡ Some id
makes_err kind vs m id h e = subst (Makes kind vs) e h

spells_in : (octets : List ℕ) (kind : MessageKind) (ies : List Ie) (p : Pdu) → AreIes octets kind ies → kind_of p ≡ kind → values_of p ≡ fields_of kind ies → Spells octets p
spells_in octets kind ies p h k v = (ies, subst (λ (x : MessageKind). AreIes octets x ies) (sym k) h, ap (λ (x : MessageKind). fields_of x ies) k ∙ sym v)

found_of : (octets : List ℕ) (p : Pdu) (r : Result (MessageKind × List Ie) Refusal) → whole_at pdu_kept_at (start octets) ≡ r → bind r (λ x. at_end (length octets) (message_from x.0 (slots_of x.0 x.1))) ≡ Ok p → Spells octets p
found_of octets p (Err d) read e = absurd (ok_err _ _ (sym e))
found_of octets p (Ok x) read e =
    let h : AreIes octets x.0 x.1 = whole_found pdu_in.Spells pdu_kept_at pdu_exactly.spells (start octets) x read in
    let m = message_from x.0 (slots_of x.0 x.1) in
    let is = makes_ok x.0 (fields_of x.0 x.1) m p (makes x.0 x.1 (whole_typed octets x.0 x.1 h)) (ended_ok (length octets) m p e) in
    spells_in octets x.0 x.1 p h is.0 is.1

pub found_message : (octets : List ℕ) (p : Pdu) → message_at octets ≡ Ok p → Spells octets p
found_message octets p e = found_of octets p (whole_at pdu_kept_at (start octets)) refl (sym (made octets) ∙ e)

pub only_message : (octets : List ℕ) (p : Pdu) → Spells octets p → message_at octets ≡ Ok p
only_message octets p s =
    let read : whole_at pdu_kept_at (start octets) ≡ Ok (kind_of p, s.0) = whole_only pdu_in.Spells pdu_kept_at pdu_exactly.spells (start octets) (kind_of p, s.0) s.1 in
    made octets ∙ rw read (ap (λ (vs : List _). at_end (length octets) (message_from (kind_of p) (filled_up (kind_of p) vs))) s.2 ∙ ap (at_end (length octets)) (made_back p))

-- ---- refusals

abbrev IsMissing : List ℕ → Refusal → Type 0
IsMissing octets e = (kind : MessageKind) × (ies : List Ie) × AreIes octets kind ies × (id : ℕ) × (missing (rows_of kind) ies ≡ Some id) × (e ≡ record { reason = reasons.MissingIe id; place = length octets })

wrong_of : (octets : List ℕ) (e : Refusal) (r : Result (MessageKind × List Ie) Refusal) → whole_at pdu_kept_at (start octets) ≡ r → bind r (λ x. at_end (length octets) (message_from x.0 (slots_of x.0 x.1))) ≡ Err e → WholeRefuses pdu_in (start octets) e ⊎ IsMissing octets e
wrong_of octets e (Err d) read h = inl (whole_wrong pdu_in pdu_kept_at pdu_exactly (start octets) e (read ∙ ap err_of (err_is {A = Pdu} d e h)))
wrong_of octets e (Ok x) read h =
    let here : AreIes octets x.0 x.1 = whole_found pdu_in.Spells pdu_kept_at pdu_exactly.spells (start octets) x read in
    let m = message_from x.0 (slots_of x.0 x.1) in
    let last = ended_err (length octets) m e h in
    let lacks = makes_err x.0 (fields_of x.0 x.1) m last.0 (makes x.0 x.1 (whole_typed octets x.0 x.1 here)) last.1 in
    inr (x.0, x.1, here, last.0, missing_is (rows_of x.0) x.1 ∙ lacks, last.2)

pub wrong_message : (octets : List ℕ) (e : Refusal) → message_at octets ≡ Err e → grammar.Refused octets e
wrong_message octets e h = wrong_of octets e (whole_at pdu_kept_at (start octets)) refl (sym (made octets) ∙ h)

-- the id that is missing is the one that is lacking
missing_made : (kind : MessageKind) (ies : List Ie) (end id : ℕ) (m : Result Pdu ℕ) → Makes kind (fields_of kind ies) m → missing (rows_of kind) ies ≡ Some id → at_end end m ≡ Err (record { reason = reasons.MissingIe id; place = end })
missing_made kind ies end id (Ok p) h e =
    let lacks : lacking (rows_of (kind_of p)) (values_of p) ≡ Some id = ap (λ (k : MessageKind). lacking (rows_of k) (values_of p)) h.0 ∙ ap (lacking (rows_of kind)) h.1 ∙ sym (missing_is (rows_of kind) ies) ∙ e in
    let none = whole_values p in
    absurd cc
missing_made kind ies end id (Err d) h e =
    let same : Some d ≡ Some id = sym h ∙ sym (missing_is (rows_of kind) ies) ∙ e in
    let is : d ≡ id = cc in
    ap (λ i. err_of (record { reason = reasons.MissingIe i; place = end })) is

pub refused_message : (octets : List ℕ) (e : Refusal) → grammar.Refused octets e → message_at octets ≡ Err e
refused_message octets e h =
    elim h [
      | inl wrong ↦ made octets ∙ rw (whole_refused pdu_in pdu_kept_at pdu_exactly (start octets) e wrong) refl
      | inr x ↦
          let read : whole_at pdu_kept_at (start octets) ≡ Ok (x.0, x.1) = whole_only pdu_in.Spells pdu_kept_at pdu_exactly.spells (start octets) (x.0, x.1) x.2 in
          let m = message_from x.0 (slots_of x.0 x.1) in
          made octets ∙ rw read (missing_made x.0 x.1 (length octets) x.3 m (makes x.0 x.1 (whole_typed octets x.0 x.1 x.2)) x.4 ∙ ap err_of (sym x.5))
    ]

-- ---- what a call answers

pub message_answers : (octets : List ℕ) (r : Result Pdu Bad) → IsAnswer (message_at octets) r → Answers (Spells octets) (grammar.Refused octets) (Unit {0}) r
message_answers octets (Ok p) h = found_message octets p h
message_answers octets (Err (Refused e)) h = wrong_message octets e h
message_answers octets (Err OutOfMemory) h = tt

-- of messages that an MME receives

received_ok : (p q : Pdu) (b : Bool) → is_downlink (kind_of p) ≡ b → received p b ≡ Ok q → (p ≡ q) × (is_downlink (kind_of q) ≡ false)
received_ok p q true is e = absurd (ok_err _ _ (sym e))
received_ok p q false is e =
    let same : p ≡ q = let h : ok_of p ≡ Ok q = e in cc in
    (same, ap (λ (x : Pdu). is_downlink (kind_of x)) (sym same) ∙ is)

received_err : (p : Pdu) (e : Refusal) (b : Bool) → is_downlink (kind_of p) ≡ b → received p b ≡ Err e → (is_downlink (kind_of p) ≡ true) × (e ≡ record { reason = reasons.WrongDirection; place = 1 })
received_err p e true is h = (is, sym (err_is _ e h))
received_err p e false is h = absurd (ok_err _ _ h)

pub uplink_found : (octets : List ℕ) (p : Pdu) (r : Result Pdu Refusal) → message_at octets ≡ r → bind r (λ q. received q (is_downlink (kind_of q))) ≡ Ok p → SpellsUplink octets p
uplink_found octets p (Err d) read e = absurd (ok_err _ _ (sym e))
uplink_found octets p (Ok q) read e =
    let is = received_ok q p (is_downlink (kind_of q)) refl e in
    (found_message octets p (read ∙ ap ok_of is.0), is.1)

uplink_wrong : (octets : List ℕ) (e : Refusal) (r : Result Pdu Refusal) → message_at octets ≡ r → bind r (λ q. received q (is_downlink (kind_of q))) ≡ Err e → RefusedUplink octets e
uplink_wrong octets e (Err d) read h = inl (wrong_message octets e (read ∙ h))
uplink_wrong octets e (Ok q) read h =
    let is = received_err q e (is_downlink (kind_of q)) refl h in
    inr (q, found_message octets q read, is.0, is.1)

pub uplink_answers : (octets : List ℕ) (r : Result Pdu Bad) → IsAnswer (uplink_at octets) r → Answers (SpellsUplink octets) (RefusedUplink octets) (Unit {0}) r
unfolding uplink_at
uplink_answers octets (Ok p) h = uplink_found octets p (message_at octets) refl h
uplink_answers octets (Err (Refused e)) h = uplink_wrong octets e (message_at octets) refl h
uplink_answers octets (Err OutOfMemory) h = tt

pub only_uplink : (octets : List ℕ) (p : Pdu) → SpellsUplink octets p → uplink_at octets ≡ Ok p
unfolding uplink_at
only_uplink octets p s = rw (only_message octets p s.0, s.1) refl

pub refused_uplink : (octets : List ℕ) (e : Refusal) → RefusedUplink octets e → uplink_at octets ≡ Err e
unfolding uplink_at
refused_uplink octets e h =
    elim h [
      | inl wrong ↦ rw (refused_message octets e wrong) refl
      | inr x ↦ rw (only_message octets x.0 x.1, x.2) (ap err_of (sym x.3))
    ]
