-- What is written is read as the same message.
use Rattle.std.proofs.Common.{◌≡◌, ℕ, ◌+◌, ◌-◌, ◌/◌, ◌%◌, ◌^◌, ◌<◌, ◌≤◌, Bool, true, false, cond, eqb, List, [], ◌∷◌, ◌++◌, length, Some, None, refl, sym, ap, ◌∙◌, subst, inl, inr, arith}
use Rattle.std.proofs.lemmas.Bool.{eqb-true}
use Rattle.std.proofs.lemmas.List.{append-nil, length-append}
use Rattle.echo_base.specs.Field.{number_run}
use Rattle.echo_base.proofs.Fields.{number_back}
use Rattle.tlv_elements.specs.Element.{Element, truncated}
use Rattle.tlv_elements.specs.Reading.{is_of}
use Rattle.tlv_elements.specs.Grammar.{Rows, Framed, named, first, HoldsAll, law_of, RightBy, IsRight, AreRight, lacks, Law, law, laws, value, and_then, rows_run}
use Rattle.tlv_elements.specs.Piece.{piece_in, given_in}
use Rattle.tlv_elements.proofs.Digits.{coded_length}
use Rattle.tlv_elements.proofs.Writes.{IsWritten, NamedAll, WrittenAll, FitsAll, written_holds, rows_pairs, of_itself}
use Rattle.gtp2_ies.specs.Frame.{frame_in, frame_run, gtp}
use Rattle.gtp2_ies.specs.Picking.{found, other_than_16, rejecting}
use Rattle.gtp2_ies.specs.Values.{cause, pair_run}
use Rattle.gtp2_ies.proofs.ImsiLaws.{imsi_length}
use Rattle.gtp2_wire.specs.declared.gtp.Gtp.{Gtp}
use Rattle.gtp2_wire.specs.declared.gtp.GtpBody.{GtpBody}
use Rattle.gtp2_wire.specs.declared.gtp.GtpBody.TheVariants as body
use Rattle.gtp2_wire.specs.declared.kind.Kind.{Kind}
use Rattle.gtp2_wire.specs.declared.kind.Kind.TheVariants as kinds
use Rattle.gtp2_wire.specs.Header.{Header}
use Rattle.gtp2_wire.specs.Kinds.{type_of, is_answer}
use Rattle.gtp2_wire.specs.Tables.{create, created, modify, modified, delete, cause_alone}
use Rattle.gtp2_wire.specs.Shapes.{Shape, shape_of}
use Rattle.gtp2_wire.specs.Messages.{rejection, Wholes, SpellsBy, SpellsBody, nothing, header_in, gtp_in, GtpSpells}
use Rattle.gtp2_wire.specs.Written.{type_octet, body_run, gtp_run, IsBody, IsAnswerType, IsGtp, AreWords, HasWords}
use Rattle.gtp2_wire.proofs.ValueLaws.{exactly_back, cause_back, ebi_back, fteid_back, address_back, no_address_back, rates_back, qos_back, apn_back, imsi_back}
use Rattle.gtp2_wire.proofs.ShapeLaws.{is_found, shape_is}

-- ---- elements

abbrev Fits : ℕ → ℕ → List ℕ → Type 0
Fits tag mark v = (mark < 16) × (length v < 65536)

pub gtp_written : IsWritten frame_in frame_run Fits
unfolding frame_in
gtp_written = record {
  framed = λ end tag mark v t fits.
      let n = length v in
      let s = frame_run tag mark v ++ t in (
        record { tag = tag; mark = mark % 16; place = end - length s; stop = end - length t; value = v },
        (end - length s, s, (refl, refl), (tag, number_run 2 n ++ (mark ∷ (v ++ t)), refl, (n, mark ∷ (v ++ t), number_back (truncated (end - length s)) 2 n fits.1 (mark ∷ (v ++ t)), (mark, v ++ t, refl, (v, t, (refl, refl), (end - length t, t, (refl, refl), (refl, refl))))))),
        refl,
        omega (arith, fits.0),
        refl,
      );
}

-- ---- kinds: what is right under the type of a row is of the row, and each value is written as it is read

pub record IsWritable (s : Shape) : Type 0 where
  pub named : NamedAll frame_in gtp (laws frame_in gtp (s.rows true)) (s.rows true)
  pub back : WrittenAll (s.rows true)

cause_writable : NamedAll frame_in gtp (laws frame_in gtp cause_alone) cause_alone
cause_writable = ((λ b e n i. (n, i)), tt, tt)

writable : (kind : Kind) → IsWritable (shape_of kind)
writable kinds.Create = record {
  named = ((λ b e n i. (n, i)), tt, ((λ b e n i. (n, i)), tt, ((λ b e n i. (n, i)), tt, ((λ b e n i. (n, i)), tt, ((λ b e n i. (n, i)), tt, ((λ b e n i. (n, i)), tt, ((λ b e n i. (n, i)), tt, ((λ b e n i. (n, i)), ((λ b e n i. (n, i)), tt, ((λ b e n i. (n, i)), tt, tt)), tt))))))));
  back = (imsi_back, (exactly_back 6, (fteid_back 0x8a, (apn_back, (exactly_back 1, (no_address_back, (rates_back, ((ebi_back, (qos_back, tt)), tt))))))));
}
writable kinds.Created = record {
  named = ((λ b e n i. (n, i)), tt, ((λ b e n i. (n, i)), tt, ((λ b e n i. (n, i)), tt, ((λ b e n i. (n, i)), ((λ b e n i. (n, i)), tt, ((λ b e n i. (n, i)), tt, ((λ b e n i. (n, i)), tt, tt))), tt))));
  back = (cause_back, (fteid_back 0x8b, (address_back, ((ebi_back, (cause_back, (fteid_back 0x81, tt))), tt))));
}
writable kinds.Modify = record {
  named = ((λ b e n i. (n, i)), ((λ b e n i. (n, i)), tt, ((λ b e n i. (n, i)), tt, tt)), tt);
  back = ((ebi_back, (fteid_back 0x80, tt)), tt);
}
writable kinds.Modified = record {
  named = ((λ b e n i. (n, i)), tt, ((λ b e n i. (n, i)), ((λ b e n i. (n, i)), tt, ((λ b e n i. (n, i)), tt, tt)), tt));
  back = (cause_back, ((ebi_back, (cause_back, tt)), tt));
}
writable kinds.Delete = record { named = ((λ b e n i. (n, i)), tt, tt); back = (ebi_back, tt) }
writable kinds.Deleted = record { named = cause_writable; back = (cause_back, tt) }
writable kinds.Release = record { named = tt; back = tt }
writable kinds.Released = record { named = cause_writable; back = (cause_back, tt) }

-- ---- sizes

abbrev FitsIn : {A : Type 0} → Rows A → A → Type 0
FitsIn rows a = FitsAll gtp frame_run Fits rows a

create_fits : (i b u d addr c : ℕ) (a : List ℕ) → AreWords (body.Create i b a u d addr c) → IsBody (body.Create i b a u d addr c) → FitsIn create (i, (tt, ((c, addr), (a, (tt, (0, ((u, d), ((b, (tt, tt)), tt))))))))
create_fits i b u d addr c a words is =
    let most : b ≤ 6 = is.1.1 in
    let few : length a ≤ 30 = is.2.1 in
    ((is.0, (omega arith, omega (arith, imsi_length i))), ((tt, (omega arith, omega arith)), (((words.3, words.2), (omega arith, omega arith)), ((is.2, (omega arith, omega arith)), ((tt, (omega arith, omega arith)), (((omega arith, omega arith, omega arith), (omega arith, omega arith)), (((words.0, words.1), (omega arith, omega arith)), (((((omega arith, is.1.0, most), (omega arith, omega arith)), ((tt, (omega arith, omega arith)), tt)), (omega arith, omega arith), refl), tt))))))))

created_fits : (ca c i b addr t : ℕ) → AreWords (body.Created ca c i b addr t) → IsBody (body.Created ca c i b addr t) → FitsIn (created true) (16, ((c, ca), (i, ((b, (16, ((t, addr), tt))), tt))))
created_fits ca c i b addr t words is =
    let most : b ≤ 6 = is.1 in
    ((omega arith, (omega arith, omega arith)), (((words.1, words.0), (omega arith, omega arith)), ((words.2, (omega arith, omega arith)), (((((omega arith, is.0, most), (omega arith, omega arith)), ((omega arith, (omega arith, omega arith)), (((words.4, words.3), (omega arith, omega arith)), tt))), (omega arith, omega arith), refl), tt))))

modify_fits : (b addr t : ℕ) → AreWords (body.Modify b addr t) → IsBody (body.Modify b addr t) → FitsIn modify ((b, ((t, addr), tt)), tt)
modify_fits b addr t words is =
    let most : b ≤ 6 = is.1 in
    (((((omega arith, is.0, most), (omega arith, omega arith)), (((words.1, words.0), (omega arith, omega arith)), tt)), (omega arith, omega arith), refl), tt)

modified_fits : (b : ℕ) → IsBody (body.Modified b) → FitsIn (modified true) (16, ((b, (16, tt)), tt))
modified_fits b is =
    let most : b ≤ 6 = is.1 in
    ((omega arith, (omega arith, omega arith)), (((((omega arith, is.0, most), (omega arith, omega arith)), ((omega arith, (omega arith, omega arith)), tt)), (omega arith, omega arith), refl), tt))

delete_fits : (b : ℕ) → IsBody (body.Delete b) → FitsIn delete (b, tt)
delete_fits b is =
    let most : b ≤ 6 = is.1 in
    (((omega arith, is.0, most), (omega arith, omega arith)), tt)

cause_fits : (c : ℕ) → c < 256 → FitsIn cause_alone (c, tt)
cause_fits c few = ((few, (omega arith, omega arith)), tt)

pub create_length : (i b u d addr c : ℕ) (a : List ℕ) → length (body_run (body.Create i b a u d addr c)) ≡ 96 + length a
create_length i b u d addr c a = (let seven = coded_length pair_run 100 7 (i / 10) in simp length-append (omega arith))

pub body_small : (b : GtpBody) → IsBody b → length (body_run b) < 1000
body_small (body.Create i b a u d addr c) is = (let few : length a ≤ 30 = is.2.1 in omega (arith, create_length i b u d addr c a))
body_small (body.Created ca c i b addr t) is = omega arith
body_small (body.Modify b addr t) is = omega arith
body_small (body.Modified b) is = omega arith
body_small (body.Delete b) is = omega arith
body_small body.Deleted is = omega arith
body_small body.Release is = omega arith
body_small body.Released is = omega arith
body_small (body.Rejected k c) is = omega arith

-- ---- a message that is written with all of its elements

spells : (kind : Kind) (end : ℕ) (a : (shape_of kind).Fields) → FitsIn ((shape_of kind).rows true) a → ((es : List Element) → Framed frame_in end (rows_run frame_run ((shape_of kind).rows true) a) es [] → HoldsAll frame_in ((shape_of kind).rows true) es a → rejection kind end (rows_run frame_run ((shape_of kind).rows true) a) ≡ None) → SpellsBody kind end false (rows_run frame_run ((shape_of kind).rows true) a) ((shape_of kind).make a)
spells kind end a fits accepts =
    let rows = (shape_of kind).rows true in
    let run = rows_run frame_run rows a in
    let x = written_holds frame_in gtp frame_run Fits gtp_written rows ((shape_is kind).table true) (writable kind).named (writable kind).back end a fits in
    subst (λ o. SpellsBy o kind end false run ((shape_of kind).make a)) (sym (accepts x.0 x.1.0.0 x.2)) (x.0, x.1, (a, x.2, refl))

-- an answer whose cause is 16 does not reject
accepted : (end : ℕ) (octets : List ℕ) (es : List Element) (e : Element) → Framed frame_in end octets es [] → first 2 0 es ≡ Some e → cause.Means e.value 16 → rejecting end octets ≡ None
unfolding piece_in given_in
accepted end octets es e framed h m =
    let c : m.1.0 ≡ 16 = sym m.1.3.3.0 in
    rw (is_found 2 end octets es e framed h, m.1.2, c) refl

-- ---- an answer that rejects

abbrev cause_law : Law
cause_law = law frame_in gtp (value true 2 0 cause)

one_cause : (end c : ℕ) → c < 256 → (e : Element) × ((es : List Element) × Framed frame_in end (rows_run frame_run cause_alone (c, tt)) es [] × (es ≡ e ∷ []) × (e.tag ≡ 2) × (e.mark ≡ 0) × cause.Means e.value c)
one_cause end c few =
    let x = rows_pairs frame_in gtp frame_run Fits gtp_written (laws frame_in gtp cause_alone) cause_alone ((shape_is kinds.Deleted).table true).0 cause_writable (cause_back, tt) end (c, tt) (cause_fits c few) in
    let e = x.2.0 in
    let pair = x.2.1.2 in
    (e, (x.0, x.1, x.2.1.1 ∙ ap (λ l. e ∷ l) x.2.1.3, pair.0, pair.1, pair.3))

not_16 : (v c : ℕ) → c ≡ v → (c ≡ 16 → ⊥) → other_than_16 (v ∷ []) ≡ Some c
not_16 v c e n = by (eqb v 16) refl
  where
    by : (b : Bool) → eqb v 16 ≡ b → cond (eqb v 16) None (Some v) ≡ Some c
    by true h = absurd (n (e ∙ eqb-true v 16 h))
    by false h = rw h (ap (λ x. Some x) (sym e))

rejects : (end : ℕ) (octets : List ℕ) (es : List Element) (e : Element) (c : ℕ) → Framed frame_in end octets es [] → es ≡ e ∷ [] → e.tag ≡ 2 → e.mark ≡ 0 → cause.Means e.value c → (c ≡ 16 → ⊥) → rejecting end octets ≡ Some c
unfolding piece_in given_in
rejects end octets es e c framed one t m means n =
    let f : first 2 0 es ≡ Some e = ap (first 2 0) one ∙ ap (λ b. cond b (Some e) None) (of_itself cause_law.rule e t m) in
    let is_there : found 2 end octets ≡ Some e = is_found 2 end octets es e framed f in
    let front : e.value ≡ means.1.0 ∷ means.1.1 = means.1.2 in
    ap (λ o. and_then o (λ e. other_than_16 e.value)) is_there ∙ ap other_than_16 front ∙ not_16 means.1.0 c means.1.3.3.0 n

-- what is asked of a kind of answer: its rows have the cause, and need nothing else
pub record IsAnswer (kind : Kind) : Type 1 where
  pub answers : is_answer kind ≡ true
  pub has_cause : law_of (laws frame_in gtp ((shape_of kind).rows false)) 2 0 ≡ named cause_law
  pub no_more : (e : Element) → is_of cause_law.rule e.tag e.mark ≡ true → lacks (laws frame_in gtp ((shape_of kind).rows false)) (e ∷ []) ≡ None

created_answers : IsAnswer kinds.Created
created_answers = record { answers = refl; has_cause = refl; no_more = λ e h. rw h refl }

modified_answers : IsAnswer kinds.Modified
modified_answers = record { answers = refl; has_cause = refl; no_more = λ e h. rw h refl }

deleted_answers : IsAnswer kinds.Deleted
deleted_answers = record { answers = refl; has_cause = refl; no_more = λ e h. rw h refl }

released_answers : IsAnswer kinds.Released
released_answers = record { answers = refl; has_cause = refl; no_more = λ e h. rw h refl }

cause_enough : (kind : Kind) → IsAnswer kind → (end : ℕ) (octets : List ℕ) (es : List Element) (e : Element) (c : ℕ) → Framed frame_in end octets es [] → es ≡ e ∷ [] → e.tag ≡ 2 → e.mark ≡ 0 → cause.Means e.value c → Wholes kind end false octets
cause_enough kind is end octets es e c framed one t m means =
    let ls = laws frame_in gtp ((shape_of kind).rows false) in
    let by_cause : RightBy (named cause_law) [] e = (refl, (c, means)) in
    let right : IsRight ls [] e = subst (λ x. RightBy (law_of ls x e.mark) [] e) (sym t) (subst (λ x. RightBy (law_of ls 2 x) [] e) (sym m) (subst (λ l. RightBy l [] e) (sym is.has_cause) by_cause)) in
    let none : lacks ls (e ∷ []) ≡ None = is.no_more e (of_itself cause_law.rule e t m) in
    (es, ((framed, subst (λ x. AreRight ls [] x) (sym one) (right, tt)), refl, subst (λ x. lacks ls x ≡ None) (sym one) none))

rejected : (kind : Kind) → IsAnswer kind → (end c : ℕ) → c < 256 → (c ≡ 16 → ⊥) → SpellsBody kind end false (rows_run frame_run cause_alone (c, tt)) (body.Rejected (type_of kind) c)
rejected kind is end c few other =
    let octets = rows_run frame_run cause_alone (c, tt) in
    let x = one_cause end c few in
    let es = x.1.0 in
    let o : rejection kind end octets ≡ Some c = ap (λ b. cond b (rejecting end octets) None) is.answers ∙ rejects end octets es x.0 c x.1.1 x.1.2 x.1.3 x.1.4 x.1.5 other in
    subst (λ o. SpellsBy o kind end false octets (body.Rejected (type_of kind) c)) (sym o) (cause_enough kind is end octets es x.0 c x.1.1 x.1.2 x.1.3 x.1.4 x.1.5, refl)

-- ---- whole messages

header_written : (kind : Kind) (teid seq : ℕ) (b : List ℕ) → teid < 2 ^ 32 → seq < 2 ^ 24 → length b < 1000 → header_in.Stands (0x48 ∷ type_of kind ∷ (number_run 2 (8 + length b) ++ (number_run 4 teid ++ (number_run 3 seq ++ (0 ∷ b))))) (record { kind = kind; teid = teid; seq = seq; end = 8 + length b + 4; octets = b }) []
unfolding header_in
header_written kind teid seq b t q few =
    let s3 = number_run 4 teid ++ (number_run 3 seq ++ (0 ∷ b)) in
    let s4 = number_run 3 seq ++ (0 ∷ b) in
    let s2 = number_run 2 (8 + length b) ++ s3 in
    (0x48, type_of kind ∷ s2, refl, (nothing, type_of kind ∷ s2, ((refl, refl), refl), (type_of kind, s2, refl, (kind, s2, (refl, refl), (8 + length b, s3, number_back (truncated 2) 2 (8 + length b) (omega arith) s3, (nothing, s3, ((refl, omega arith), refl), (teid, s4, number_back (truncated 2) 4 teid t s4, (seq, 0 ∷ b, number_back (truncated 2) 3 seq q (0 ∷ b), (0, b, refl, (b, [], (sym (append-nil b), omega arith), (refl, refl)))))))))))

message_spells : (kind : Kind) (g : Gtp) → type_octet g.body ≡ type_of kind → ((end : ℕ) → SpellsBody kind end false (body_run g.body) g.body) → HasWords g → IsGtp g → GtpSpells (gtp_run g) g
unfolding gtp_in
message_spells kind g e s words is =
    let b = body_run g.body in
    let h : Header = record { kind = kind; teid = g.teid; seq = g.seq; end = 8 + length b + 4; octets = b } in
    ([], (h, [], rw e (header_written kind g.teid g.seq b words.0 is.0 (body_small g.body is.1)), ((g.body, s (8 + length b + 4), refl), refl)))

-- an answer that rejects, as a message
abbrev Rejection : ℕ → ℕ → ℕ → ℕ → Gtp
Rejection teid seq k c = record { teid = teid; seq = seq; body = body.Rejected k c }

answer : (kind : Kind) → IsAnswer kind → (teid seq k c : ℕ) → HasWords (Rejection teid seq k c) → IsGtp (Rejection teid seq k c) → k ≡ type_of kind → GtpSpells (gtp_run (Rejection teid seq k c)) (Rejection teid seq k c)
answer kind a teid seq k c words is e = message_spells kind (Rejection teid seq k c) e (λ end. subst (λ k. SpellsBody kind end false (rows_run frame_run cause_alone (c, tt)) (body.Rejected k c)) (sym e) (rejected kind a end c words.1 is.1.1)) words is

any_answer : (teid seq k c : ℕ) → HasWords (Rejection teid seq k c) → IsGtp (Rejection teid seq k c) → IsAnswerType k → GtpSpells (gtp_run (Rejection teid seq k c)) (Rejection teid seq k c)
any_answer teid seq k c words is (inl e) = answer kinds.Created created_answers teid seq k c words is e
any_answer teid seq k c words is (inr (inl e)) = answer kinds.Modified modified_answers teid seq k c words is e
any_answer teid seq k c words is (inr (inr (inl e))) = answer kinds.Deleted deleted_answers teid seq k c words is e
any_answer teid seq k c words is (inr (inr (inr e))) = answer kinds.Released released_answers teid seq k c words is e

pub written_is_read : (g : Gtp) → HasWords g → IsGtp g → GtpSpells (gtp_run g) g
written_is_read g words is = by g.teid g.seq g.body words is
  where
    by : (teid seq : ℕ) (b : GtpBody) → HasWords (record { teid = teid; seq = seq; body = b }) → IsGtp (record { teid = teid; seq = seq; body = b }) → GtpSpells (gtp_run (record { teid = teid; seq = seq; body = b })) (record { teid = teid; seq = seq; body = b })
    by teid seq (body.Create i b a u d addr c) words is = message_spells kinds.Create (record { teid = teid; seq = seq; body = body.Create i b a u d addr c }) refl (λ end. spells kinds.Create end (i, (tt, ((c, addr), (a, (tt, (0, ((u, d), ((b, (tt, tt)), tt)))))))) (create_fits i b u d addr c a words.1 is.1) (λ es f h. refl)) words is
    by teid seq (body.Created ca c i b addr t) words is = message_spells kinds.Created (record { teid = teid; seq = seq; body = body.Created ca c i b addr t }) refl (λ end. spells kinds.Created end (16, ((c, ca), (i, ((b, (16, ((t, addr), tt))), tt)))) (created_fits ca c i b addr t words.1 is.1) (λ es f h. accepted end _ es h.0.0 f h.0.1 h.0.2)) words is
    by teid seq (body.Modify b addr t) words is = message_spells kinds.Modify (record { teid = teid; seq = seq; body = body.Modify b addr t }) refl (λ end. spells kinds.Modify end ((b, ((t, addr), tt)), tt) (modify_fits b addr t words.1 is.1) (λ es f h. refl)) words is
    by teid seq (body.Modified b) words is = message_spells kinds.Modified (record { teid = teid; seq = seq; body = body.Modified b }) refl (λ end. spells kinds.Modified end (16, ((b, (16, tt)), tt)) (modified_fits b is.1) (λ es f h. accepted end _ es h.0.0 f h.0.1 h.0.2)) words is
    by teid seq (body.Delete b) words is = message_spells kinds.Delete (record { teid = teid; seq = seq; body = body.Delete b }) refl (λ end. spells kinds.Delete end (b, tt) (delete_fits b is.1) (λ es f h. refl)) words is
    by teid seq body.Deleted words is = message_spells kinds.Deleted (record { teid = teid; seq = seq; body = body.Deleted }) refl (λ end. spells kinds.Deleted end (16, tt) (cause_fits 16 (omega arith)) (λ es f h. accepted end _ es h.0.0 f h.0.1 h.0.2)) words is
    by teid seq body.Release words is = message_spells kinds.Release (record { teid = teid; seq = seq; body = body.Release }) refl (λ end. spells kinds.Release end tt tt (λ es f h. refl)) words is
    by teid seq body.Released words is = message_spells kinds.Released (record { teid = teid; seq = seq; body = body.Released }) refl (λ end. spells kinds.Released end (16, tt) (cause_fits 16 (omega arith)) (λ es f h. accepted end _ es h.0.0 f h.0.1 h.0.2)) words is
    by teid seq (body.Rejected k c) words is = any_answer teid seq k c words is is.1.0
