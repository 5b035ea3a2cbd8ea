-- What is written is read as the same message.
use Rattle.std.proofs.Common.{◌≡◌, ◌⊎◌, ℕ, ◌+◌, ◌-◌, ◌^◌, ◌<◌, ◌≤◌, Bool, true, false, leb, List, [], ◌∷◌, ◌++◌, length, Some, refl, sym, ap, ◌∙◌, subst, inl, inr, arith}
use Rattle.std.specs.Prelude.{codes}
use Rattle.std.proofs.lemmas.Bool.{ne_eqb}
use Rattle.std.proofs.lemmas.List.{append-nil, length-append}
use Rattle.echo_base.specs.Field.{number_run}
use Rattle.echo_base.proofs.Fields.{number_back}
use Rattle.tlv_elements.specs.Element.{truncated}
use Rattle.tlv_elements.specs.Reading.{row_of}
use Rattle.tlv_elements.specs.Grammar.{value, group, Rows, last, ◌▸◌, ◌▹◌, laws, and_then, rows_run}
use Rattle.tlv_elements.proofs.Whole.{IsTable}
use Rattle.tlv_elements.proofs.Writes.{NamedAll, WrittenAll, FitsAll, written_holds, written_spells}
use Rattle.dia_avps.specs.Frame.{tgpp, nothing, frame_in, frame_run, dia}
use Rattle.dia_avps.specs.Values.{unsigned, plmn, imsi_run}
use Rattle.dia_avps.specs.Groups.{Nothing, VectorFields, vector, authentication_info, ambr, subscription_data}
use Rattle.dia_avps.specs.Finding.{is_2001, succeeded, result_at}
use Rattle.dia_avps.proofs.Frames.{Fits, plain_length, tgpp_length, dia_written}
use Rattle.dia_avps.proofs.ImsiLaws.{imsi_length}
use Rattle.dia_avps.proofs.ValueLaws.{unsigned_is, sized_back, session_back, unsigned_back, plmn_back, imsi_back}
use Rattle.dia_wire.specs.declared.dia.Dia.{Dia}
use Rattle.dia_wire.specs.declared.dia.DiaBody.{DiaBody}
use Rattle.dia_wire.specs.declared.dia.DiaBody.TheVariants as body
use Rattle.dia_wire.specs.declared.kind.Command.{Command}
use Rattle.dia_wire.specs.declared.kind.Command.TheVariants as commands
use Rattle.dia_wire.specs.declared.kind.Kind.{Kind}
use Rattle.dia_wire.specs.declared.kind.Kind.TheVariants as kinds
use Rattle.dia_wire.specs.declared.said.Said.{Said}
use Rattle.dia_wire.specs.Commands.{code_of, answering}
use Rattle.dia_wire.specs.Header.{Header}
use Rattle.dia_wire.specs.Tables.{realm, requested, update_flags, request, answer, ask_vectors, ask_location, vectors, located, result_alone}
use Rattle.dia_wire.specs.Shapes.{Shape, shape_of, saying}
use Rattle.dia_wire.specs.Messages.{kind_by, SpellsSaid, rest_in, header_in, dia_in, DiaSpells}
use Rattle.dia_wire.specs.Written.{command_code, flags_of, body_run, dia_run, IsSession, IsVector, IsBody, IsDia, HasWords}
use Rattle.dia_wire.proofs.ShapeLaws.{is_found, shape_is}

-- ---- kinds: what is right under the code and vendor of a row is of the row, what stands aside has none, and each value is written as it is read

pub record IsWritable (s : Shape) : Type 0 where
  pub named : NamedAll frame_in dia (laws frame_in dia s.rows) s.rows
  pub back : WrittenAll s.rows

writable : (kind : Kind) → IsWritable (shape_of kind)
unfolding row_of
writable kinds.AskVectors = record {
  named = ((λ b e n i. (n, i)), tt, (refl, (refl, (refl, (refl, ((λ b e n i. (n, i)), tt, ((λ b e n i. (n, i)), tt, (refl, tt))))))));
  back = (session_back, (imsi_back, (plmn_back, tt)));
}
writable kinds.AskLocation = record {
  named = ((λ b e n i. (n, i)), tt, (refl, (refl, (refl, (refl, ((λ b e n i. (n, i)), tt, ((λ b e n i. (n, i)), tt, (refl, tt))))))));
  back = (session_back, (imsi_back, (plmn_back, tt)));
}
writable kinds.AskPurge = record {
  named = ((λ b e n i. (n, i)), tt, (refl, (refl, (refl, (refl, ((λ b e n i. (n, i)), tt, tt))))));
  back = (session_back, (imsi_back, tt));
}
writable kinds.Vectors = record {
  named = ((λ b e n i. (n, i)), tt, ((λ b e n i. (n, i)), tt, (refl, (refl, (refl, ((λ b e n i. (n, i)), ((λ b e n i. (n, i)), ((λ b e n i. (n, i)), tt, ((λ b e n i. (n, i)), tt, ((λ b e n i. (n, i)), tt, ((λ b e n i. (n, i)), tt, tt)))), tt), tt))))));
  back = (session_back, (unsigned_back, (((sized_back 16 16, (sized_back 4 16, (sized_back 16 16, (sized_back 32 32, tt)))), tt), tt)));
}
writable kinds.Located = record {
  named = ((λ b e n i. (n, i)), tt, ((λ b e n i. (n, i)), tt, (refl, (refl, (refl, ((λ b e n i. (n, i)), ((λ b e n i. (n, i)), ((λ b e n i. (n, i)), tt, ((λ b e n i. (n, i)), tt, tt)), tt), tt))))));
  back = (session_back, (unsigned_back, (((unsigned_back, (unsigned_back, tt)), tt), tt)));
}
writable kinds.Purged = record {
  named = ((λ b e n i. (n, i)), tt, ((λ b e n i. (n, i)), tt, (refl, (refl, (refl, tt)))));
  back = (session_back, (unsigned_back, tt));
}
writable (kinds.Rejected command) = record {
  named = ((λ b e n i. (n, i)), tt, ((λ b e n i. (n, i)), tt, (refl, (refl, (refl, tt)))));
  back = (session_back, (unsigned_back, tt));
}

-- ---- sizes

abbrev FitsIn : {A : Type 0} → Rows A → A → Type 0
FitsIn rows a = FitsAll dia frame_run Fits rows a

-- the AVPs that stand aside
no_state_length : length (frame_run 277 0 (number_run 4 1)) ≡ 12
no_state_length = omega (arith, plain_length 277 (number_run 4 1))

asker_length : length (frame_run 264 0 (codes "mme.echo")) ≡ 16
asker_length = omega (arith, plain_length 264 (codes "mme.echo"))

answerer_length : length (frame_run 264 0 (codes "hss.echo")) ≡ 16
answerer_length = omega (arith, plain_length 264 (codes "hss.echo"))

realm_length : (code : ℕ) → length (frame_run code 0 realm) ≡ 12
realm_length code = omega (arith, plain_length code realm)

number_length : length (frame_run 1410 tgpp (number_run 4 1)) ≡ 16
number_length = omega (arith, tgpp_length 1410 (number_run 4 1))

request_fits : {A : Type 0} (rest : Rows A) (s : List ℕ) (i : ℕ) (a : A) → IsSession s → i < 10 ^ 15 → FitsIn rest a → FitsIn (request rest) (s, (i, a))
request_fits rest s i a session few fits = ((session, (omega arith, omega arith, omega (arith, session.1))), ((omega arith, omega arith, omega arith), ((omega arith, omega arith, omega arith), ((omega arith, omega arith, omega arith), ((omega arith, omega arith, omega arith), ((few, (omega arith, omega arith, omega (arith, imsi_length i))), fits))))))

answer_fits : {A : Type 0} (rest : Rows A) (s : List ℕ) (r : ℕ) (a : A) → IsSession s → r < 2 ^ 32 → FitsIn rest a → FitsIn (answer rest) (s, (r, a))
answer_fits rest s r a session few fits = ((session, (omega arith, omega arith, omega (arith, session.1))), ((few, (omega arith, omega arith, omega arith)), ((omega arith, omega arith, omega arith), ((omega arith, omega arith, omega arith), ((omega arith, omega arith, omega arith), fits)))))

ask_vectors_fits : (s : List ℕ) (i p : ℕ) → IsSession s → i < 10 ^ 15 → p < 2 ^ 24 → FitsIn ask_vectors (s, (i, (p, tt)))
ask_vectors_fits s i p session few small = request_fits (value true 1407 tgpp plmn ▸ requested ▹ last) s i (p, tt) session few ((small, (omega arith, omega arith, omega arith)), ((omega arith, omega arith, omega (arith, number_length)), tt))

ask_location_fits : (s : List ℕ) (i p : ℕ) → IsSession s → i < 10 ^ 15 → p < 2 ^ 24 → FitsIn ask_location (s, (i, (p, tt)))
ask_location_fits s i p session few small = request_fits (value true 1407 tgpp plmn ▸ update_flags ▹ last) s i (p, tt) session few ((small, (omega arith, omega arith, omega arith)), ((omega arith, omega arith, omega arith), tt))

pub vector_length : (rand xres autn key : List ℕ) → IsVector rand xres autn key → length (rows_run frame_run vector (rand, (xres, (autn, (key, tt))))) ≤ 140
vector_length rand xres autn key is =
    let d = frame_run 1450 tgpp key ++ [] in
    let c = frame_run 1449 tgpp autn ++ d in
    let b = frame_run 1448 tgpp xres ++ c in
    omega (arith, length-append (frame_run 1447 tgpp rand) b, length-append (frame_run 1448 tgpp xres) c, length-append (frame_run 1449 tgpp autn) d, length-append (frame_run 1450 tgpp key) [], tgpp_length 1447 rand, tgpp_length 1448 xres, tgpp_length 1449 autn, tgpp_length 1450 key, is.0, is.2, is.3, is.4)

info_length : (rand xres autn key : List ℕ) → IsVector rand xres autn key → length (rows_run frame_run authentication_info ((rand, (xres, (autn, (key, tt)))), tt)) ≤ 160
info_length rand xres autn key is =
    let v = rows_run frame_run vector (rand, (xres, (autn, (key, tt)))) in
    omega (arith, length-append (frame_run 1414 tgpp v) [], tgpp_length 1414 v, vector_length rand xres autn key is)

vectors_fits : (s rand xres autn key : List ℕ) → IsSession s → IsVector rand xres autn key → FitsIn vectors (s, (2001, (((rand, (xres, (autn, (key, tt)))), tt), tt)))
vectors_fits s rand xres autn key session is =
    let short : length rand ≤ 16 = omega (arith, is.0) in
    let member : FitsIn vector (rand, (xres, (autn, (key, tt)))) = (((omega (arith, is.0), short), (omega arith, omega arith, omega (arith, is.0))), (((is.1, is.2), (omega arith, omega arith, omega (arith, is.2))), (((omega (arith, is.3), omega (arith, is.3)), (omega arith, omega arith, omega (arith, is.3))), (((omega (arith, is.4), omega (arith, is.4)), (omega arith, omega arith, omega (arith, is.4))), tt)))) in
    let inner : FitsIn authentication_info ((rand, (xres, (autn, (key, tt)))), tt) = ((member, (omega arith, omega arith, omega (arith, vector_length rand xres autn key is)), refl), tt) in
    answer_fits (group true 1413 tgpp authentication_info ▸ last) s 2001 (((rand, (xres, (autn, (key, tt)))), tt), tt) session (omega arith) ((inner, (omega arith, omega arith, omega (arith, info_length rand xres autn key is)), refl), tt)

ambr_length : (dl ul : ℕ) → length (rows_run frame_run ambr (ul, (dl, tt))) ≤ 32
ambr_length dl ul =
    let down = frame_run 515 tgpp (unsigned.run dl) ++ [] in
    omega (arith, length-append (frame_run 516 tgpp (unsigned.run ul)) down, length-append (frame_run 515 tgpp (unsigned.run dl)) [], tgpp_length 516 (unsigned.run ul), tgpp_length 515 (unsigned.run dl))

subscription_length : (dl ul : ℕ) → length (rows_run frame_run subscription_data ((ul, (dl, tt)), tt)) ≤ 60
subscription_length dl ul =
    let rates = rows_run frame_run ambr (ul, (dl, tt)) in
    omega (arith, length-append (frame_run 1435 tgpp rates) [], tgpp_length 1435 rates, ambr_length dl ul)

located_fits : (s : List ℕ) (dl ul : ℕ) → IsSession s → dl < 2 ^ 32 → ul < 2 ^ 32 → FitsIn located (s, (2001, (((ul, (dl, tt)), tt), tt)))
located_fits s dl ul session down up =
    let member : FitsIn ambr (ul, (dl, tt)) = ((up, (omega arith, omega arith, omega arith)), ((down, (omega arith, omega arith, omega arith)), tt)) in
    let inner : FitsIn subscription_data ((ul, (dl, tt)), tt) = ((member, (omega arith, omega arith, omega (arith, ambr_length dl ul)), refl), tt) in
    answer_fits (group true 1400 tgpp subscription_data ▸ last) s 2001 (((ul, (dl, tt)), tt), tt) session (omega arith) ((inner, (omega arith, omega arith, omega (arith, subscription_length dl ul)), refl), tt)

result_fits : (s : List ℕ) (r : ℕ) → IsSession s → r < 2 ^ 32 → FitsIn result_alone (s, (r, tt))
result_fits s r session few = answer_fits last s r tt session few tt

-- what each request, and each answer, begins with
request_length : {A : Type 0} (rest : Rows A) (s : List ℕ) (i : ℕ) (a : A) → IsSession s → length (rows_run frame_run (request rest) (s, (i, a))) ≤ 1100 + length (rows_run frame_run rest a)
request_length rest s i a session =
    let tail = rows_run frame_run rest a in
    let name = frame_run 1 0 (imsi_run i) ++ tail in
    let target = frame_run 283 0 realm ++ name in
    let origin = frame_run 296 0 realm ++ target in
    let host = frame_run 264 0 (codes "mme.echo") ++ origin in
    let state = frame_run 277 0 (number_run 4 1) ++ host in
    omega (arith, length-append (frame_run 263 0 s) state, length-append (frame_run 277 0 (number_run 4 1)) host, length-append (frame_run 264 0 (codes "mme.echo")) origin, length-append (frame_run 296 0 realm) target, length-append (frame_run 283 0 realm) name, length-append (frame_run 1 0 (imsi_run i)) tail, plain_length 263 s, session.1, no_state_length, asker_length, realm_length 296, realm_length 283, plain_length 1 (imsi_run i), imsi_length i)

answer_length : {A : Type 0} (rest : Rows A) (s : List ℕ) (r : ℕ) (a : A) → IsSession s → length (rows_run frame_run (answer rest) (s, (r, a))) ≤ 1100 + length (rows_run frame_run rest a)
answer_length rest s r a session =
    let tail = rows_run frame_run rest a in
    let origin = frame_run 296 0 realm ++ tail in
    let host = frame_run 264 0 (codes "hss.echo") ++ origin in
    let state = frame_run 277 0 (number_run 4 1) ++ host in
    let result = frame_run 268 0 (unsigned.run r) ++ state in
    omega (arith, length-append (frame_run 263 0 s) result, length-append (frame_run 268 0 (unsigned.run r)) state, length-append (frame_run 277 0 (number_run 4 1)) host, length-append (frame_run 264 0 (codes "hss.echo")) origin, length-append (frame_run 296 0 realm) tail, plain_length 263 s, session.1, plain_length 268 (unsigned.run r), no_state_length, answerer_length, realm_length 296)

-- what stands behind the User-Name of a request that names a network
network_length : (p : ℕ) (code : ℕ) (v : List ℕ) → length v ≤ 16 → length (frame_run 1407 tgpp (plmn.run p) ++ (frame_run code tgpp v ++ [])) ≤ 60
network_length p code v few = omega (arith, few, length-append (frame_run 1407 tgpp (plmn.run p)) (frame_run code tgpp v ++ []), length-append (frame_run code tgpp v) [], tgpp_length 1407 (plmn.run p), tgpp_length code v)

pub body_small : (s : List ℕ) (b : DiaBody) → IsSession s → IsBody b → length (body_run s b) < 65536
body_small s (body.AskVectors i p) session is = omega (arith, request_length (value true 1407 tgpp plmn ▸ requested ▹ last) s i (p, tt) session, network_length p 1408 (frame_run 1410 tgpp (number_run 4 1)) (omega (arith, number_length)))
body_small s (body.AskLocation i p) session is = omega (arith, request_length (value true 1407 tgpp plmn ▸ update_flags ▹ last) s i (p, tt) session, network_length p 1405 (number_run 4 34) (omega arith))
body_small s (body.AskPurge i) session is = omega (arith, request_length last s i tt session)
body_small s (body.Vectors rand xres autn key) session is =
    let info = rows_run frame_run authentication_info ((rand, (xres, (autn, (key, tt)))), tt) in
    omega (arith, answer_length (group true 1413 tgpp authentication_info ▸ last) s 2001 (((rand, (xres, (autn, (key, tt)))), tt), tt) session, length-append (frame_run 1413 tgpp info) [], tgpp_length 1413 info, info_length rand xres autn key is)
body_small s (body.Located dl ul) session is =
    let data_run = rows_run frame_run subscription_data ((ul, (dl, tt)), tt) in
    omega (arith, answer_length (group true 1400 tgpp subscription_data ▸ last) s 2001 (((ul, (dl, tt)), tt), tt) session, length-append (frame_run 1400 tgpp data_run) [], tgpp_length 1400 data_run, subscription_length dl ul)
body_small s body.Purged session is = omega (arith, answer_length last s 2001 tt session)
body_small s (body.Rejected code r) session is = omega (arith, answer_length last s r tt session)

-- ---- what stands behind a header

spells : (kind : Kind) (end : ℕ) (a : (shape_of kind).Fields) → FitsIn (shape_of kind).rows a → SpellsSaid kind end false (rows_run frame_run (shape_of kind).rows a) ((shape_of kind).make a)
spells kind end a fits = written_spells frame_in dia frame_run Fits dia_written (shape_of kind).rows (shape_is kind).table (writable kind).named (writable kind).back (shape_of kind).make end a fits

-- the result of an answer is the one that was written
result_written : {A : Type 0} (rest : Rows A) → IsTable frame_in dia (answer rest) → NamedAll frame_in dia (laws frame_in dia (answer rest)) (answer rest) → WrittenAll (answer rest) → (end : ℕ) (s : List ℕ) (r : ℕ) (a : A) → FitsIn (answer rest) (s, (r, a)) → result_at end (rows_run frame_run (answer rest) (s, (r, a))) ≡ Some r
result_written rest table named back end s r a fits =
    let run = rows_run frame_run (answer rest) (s, (r, a)) in
    let x = written_holds frame_in dia frame_run Fits dia_written (answer rest) table named back end (s, (r, a)) fits in
    let h = x.2.1.0 in
    ap (λ o. and_then o (λ e. unsigned.decode e.value)) (is_found 268 0 end run x.0 h.0 x.1.0.0 h.1) ∙ (unsigned_is h.0.value).only r h.2

answered : (command : Command) (done : Bool) (end : ℕ) (octets : List ℕ) (b : Said) → succeeded end octets ≡ done → SpellsSaid (answering done command) end false octets b → SpellsSaid (kind_by false command end octets) end false octets b
answered command done end octets b e s = subst (λ d. SpellsSaid (answering d command) end false octets b) (sym e) s

vectors_spell : (end : ℕ) (s rand xres autn key : List ℕ) → IsSession s → IsVector rand xres autn key → SpellsSaid (kind_by false commands.Authentication end (body_run s (body.Vectors rand xres autn key))) end false (body_run s (body.Vectors rand xres autn key)) (saying s (body.Vectors rand xres autn key))
vectors_spell end s rand xres autn key session is =
    let a : VectorFields × Nothing = ((rand, (xres, (autn, (key, tt)))), tt) in
    let fits = vectors_fits s rand xres autn key session is in
    let r = result_written (group true 1413 tgpp authentication_info ▸ last) (shape_is kinds.Vectors).table (writable kinds.Vectors).named (writable kinds.Vectors).back end s 2001 (a, tt) fits in
    answered commands.Authentication true end (body_run s (body.Vectors rand xres autn key)) (saying s (body.Vectors rand xres autn key)) (ap is_2001 r) (spells kinds.Vectors end (s, (2001, (a, tt))) fits)

located_spells : (end : ℕ) (s : List ℕ) (dl ul : ℕ) → IsSession s → dl < 2 ^ 32 → ul < 2 ^ 32 → SpellsSaid (kind_by false commands.Location end (body_run s (body.Located dl ul))) end false (body_run s (body.Located dl ul)) (saying s (body.Located dl ul))
located_spells end s dl ul session down up =
    let a : (ℕ × (ℕ × Nothing)) × Nothing = ((ul, (dl, tt)), tt) in
    let fits = located_fits s dl ul session down up in
    let r = result_written (group true 1400 tgpp subscription_data ▸ last) (shape_is kinds.Located).table (writable kinds.Located).named (writable kinds.Located).back end s 2001 (a, tt) fits in
    answered commands.Location true end (body_run s (body.Located dl ul)) (saying s (body.Located dl ul)) (ap is_2001 r) (spells kinds.Located end (s, (2001, (a, tt))) fits)

purged_spells : (end : ℕ) (s : List ℕ) → IsSession s → SpellsSaid (kind_by false commands.Purge end (body_run s body.Purged)) end false (body_run s body.Purged) (saying s body.Purged)
purged_spells end s session =
    let fits = result_fits s 2001 session (omega arith) in
    let r = result_written last (shape_is kinds.Purged).table (writable kinds.Purged).named (writable kinds.Purged).back end s 2001 tt fits in
    answered commands.Purge true end (body_run s body.Purged) (saying s body.Purged) (ap is_2001 r) (spells kinds.Purged end (s, (2001, tt)) fits)

rejected_spells : (command : Command) (end : ℕ) (s : List ℕ) (r : ℕ) → IsSession s → r < 2 ^ 32 → (r ≡ 2001 → ⊥) → SpellsSaid (kind_by false command end (rows_run frame_run result_alone (s, (r, tt)))) end false (rows_run frame_run result_alone (s, (r, tt))) (saying s (body.Rejected (code_of command) r))
rejected_spells command end s r session few other =
    let fits = result_fits s r session few in
    let is = result_written last (shape_is kinds.Purged).table (writable kinds.Purged).named (writable kinds.Purged).back end s r tt fits in
    answered command false end (rows_run frame_run result_alone (s, (r, tt))) (saying s (body.Rejected (code_of command) r)) (ap is_2001 is ∙ ne_eqb r 2001 other) (spells (kinds.Rejected command) end (s, (r, tt)) fits)

-- ---- whole messages

code_small : (command : Command) → code_of command < 256 ^ 3
code_small commands.Authentication = omega arith
code_small commands.Location = omega arith
code_small commands.Purge = omega arith

header_written : (command : Command) (flags hop end : ℕ) (b : List ℕ) → hop < 2 ^ 32 → end < 2 ^ 32 → length b < 65536 → header_in.Stands (1 ∷ (number_run 3 (20 + length b) ++ (flags ∷ (number_run 3 (code_of command) ++ (number_run 4 0x01000023 ++ (number_run 4 hop ++ (number_run 4 end ++ b))))))) (record { command = command; request = leb 128 flags; hop = hop; end_to_end = end; end = 20 + length b; octets = b }) []
unfolding header_in rest_in
header_written command flags hop end b h e few =
    let s7 = number_run 4 end ++ b in
    let s6 = number_run 4 hop ++ s7 in
    let s5 = number_run 4 0x01000023 ++ s6 in
    let s4 = number_run 3 (code_of command) ++ s5 in
    let s3 = flags ∷ s4 in
    let s2 = number_run 3 (20 + length b) ++ s3 in
    let room : 20 + length b - 4 ≤ length (flags ∷ (number_run 3 (code_of command) ++ (number_run 4 0x01000023 ++ (number_run 4 hop ++ (number_run 4 end ++ b))))) = omega arith in
    (1, s2, refl, (nothing, s2, ((refl, refl), refl), (20 + length b, s3, number_back (truncated 1) 3 (20 + length b) (omega (arith, few)) s3, (nothing, s3, ((refl, omega arith), refl), (nothing, s3, (room, refl), (flags, s4, refl, (code_of command, s5, number_back (truncated 1) 3 (code_of command) (code_small command) s5, (command, s5, (refl, refl), (0x01000023, s6, number_back (truncated 1) 4 0x01000023 (omega arith) s6, (nothing, s6, ((refl, refl), refl), (hop, s7, number_back (truncated 1) 4 hop h s7, (end, b, number_back (truncated 1) 4 end e b, (b, [], (sym (append-nil b), omega arith), (refl, refl))))))))))))))

message_spells : (command : Command) (d : Dia) → command_code d.body ≡ code_of command → ((end : ℕ) → SpellsSaid (kind_by (leb 128 (flags_of d.body)) command end (body_run d.session d.body)) end false (body_run d.session d.body) (saying d.session d.body)) → HasWords d → IsDia d → DiaSpells (dia_run d) d
unfolding dia_in
message_spells command d code s words is =
    let b = body_run d.session d.body in
    let h : Header = record { command = command; request = leb 128 (flags_of d.body); hop = d.hop; end_to_end = d.end; end = 20 + length b; octets = b } in
    let head = header_written command (flags_of d.body) d.hop d.end b words.0 words.1 (body_small d.session d.body is.0 is.1) in
    ([], (h, [], subst (λ c. header_in.Stands (1 ∷ (number_run 3 (20 + length b) ++ (flags_of d.body ∷ (number_run 3 c ++ (number_run 4 0x01000023 ++ (number_run 4 d.hop ++ (number_run 4 d.end ++ b))))))) h []) (sym code) head, ((saying d.session d.body, s (20 + length b), refl), refl)))

any_rejection : (hop end : ℕ) (s : List ℕ) (code r : ℕ) → HasWords (record { hop = hop; end = end; session = s; body = body.Rejected code r }) → IsDia (record { hop = hop; end = end; session = s; body = body.Rejected code r }) → DiaSpells (dia_run (record { hop = hop; end = end; session = s; body = body.Rejected code r })) (record { hop = hop; end = end; session = s; body = body.Rejected code r })
any_rejection hop end s code r words is = by is.1.0
  where
    rejection : (command : Command) → code ≡ code_of command → DiaSpells (dia_run (record { hop = hop; end = end; session = s; body = body.Rejected code r })) (record { hop = hop; end = end; session = s; body = body.Rejected code r })
    rejection command e =
        let run = rows_run frame_run result_alone (s, (r, tt)) in
        message_spells command (record { hop = hop; end = end; session = s; body = body.Rejected code r }) e (λ end. subst (λ c. SpellsSaid (kind_by false command end run) end false run (saying s (body.Rejected c r))) (sym e) (rejected_spells command end s r is.0 words.2 is.1.1)) words is

    by : (code ≡ 318) ⊎ ((code ≡ 316) ⊎ (code ≡ 321)) → DiaSpells (dia_run (record { hop = hop; end = end; session = s; body = body.Rejected code r })) (record { hop = hop; end = end; session = s; body = body.Rejected code r })
    by (inl e) = rejection commands.Authentication e
    by (inr (inl e)) = rejection commands.Location e
    by (inr (inr e)) = rejection commands.Purge e

pub written_is_read : (d : Dia) → HasWords d → IsDia d → DiaSpells (dia_run d) d
written_is_read d words is = by d.hop d.end d.session d.body words is
  where
    by : (hop end : ℕ) (s : List ℕ) (b : DiaBody) → HasWords (record { hop = hop; end = end; session = s; body = b }) → IsDia (record { hop = hop; end = end; session = s; body = b }) → DiaSpells (dia_run (record { hop = hop; end = end; session = s; body = b })) (record { hop = hop; end = end; session = s; body = b })
    by hop end s (body.AskVectors i p) words is = message_spells commands.Authentication (record { hop = hop; end = end; session = s; body = body.AskVectors i p }) refl (λ end. spells kinds.AskVectors end (s, (i, (p, tt))) (ask_vectors_fits s i p is.0 is.1.0 is.1.1)) words is
    by hop end s (body.AskLocation i p) words is = message_spells commands.Location (record { hop = hop; end = end; session = s; body = body.AskLocation i p }) refl (λ end. spells kinds.AskLocation end (s, (i, (p, tt))) (ask_location_fits s i p is.0 is.1.0 is.1.1)) words is
    by hop end s (body.AskPurge i) words is = message_spells commands.Purge (record { hop = hop; end = end; session = s; body = body.AskPurge i }) refl (λ end. spells kinds.AskPurge end (s, (i, tt)) (request_fits last s i tt is.0 is.1 tt)) words is
    by hop end s (body.Vectors rand xres autn key) words is = message_spells commands.Authentication (record { hop = hop; end = end; session = s; body = body.Vectors rand xres autn key }) refl (λ end. vectors_spell end s rand xres autn key is.0 is.1) words is
    by hop end s (body.Located dl ul) words is = message_spells commands.Location (record { hop = hop; end = end; session = s; body = body.Located dl ul }) refl (λ end. located_spells end s dl ul is.0 words.2.0 words.2.1) words is
    by hop end s body.Purged words is = message_spells commands.Purge (record { hop = hop; end = end; session = s; body = body.Purged }) refl (λ end. purged_spells end s is.0) words is
    by hop end s (body.Rejected code r) words is = any_rejection hop end s code r words is
