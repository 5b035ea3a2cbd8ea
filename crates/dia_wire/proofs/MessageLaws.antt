-- What octets are, read from left to right, is what they spell, or why they are refused.
use Rattle.std.proofs.Common.{◌≡◌, ◌⊎◌, ◌↔◌, ℕ, ◌≤◌, eqb, leb, Bool, true, false, cond, List, Some, None, Ok, Err, IsOkAnd, refl, sym, ap, ◌∙◌, inl, inr, eq-eqb}
use Rattle.std.specs.Prelude.{Result}
use Rattle.std.proofs.lemmas.Bool.{eqb-true, leb-true, le-leb}
use Rattle.std.proofs.lemmas.Option.{same_Some}
use Rattle.echo_base.specs.declared.refusal.Refusal.{Refusal}
use Rattle.echo_base.specs.Format.{IsExactly, Decides}
use Rattle.echo_base.specs.declared.refusal.Bad.{Bad}
use Rattle.echo_base.specs.declared.refusal.Bad.TheVariants.{Refused, OutOfMemory}
use Rattle.echo_base.specs.Answer.{IsAnswerTaking}
use Rattle.echo_base.specs.Reading.{Read, value_of, GivesTaking}
use Rattle.echo_base.proofs.Answers.{bind_ok, bind_err, ok_of, ok_err, ok_parts}
use Rattle.echo_base.proofs.Formats.{just_exactly, behind, known_exactly, value_ok, value_err}
use Rattle.echo_base.proofs.Fields.{octet_exactly, octets_exactly, number_exactly}
use Rattle.tlv_elements.specs.Element.{truncated}
use Rattle.tlv_elements.specs.Piece.{passing, Passes}
use Rattle.tlv_elements.proofs.Frames.{room_exactly}
use Rattle.tlv_elements.proofs.Pieces.{passing_decides}
use Rattle.tlv_elements.proofs.Fields.{table_found, table_only, table_wrong, table_refused}
use Rattle.dia_avps.specs.Frame.{frame_in, dia, nothing}
use Rattle.dia_avps.proofs.Frames.{dia_is}
use Rattle.dia_wire.specs.declared.dia.Dia.{Dia}
use Rattle.dia_wire.specs.declared.kind.Command.{Command}
use Rattle.dia_wire.specs.declared.kind.Command.TheVariants as commands
use Rattle.dia_wire.specs.declared.kind.Kind.{Kind}
use Rattle.dia_wire.specs.declared.said.Said.{Said}
use Rattle.dia_wire.specs.Commands.{code_of, command_of}
use Rattle.dia_wire.specs.Header.{Header}
use Rattle.dia_wire.specs.Shapes.{shape_of}
use Rattle.dia_wire.specs.Messages.{kind_of, SpellsSaid, RefusesSaid, said_at, rest_in, rest_at, header_in, header_at, with_head, is_behind, behind_in, behind_at, dia_in, dia_at, DiaSpells, DiaRefuses, dia_of, TakesMemory}
use Rattle.dia_wire.proofs.ShapeLaws.{shape_is}

-- ---- what stands behind a header

said_found : (kind : Kind) (end : ℕ) (behind : Bool) (octets : List ℕ) (b : Said) → said_at kind end behind octets ≡ Ok b → SpellsSaid kind end behind octets b
unfolding said_at
said_found kind end behind octets b h = table_found frame_in dia dia_is (shape_of kind).rows (shape_is kind).table (shape_is kind).needs (shape_of kind).make (shape_of kind).pick (shape_is kind).picks end behind octets b h

said_only : (kind : Kind) (end : ℕ) (behind : Bool) (octets : List ℕ) (b : Said) → SpellsSaid kind end behind octets b → said_at kind end behind octets ≡ Ok b
unfolding said_at
said_only kind end behind octets b s = table_only frame_in dia dia_is (shape_of kind).rows (shape_is kind).table (shape_of kind).make (shape_of kind).pick (shape_is kind).picks end behind octets b s

said_wrong : (kind : Kind) (end : ℕ) (behind : Bool) (octets : List ℕ) (x : Refusal) → said_at kind end behind octets ≡ Err x → RefusesSaid kind end behind octets x
unfolding said_at
said_wrong kind end behind octets x h = table_wrong frame_in dia dia_is (shape_of kind).rows (shape_is kind).table (shape_is kind).needs (shape_of kind).make (shape_of kind).pick (shape_is kind).picks end behind octets x h

said_refused : (kind : Kind) (end : ℕ) (behind : Bool) (octets : List ℕ) (x : Refusal) → RefusesSaid kind end behind octets x → said_at kind end behind octets ≡ Err x
unfolding said_at
said_refused kind end behind octets x r = table_refused frame_in dia dia_is (shape_of kind).rows (shape_is kind).table (shape_of kind).pick end behind octets x r

-- ---- the header

command_found : (code : ℕ) (command : Command) → command_of code ≡ Some command → code ≡ code_of command
command_found code command h = by (eqb code 318) (eqb code 316) (eqb code 321) refl refl refl h
  where
    by : (a b c : Bool) → eqb code 318 ≡ a → eqb code 316 ≡ b → eqb code 321 ≡ c → cond a (Some commands.Authentication) (cond b (Some commands.Location) (cond c (Some commands.Purge) None)) ≡ Some command → code ≡ code_of command
    by true b c pa pb pc h = eqb-true code 318 pa ∙ ap code_of (same_Some commands.Authentication command h)
    by false true c pa pb pc h = eqb-true code 316 pb ∙ ap code_of (same_Some commands.Location command h)
    by false false true pa pb pc h = eqb-true code 321 pc ∙ ap code_of (same_Some commands.Purge command h)
    by false false false pa pb pc h = absurd cc

command_back : (command : Command) → command_of (code_of command) ≡ Some command
command_back commands.Authentication = refl
command_back commands.Location = refl
command_back commands.Purge = refl

command_decides : (code : ℕ) → Decides (command_of code) (λ command. code ≡ code_of command)
command_decides code = record { found = command_found code; only = λ command e. rw e (command_back command) }

header_exactly : IsExactly header_in header_at
unfolding header_in header_at rest_in rest_at
header_exactly =
    behind _ _ _ _ (octet_exactly (truncated 0)) (λ version.
    behind _ _ _ _ (known_exactly (passing (eqb version 1) nothing) (Passes (version ≡ 1) nothing) _ (passing_decides (eqb version 1) nothing (version ≡ 1) (λ h. eqb-true version 1 h) (λ e. eq-eqb version 1 e))) (λ first.
    behind _ _ _ _ (number_exactly (truncated 1) 3) (λ size.
    behind _ _ _ _ (known_exactly (passing (leb 20 size) nothing) (Passes (20 ≤ size) nothing) _ (passing_decides (leb 20 size) nothing (20 ≤ size) (λ h. leb-true 20 size h) (λ p. le-leb 20 size p))) (λ enough.
    behind _ _ _ _ (room_exactly (truncated 1) _) (λ room.
    behind _ _ _ _ (octet_exactly (truncated 1)) (λ flags.
    behind _ _ _ _ (number_exactly (truncated 1) 3) (λ code.
    behind _ _ _ _ (known_exactly (command_of code) (λ command. code ≡ code_of command) _ (command_decides code)) (λ command.
    behind _ _ _ _ (number_exactly (truncated 1) 4) (λ application.
    behind _ _ _ _ (known_exactly (passing (eqb application 0x01000023) nothing) (Passes (application ≡ 0x01000023) nothing) _ (passing_decides (eqb application 0x01000023) nothing (application ≡ 0x01000023) (λ h. eqb-true application 0x01000023 h) (λ e. eq-eqb application 0x01000023 e))) (λ s6a.
    behind _ _ _ _ (number_exactly (truncated 1) 4) (λ hop.
    behind _ _ _ _ (number_exactly (truncated 1) 4) (λ end_to_end.
    behind _ _ _ _ (octets_exactly (truncated 1) _) (λ octets.
    just_exactly _)))))))))))))

-- ---- whole messages

behind_exactly : (h : Header) → IsExactly (behind_in h) (behind_at h)
behind_exactly h = record {
  found = λ s d t e.
      let x = bind_ok (said_at (kind_of h) h.end (is_behind s) h.octets) (λ b. Ok (with_head h b, s)) (d, t) e in
      let p = ok_parts (with_head h x.0) d s t x.2 in
      ((x.0, said_found (kind_of h) h.end (is_behind s) h.octets x.0 x.1, sym p.0), p.1);
  only = λ s d t m. rw (said_only (kind_of h) h.end (is_behind s) h.octets m.0.0 m.0.1, m.0.2, m.1) refl;
  wrong = λ s x e. unread s x (bind_err (said_at (kind_of h) h.end (is_behind s) h.octets) (λ b. Ok (with_head h b, s)) x e);
  refused = λ s x r. rw (said_refused (kind_of h) h.end (is_behind s) h.octets x r) refl;
}
  where
    unread : (s : List ℕ) (x : Refusal) → (said_at (kind_of h) h.end (is_behind s) h.octets ≡ Err x) ⊎ ((b : Said) × (said_at (kind_of h) h.end (is_behind s) h.octets ≡ Ok b) × (ok_of {A = Dia × List ℕ} (with_head h b, s) ≡ Err x)) → RefusesSaid (kind_of h) h.end (is_behind s) h.octets x
    unread s x (inl a) = said_wrong (kind_of h) h.end (is_behind s) h.octets x a
    unread s x (inr y) = absurd (ok_err (with_head h y.0, s) x y.2)

pub dia_exactly : IsExactly dia_in dia_at
unfolding dia_in dia_at
dia_exactly = behind _ _ _ _ header_exactly behind_exactly

pub message_exact : (octets : List ℕ) (d : Dia) → (dia_of octets ≡ Ok d) ↔ DiaSpells octets d
message_exact octets d = (λ h. (let x = value_ok (dia_at octets) d h in (x.0, dia_exactly.found octets d x.0 x.1)), λ s. ap value_of (dia_exactly.only octets d s.0 s.1))

pub refusal_exact : (octets : List ℕ) (x : Refusal) → (dia_of octets ≡ Err x) ↔ DiaRefuses octets x
refusal_exact octets x = (λ h. dia_exactly.wrong octets x (value_err (dia_at octets) x h), λ r. ap value_of (dia_exactly.refused octets x r))

-- ---- what a reader of the code gave

pub gives_answer : (result : Result Dia Bad) (octets rest : List ℕ) → GivesTaking TakesMemory result rest (dia_at octets) → IsAnswerTaking TakesMemory (dia_of octets) result
gives_answer (Ok message) octets rest h = rw h refl
gives_answer (Err (Refused e)) octets rest h = rw h refl
gives_answer (Err OutOfMemory) octets rest h = taken (dia_at octets) h
  where
    taken : (r : Read (List ℕ) Refusal Dia) → IsOkAnd r (λ x. TakesMemory x.0) → IsOkAnd (value_of r) TakesMemory
    taken (Ok x) h = h
    taken (Err e) h = absurd h
