-- What the lines of a trace are, as text.
use Rattle.std.specs.Prelude.{ℕ, List, [], ◌++◌, codes, Result, Ok, Err}
use Rattle.std.specs.Fmt.{decimal}
use Rattle.std.specs.List.{flat_map}
use Rattle.hex.specs.Hex.{encode_lower}
use Rattle.echo_base.specs.declared.refusal.Refusal.{Refusal}
use Rattle.echo_base.specs.Refusal.{refusal_text}
use Rattle.echo_base.specs.Answer.{◌>>=◌}
use Rattle.case_form.specs.declared.case.TraceLine.{TraceLine}
use Rattle.case_form.specs.declared.case.TraceKind.{TraceKind}
use Rattle.case_form.specs.declared.case.TraceKind.TheVariants as kinds
use Rattle.s1ap_pdu.specs.declared.pdu.Pdu.{Pdu}
use Rattle.s1ap_pdu.specs.Messages.{kind_of, name_of}
use Rattle.s1ap_pdu.specs.Built.{message_at}
use Rattle.s1ap_pdu.specs.Run.{written}
use Rattle.gtp2_wire.specs.declared.gtp.Gtp.{Gtp}
use Rattle.gtp2_wire.specs.Messages.{gtp_of}
use Rattle.gtp2_wire.specs.Written.{type_octet, gtp_run}
use Rattle.dia_wire.specs.declared.dia.Dia.{Dia}
use Rattle.dia_wire.specs.Messages.{dia_of}
use Rattle.dia_wire.specs.Written.{command_code, dia_run}
use Rattle.entry_edge.specs.Sent.{octets_of}
use Rattle.report_text.specs.Lines.{ended}

-- ---- protocols

-- what octets are, the name of a message, and the octets with which it is written
pub record Shown (M : Type 0) : Type 0 where
  pub read : List ℕ → Result M Refusal
  pub name : M → List ℕ
  pub octets : M → List ℕ

-- messages of base stations, by their names
abbrev pub pdus : Shown Pdu
pdus = record { read = message_at; name = λ p. name_of (kind_of p); octets = written }

-- messages of the gateway, by their types
abbrev pub gtps : Shown Gtp
gtps = record { read = gtp_of; name = λ g. codes "gtp " ++ decimal (type_octet g.body); octets = gtp_run }

-- messages of the subscriber server, by their commands
abbrev pub dias : Shown Dia
dias = record { read = dia_of; name = λ d. codes "dia " ++ decimal (command_code d.body); octets = dia_run }

-- ---- lines

-- the message of a line's text, or why it has none
unfoldable pub message_of : {M : Type 0} → Shown M → List ℕ → Result M Refusal
message_of p text = octets_of text >>= p.read

-- a message by its name, and the octets with which it is written
abbrev pub message_line : ℕ → List ℕ → List ℕ → List ℕ
message_line line name octets = codes "line " ++ decimal line ++ codes " " ++ name ++ codes " " ++ encode_lower octets

abbrev pub refusal_line : ℕ → Refusal → List ℕ
refusal_line line refusal = codes "line " ++ decimal line ++ codes " refused " ++ refusal_text refusal

abbrev pub shown : {M : Type 0} → Shown M → ℕ → Result M Refusal → List ℕ
shown p line (Ok m) = ended (message_line line (p.name m) (p.octets m))
shown p line (Err e) = ended (refusal_line line e)

-- a notice is passed over
abbrev pub kind_text : {M : Type 0} → Shown M → ℕ → TraceKind → List ℕ
kind_text p line (kinds.Pdu station text) = shown p line (message_of p text)
kind_text p line (kinds.Data imsi) = []

abbrev pub line_text : {M : Type 0} → Shown M → TraceLine → List ℕ
line_text p line = kind_text p line.line line.kind

abbrev pub shown_text : {M : Type 0} → Shown M → List TraceLine → List ℕ
shown_text p trace = flat_map (line_text p) trace

-- ---- all lines

abbrev pub show_text : List TraceLine → List ℕ
show_text trace = shown_text pdus trace

abbrev pub show_gtp_text : List TraceLine → List ℕ
show_gtp_text trace = shown_text gtps trace

abbrev pub show_dia_text : List TraceLine → List ℕ
show_dia_text trace = shown_text dias trace
