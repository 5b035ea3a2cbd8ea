-- Admitted messages are in their ranges, and numbered from 1.
use Rattle.std.proofs.Common.{◌≡◌, ℕ, lit<, ◌+◌, ◌^◌, ◌<◌, Bool, true, false, eqb, List, [], ◌∷◌, ◌++◌, length, map, fold, Option, Some, None, suc, zero, refl, sym, ap, ◌∙◌, subst, inl, inr, arith}
use Rattle.std.specs.Prelude.{if◌then◌else◌, All, find, ◌==◌, option_map, Result, Ok, Err, IfOk, IfSome}
use Rattle.std.specs.List.{AllByRecursion, range_with_len}
use Rattle.std.proofs.lemmas.Bool.{cases_Bool}
use Rattle.std.proofs.lemmas.List.{length-append, map-append}
use Rattle.std.proofs.lemmas.List.Elements.{All-nil, All-push, All-from_recursion, recursion_from_All}
use Rattle.echo_base.specs.declared.refusal.Refusal.{Refusal}
use Rattle.echo_base.specs.Answer.{◌>>=◌}
use Rattle.echo_base.specs.declared.identity.Identity.{Identity}
use Rattle.device_types.specs.declared.subscriber.Subscriber.{Subscriber}
use Rattle.device_types.specs.declared.subscriber.DeviceId.{DeviceId}
use Rattle.device_types.specs.declared.message.Body.{Body}
use Rattle.device_types.specs.declared.message.Message.{Message}
use Rattle.device_types.specs.Line.{number_of, IsLine}
use Rattle.device_types.specs.declared.message.Body.TheVariants as bodies
use Rattle.device_types.specs.Message.{IsFrom, IsSide, IsBody, IsMessage}
use Rattle.device_types.specs.Numbers.{IsWithin}
use Rattle.case_form.specs.declared.case.TraceLine.{TraceLine}
use Rattle.case_form.specs.declared.case.TraceKind.{TraceKind}
use Rattle.case_form.specs.declared.case.TraceKind.TheVariants as kinds
use Rattle.case_form.specs.Said.{HasStation}
use Rattle.s1ap_ies.specs.declared.names.TheConstants as names
use Rattle.s1ap_ies.specs.declared.tai.Tai.{Tai}
use Rattle.s1ap_ies.specs.declared.stmsi.Stmsi.{Stmsi}
use Rattle.s1ap_ies.specs.declared.erab_done.ErabDone.{ErabDone}
use Rattle.s1ap_ies.specs.Run.{IsTai, IsErabDone}
use Rattle.s1ap_ies.proofs.Items.{dones_right}
use Rattle.s1ap_pdu.specs.declared.pdu.Pdu.{Pdu}
use Rattle.s1ap_pdu.specs.declared.pdu.Pdu.TheVariants.{InitialUeMessage, UplinkNasTransport, InitialContextSetupResponse, ErabSetupResponse, InitialContextSetupFailure, UeContextReleaseRequest, UeContextReleaseComplete, UeCapabilityInfoIndication}
use Rattle.s1ap_pdu.specs.Built.{message_at}
use Rattle.s1ap_pdu.specs.Run.{IsRight, HasOctets}
use Rattle.s1ap_pdu.proofs.Exact.{found_message}
use Rattle.s1ap_pdu.proofs.Right.{message_right}
use Rattle.nas_kinds.specs.declared.nas_in.NasIn.{NasIn}
use Rattle.nas_kinds.specs.declared.nas_in.NasIn.TheVariants.{AttachRequest, AttachComplete, DetachRequest, AreaRequest, AuthResponse, SecurityComplete, SecurityReject, ServiceRequest, PdnRequest, PdnAccept}
use Rattle.nas_kinds.specs.Reading.{nas_of}
use Rattle.entry_edge.specs.declared.sent.Sent.{Sent}
use Rattle.entry_edge.specs.declared.check.Taken.{Taken}
use Rattle.entry_edge.specs.Sent.{octets_of, service_from, request_of, onward_of, erab_of, side_of, context_from, second_from, named, numbered, code_of, sent_of, said_by, notice}
use Rattle.entry_edge.specs.Trace.{Turn, Admitted, Refused, said_in, station_in, device_for, taken_by, taken_at, turn_of, turn, history, and_message, messages_of, book_of}
use Rattle.entry_edge.proofs.Causes.{cause_left}
use Rattle.entry_edge.proofs.NasRanges.{IsNasRight, nas_right}

-- ---- what a message says

-- the body of a message of a base station, which is no notice
abbrev IsSaid : Body → Type 0
IsSaid bodies.Data = ⊥
IsSaid body = IsBody body

abbrev IsSentRight : Sent → Type 0
IsSentRight s = (s.enb < 2 ^ 24) × IsSaid s.body

-- it comes from its base station
from_station : (body : Body) (station enb : ℕ) → IsWithin 65535 station → enb < 2 ^ 24 → IsSaid body → IsFrom body station enb × IsBody body
from_station bodies.Data station enb within low said = absurd said
from_station _ station enb within low said = (record { station_least = within.0; station_most = omega arith; enb_most = low }, said)

service_right : (end : ℕ) (stmsi : Option Stmsi) → IfOk (service_from end stmsi) (λ said. IsSaid said.1)
service_right end None = tt
service_right end (Some s) = tt

request_right : (end : ℕ) (tai : Tai) (stmsi : Option Stmsi) (m : NasIn) → IsTai tai → IsNasRight m → IfOk (request_of end tai stmsi m) (λ said. IsSaid said.1)
request_right end tai stmsi (AttachRequest identity eea eia pti) h n = (h, n.0, n.1, n.2)
request_right end tai stmsi (DetachRequest off identity) h n = tt
request_right end tai stmsi (AreaRequest identity) h n = h
request_right end tai stmsi ServiceRequest h n = service_right end stmsi
request_right end tai stmsi AttachComplete h n = tt
request_right end tai stmsi (AuthResponse res) h n = tt
request_right end tai stmsi SecurityComplete h n = tt
request_right end tai stmsi (SecurityReject cause) h n = tt
request_right end tai stmsi (PdnRequest pti) h n = tt
request_right end tai stmsi PdnAccept h n = tt

onward_right : (tai : Tai) (m : NasIn) → IsTai tai → IsNasRight m → IfOk (onward_of tai m) IsSaid
onward_right tai AttachComplete h n = tt
onward_right tai (DetachRequest off identity) h n = tt
onward_right tai (AreaRequest identity) h n = h
onward_right tai (AuthResponse res) h n = n
onward_right tai SecurityComplete h n = tt
onward_right tai (SecurityReject cause) h n = tt
onward_right tai (PdnRequest pti) h n = n
onward_right tai PdnAccept h n = tt
onward_right tai (AttachRequest identity eea eia pti) h n = tt
onward_right tai ServiceRequest h n = tt

abbrev sent_ok : Sent → Result Sent Refusal
sent_ok s = Ok s

is_sent : (one s : Sent) → IsSentRight one → sent_ok one ≡ Ok s → IsSentRight s
is_sent one s right e = let same : one ≡ s = cc in subst IsSentRight same right

named_right : (enb : ℕ) (said : Result (Identity × Body) Refusal) (s : Sent) → enb < 2 ^ 24 → IfOk said (λ x. IsSaid x.1) → (said >>= named enb) ≡ Ok s → IsSentRight s
named_right enb (Ok x) s en h e = is_sent _ s (en, h) e
named_right enb (Err x) s en h e = absurd (cc e)

numbered_right : (mme enb : ℕ) (body : Result Body Refusal) (s : Sent) → enb < 2 ^ 24 → IfOk body IsSaid → (body >>= numbered mme enb) ≡ Ok s → IsSentRight s
numbered_right mme enb (Ok body) s en h e = is_sent _ s (en, h) e
numbered_right mme enb (Err x) s en h e = absurd (cc e)

initial_right : (end enb : ℕ) (tai : Tai) (stmsi : Option Stmsi) (read : Result NasIn Refusal) (s : Sent) → enb < 2 ^ 24 → IsTai tai → IfOk read IsNasRight → (read >>= request_of end tai stmsi >>= named enb) ≡ Ok s → IsSentRight s
initial_right end enb tai stmsi (Ok m) s en h n e = named_right enb (request_of end tai stmsi m) s en (request_right end tai stmsi m h n) e
initial_right end enb tai stmsi (Err x) s en h n e = absurd (cc e)

uplink_right : (mme enb : ℕ) (tai : Tai) (read : Result NasIn Refusal) (s : Sent) → enb < 2 ^ 24 → IsTai tai → IfOk read IsNasRight → (read >>= onward_of tai >>= numbered mme enb) ≡ Ok s → IsSentRight s
uplink_right mme enb tai (Ok m) s en h n e = numbered_right mme enb (onward_of tai m) s en (onward_right tai m h n) e
uplink_right mme enb tai (Err x) s en h n e = absurd (cc e)

side_right : (o : Option ErabDone) → IfSome o IsErabDone → IfSome (option_map side_of o) IsSide
side_right None h = tt
side_right (Some erab) h = (h.1, h.2)

context_right : (o second : Option ErabDone) → IfSome o IsErabDone → IfSome second IsErabDone → IsSaid (context_from o second)
context_right None second h s = tt
context_right (Some erab) second h s = (h.1, h.2, side_right second s)

second_right : (o : Option ErabDone) → IfSome o IsErabDone → IsSaid (second_from o)
second_right None h = tt
second_right (Some erab) h = (h.1, h.2)

find_right : (P : ErabDone → Type 0) (p : ErabDone → Bool) (items : List ErabDone) → AllByRecursion P items → IfSome (find p items) P
find_right P p [] all = tt
find_right P p (item ∷ items) all =
    elim (cases_Bool (p item)) [
      | inl y ↦ rw y all.0
      | inr n ↦ rw n (find_right P p items all.1)
    ]

erab_right : (id : ℕ) (done : List ErabDone) → AllByRecursion IsErabDone done → IfSome (erab_of id done) IsErabDone
erab_right id done all = find_right IsErabDone (λ erab. erab.id == id) done all

sent_right : (end : ℕ) (p : Pdu) (s : Sent) → IsRight p → HasOctets p → sent_of end p ≡ Ok s → IsSentRight s
unfolding sent_of
sent_right end (InitialUeMessage enb nas tai cgi rrc stmsi) s r o e = initial_right end enb tai stmsi (nas_of nas) s (omega (arith, r.0.0.0)) r.0.1.1.0.0 (nas_right nas (All-from_recursion (λ octet. octet < 256) nas o.1.0.1)) e
sent_right end (UplinkNasTransport mme enb nas cgi tai) s r o e = uplink_right mme enb tai (nas_of nas) s (omega (arith, r.0.1.0.0)) r.0.1.1.1.1.0.0 (nas_right nas (All-from_recursion (λ octet. octet < 256) nas o.1.1.0.1)) e
sent_right end (InitialContextSetupResponse mme enb done) s r o e =
    let items = (dones_right (λ octets. Unit {0}) done r.0.1.1.0.0).2 in
    is_sent _ s (omega (arith, r.0.1.0.0), context_right (erab_of names.DEFAULT_ERAB done) (erab_of names.SECOND_ERAB done) (erab_right names.DEFAULT_ERAB done items) (erab_right names.SECOND_ERAB done items)) e
sent_right end (ErabSetupResponse mme enb None) s r o e = is_sent _ s (omega (arith, r.0.1.0.0), tt) e
sent_right end (ErabSetupResponse mme enb (Some done)) s r o e =
    let items = (dones_right (λ octets. Unit {0}) done r.0.1.1.0.0).2 in
    is_sent _ s (omega (arith, r.0.1.0.0), second_right (erab_of names.SECOND_ERAB done) (erab_right names.SECOND_ERAB done items)) e
sent_right end (InitialContextSetupFailure mme enb cause) s r o e = is_sent _ s (omega (arith, r.0.1.0.0), tt) e
sent_right end (UeContextReleaseRequest mme enb cause) s r o e = is_sent _ s (omega (arith, r.0.1.0.0), cause_left (code_of cause) r.0.1.1.0.0) e
sent_right end (UeContextReleaseComplete mme enb) s r o e = is_sent _ s (omega (arith, r.0.1.0.0), tt) e
sent_right end (UeCapabilityInfoIndication mme enb radio) s r o e = is_sent _ s (omega (arith, r.0.1.0.0), All-from_recursion (λ octet. octet < 256) radio o.1.1.0.1) e
sent_right end _ s r o e = absurd (cc e)

-- ---- what a line says

from_message : (octets : List ℕ) (read : Result Pdu Refusal) (s : Sent) → message_at octets ≡ read → (read >>= sent_of (length octets)) ≡ Ok s → IsSentRight s
from_message octets (Ok p) s is e = let right = message_right octets p (found_message octets p is) in sent_right (length octets) p s right.0 right.1 e
from_message octets (Err x) s is e = absurd (cc e)

from_octets : (o : Result (List ℕ) Refusal) (s : Sent) → (o >>= λ octets. (message_at octets >>= sent_of (length octets))) ≡ Ok s → IsSentRight s
from_octets (Ok octets) s e = from_message octets (message_at octets) s refl e
from_octets (Err x) s e = absurd (cc e)

said_right : (text : List ℕ) (s : Sent) → said_by text ≡ Ok s → IsSentRight s
unfolding said_by
said_right text s e = from_octets (octets_of text) s e

-- ---- the turns

abbrev IsTurnRight : Turn → Type 0
IsTurnRight (Admitted t) = IsFrom t.sent.body t.station t.sent.enb × IsBody t.sent.body
IsTurnRight (Refused r) = Unit {0}

with_device : (line station : ℕ) (s : Sent) (device : Result DeviceId Refusal) → IsFrom s.body station s.enb × IsBody s.body → IsTurnRight (turn_of line (device >>= λ d. Ok (record { device = d; station = station; sent = s })))
with_device line station s (Ok d) right = right
with_device line station s (Err x) right = tt

with_said : (rows : List Subscriber) (H : List Turn) (line station : ℕ) (text : List ℕ) (said : Result Sent Refusal) → said_by text ≡ said → IsWithin 65535 station → IsTurnRight (turn_of line (said >>= taken_by rows H station))
with_said rows H line station text (Ok s) is within =
    let right = said_right text s is in
    with_device line station s (device_for rows H (station, s.enb) s.claim) (from_station s.body station s.enb within right.0 right.1)
with_said rows H line station text (Err x) is within = tt

of_kind : (rows : List Subscriber) (H : List Turn) (line : ℕ) (kind : TraceKind) → HasStation kind → IsTurnRight (turn_of line (said_in kind >>= taken_by rows H (station_in kind)))
of_kind rows H line (kinds.Pdu station text) within = with_said rows H line station text (said_by text) refl within
of_kind rows H line (kinds.Data imsi) none = with_device line 0 (notice imsi) (device_for rows H (0, 0) (notice imsi).claim) ((refl, lit< tt), tt)

turn_right : (rows : List Subscriber) (H : List Turn) (line : TraceLine) → HasStation line.kind → IsTurnRight (turn_of line.line (taken_at rows H line))
unfolding taken_at
turn_right rows H line station = of_kind rows H line.line line.kind station

turns_right : (rows : List Subscriber) (trace : List TraceLine) (H : List Turn) → AllByRecursion (λ line. HasStation line.kind) trace → AllByRecursion IsTurnRight H → AllByRecursion IsTurnRight (fold (turn rows) H trace)
turns_right rows [] H stations all = all
turns_right rows (line ∷ trace) H stations all = turns_right rows trace (turn rows H line) stations.1 (turn_right rows H line stations.0, all)

-- ---- the book

range_more : (a n : ℕ) → range_with_len a (suc n) ≡ range_with_len a n ++ (a + n) ∷ []
range_more a zero = ap (λ (k : ℕ). k ∷ []) (omega arith)
range_more a (suc n) =
    let last : a + 1 + n ≡ a + suc n = omega arith in
    ap (λ (l : List ℕ). a ∷ l) (range_more (a + 1) n ∙ ap (λ (k : ℕ). range_with_len (a + 1) n ++ k ∷ []) last)

no_line : IsLine []
no_line = record { numbers = refl; ranges = All-nil IsMessage }

line_more : (messages : List Message) (t : Taken) → IsTurnRight (Admitted t) → IsLine messages → IsLine (and_message messages t)
line_more messages t right line =
    let n = length messages in
    let last : n + 1 ≡ 1 + n = omega arith in
    let more : suc n ≡ n + 1 = omega arith in
    let numbers : map number_of messages ++ (n + 1) ∷ [] ≡ range_with_len 1 (n + 1) = ap (λ (l : List ℕ). l ++ (n + 1) ∷ []) line.numbers ∙ ap (λ (k : ℕ). range_with_len 1 n ++ k ∷ []) last ∙ sym (range_more 1 n) ∙ ap (range_with_len 1) more in
    record {
      numbers = simp (map-append, length-append) numbers;
      ranges = All-push IsMessage messages _ line.ranges (record { pair = right.0; body = right.1 });
    }

push_right : (test : Bool) (messages : List Message) (t : Taken) → IsTurnRight (Admitted t) → IsLine messages → IsLine (if test then and_message messages t else messages)
push_right true messages t right line = line_more messages t right line
push_right false messages t right line = line

messages_right : (d : ℕ) (H : List Turn) → AllByRecursion IsTurnRight H → IsLine (messages_of d H)
messages_right d [] all = no_line
messages_right d (Refused r ∷ H) all = messages_right d H all.1
messages_right d (Admitted t ∷ H) all = push_right (eqb t.device.0 d) (messages_of d H) t all.0 (messages_right d H all.1)

lines_right : (ds : List ℕ) (H : List Turn) → AllByRecursion IsTurnRight H → AllByRecursion IsLine (map (λ d. messages_of d H) ds)
lines_right [] H all = tt
lines_right (d ∷ ds) H all = (messages_right d H all, lines_right ds H all)

-- the lines of the book of a trace whose PDUs are from no base station 0
pub book_right : (n : ℕ) (rows : List Subscriber) (trace : List TraceLine) → All (λ line. HasStation line.kind) trace → All IsLine (book_of n (history rows trace))
book_right n rows trace stations =
    All-from_recursion IsLine (book_of n (history rows trace)) (lines_right (range_with_len 1 n) (history rows trace) (turns_right rows trace [] (recursion_from_All (λ line. HasStation line.kind) trace stations) tt))
