-- A world begins, and goes on by an event; what its calls have to know of the events before.
use Rattle.std.proofs.Common.{◌≡◌, ℕ, ◌+◌, ◌-◌, ◌≤◌, List, [], ◌∷◌, ◌++◌, length, replicate, get_or, Some, refl, sym, ap, ◌∙◌, subst, arith}
use Rattle.std.specs.Prelude.{map, slice_get}
use Rattle.std.proofs.lemmas.List.{get_or-map, length-map}
use Rattle.std.proofs.lemmas.List.Elements.{All-get_or}
use Rattle.std.proofs.lemmas.List.FromFn.{get_or-range_with_len}
use Rattle.std.proofs.lemmas.Option.{slice_get-get_or}
use Rattle.device_types.specs.declared.event.Event.{Event}
use Rattle.device_types.specs.declared.event.EventAnswer.{EventAnswer}
use Rattle.device_types.specs.declared.event.Lane.{Lane}
use Rattle.device_types.specs.declared.event.Lane.TheVariants.{Down, Gateway, Subscriber}
use Rattle.device_types.specs.declared.input.Input.{Input}
use Rattle.device_types.specs.declared.message.Message.{Message}
use Rattle.device_types.specs.declared.step.Entry.{Entry}
use Rattle.device_types.specs.declared.subscriber.DeviceId.{DeviceId}
use Rattle.device_types.specs.Journal.{version_of}
use Rattle.device_types.specs.Line.{number_of, IsNumbered, IsLine}
use Rattle.device_types.specs.Numbers.{IsWithin}
use Rattle.replica_worker.specs.declared.hand.Hand.{Hand}
use Rattle.replica_worker.specs.declared.hand.Hand.TheVariants as hands
use Rattle.session_row.specs.Row.{look_at as row_look}
use Rattle.session_store.specs.Charter.{CharterState, IsCharter}
use Rattle.session_store.specs.Rows.{opening_row}
use Rattle.schedule_laws.specs.Answer.{look_at, answer, turn, history, IsEvent, Lawful}
use Rattle.schedule_laws.specs.Counts.{Turn, Arrival, Held, hand, journal}
use Rattle.schedule_laws.specs.Counts.Arrival.{TheMessage, TheAnswer}
use Rattle.schedule_laws.specs.Counts.Held.{Nothing, Taken, Ready}
use Rattle.schedule_laws.specs.Input.{message_of, no_message, input_of, IsArrival, IsHand}
use Rattle.schedule_laws.specs.Lists.{has}
use Rattle.schedule_laws.specs.Promise.{setting, Holds}
use Rattle.schedule_laws.specs.Setting.{Setting, messages_of, entries_of, window, no_row, row_of}
use Rattle.link_schedule.specs.World.{Parts, WorldState, fresh_window, IsSetting, row_after, hand_of, IsWindowOf, AreGatewayCalls, AreSubscriberCalls, AreSent, ArePushed, marks_on, ArePartsOf, AreLinksOf, IsWorld, Answers}
use Rattle.link_schedule.proofs.Events.{entry_held}
use Rattle.schedule_laws.proofs.EachAnswer.{history_more}
use Rattle.schedule_laws.proofs.Items.{Each-same}
use Rattle.schedule_laws.proofs.Laws.{version_is, hand_ok, arrival_device, sent_bound}
use Rattle.link_schedule.proofs.Links.{links}
use Rattle.schedule_laws.proofs.Promises.{arrival_of, step_is_next}

-- ---- the beginning

-- the parts before any event
abbrev pub fresh_parts : Setting → Parts
fresh_parts s = record {
  rows = replicate (length s.rows) (record { journal = []; settled = record { down = 0; gateway = 0; subscriber = 0 } });
  hands = replicate s.replicas hands.Empty;
  windows = map fresh_window s.book;
  gateway = replicate (length s.rows) [];
  subscriber = replicate (length s.rows) [];
  sent = replicate (length s.rows) [];
  pushed = replicate (length s.rows) (record { down = []; gateway = []; subscriber = [] });
}

fresh_is : (s : Setting) (d : ℕ) → IsWindowOf s [] d (fresh_window (messages_of s d))
fresh_is s d = record { line = refl; greatest = refl; downs = refl }

none_pushed : (l : Lane) (k : ℕ) → has k (marks_on (record { down = []; gateway = []; subscriber = [] }) l) ≡ has k []
none_pushed Down k = refl
none_pushed Gateway k = refl
none_pushed Subscriber k = refl

pub starts : (s : Setting) → length s.book ≡ length s.rows → ArePartsOf s [] (fresh_parts s)
starts s each =
    record {
      rows = Each-same (length s.rows) _ (λ d row. row ≡ row_after s [] d) (λ d. refl);
      hands = Each-same s.replicas hands.Empty (λ r held. held ≡ hand_of s (hand r [])) (λ r. refl);
      windows = record {
        long = length-map s.book fresh_window ∙ each;
        at = λ d w within. rw (get_or-map fresh_window s.book (d - 1) [] w (omega (arith, each, within.0, within.1))) (fresh_is s d);
      };
      gateway = Each-same (length s.rows) [] (AreGatewayCalls s []) (λ d. refl);
      subscriber = Each-same (length s.rows) [] (AreSubscriberCalls s []) (λ d. refl);
      sent = Each-same (length s.rows) [] (AreSent []) (λ d n low. refl);
      pushed = Each-same (length s.rows) _ (ArePushed []) (λ d l k low. none_pushed l k);
    }

pub world_starts : (s : Setting) → IsSetting s → IsWorld (record { setting = s; events = []; parts = fresh_parts s })
world_starts s is = let m = starts s is.each in record { setting = is; lawful = tt; parts = m; links = links s [] (fresh_parts s) tt m }

-- ---- an event

-- what a call on an event has to show of the parts, and of its answer
pub goes_on : (w : WorldState) (e : Event) (a : EventAnswer) (p : Parts) → IsWorld w → IsEvent w.setting e → a ≡ answer w.setting (history w.setting w.events) e → ArePartsOf w.setting ((e, a) ∷ history w.setting w.events) p → IsWorld (record { setting = w.setting; events = w.events ++ e ∷ []; parts = p })
goes_on w e a p is i told parts =
    let s = w.setting in
    let H = history s w.events in
    let m : ArePartsOf s (turn s H e) p = subst (λ (b : EventAnswer). ArePartsOf s ((e, b) ∷ H) p) told parts in
    let L : Lawful s (turn s H e) = (i, refl, is.lawful) in
    let k = links s (turn s H e) p L m in
    let more = sym (history_more s w.events e) in
    record { setting = is.setting; lawful = subst (Lawful s) more L; parts = subst (λ (K : List Turn). ArePartsOf s K p) more m; links = subst (λ (K : List Turn). AreLinksOf s K p) more k }

pub answered : (w : WorldState) (e : Event) (a : EventAnswer) (p : Parts) → a ≡ answer w.setting (history w.setting w.events) e → Answers w (record { setting = w.setting; events = w.events ++ e ∷ []; parts = p }) e a
answered w e a p told = record { same = refl; more = refl; answered = told }

-- ---- hands

-- of a hand with this input, what arrived
abbrev pub IsWith : DeviceId → Input → Hand → Type 0
IsWith d input hands.Empty = ⊥
IsWith d input (hands.Taken e other) = (e ≡ d) × (other ≡ input)
IsWith d input (hands.Ready e v entry) = (e ≡ d) × (entry.input ≡ input)

pub with_input : (s : Setting) (x : Held) (d : DeviceId) (input : Input) → IsWith d input (hand_of s x) → (what : Arrival) × Holds d.0 what x × (input ≡ input_of s d.0 what)
with_input s Nothing d input i = absurd (i)
with_input s (Taken e what) d input i = (what, (ap (λ (x : DeviceId). x.0) (sym i.0), refl), sym i.1 ∙ ap (λ (f : DeviceId). input_of s f.0 what) i.0)
with_input s (Ready e what v) d input i = (what, (ap (λ (x : DeviceId). x.0) (sym i.0), refl), sym i.1 ∙ ap (λ (f : DeviceId). input_of s f.0 what) i.0)

-- what a replica holds was on its link, and is of a row
pub held_arrival : (s : Setting) (H : List Turn) (r d : ℕ) (what : Arrival) → Lawful s H → Holds d what (hand r H) → IsArrival H d what × IsWithin (length s.rows) d
held_arrival s H r d what L h = let i = arrival_of s H d what (hand r H) h (hand_ok s r H L) in (i, arrival_device s H d what L i)

-- the entry of a hand is the next one behind the version that was read, which the row has reached
pub made_follows : (s : Setting) (H : List Turn) (r d v : ℕ) (what : Arrival) → Lawful s H → hand r H ≡ Ready d what v → (v ≤ version_of (journal s d H)) × (slice_get (entries_of s d) v ≡ Some (entry_held s d what v))
made_follows s H r d v what L h =
    let i = subst (IsHand s H) h (hand_ok s r H L) in
    let n = version_is s d H L in
    let low = i.1 in
    (omega arith, step_is_next s H r d v what L h)

-- ---- numbers of messages

pub line_of : (s : Setting) (d : ℕ) → IsSetting s → IsWithin (length s.rows) d → IsLine (messages_of s d)
line_of s d is within = All-get_or IsLine s.book (d - 1) [] (omega (arith, is.each, within.0, within.1)) is.lines

pub number_in : (messages : List Message) (n : ℕ) → IsNumbered messages → 1 ≤ n → n ≤ length messages → number_of (get_or messages (n - 1) no_message) ≡ n
number_in messages n numbers low high =
    let count = length messages in
    sym (get_or-map number_of messages (n - 1) no_message 0 (omega arith))
    ∙ ap (λ xs. get_or xs (n - 1) 0) numbers
    ∙ get_or-range_with_len 1 count (n - 1) 0 (omega arith)
    ∙ (let e : 1 + (n - 1) ≡ n = omega arith in e)

-- the row says to an input what it says to what arrived
pub look_same : (s : Setting) (H : List Turn) (J : List Entry) (d : ℕ) (what : Arrival) → IsSetting s → Lawful s H → IsArrival H d what → row_look window J (input_of s d what) ≡ look_at J what
look_same s H J d (TheMessage n) is L i =
    let b = sent_bound s d n H L i.1 in
    let line = line_of s d is b.0 in
    ap (λ k. look_at J (TheMessage k)) (number_in (messages_of s d) n line.numbers b.1 b.2)
look_same s H J d (TheAnswer l k) is L i = refl

-- ---- what a store under the law of the machine that never fails asks

pub row_there : (s : Setting) (d : ℕ) → IsWithin (length s.rows) d → slice_get s.rows (d - 1) ≡ Some (row_of s d)
row_there s d within = slice_get-get_or s.rows (d - 1) no_row (omega (arith, within.0, within.1))

pub line_there : (s : Setting) (d : ℕ) → IsSetting s → IsWithin (length s.rows) d → slice_get s.book (d - 1) ≡ Some (messages_of s d)
line_there s d is within = slice_get-get_or s.book (d - 1) [] (omega (arith, is.each, within.0, within.1))

-- the message of a hand stands in the line at its number
pub message_own : (s : Setting) (H : List Turn) (d n : ℕ) → IsSetting s → Lawful s H → IsArrival H d (TheMessage n) → slice_get (messages_of s d) ((message_of s d n).number - 1) ≡ Some (message_of s d n)
message_own s H d n is L i =
    let b = sent_bound s d n H L i.1 in
    let line = line_of s d is b.0 in
    let low = b.1 in
    let high = b.2 in
    ap (λ k. slice_get (messages_of s d) (k - 1)) (number_in (messages_of s d) n line.numbers b.1 b.2)
    ∙ slice_get-get_or (messages_of s d) (n - 1) no_message (omega arith)

-- ---- the beginning, as a world is made

pub charter_setting : (charter : CharterState) (replicas : ℕ) → IsCharter charter → IsWithin 16 replicas → IsSetting (setting charter.rows charter.lines replicas)
charter_setting charter replicas is within = record { rows = is.table.ranges; lines = is.lines; short = is.short; each = is.each; replicas = within }

-- each part is as it is before any event
pub opens : (s : Setting) (devices : ℕ) (p : Parts) → IsSetting s → devices ≡ length s.rows
    → p.rows ≡ replicate devices opening_row → p.hands ≡ replicate s.replicas hands.Empty → p.windows ≡ map fresh_window s.book → p.gateway ≡ replicate devices [] → p.subscriber ≡ replicate devices [] → p.sent ≡ replicate devices [] → p.pushed ≡ replicate devices (record { down = []; gateway = []; subscriber = [] })
    → IsWorld (record { setting = s; events = []; parts = p })
opens s devices p is count rows held windows gateway subscriber sent pushed =
    let same : p ≡ fresh_parts s = rw (rows, held, windows, gateway, subscriber, sent, pushed, count) refl in
    subst (λ (q : Parts). IsWorld (record { setting = s; events = []; parts = q })) (sym same) (world_starts s is)
