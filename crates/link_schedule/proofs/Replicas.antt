-- What a replica reads and writes, as the answer to the event, with the parts after it.
use Rattle.std.proofs.Common.{◌≡◌, ℕ, ◌-◌, ◌≤◌, ◌==◌, Bool, true, false, List, ◌∷◌, length, take, set, get_or, Some, None, refl, sym, ap, ◌∙◌, subst, arith}
use Rattle.std.specs.Prelude.{IsSomeAnd, slice_get}
use Rattle.std.proofs.lemmas.Bool.{eqb-true}
use Rattle.std.proofs.lemmas.List.{get_or_default, length-take-le}
use Rattle.std.proofs.lemmas.Option.{some_pair_parts}
use Rattle.device_types.specs.declared.event.Event.TheVariants.{Read, Write}
use Rattle.device_types.specs.declared.event.EventAnswer.{EventAnswer}
use Rattle.device_types.specs.declared.event.EventAnswer.TheVariants as told
use Rattle.device_types.specs.declared.input.Input.{Input}
use Rattle.device_types.specs.declared.input.Input.TheVariants as inputs
use Rattle.device_types.specs.declared.look.Look.{Look}
use Rattle.device_types.specs.declared.look.Look.TheVariants as look
use Rattle.device_types.specs.declared.session.Session.{Session}
use Rattle.device_types.specs.declared.step.Entry.{Entry}
use Rattle.device_types.specs.declared.subscriber.DeviceId.{DeviceId}
use Rattle.device_types.specs.declared.subscriber.Subscriber.{Subscriber}
use Rattle.device_types.specs.Alone.{entry_of}
use Rattle.device_types.specs.Journal.{version_of, session_of}
use Rattle.device_types.specs.Numbers.{IsWithin}
use Rattle.replica_worker.specs.declared.hand.Hand.{Hand}
use Rattle.replica_worker.specs.declared.hand.Hand.TheVariants as hands
use Rattle.replica_worker.specs.Hands.{held_in, CanBeRead, step_at, hand_of as hand_with, hand_after}
use Rattle.replica_worker.specs.Writes.{MayWrite, WritesHeld}
use Rattle.session_row.specs.declared.commit.Commit.{Commit}
use Rattle.session_row.specs.Row.{RowState, Commits, look_at as row_look}
use Rattle.session_store.specs.Charter.{CharterState, alone_in}
use Rattle.session_store.specs.Rows.{StoreState, IsDevice, WritesRow, opening_row, row_of as row_stored, journal_of}
use Rattle.session_store.specs.Seen.{IsAsked, asked_of, look_to}
use Rattle.schedule_laws.specs.Answer.{look_at, look_answer, answer, Lawful}
use Rattle.schedule_laws.specs.Counts.{Turn, Arrival, Held, hand, commits, journal}
use Rattle.schedule_laws.specs.Counts.Arrival.{TheMessage, TheAnswer}
use Rattle.schedule_laws.specs.Counts.Held.{Nothing, Taken, Ready}
use Rattle.schedule_laws.specs.Input.{input_of, IsArrival, IsHand}
use Rattle.schedule_laws.specs.Promise.{Holds}
use Rattle.schedule_laws.specs.Setting.{Setting, window, row_of, messages_of, entries_of}
use Rattle.link_schedule.specs.Told.{commit_answer, device_held, version_in, seen_answer, IsStillReady}
use Rattle.link_schedule.specs.World.{Parts, IsSetting, hand_of, ArePartsOf}
use Rattle.link_schedule.proofs.Calls.{read_told}
use Rattle.schedule_laws.proofs.Comparisons.{le_true}
use Rattle.link_schedule.proofs.Events.{reads_ready, reads_other, entry_held, made_hand, writes}
use Rattle.schedule_laws.proofs.Laws.{version_is, hand_ok, sent_bound}
use Rattle.link_schedule.proofs.Worlds.{IsWith, with_input, held_arrival, made_follows, row_there, line_there, line_of, number_in}

-- ---- what a hand has

with_held : (h : Hand) (d : DeviceId) (input : Input) → held_in h ≡ Some (d, input) → IsWith d input h
with_held hands.Empty d input e = absurd (cc)
with_held (hands.Taken f other) d input e = let p = some_pair_parts f d other input e in (p.0, p.1)
with_held (hands.Ready f v entry) d input e = let p = some_pair_parts f d entry.input input e in (p.0, p.1)

-- what arrived, of a hand with this input
what_held : (s : Setting) (H : List Turn) (p : Parts) (r : ℕ) (was : Hand) (d : DeviceId) (input : Input) → was ≡ get_or p.hands (r - 1) was → held_in was ≡ Some (d, input) → IsWithin s.replicas r → ArePartsOf s H p → (what : Arrival) × Holds d.0 what (hand r H) × (input ≡ input_of s d.0 what)
what_held s H p r was d input at held within m =
    let is : was ≡ hand_of s (hand r H) = at ∙ m.hands.at r was within in
    with_input s (hand r H) d input (subst (IsWith d input) is (with_held was d input held))

-- a hand that is looked at twice
pub same_hand : (s : Setting) (H : List Turn) (p : Parts) (r : ℕ) (one two : Hand) → one ≡ get_or p.hands (r - 1) one → two ≡ get_or p.hands (r - 1) two → IsWithin s.replicas r → ArePartsOf s H p → one ≡ two
same_hand s H p r one two first second within m = first ∙ m.hands.at r one within ∙ sym (second ∙ m.hands.at r two within)

is_asked : (s : Setting) (H : List Turn) (d : ℕ) (what : Arrival) → IsSetting s → Lawful s H → IsArrival H d what → IsAsked (asked_of (input_of s d what))
is_asked s H d (TheMessage n) is L i =
    let b = sent_bound s d n H L i.1 in
    let line = line_of s d is b.0 in
    subst (λ (m : ℕ). 1 ≤ m) (sym (number_in (messages_of s d) n line.numbers b.1 b.2)) i.0
is_asked s H d (TheAnswer l k) is L i = (i.0, i.1)

-- its device is one of the table, and the row can be asked about it
asks : (s : Setting) (H : List Turn) (p : Parts) (r : ℕ) (was : Hand) (d : DeviceId) (input : Input) → IsSetting s → Lawful s H → was ≡ get_or p.hands (r - 1) was → held_in was ≡ Some (d, input) → IsWithin s.replicas r → ArePartsOf s H p → IsWithin (length s.rows) d.0 × IsAsked (asked_of input)
asks s H p r was d input is L at held within m =
    let w = what_held s H p r was d input at held within m in
    let i = held_arrival s H r d.0 w.0 L w.1 in
    (i.1, subst (λ (x : Input). IsAsked (asked_of x)) (sym w.2) (is_asked s H d.0 w.0 is L i.0))

device_is : (d e : DeviceId) → Some d ≡ Some e → d ≡ e
device_is d e h = cc

pub device_within : (s : Setting) (H : List Turn) (p : Parts) (r : ℕ) (was : Hand) (d : DeviceId) → IsSetting s → Lawful s H → was ≡ get_or p.hands (r - 1) was → Some d ≡ device_held was → IsWithin s.replicas r → ArePartsOf s H p → IsWithin (length s.rows) d.0
device_within s H p r hands.Empty d is L at held within m = absurd (cc)
device_within s H p r (hands.Taken e input) d is L at held within m = rw (device_is d e held) (asks s H p r (hands.Taken e input) e input is L at refl within m).0
device_within s H p r (hands.Ready e v entry) d is L at held within m = rw (device_is d e held) (asks s H p r (hands.Ready e v entry) e entry.input is L at refl within m).0

in_rows : (rows n d : ℕ) → rows ≡ n → IsWithin n d → IsDevice rows d
in_rows rows n d e within = (within.0, omega (arith, e, within.1))

pub device_stored : (s : Setting) (H : List Turn) (p : Parts) (r : ℕ) (was : Hand) (d : DeviceId) → IsSetting s → Lawful s H → was ≡ get_or p.hands (r - 1) was → Some d ≡ device_held was → IsWithin s.replicas r → ArePartsOf s H p → IsDevice (length p.rows) d.0
device_stored s H p r was d is L at held within m = in_rows (length p.rows) (length s.rows) d.0 m.rows.long (device_within s H p r was d is L at held within m)

pub can_be_read : (s : Setting) (H : List Turn) (p : Parts) (r : ℕ) (was : Hand) (d : DeviceId) → IsSetting s → Lawful s H → was ≡ get_or p.hands (r - 1) was → Some d ≡ device_held was → IsWithin s.replicas r → ArePartsOf s H p → CanBeRead (length p.rows) (held_in was)
can_be_read s H p r hands.Empty d is L at held within m = absurd (cc)
can_be_read s H p r (hands.Taken e input) d is L at held within m =
    let a = asks s H p r (hands.Taken e input) e input is L at refl within m in
    (in_rows (length p.rows) (length s.rows) e.0 m.rows.long a.0, a.1)
can_be_read s H p r (hands.Ready e v entry) d is L at held within m =
    let a = asks s H p r (hands.Ready e v entry) e entry.input is L at refl within m in
    (in_rows (length p.rows) (length s.rows) e.0 m.rows.long a.0, a.1)

-- ---- a read

none_held : (s : Setting) (x : Held) → None ≡ device_held (hand_of s x) → x ≡ Nothing
none_held s Nothing e = refl
none_held s (Taken d what) e = absurd (cc)
none_held s (Ready d what v) e = absurd (cc)

pub read_void : (s : Setting) (H : List Turn) (p : Parts) (r : ℕ) (was : Hand) → was ≡ get_or p.hands (r - 1) was → None ≡ device_held was → IsWithin s.replicas r → ArePartsOf s H p → told.VoidHand ≡ answer s H (Read r)
read_void s H p r was at none within m =
    let is : was ≡ hand_of s (hand r H) = at ∙ m.hands.at r was within in
    let empty : hand r H ≡ Nothing = none_held s (hand r H) (none ∙ ap device_held is) in
    rw (le_true r s.replicas within.1, empty) refl

-- the version of the hand after it is the one that was read
pub version_read : (d : DeviceId) (input : Input) (v : ℕ) (row : Subscriber) (session : Session) (l : Look) → look_answer (version_in (hand_with d input v (step_at row session input l))) l ≡ look_answer v l
version_read d input v row session look.Ready = refl
version_read d input v row session (look.Repeat n) = refl
version_read d input v row session (look.Settled n) = refl
version_read d input v row session (look.Ahead n) = refl
version_read d input v row session (look.Waiting l k) = refl
version_read d input v row session (look.Old l k) = refl
version_read d input v row session (look.NotAwaited k) = refl

same_look : (J : List Entry) (input : Input) → look_to J (asked_of input) ≡ row_look window J input
same_look J (inputs.Message message) = refl
same_look J (inputs.Answer l k value) = refl

reads_by : (s : Setting) (H : List Turn) (p : Parts) (r : ℕ) (d : DeviceId) (what : Arrival) (row : Subscriber) (input : Input) (J : List Entry) (l : Look) → Holds d.0 what (hand r H) → J ≡ journal s d.0 H → version_of J ≡ commits d.0 H → row ≡ row_of s d.0 → input ≡ input_of s d.0 what → IsWithin s.replicas r → ArePartsOf s H p → ArePartsOf s ((Read r, look_answer (version_of J) l) ∷ H) (record p { hands = set p.hands (r - 1) (hand_with d input (version_of J) (step_at row (session_of J) input l)) })
reads_by s H p r d what row input J look.Ready h j v e is within m =
    let entry : entry_of row J input ≡ entry_of (row_of s d.0) (journal s d.0 H) (input_of s d.0 what) = rw (e, j, is) refl in
    reads_ready s H p r d.0 what (version_of J) (entry_of row J input) h v entry within m
reads_by s H p r d what row input J (look.Repeat n) h j v e is within m = reads_other s H p r d.0 what (version_of J) (look.Repeat n) input h (λ (no_more : look.Repeat n ≡ look.Ready). cc) is within m
reads_by s H p r d what row input J (look.Settled n) h j v e is within m = reads_other s H p r d.0 what (version_of J) (look.Settled n) input h (λ (no_more : look.Settled n ≡ look.Ready). cc) is within m
reads_by s H p r d what row input J (look.Ahead n) h j v e is within m = reads_other s H p r d.0 what (version_of J) (look.Ahead n) input h (λ (no_more : look.Ahead n ≡ look.Ready). cc) is within m
reads_by s H p r d what row input J (look.Waiting l k) h j v e is within m = reads_other s H p r d.0 what (version_of J) (look.Waiting l k) input h (λ (no_more : look.Waiting l k ≡ look.Ready). cc) is within m
reads_by s H p r d what row input J (look.Old l k) h j v e is within m = reads_other s H p r d.0 what (version_of J) (look.Old l k) input h (λ (no_more : look.Old l k ≡ look.Ready). cc) is within m
reads_by s H p r d what row input J (look.NotAwaited k) h j v e is within m = reads_other s H p r d.0 what (version_of J) (look.NotAwaited k) input h (λ (no_more : look.NotAwaited k ≡ look.Ready). cc) is within m

reads_held : (s : Setting) (H : List Turn) (p : Parts) (r : ℕ) (was now : Hand) (d : DeviceId) (input : Input) (row : Subscriber) → IsSetting s → Lawful s H → was ≡ get_or p.hands (r - 1) was → held_in was ≡ Some (d, input) → now ≡ hand_after row d input (journal_of p.rows d.0) → row ≡ row_of s d.0 → IsWithin s.replicas r → ArePartsOf s H p → (seen_answer (journal_of p.rows d.0) input ≡ answer s H (Read r)) × ArePartsOf s ((Read r, seen_answer (journal_of p.rows d.0) input) ∷ H) (record p { hands = set p.hands (r - 1) now })
reads_held s H p r was now d input row is L at held then e within m =
    let w = what_held s H p r was d input at held within m in
    let i = held_arrival s H r d.0 w.0 L w.1 in
    let J = journal_of p.rows d.0 in
    let j : J ≡ journal s d.0 H = ap (λ (x : RowState). x.journal) (m.rows.at d.0 opening_row i.1) in
    let v : version_of J ≡ commits d.0 H = ap length j ∙ version_is s d.0 H L in
    let answered : seen_answer J input ≡ answer s H (Read r) =
    ap (look_answer (version_of J)) (same_look J input) ∙ ap (λ K. look_answer (version_of J) (row_look window K input)) j
    ∙ ap (λ n. look_answer n (row_look window (journal s d.0 H) input)) v ∙ sym (read_told s H r d.0 w.0 input is L w.1 w.2 within.1)
    in (
      answered,
      subst (λ (h : Hand). ArePartsOf s ((Read r, seen_answer J input) ∷ H) (record p { hands = set p.hands (r - 1) h })) (sym then)
          (reads_by s H p r d w.0 row input J (look_to J (asked_of input)) w.1 j v e w.2 within m),
    )

pub reads : (s : Setting) (H : List Turn) (p : Parts) (r : ℕ) (was now : Hand) (d : DeviceId) (row : Subscriber) (a : EventAnswer) → IsSetting s → Lawful s H → was ≡ get_or p.hands (r - 1) was → Some d ≡ device_held was → IsSomeAnd (held_in was) (λ held. now ≡ hand_after row held.0 held.1 (journal_of p.rows held.0.0)) → IsSomeAnd (held_in was) (λ held. a ≡ seen_answer (journal_of p.rows held.0.0) held.1) → row ≡ row_of s d.0 → IsWithin s.replicas r → ArePartsOf s H p → (a ≡ answer s H (Read r)) × ArePartsOf s ((Read r, a) ∷ H) (record p { hands = set p.hands (r - 1) now })
reads s H p r hands.Empty now d row a is L at held then gives e within m = absurd (cc)
reads s H p r (hands.Taken f input) now d row a is L at held then gives e within m =
    rw gives (reads_held s H p r (hands.Taken f input) now f input row is L at refl then (e ∙ ap (λ (x : DeviceId). row_of s x.0) (device_is d f held)) within m)
reads s H p r (hands.Ready f v entry) now d row a is L at held then gives e within m =
    rw gives (reads_held s H p r (hands.Ready f v entry) now f entry.input row is L at refl then (e ∙ ap (λ (x : DeviceId). row_of s x.0) (device_is d f held)) within m)

-- ---- a read of a row that is as it was

holds_ready : (d v : ℕ) (what : Arrival) (x : Held) → x ≡ Ready d what v → Holds d what x
holds_ready d v what x e = rw e (refl, refl)

same_hands : (r d v : ℕ) (what : Arrival) (H : List Turn) → hand r H ≡ Ready d what v → (q : ℕ) → hand q ((Read r, told.Ready v) ∷ H) ≡ hand q H
same_hands r d v what H h q = by q (r == q) refl
  where
    by : (q : ℕ) (b : Bool) → (r == q) ≡ b → hand q ((Read r, told.Ready v) ∷ H) ≡ hand q H
    by q true e = let there : hand q H ≡ Ready d what v = subst (λ n. hand n H ≡ Ready d what v) (eqb-true r q e) h in rw (e, there) refl
    by q false e = rw e refl

-- where the hand has a step for the version that the row has, the row still says Ready, and the hand is as it was
pub reads_again : (s : Setting) (H : List Turn) (p : Parts) (r v : ℕ) (was : Hand) → Lawful s H → was ≡ get_or p.hands (r - 1) was → IsStillReady p.rows was v → IsWithin s.replicas r → ArePartsOf s H p → (told.Ready v ≡ answer s H (Read r)) × ((q : ℕ) → hand q ((Read r, told.Ready v) ∷ H) ≡ hand q H)
reads_again s H p r v hands.Empty L at is within m = absurd is
reads_again s H p r v (hands.Taken d input) L at is within m = absurd is
reads_again s H p r v (hands.Ready d w entry) L at is within m =
    let h = made_hand s (hand r H) d w entry (sym (at ∙ m.hands.at r (hands.Ready d w entry) within)) in
    let i = (held_arrival s H r d.0 h.0 L (holds_ready d.0 w h.0 (hand r H) h.1)).1 in
    let j : journal_of p.rows d.0 ≡ journal s d.0 H = ap (λ (x : RowState). x.journal) (m.rows.at d.0 opening_row i) in
    let count : commits d.0 H ≡ w = sym (ap length j ∙ version_is s d.0 H L) ∙ is.1 in
    let ready : look_at (journal s d.0 H) h.0 ≡ look.Ready = rw count (subst (IsHand s H) h.1 (hand_ok s r H L)).2 in
    let told_so : told.Ready v ≡ answer s H (Read r) = rw (is.0, le_true r s.replicas within.1, h.1, ready, count) refl in
    (told_so, same_hands r d.0 v h.0 H (h.1 ∙ ap (Ready d.0 h.0) (sym is.0)))

-- ---- a write

-- the store is asked for no other write than it takes
pub may_write : (s : Setting) (H : List Turn) (p : Parts) (r : ℕ) (was : Hand) (charter : CharterState) → IsSetting s → Lawful s H → was ≡ get_or p.hands (r - 1) was → charter ≡ record { rows = s.rows; lines = s.book } → IsWithin s.replicas r → ArePartsOf s H p → MayWrite charter (length p.rows) (λ d. journal_of p.rows d) was
may_write s H p r hands.Empty charter is L at same within m = tt
may_write s H p r (hands.Taken d input) charter is L at same within m = tt
may_write s H p r (hands.Ready d v entry) charter is L at same within m =
    let h = made_hand s (hand r H) d v entry (sym (at ∙ m.hands.at r (hands.Ready d v entry) within)) in
    let i = (held_arrival s H r d.0 h.0 L (holds_ready d.0 v h.0 (hand r H) h.1)).1 in
    let f = made_follows s H r d.0 v h.0 L h.1 in
    let J = journal_of p.rows d.0 in
    let j : J ≡ journal s d.0 H = ap (λ (x : RowState). x.journal) (m.rows.at d.0 opening_row i) in
    let long : length J ≡ length (journal s d.0 H) = ap length j in
    let low : v ≤ length J = let g = f.0 in omega arith in
    let count : length (take v J) ≡ v = length-take-le v J low in
    let all : alone_in charter d.0 ≡ entries_of s d.0 = rw (same, row_there s d.0 i, line_there s d.0 is i) refl in
    record {
      device = (i.0, omega (arith, i.1, m.rows.long));
      within = low;
      law = ap (slice_get (alone_in charter d.0)) count ∙ ap (λ es. slice_get es v) all ∙ f.1 ∙ ap Some (sym h.2);
    }

pub writes_held : (s : Setting) (H : List Turn) (p : Parts) (r : ℕ) (was : Hand) (old new : StoreState) (commit : Commit) → Lawful s H → was ≡ get_or p.hands (r - 1) was → old.rows ≡ p.rows → WritesHeld WritesRow was old new commit → IsWithin s.replicas r → ArePartsOf s H p → (commit_answer commit ≡ answer s H (Write r)) × ArePartsOf s ((Write r, commit_answer commit) ∷ H) (record p { rows = new.rows; hands = set p.hands (r - 1) hands.Empty })
writes_held s H p r hands.Empty old new commit L at e k within m = absurd k
writes_held s H p r (hands.Taken d input) old new commit L at e k within m = absurd k
writes_held s H p r (hands.Ready d v entry) old new commit L at e k within m =
    let h = made_hand s (hand r H) d v entry (sym (at ∙ m.hands.at r (hands.Ready d v entry) within)) in
    let i = (held_arrival s H r d.0 h.0 L (holds_ready d.0 v h.0 (hand r H) h.1)).1 in
    let row = row_stored p.rows d.0 in
    let now = row_stored new.rows d.0 in
    let here : row ≡ get_or p.rows (d.0 - 1) row = get_or_default p.rows (d.0 - 1) opening_row row (omega (arith, m.rows.long, i.0, i.1)) in
    let one : Commits row now v (entry_held s d.0 h.0 v) commit = subst (λ (x : Entry). Commits row now v x commit) h.2 (subst (λ (xs : List RowState). Commits (row_stored xs d.0) now v entry commit) e k.0) in
    let both = writes s H p r d.0 h.0 v commit row now L h.1 here one within i m in
    let others : new.rows ≡ set p.rows (d.0 - 1) now = ap (λ (x : StoreState). x.rows) k.1 ∙ ap (λ (xs : List RowState). set xs (d.0 - 1) now) e in
    (both.0, subst (λ (xs : List RowState). ArePartsOf s ((Write r, commit_answer commit) ∷ H) (record p { rows = xs; hands = set p.hands (r - 1) hands.Empty })) (sym others) both.1)
