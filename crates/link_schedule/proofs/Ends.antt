-- What became of the devices of a settled world is what the machine that never fails makes of them; and where it is, the world is settled.
use Rattle.std.proofs.Common.{◌≡◌, ℕ, zero, suc, ◌+◌, ◌*◌, ◌-◌, ◌≤◌, ◌<◌, true, Option, Some, None, List, [], ◌∷◌, ◌++◌, length, take, get_or, refl, sym, ap, ◌∙◌, subst, arith, length-append, append-nil}
use Rattle.std.specs.Prelude.{map, All, cond}
use Rattle.std.specs.List.{AllZip, filter_map, cons_option, zip}
use Rattle.std.proofs.lemmas.List.{same_lists, get_or-map, length-map, length-take, take_all}
use Rattle.std.proofs.lemmas.List.Elements.{All-nil, All-cons, All-head, All-tail}
use Rattle.std.proofs.lemmas.List.FromFn.{length-map-range_with_len, get_or-map-range_with_len}
use Rattle.std.proofs.lemmas.List.Sums.{sum_by-cons}
use Rattle.device_types.specs.declared.down.Down.{Down as DownMessage}
use Rattle.device_types.specs.declared.effect.Effect.{Effect}
use Rattle.device_types.specs.declared.effect.Effect.TheVariants as effects
use Rattle.device_types.specs.declared.effect.GwCall.{GwCall}
use Rattle.device_types.specs.declared.effect.SubCall.{SubCall}
use Rattle.device_types.specs.declared.event.Lane.{Lane}
use Rattle.device_types.specs.declared.event.Lane.TheVariants.{Down, Gateway, Subscriber}
use Rattle.device_types.specs.declared.finals.DeviceEnd.{DeviceEnd}
use Rattle.device_types.specs.declared.input.Input.{Input}
use Rattle.device_types.specs.declared.input.Input.TheVariants as inputs
use Rattle.device_types.specs.declared.message.Message.{Message}
use Rattle.device_types.specs.declared.session.Session.{Session}
use Rattle.device_types.specs.declared.step.Entry.{Entry}
use Rattle.device_types.specs.declared.subscriber.Subscriber.{Subscriber as SubscriberRow}
use Rattle.device_types.specs.Alone.{alone_of, messages_in}
use Rattle.device_types.specs.Alone.{messages_of as messages_taken}
use Rattle.device_types.specs.Finals.{IsEndOf}
use Rattle.device_types.specs.Journal.{version_of, session_of, is_message, taken_count, effects_of, pushed_count}
use Rattle.device_types.specs.Line.{IsLine}
use Rattle.device_types.specs.Subscriber.{IsSubscriber}
use Rattle.device_types.proofs.Courses.{all_taken, few_entries, few_pushed}
use Rattle.device_machine.specs.Ends.{down_in, gateway_in, subscriber_in, end_of, finals_of}
use Rattle.device_machine.proofs.Gathered.{downs_whole, gateway_whole, subscriber_whole, end_written}
use Rattle.link_schedule.specs.Finals.{end_in, finals_in}
use Rattle.link_schedule.specs.Floor.{IsEnd, EndsOn}
use Rattle.schedule_laws.specs.Lists.{Begins}
use Rattle.schedule_laws.specs.Setting.{Setting, no_row, row_of, messages_of, entries_of}
use Rattle.link_schedule.specs.Settled.{turns_in, journal_in, commits_in, accepts_in, IsWholeLane, IsDone, IsSettled}
use Rattle.link_schedule.specs.World.{WorldState, IsShort, accepted_effects, IsWorld}
use Rattle.schedule_laws.proofs.Laws.{accepted_bound}
use Rattle.schedule_laws.proofs.Runs.{to_alone}

-- ---- every message is taken

taken_with : (input : Input) (J : List Entry) (n : ℕ) → length (messages_taken J) ≡ n → length (messages_in input ++ messages_taken J) ≡ cond (is_message input) 1 0 + n
taken_with (inputs.Message m) J n e = omega arith
taken_with (inputs.Answer l k a) J n e = omega arith

count_taken : (J : List Entry) → length (messages_taken J) ≡ taken_count J
count_taken [] = refl
count_taken (e ∷ J) = taken_with e.input J (taken_count J) (count_taken J) ∙ sym (sum_by-cons (λ (x : Entry). cond (is_message x.input) 1 0) e J)

taken_alone : (row : SubscriberRow) (ms : List Message) → taken_count (alone_of row ms) ≡ length ms
taken_alone row ms = sym (count_taken (alone_of row ms)) ∙ ap length (all_taken row ms)

-- ---- the ends of a setting, device by device

get_or-zip : {X Y : Type 0} (xs : List X) (ys : List Y) (i : ℕ) (x : X) (y : Y) (p : X × Y) → i < length xs → length ys ≡ length xs → get_or (zip xs ys) i p ≡ (get_or xs i x, get_or ys i y)
get_or-zip [] ys i x y p low same = absurd (omega arith)
get_or-zip (a ∷ xs) [] i x y p low same = absurd (omega arith)
get_or-zip (a ∷ xs) (b ∷ ys) zero x y p low same = refl
get_or-zip (a ∷ xs) (b ∷ ys) (suc i) x y p low same = get_or-zip xs ys i x y p (omega arith) (omega arith)

length-zip : {X Y : Type 0} (xs : List X) (ys : List Y) → length ys ≡ length xs → length (zip xs ys) ≡ length xs
length-zip [] ys same = refl
length-zip (a ∷ xs) [] same = absurd (omega arith)
length-zip (a ∷ xs) (b ∷ ys) same = ap suc (length-zip xs ys (omega arith))

pub length_finals : (s : Setting) → length s.book ≡ length s.rows → length (finals_of s.rows s.book) ≡ length s.rows
length_finals s each = length-map (zip s.rows s.book) (λ device. end_of device.0 device.1) ∙ length-zip s.rows s.book each

final_at : (s : Setting) (i : ℕ) (x : DeviceEnd) → length s.book ≡ length s.rows → i < length s.rows → get_or (finals_of s.rows s.book) i x ≡ end_of (row_of s (i + 1)) (messages_of s (i + 1))
final_at s i x each low =
    let at : (i + 1) - 1 ≡ i = omega arith in
    let long = length-zip s.rows s.book each in
    get_or-map (λ (device : SubscriberRow × List Message). end_of device.0 device.1) (zip s.rows s.book) i (no_row, []) x (omega arith)
    ∙ ap (λ (device : SubscriberRow × List Message). end_of device.0 device.1) (get_or-zip s.rows s.book i no_row [] (no_row, []) low each)
    ∙ ap (λ (j : ℕ). end_of (get_or s.rows j no_row) (get_or s.book j [])) (sym at)

-- ---- and of a world

pub length_ends : (w : WorldState) → length (finals_in w) ≡ length w.setting.rows
length_ends w = length-map-range_with_len (end_in w) 1 (length w.setting.rows)

end_at : (w : WorldState) (i : ℕ) (x : DeviceEnd) → i < length w.setting.rows → get_or (finals_in w) i x ≡ end_in w (i + 1)
end_at w i x low = get_or-map-range_with_len (end_in w) 1 (length w.setting.rows) i (i + 1) x low (omega arith)

-- ---- what a world has of a device, as its parts have it

values_back : {Y : Type 0} (h : Effect → Option Y) (g : Y → Effect) (xs : List Y) → ((x : Y) → h (g x) ≡ Some x) → filter_map h (map g xs) ≡ xs
values_back h g [] back = refl
values_back h g (x ∷ xs) back = ap (λ o. cons_option o (filter_map h (map g xs))) (back x) ∙ ap (λ ys. x ∷ ys) (values_back h g xs back)

values_of : {Y : Type 0} (h : Effect → Option Y) (g : Y → Effect) (xs : List Y) (es : List Effect) → ((x : Y) → h (g x) ≡ Some x) → map g xs ≡ es → xs ≡ filter_map h es
values_of h g xs es back are = sym (values_back h g xs back) ∙ ap (filter_map h) are

pub end_made : (w : WorldState) (d messages steps : ℕ) (downs : List DownMessage) (gateway : List GwCall) (subscriber : List SubCall) (session : Session) → messages ≡ taken_count (journal_in w d) → steps ≡ version_of (journal_in w d) → map effects.Down downs ≡ accepted_effects w.setting Down (turns_in w) d → map effects.Gateway gateway ≡ accepted_effects w.setting Gateway (turns_in w) d → map effects.Subscriber subscriber ≡ accepted_effects w.setting Subscriber (turns_in w) d → session ≡ session_of (journal_in w d) → ◌≡◌ {A = DeviceEnd} (record { messages = messages; steps = steps; downs = downs; gateway = gateway; subscriber = subscriber; session = session }) (end_in w d)
end_made w d messages steps downs gateway subscriber session m v down gw sub last =
    rw (m, v, values_of down_in effects.Down downs _ (λ x. refl) down, values_of gateway_in effects.Gateway gateway _ (λ x. refl) gw, values_of subscriber_in effects.Subscriber subscriber _ (λ x. refl) sub, last) refl

-- ---- a settled world

accepts_whole : (w : WorldState) (d : ℕ) (l : Lane) → IsWholeLane w d l → accepted_effects w.setting l (turns_in w) d ≡ effects_of l (entries_of w.setting d)
accepts_whole w d l whole = take_all (accepts_in w d l) (effects_of l (entries_of w.setting d)) (omega arith)

end_is : (w : WorldState) (d : ℕ) → IsDone w d → end_in w d ≡ end_of (row_of w.setting d) (messages_of w.setting d)
end_is w d done =
    rw (done.journal, accepts_whole w d Down (done.lanes Down), accepts_whole w d Gateway (done.lanes Gateway), accepts_whole w d Subscriber (done.lanes Subscriber), taken_alone (row_of w.setting d) (messages_of w.setting d)) refl

pub finals_settled : (w : WorldState) → IsWorld w → IsSettled w → finals_in w ≡ finals_of w.setting.rows w.setting.book
finals_settled w is settled =
    let each = is.setting.each in
    same_lists (finals_in w) (finals_of w.setting.rows w.setting.book) (length_ends w ∙ sym (length_finals w.setting each))
    (λ i x low.
    let within : i < length w.setting.rows = let e = length_ends w in omega arith in
    end_at w i x within ∙ end_is w (i + 1) (settled (i + 1) (omega arith, omega arith)) ∙ sym (final_at w.setting i x each within))

-- ---- back: by its ends it is settled

begins_all : {X : Type 0} (xs ys : List X) → Begins xs ys → length xs ≡ length ys → xs ≡ ys
begins_all {X} xs ys b e = at b.0 b.1 (let n = ap length b.1 in let m = length-append xs b.0 in omega arith)
  where
    at : (rest : List X) → xs ++ rest ≡ ys → length rest ≡ 0 → xs ≡ ys
    at [] h z = sym (append-nil xs) ∙ h
    at (x ∷ rest) h z = absurd (omega arith)

one_value : {Y : Type 0} (o : Option Y) (ys : List Y) → length (cons_option o ys) ≤ length ys + 1
one_value None ys = omega arith
one_value (Some y) ys = omega arith

fewer_values : {Y : Type 0} (h : Effect → Option Y) (xs : List Effect) → length (filter_map h xs) ≤ length xs
fewer_values h [] = omega arith
fewer_values h (x ∷ xs) =
    let one = one_value (h x) (filter_map h xs) in
    let rest = fewer_values h xs in
    omega arith

-- a front of a list whose values are those of the whole list is as long
front_whole : {Y : Type 0} (h : Effect → Option Y) (g : Y → Effect) (xs : List Effect) (n : ℕ) → map g (filter_map h xs) ≡ xs → filter_map h (take n xs) ≡ filter_map h xs → length xs ≤ n
front_whole h g xs n whole same =
    let all = ap length whole in
    let values = length-map (filter_map h xs) g in
    let front = fewer_values h (take n xs) in
    let cut = length-take n xs in
    let even = ap length same in
    omega arith

lane_done : {Y : Type 0} (w : WorldState) (d : ℕ) (l : Lane) (h : Effect → Option Y) (g : Y → Effect) → IsWorld w → journal_in w d ≡ entries_of w.setting d → map g (filter_map h (effects_of l (entries_of w.setting d))) ≡ effects_of l (entries_of w.setting d) → filter_map h (accepted_effects w.setting l (turns_in w) d) ≡ filter_map h (effects_of l (entries_of w.setting d)) → IsWholeLane w d l
lane_done w d l h g is journal whole same =
    let low = accepted_bound w.setting d l (turns_in w) is.lawful in
    let made = ap (pushed_count l) journal in
    let high = front_whole h g (effects_of l (entries_of w.setting d)) (accepts_in w d l) whole same in
    omega arith

done_by_end : (w : WorldState) (d : ℕ) → IsWorld w → end_in w d ≡ end_of (row_of w.setting d) (messages_of w.setting d) → IsDone w d
done_by_end w d is e =
    let A = entries_of w.setting d in
    let j : journal_in w d ≡ A = begins_all (journal_in w d) A (to_alone (row_of w.setting d) (messages_of w.setting d) (commits_in w d)) (ap (λ (x : DeviceEnd). x.steps) e) in
    record { journal = j; lanes = lanes_at w d is e j }
  where
    lanes_at : (w : WorldState) (d : ℕ) → IsWorld w → end_in w d ≡ end_of (row_of w.setting d) (messages_of w.setting d) → journal_in w d ≡ entries_of w.setting d → (l : Lane) → IsWholeLane w d l
    lanes_at w d is e j Down = lane_done w d Down down_in effects.Down is j (downs_whole (entries_of w.setting d)) (ap (λ (x : DeviceEnd). x.downs) e)
    lanes_at w d is e j Gateway = lane_done w d Gateway gateway_in effects.Gateway is j (gateway_whole (entries_of w.setting d)) (ap (λ (x : DeviceEnd). x.gateway) e)
    lanes_at w d is e j Subscriber = lane_done w d Subscriber subscriber_in effects.Subscriber is j (subscriber_whole (entries_of w.setting d)) (ap (λ (x : DeviceEnd). x.subscriber) e)

pub settled_by_finals : (w : WorldState) → IsWorld w → finals_in w ≡ finals_of w.setting.rows w.setting.book → IsSettled w
settled_by_finals w is same = λ d within.
    let i = d - 1 in
    let at : i + 1 ≡ d = (let low = within.0 in omega arith) in
    let inside : i < length w.setting.rows = (let low = within.0 in let high = within.1 in omega arith) in
    let x = end_in w d in
    let ends : end_in w (i + 1) ≡ end_of (row_of w.setting (i + 1)) (messages_of w.setting (i + 1)) =
    sym (end_at w i x inside) ∙ ap (λ (ends : List DeviceEnd). get_or ends i x) same ∙ final_at w.setting i x is.setting.each inside in
    subst (IsDone w) at (done_by_end w (i + 1) is ends)

-- ---- the ends are in form

few_values : {Y : Type 0} (h : Effect → Option Y) (g : Y → Effect) (xs : List Effect) → map g (filter_map h xs) ≡ xs → length (filter_map h xs) ≡ length xs
few_values h g xs whole = sym (length-map (filter_map h xs) g) ∙ ap length whole

few_on : (row : SubscriberRow) (ms : List Message) (l : Lane) → pushed_count l (alone_of row ms) ≤ 4 * (3 * length ms)
unfolding alone_of
few_on row ms l = few_pushed row ms l (3 * length ms)

end_form : (row : SubscriberRow) (ms : List Message) → IsSubscriber row → IsLine ms → length ms ≤ 100000 → IsEnd (end_of row ms)
end_form row ms r line short =
    let steps = few_entries row ms in
    record {
      few_messages = omega arith;
      few_steps = omega arith;
      few_downs = (let n = few_values down_in effects.Down (effects_of Down (alone_of row ms)) (downs_whole (alone_of row ms)) in let most = few_on row ms Down in omega arith);
      few_gateway = (let n = few_values gateway_in effects.Gateway (effects_of Gateway (alone_of row ms)) (gateway_whole (alone_of row ms)) in let most = few_on row ms Gateway in omega arith);
      few_subscriber = (let n = few_values subscriber_in effects.Subscriber (effects_of Subscriber (alone_of row ms)) (subscriber_whole (alone_of row ms)) in let most = few_on row ms Subscriber in omega arith);
    }

ends_form : (rows : List SubscriberRow) (book : List (List Message)) → All IsSubscriber rows → All IsLine book → All IsShort book → All IsEnd (finals_of rows book)
ends_form [] book r l few = All-nil IsEnd
ends_form (row ∷ rows) [] r l few = All-nil IsEnd
ends_form (row ∷ rows) (ms ∷ book) r l few =
    All-cons IsEnd (end_of row ms) (finals_of rows book)
    (end_form row ms (All-head IsSubscriber row rows r) (All-head IsLine ms book l) (All-head IsShort ms book few))
    (ends_form rows book (All-tail IsSubscriber row rows r) (All-tail IsLine ms book l) (All-tail IsShort ms book few))

-- the messages of each can be written
pub ends_written : (rows : List SubscriberRow) (book : List (List Message)) → length book ≡ length rows → All IsSubscriber rows → All IsLine book → All IsShort book → AllZip IsEndOf rows (finals_of rows book)
ends_written [] [] each r l few = tt
ends_written [] (ms ∷ book) each r l few = absurd (omega (arith, each))
ends_written (row ∷ rows) [] each r l few = absurd (omega (arith, each))
ends_written (row ∷ rows) (ms ∷ book) each r l few =
    let line = All-head IsLine ms book l in (
      end_written row ms (All-head IsSubscriber row rows r) line.ranges (All-head IsShort ms book few),
      ends_written rows book (omega (arith, each)) (All-tail IsSubscriber row rows r) (All-tail IsLine ms book l) (All-tail IsShort ms book few),
    )

-- of a settled world they are those of an exact floor
pub ends_on : (w : WorldState) → IsWorld w → IsSettled w → EndsOn w.setting true (finals_in w)
ends_on w is settled =
    let s = w.setting in
    let same = finals_settled w is settled in
    record {
      count = length_ends w;
      in_form = subst (All IsEnd) (sym same) (ends_form s.rows s.book is.setting.rows is.setting.lines is.setting.short);
      written = subst (AllZip IsEndOf s.rows) (sym same) (ends_written s.rows s.book is.setting.each is.setting.rows is.setting.lines is.setting.short);
      definition = λ exact. same;
    }
