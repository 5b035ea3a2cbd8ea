-- The lanes of a journal, gathered step by step.
use Rattle.std.proofs.Common.{◌≡◌, ℕ, suc, ◌+◌, ◌≤◌, arith, Bool, true, false, cond, List, [], ◌∷◌, ◌++◌, length, map, Option, Some, None, refl, sym, ap, ◌∙◌, subst, append-nil}
use Rattle.std.specs.Prelude.{All, filter, fold, option_map, slice_get}
use Rattle.std.specs.List.{filter_map, cons_option}
use Rattle.std.proofs.lemmas.List.{map-append, append_assoc, length-append}
use Rattle.std.proofs.lemmas.List.Elements.{All-nil, All-cons, All-head, All-tail, All-append, All-filter, filter_map-append}
use Rattle.device_types.specs.declared.down.Down.{Down}
use Rattle.device_types.specs.declared.effect.Effect.{Effect}
use Rattle.device_types.specs.declared.effect.Effect.TheVariants as effects
use Rattle.device_types.specs.declared.event.Lane.{Lane}
use Rattle.device_types.specs.declared.event.Lane.TheVariants as lanes
use Rattle.device_types.specs.declared.finals.DeviceEnd.{DeviceEnd}
use Rattle.device_types.specs.declared.message.Message.{Message}
use Rattle.device_types.specs.declared.step.Entry.{Entry}
use Rattle.device_types.specs.declared.step.Step.{Step}
use Rattle.device_types.specs.declared.subscriber.Subscriber.{Subscriber}
use Rattle.device_types.specs.Alone.{alone_to, alone_of}
use Rattle.device_types.specs.Down.{IsDown}
use Rattle.device_types.specs.Effect.{IsWritable}
use Rattle.device_types.specs.Journal.{is_on, effects_on, effects_of, session_of}
use Rattle.device_types.specs.Message.{IsMessage}
use Rattle.device_types.specs.Subscriber.{IsSubscriber}
use Rattle.device_types.proofs.Courses.{sound_writable}
use Rattle.device_types.proofs.Journals.{effects_more}
use Rattle.device_machine.specs.declared.ends.Lanes.{Lanes}
use Rattle.device_machine.specs.Ends.{down_in, gateway_in, subscriber_in, downs_of, gateway_of, subscriber_of, end_by, end_of, ended, lanes_of, with_effect}
use Rattle.device_machine.specs.declared.course.Course.{Course}
use Rattle.device_machine.specs.Course.{course_of, GoesOn}

-- ---- a lane has its effects and no others

down_if_off : (e : Effect) → is_on lanes.Down e ≡ false → down_in e ≡ None
down_if_off (effects.Down d) off = absurd (cc)
down_if_off (effects.Gateway c) off = refl
down_if_off (effects.Subscriber c) off = refl

gateway_if_off : (e : Effect) → is_on lanes.Gateway e ≡ false → gateway_in e ≡ None
gateway_if_off (effects.Down d) off = refl
gateway_if_off (effects.Gateway c) off = absurd (cc)
gateway_if_off (effects.Subscriber c) off = refl

subscriber_if_off : (e : Effect) → is_on lanes.Subscriber e ≡ false → subscriber_in e ≡ None
subscriber_if_off (effects.Down d) off = refl
subscriber_if_off (effects.Gateway c) off = refl
subscriber_if_off (effects.Subscriber c) off = absurd (cc)

down_if_on : (e : Effect) → is_on lanes.Down e ≡ true → option_map effects.Down (down_in e) ≡ Some e
down_if_on (effects.Down d) on = refl
down_if_on (effects.Gateway c) on = absurd (cc)
down_if_on (effects.Subscriber c) on = absurd (cc)

gateway_if_on : (e : Effect) → is_on lanes.Gateway e ≡ true → option_map effects.Gateway (gateway_in e) ≡ Some e
gateway_if_on (effects.Down d) on = absurd (cc)
gateway_if_on (effects.Gateway c) on = refl
gateway_if_on (effects.Subscriber c) on = absurd (cc)

subscriber_if_on : (e : Effect) → is_on lanes.Subscriber e ≡ true → option_map effects.Subscriber (subscriber_in e) ≡ Some e
subscriber_if_on (effects.Down d) on = absurd (cc)
subscriber_if_on (effects.Gateway c) on = absurd (cc)
subscriber_if_on (effects.Subscriber c) on = refl

-- ---- the values of the items that pass a test

values_if : {X Y : Type 0} (p : X → Bool) (h : X → Option Y) → ((x : X) → p x ≡ false → h x ≡ None) → (x : X) (xs : List X) (b : Bool) → p x ≡ b → filter_map h (filter p xs) ≡ filter_map h xs → filter_map h (cond b (x ∷ filter p xs) (filter p xs)) ≡ cons_option (h x) (filter_map h xs)
values_if p h off x xs true is rest = ap (cons_option (h x)) rest
values_if p h off x xs false is rest = rest ∙ sym (ap (λ o. cons_option o (filter_map h xs)) (off x is))

-- those of the others are none
values_on : {X Y : Type 0} (p : X → Bool) (h : X → Option Y) → ((x : X) → p x ≡ false → h x ≡ None) → (xs : List X) → filter_map h (filter p xs) ≡ filter_map h xs
values_on p h off [] = refl
values_on p h off (x ∷ xs) = values_if p h off x xs (p x) refl (values_on p h off xs)

map_cons : {X Y : Type 0} (g : Y → X) (o : Option Y) (ys : List Y) → map g (cons_option o ys) ≡ cons_option (option_map g o) (map g ys)
map_cons g None ys = refl
map_cons g (Some y) ys = refl

back_if : {X Y : Type 0} (p : X → Bool) (h : X → Option Y) (g : Y → X) → ((x : X) → p x ≡ true → option_map g (h x) ≡ Some x) → (x : X) (xs : List X) (b : Bool) → p x ≡ b → map g (filter_map h (filter p xs)) ≡ filter p xs → map g (filter_map h (cond b (x ∷ filter p xs) (filter p xs))) ≡ cond b (x ∷ filter p xs) (filter p xs)
back_if p h g on x xs true is rest =
    map_cons g (h x) (filter_map h (filter p xs))
    ∙ ap (λ o. cons_option o (map g (filter_map h (filter p xs)))) (on x is)
    ∙ ap (λ es. x ∷ es) rest
back_if p h g on x xs false is rest = rest

-- and they are made back of their values
back_on : {X Y : Type 0} (p : X → Bool) (h : X → Option Y) (g : Y → X) → ((x : X) → p x ≡ true → option_map g (h x) ≡ Some x) → (xs : List X) → map g (filter_map h (filter p xs)) ≡ filter p xs
back_on p h g on [] = refl
back_on p h g on (x ∷ xs) = back_if p h g on x xs (p x) refl (back_on p h g on xs)

lane_whole : {Y : Type 0} (lane : Lane) (h : Effect → Option Y) (g : Y → Effect) → ((e : Effect) → is_on lane e ≡ true → option_map g (h e) ≡ Some e) → (J : List Entry) → map g (filter_map h (effects_of lane J)) ≡ effects_of lane J
lane_whole lane h g on [] = refl
lane_whole lane h g on (e ∷ J) =
    let here = effects_on lane e.step.effects in
    let rest = effects_of lane J in
    ap (map g) (filter_map-append h here rest)
    ∙ map-append g (filter_map h here) (filter_map h rest)
    ∙ ap (λ es. es ++ map g (filter_map h rest)) (back_on (is_on lane) h g on e.step.effects)
    ∙ ap (λ es. here ++ es) (lane_whole lane h g on J)

pub downs_whole : (J : List Entry) → map effects.Down (downs_of J) ≡ effects_of lanes.Down J
downs_whole J = lane_whole lanes.Down down_in effects.Down down_if_on J

pub gateway_whole : (J : List Entry) → map effects.Gateway (gateway_of J) ≡ effects_of lanes.Gateway J
gateway_whole J = lane_whole lanes.Gateway gateway_in effects.Gateway gateway_if_on J

pub subscriber_whole : (J : List Entry) → map effects.Subscriber (subscriber_of J) ≡ effects_of lanes.Subscriber J
subscriber_whole J = lane_whole lanes.Subscriber subscriber_in effects.Subscriber subscriber_if_on J

-- ---- one more step

lane_more : {Y : Type 0} (lane : Lane) (h : Effect → Option Y) → ((e : Effect) → is_on lane e ≡ false → h e ≡ None) → (J : List Entry) (entry : Entry) → filter_map h (effects_of lane (J ++ entry ∷ [])) ≡ filter_map h (effects_of lane J) ++ filter_map h entry.step.effects
lane_more lane h off J entry =
    ap (filter_map h) (effects_more lane J entry)
    ∙ filter_map-append h (effects_of lane J) (effects_on lane entry.step.effects)
    ∙ ap (λ es. filter_map h (effects_of lane J) ++ es) (values_on (is_on lane) h off entry.step.effects)

abbrev with_all : Lanes → List Effect → Lanes
with_all kept es = record {
  downs = kept.downs ++ filter_map down_in es;
  gateway = kept.gateway ++ filter_map gateway_in es;
  subscriber = kept.subscriber ++ filter_map subscriber_in es;
}

all_put : (kept : Lanes) (es : List Effect) → fold with_effect kept es ≡ with_all kept es
all_put kept [] = rw (append-nil kept.downs, append-nil kept.gateway, append-nil kept.subscriber) refl
all_put kept (effects.Down d ∷ es) = all_put (with_effect kept (effects.Down d)) es ∙ ap (λ ds. record (with_all kept es) { downs = ds }) (append_assoc kept.downs (d ∷ []) (filter_map down_in es))
all_put kept (effects.Gateway c ∷ es) = all_put (with_effect kept (effects.Gateway c)) es ∙ ap (λ cs. record (with_all kept es) { gateway = cs }) (append_assoc kept.gateway (c ∷ []) (filter_map gateway_in es))
all_put kept (effects.Subscriber c ∷ es) = all_put (with_effect kept (effects.Subscriber c)) es ∙ ap (λ cs. record (with_all kept es) { subscriber = cs }) (append_assoc kept.subscriber (c ∷ []) (filter_map subscriber_in es))

pub lanes_more : (J : List Entry) (entry : Entry) → lanes_of (J ++ entry ∷ []) ≡ fold with_effect (lanes_of J) entry.step.effects
lanes_more J entry =
    rw (lane_more lanes.Down down_in down_if_off J entry, lane_more lanes.Gateway gateway_in gateway_if_off J entry, lane_more lanes.Subscriber subscriber_in subscriber_if_off J entry, all_put (lanes_of J) entry.step.effects) refl

-- what is kept behind one entry more
pub goes_on_kept : (row : Subscriber) (ms : List Message) (v : ℕ) (c : Course) (kept more : Lanes) (es : List Effect) → kept ≡ lanes_of (alone_to row ms v) → length (alone_to row ms v) ≡ v → GoesOn row ms v c (Some es) → more ≡ fold with_effect kept es → (more ≡ lanes_of (alone_to row ms (v + 1))) × (length (alone_to row ms (v + 1)) ≡ v + 1)
goes_on_kept row ms v c kept more es so_far count (is, (e, next, step)) then =
    let J = alone_to row ms v in (
      then
          ∙ ap (λ k. fold with_effect k es) so_far
          ∙ ap (λ (t : Step). fold with_effect (lanes_of J) t.effects) (sym step)
          ∙ sym (lanes_more J e)
          ∙ ap lanes_of (sym next),
      ap length next ∙ length-append J (e ∷ []) ∙ omega (arith, count),
    )

-- ---- what can be written

writable_downs : (row : Subscriber) (es : List Effect) → All (IsWritable row) es → All (IsDown row) (filter_map down_in es)
writable_downs row [] all = All-nil (IsDown row)
writable_downs row (effects.Down d ∷ es) all = All-cons (IsDown row) d (filter_map down_in es) (All-head (IsWritable row) (effects.Down d) es all) (writable_downs row es (All-tail (IsWritable row) (effects.Down d) es all))
writable_downs row (effects.Gateway c ∷ es) all = writable_downs row es (All-tail (IsWritable row) (effects.Gateway c) es all)
writable_downs row (effects.Subscriber c ∷ es) all = writable_downs row es (All-tail (IsWritable row) (effects.Subscriber c) es all)

pub downs_written : (row : Subscriber) (J : List Entry) → ((v : ℕ) (entry : Entry) → slice_get J v ≡ Some entry → All (IsWritable row) entry.step.effects) → All (IsDown row) (downs_of J)
downs_written row [] each = All-nil (IsDown row)
downs_written row (e ∷ J) each =
    let here = effects_on lanes.Down e.step.effects in
    let rest = effects_of lanes.Down J in
    subst (All (IsDown row)) (sym (filter_map-append down_in here rest))
    (All-append (IsDown row) (filter_map down_in here) (filter_map down_in rest)
    (writable_downs row here (All-filter (is_on lanes.Down) (IsWritable row) e.step.effects (each 0 e refl)))
    (downs_written row J (λ v. each (suc v))))

pub end_written : (row : Subscriber) (ms : List Message) → IsSubscriber row → All IsMessage ms → length ms ≤ 100000 → All (IsDown row) (end_of row ms).downs
end_written row ms r a count = downs_written row (alone_of row ms) (sound_writable row ms r a count)

-- ---- the end

pub end_is : (row : Subscriber) (ms : List Message) (v n : ℕ) (c : Course) (kept : Lanes) → c ≡ course_of (alone_to row ms v) → kept ≡ lanes_of (alone_to row ms v) → length (alone_to row ms v) ≡ v → n ≡ v → alone_to row ms v ≡ alone_of row ms → ended (length ms) n kept c.session ≡ end_of row ms
end_is row ms v n c kept is k count same all =
    ap (λ (d : Course). ended (length ms) n kept d.session) is
    ∙ ap (λ l. ended (length ms) n l (session_of (alone_to row ms v))) k
    ∙ ap (λ m. ended (length ms) m (lanes_of (alone_to row ms v)) (session_of (alone_to row ms v))) (same ∙ sym count)
    ∙ ap (end_by (length ms)) all
