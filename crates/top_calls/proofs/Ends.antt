-- What becomes of devices that are alone with their messages: it can be printed, and is not too much to be added up.
use Rattle.std.proofs.Common.{◌≡◌, ◌≤◌, ℕ, ◌*◌, List, [], ◌∷◌, length, sym, ap, ◌∙◌, subst, arith}
use Rattle.std.specs.Prelude.{All, map, Option}
use Rattle.std.specs.List.{AllZip, filter_map, zip}
use Rattle.std.proofs.lemmas.List.{length-map}
use Rattle.std.proofs.lemmas.List.Elements.{All-nil, All-cons, All-head, All-tail}
use Rattle.std.proofs.lemmas.Slice.Zip.{length-zip}
use Rattle.device_types.specs.declared.effect.Effect.{Effect}
use Rattle.device_types.specs.declared.effect.Effect.TheVariants as effects
use Rattle.device_types.specs.declared.event.Lane.{Lane}
use Rattle.device_types.specs.declared.event.Lane.TheVariants.{Down, Gateway, Subscriber as Server}
use Rattle.device_types.specs.declared.finals.DeviceEnd.{DeviceEnd}
use Rattle.device_types.specs.declared.message.Message.{Message}
use Rattle.device_types.specs.declared.subscriber.Subscriber.{Subscriber}
use Rattle.device_types.specs.Alone.{alone_of}
use Rattle.device_types.specs.Finals.{IsEndOf}
use Rattle.device_types.specs.Journal.{effects_of, pushed_count}
use Rattle.device_types.specs.Line.{IsLine}
use Rattle.device_types.specs.Subscriber.{IsSubscriber}
use Rattle.device_types.proofs.Courses.{few_entries, few_pushed}
use Rattle.device_machine.specs.Ends.{down_in, gateway_in, subscriber_in, end_of, finals_of}
use Rattle.device_machine.proofs.Gathered.{downs_whole, gateway_whole, subscriber_whole}
use Rattle.link_schedule.specs.Floor.{IsEnd}
use Rattle.link_schedule.specs.World.{IsShort}
use Rattle.link_schedule.proofs.Ends.{ends_written}
use Rattle.report_text.specs.Final.{AreEnds}

-- ---- of one device

-- what stands on a lane is no more than was pushed to it
few_on : {Y : Type 0} (row : Subscriber) (messages : List Message) (lane : Lane) (of : Effect → Option Y) (made : Y → Effect) → map made (filter_map of (effects_of lane (alone_of row messages))) ≡ effects_of lane (alone_of row messages) → length (filter_map of (effects_of lane (alone_of row messages))) ≤ 4 * (3 * length messages)
unfolding alone_of
few_on row messages lane of made whole =
    let same = ap length whole in
    let mapped = length-map (filter_map of (effects_of lane (alone_of row messages))) made in
    let few : pushed_count lane (alone_of row messages) ≤ 4 * (3 * length messages) = few_pushed row messages lane (3 * length messages) in
    omega arith

end_in_form : (row : Subscriber) (messages : List Message) → IsSubscriber row → IsLine messages → IsShort messages → IsEnd (end_of row messages)
end_in_form row messages in_ranges line short =
    let journal = alone_of row messages in
    let steps = few_entries row messages in
    let downs = few_on row messages Down down_in effects.Down (downs_whole journal) in
    let gateway = few_on row messages Gateway gateway_in effects.Gateway (gateway_whole journal) in
    let subscriber = few_on row messages Server subscriber_in effects.Subscriber (subscriber_whole journal) in
    record {
      few_messages = omega arith;
      few_steps = omega arith;
      few_downs = omega arith;
      few_gateway = omega arith;
      few_subscriber = omega arith;
    }

-- ---- of all devices

pub ends_in_form : (rows : List Subscriber) (book : List (List Message)) → All IsSubscriber rows → All IsLine book → All IsShort book → All IsEnd (finals_of rows book)
ends_in_form [] book in_ranges lines short = All-nil IsEnd
ends_in_form (row ∷ rows) [] in_ranges lines short = All-nil IsEnd
ends_in_form (row ∷ rows) (messages ∷ book) in_ranges lines short =
    All-cons IsEnd (end_of row messages) (finals_of rows book)
    (end_in_form row messages (All-head IsSubscriber row rows in_ranges) (All-head IsLine messages book lines) (All-head IsShort messages book short))
    (ends_in_form rows book (All-tail IsSubscriber row rows in_ranges) (All-tail IsLine messages book lines) (All-tail IsShort messages book short))

pub ends_count : (rows : List Subscriber) (book : List (List Message)) → length book ≡ length rows → length (finals_of rows book) ≡ length rows
ends_count rows book same = let pairs = length-zip rows book in length-map (zip rows book) (λ device. end_of device.0 device.1) ∙ omega arith

pub are_ends : (rows : List Subscriber) (book : List (List Message)) (finals : List DeviceEnd) → length book ≡ length rows → All IsSubscriber rows → All IsLine book → All IsShort book → finals ≡ finals_of rows book → AreEnds rows finals
are_ends rows book finals each in_ranges lines short are = record {
  count = ap length are ∙ ends_count rows book each;
  downs = subst (AllZip IsEndOf rows) (sym are) (ends_written rows book each in_ranges lines short);
}
