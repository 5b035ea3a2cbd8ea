-- Open types have room for what items contain.
use Rattle.s1ap_ies.specs.Values.{done_sound, setup_sound, add_sound}
use Rattle.codec_cases.proofs.s1ap_ies_values.tell_all.Goals as goal

pub tell_each-requires-8 : goal.tell_each-requires-8
tell_each-requires-8 c = done_sound.2

pub tell_each-requires-9 : goal.tell_each-requires-9
tell_each-requires-9 c = setup_sound.2

pub tell_each-requires-10 : goal.tell_each-requires-10
tell_each-requires-10 c = add_sound.2
