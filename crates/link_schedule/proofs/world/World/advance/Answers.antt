use Rattle.std.proofs.Common.{◌≡◌, arith, None}
use Rattle.device_types.specs.Journal.{awaited_call}
use Rattle.schedule_laws.specs.Setting.{row_of, messages_of}
use Rattle.link_schedule.specs.Settled.{journal_in, commits_in}
use Rattle.link_schedule.proofs.Goes.{commits_few}
use Rattle.schedule_laws.proofs.Steps.{none_next, journal_whole}
use Rattle.link_schedule.proofs.world.World.advance.Goals as goal

pub returns-in-Some-clause-ok : goal.returns-in-Some-clause-ok
returns-in-Some-clause-ok c = (c.in_ok-take_answer.ensures.ok, commits_few c.take_answer.new.self c.args.d.0 c.recall.ensures)

pub returns-then-taken-message_count-clause-ok : goal.returns-then-taken-message_count-clause-ok
returns-then-taken-message_count-clause-ok c =
    let w = c.args.self.now in
    let d = c.args.d.0 in
    let row = row_of w.setting d in
    let messages = messages_of w.setting d in
    let free : awaited_call (journal_in w d) ≡ None = cc in
    journal_whole row messages (commits_in w d) (none_next row messages (journal_in w d) free (omega arith))

pub returns-clause-ok : goal.returns-clause-ok
returns-clause-ok c = (c.in_ok-take_message.ensures.ok, commits_few c.take_message.new.self c.args.d.0 c.recall-2.ensures)
