use Rattle.device_types.proofs.Courses.{sound_session, sound_cause}
use Rattle.device_types.proofs.alone_laws.alone_is_sound.Goals as goal

pub returns-clause-session : goal.returns-clause-session
returns-clause-session c = sound_session c.args._row.now c.args._messages.now c.requires.row c.requires.messages c.requires.count

pub returns-clause-cause : goal.returns-clause-cause
returns-clause-cause c = sound_cause c.args._row.now c.args._messages.now c.requires.row c.requires.messages c.requires.count
