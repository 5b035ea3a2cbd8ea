-- The transcript: a line for each event of a schedule.
use Rattle.std.specs.Prelude.{ℕ, ◌++◌, List, codes}
use Rattle.std.specs.Fmt.{decimal}
use Rattle.device_types.specs.declared.event.EventAnswer.{EventAnswer}
use Rattle.device_types.specs.declared.event.EventAnswer.TheVariants.{Sent, Taken, Stopped, Pushed, VoidReplica, VoidWindow, VoidLink, VoidHand, VoidOutbox, Ready, Waiting, Repeat, Settled, Ahead, OldCall, Committed, Stale, Acked, Accepted, Old}
use Rattle.case_form.specs.Event.{lane_word}
use Rattle.report_text.specs.Lines.{ended}

-- what an event comes to
abbrev pub answer_text : EventAnswer → List ℕ
answer_text Sent = codes "sent"
answer_text Taken = codes "taken"
answer_text Stopped = codes "stopped"
answer_text Pushed = codes "pushed"
answer_text VoidReplica = codes "void replica"
answer_text VoidWindow = codes "void window"
answer_text VoidLink = codes "void link"
answer_text VoidHand = codes "void hand"
answer_text VoidOutbox = codes "void outbox"
answer_text (Ready version) = codes "ready " ++ decimal version
answer_text (Waiting lane k) = codes "waiting " ++ lane_word lane ++ codes " " ++ decimal k
answer_text (Repeat n) = codes "repeat " ++ decimal n
answer_text (Settled n) = codes "settled " ++ decimal n
answer_text (Ahead n) = codes "ahead " ++ decimal n
answer_text (OldCall lane k) = codes "old " ++ lane_word lane ++ codes " " ++ decimal k
answer_text (Committed version) = codes "committed " ++ decimal version
answer_text (Stale read current) = codes "stale " ++ decimal read ++ codes " " ++ decimal current
answer_text (Acked n) = codes "acked " ++ decimal n
answer_text (Accepted k) = codes "accepted " ++ decimal k
answer_text (Old n) = codes "old " ++ decimal n

-- event number index
abbrev pub transcript_line : ℕ → EventAnswer → List ℕ
transcript_line index answer = ended (codes "event " ++ decimal index ++ codes ": " ++ answer_text answer)
