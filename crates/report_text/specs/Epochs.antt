-- The lines of a device's streams.
use Rattle.std.specs.Prelude.{ℕ, ◌++◌, List, codes}
use Rattle.std.specs.Fmt.{decimal}
use Rattle.epoch_agents.specs.declared.event.EpochAnswer.{EpochAnswer}
use Rattle.epoch_agents.specs.declared.event.EpochAnswer.TheVariants.{Sent, VoidWindow, VoidLink, Repeat, OverAt, Low, Committed, Ahead, Old, Acked, Renamed, Over}
use Rattle.epoch_agents.specs.declared.stream.Merged.{Merged}
use Rattle.report_text.specs.Lines.{ended}

-- what an event of the streams comes to
abbrev pub epoch_text : EpochAnswer → List ℕ
epoch_text Sent = codes "sent"
epoch_text VoidWindow = codes "void window"
epoch_text VoidLink = codes "void link"
epoch_text (Repeat n) = codes "repeat " ++ decimal n
epoch_text (OverAt n) = codes "over " ++ decimal n
epoch_text (Low stamp) = codes "low " ++ decimal stamp
epoch_text (Committed version) = codes "committed " ++ decimal version
epoch_text (Ahead n) = codes "ahead " ++ decimal n
epoch_text Old = codes "old"
epoch_text (Acked n) = codes "acked " ++ decimal n
epoch_text (Renamed stamp) = codes "renamed " ++ decimal stamp
epoch_text Over = codes "over"

-- the event of that number
abbrev pub epoch_line : ℕ → EpochAnswer → List ℕ
epoch_line number answer = ended (codes "event " ++ decimal number ++ codes ": " ++ epoch_text answer)

-- a committed message of the stream with that label: the station, its index among the station's streams, the stamp and the number
abbrev pub merge_line : ℕ → ℕ → Merged → List ℕ
merge_line station index entry = ended (codes "merge " ++ decimal station ++ codes " " ++ decimal index ++ codes " " ++ decimal entry.stamp ++ codes " " ++ decimal entry.n)
