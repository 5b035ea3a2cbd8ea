-- What a status is as a number and as a text.
use Rattle.std.specs.Prelude.{ℕ, ◌==◌, List, [], ◌++◌, length, codes, if◌then◌else◌}
use Rattle.std.specs.Fmt.{decimal}
use Rattle.echo_base.specs.Reason.{name_of_number}
use Rattle.echo_base.specs.declared.status.Status.{Status}
use Rattle.echo_base.specs.declared.status.Status.TheVariants.{Done, Usage, CaseRefused, ReadFault, WriteFault, OutOfMemory}

abbrev pub status_code : Status → ℕ
status_code Done = 0
status_code Usage = 1
status_code (CaseRefused number line) = 2
status_code ReadFault = 3
status_code WriteFault = 4
status_code OutOfMemory = 5

-- a name with a space in front, and nothing where there is none
abbrev pub spaced : List ℕ → List ℕ
spaced name = if length name == 0 then [] else codes " " ++ name

-- the line for standard error, without its end: a number has its name where it is a reason's
abbrev pub status_text : Status → List ℕ
status_text Done = codes "echo: done"
status_text Usage = codes "echo: usage"
status_text (CaseRefused number line) = codes "echo: case refused " ++ decimal number ++ spaced (name_of_number number) ++ codes " line " ++ decimal line
status_text ReadFault = codes "echo: read fault"
status_text WriteFault = codes "echo: write fault"
status_text OutOfMemory = codes "echo: out of memory"
