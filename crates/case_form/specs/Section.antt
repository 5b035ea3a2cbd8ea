-- The sections of a case text, and what begins a line.
use Rattle.std.specs.Prelude.{ℕ, ◌==◌, Bool, ◌||◌, List, length, slice_index, codes, Option, Some, None, if◌then◌else◌}
use Rattle.std.specs.Str.{bytes_eq}
use Rattle.case_form.specs.declared.section.Section.{Section}
use Rattle.case_form.specs.declared.section.Section.TheVariants.{Subscribers, Trace, Schedule}

-- the place of a section in the order of the text
abbrev pub place_of : Section → ℕ
place_of Subscribers = 0
place_of Trace = 1
place_of Schedule = 2

-- an empty line, or a comment, which begins with `#`
abbrev pub is_passed_over : List ℕ → Bool
is_passed_over line = length line == 0 || slice_index line 0 == 35

-- a heading begins with `[`
abbrev pub is_heading : List ℕ → Bool
is_heading line = slice_index line 0 == 91

-- the section that a heading names
unfoldable pub heading_of : List ℕ → Option Section
heading_of line =
    if bytes_eq line (codes "[subscribers]") then Some Subscribers
    else if bytes_eq line (codes "[trace]") then Some Trace
    else if bytes_eq line (codes "[schedule]") then Some Schedule
    else None
