-- The lines of a text.
use Rattle.std.specs.Prelude.{ℕ, List}
use Rattle.std.specs.Str.Lines.{lines}

-- the parts between LFs. An empty last part is no line, and only a part before a LF loses the CR at its end, if it has one.
unfoldable pub lines_of : List ℕ → List (List ℕ)
lines_of octets = lines octets
