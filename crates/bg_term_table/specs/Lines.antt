-- How the code's lines are read.
use Rattle.std.specs.Prelude.{List, map}
use Rattle.bg_terms.specs.Instances.{Congruent, AtIndex, Elsewhere, Apart}
use Rattle.bg_numbered.specs.Lines.{Line, Pick, Names, Says}
use Rattle.bg_term_table.specs.declared.line.Line as code
use Rattle.bg_term_table.specs.declared.line.Line.TheVariants as line

abbrev pub line_of : code.Line → Line
line_of (line.Pick m a) = Pick m a
line_of (line.Names m o) = Names m o
line_of (line.Congruent a b) = Says (Congruent a b)
line_of (line.AtIndex u s) = Says (AtIndex u s)
line_of (line.Elsewhere u s r) = Says (Elsewhere u s r)
line_of (line.Apart s r) = Says (Apart s r)

abbrev pub lines_of : List code.Line → List Line
lines_of ls = map line_of ls
