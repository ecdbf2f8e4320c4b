-- How what the code makes of blocks is read.
use Rattle.std.specs.Prelude.{List, map, Vec}
use Rattle.std.specs.Global.{Global}
use Rattle.bg_formula.specs.declared.atom.Literal.{Literal}
use Rattle.bg_clause.specs.declared.short.Short.{Short}
use Rattle.bg_clause.specs.declared.short.Short.TheVariants as short
use Rattle.bg_forms.specs.Forms.{Form, Plain, Is}

abbrev pub short_in : Short → Form
short_in (short.Plain b) = Plain b
short_in (short.Is l) = Is l

abbrev pub clauses_in : List (Vec Literal Global) → List (List Literal)
clauses_in cs = map (λ c. c.items) cs
