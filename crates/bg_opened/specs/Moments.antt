-- States of an opened program: the values of the constants stand behind those of the globals.
use Rattle.std.specs.Prelude.{if◌then◌else◌, List, [], ◌∷◌, ◌++◌, take, drop, length}
use Rattle.bg_ast.specs.Values.{Table}
use Rattle.bg_ast.specs.Syntax.{Fun, Prog}
use Rattle.bg_ast.specs.Execution.{Interp, State}
use Rattle.bg_sense.specs.Eval.{default_for}
use Rattle.bg_sense.specs.Tables.{has_body}

-- an interpretation's tables, without values of constants
abbrev pub tables_of : Interp → Interp
tables_of i = record { constants = []; tables = i.tables }

-- the state with the values that an interpretation gives the constants
abbrev pub with_constants : Interp → State → State
with_constants i s = record { globals = s.globals ++ i.constants; frame = s.frame }

-- the table that stands for none
abbrev pub blank : Fun → Table
blank f = record { entries = []; default = default_for f.result }

-- these tables, and the blank one where a function has a body
abbrev pub tables_for : List Fun → List Table → List Table
tables_for [] ts = []
tables_for (f ∷ fs) [] = []
tables_for (f ∷ fs) (t ∷ ts) = (if has_body f.body then blank f else t) ∷ tables_for fs ts

-- the interpretation that gives the constants the values that they have in a state, and the functions without a body their tables
abbrev pub interp_in : Prog → Interp → State → Interp
interp_in p i s =
    record { constants = drop (length p.globals) s.globals; tables = tables_for p.functions i.tables }

-- the state without the constants' values
abbrev pub without_constants : Prog → State → State
without_constants p s = record { globals = take (length p.globals) s.globals; frame = s.frame }
