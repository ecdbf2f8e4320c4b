-- The interpretation of a program without constants and functions.
use Rattle.std.specs.Prelude.{[]}
use Rattle.bg_ast.specs.Execution.{Interp}

-- there are no constants and no functions
abbrev pub no_interp : Interp
no_interp = record { constants = []; tables = [] }
