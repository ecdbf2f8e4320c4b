-- How the code's incarnations are read.
use Rattle.std.specs.Prelude.{Option}
use Rattle.bg_base.specs.declared.pos.Pos.{Pos}
use Rattle.bg_text.specs.declared.expr.InfixSign.{InfixSign}
use Rattle.bg_text.specs.Views.{option_of}
use Rattle.bg_ast.specs.declared.resolved.Expr.{Expr}
use Rattle.bg_ast.specs.declared.resolved.Bracket.{Bracket}
use Rattle.bg_ast.specs.declared.resolved.Link.{Link}
use Rattle.bg_ast.specs.Resolved as r
use Rattle.bg_ast.specs.Views.{ex_of, bracket_view}
use Rattle.bg_passive.specs.Incarnations.{Env}
use Rattle.bg_renamed.specs.Renamed.{rename_r, renames_r}
use Rattle.bg_renamed.specs.declared.env.Env as code

abbrev pub env_of : code.Env → Env
env_of v = record { globals = v.globals.now; before = v.before.now; frame = v.frame.now }

-- what `old` sees
abbrev pub before_of : Env → Env
before_of v = record v { globals = v.before }

-- an expression of the code's
abbrev pub renamed_expr : Env → Expr → r.Ex
renamed_expr v e = rename_r (ex_of e) v

abbrev pub renamed_link : Env → Link → Pos × InfixSign × r.Ex
renamed_link v l = (l.pos, l.sign, renamed_expr v l.operand)

abbrev pub renamed_value : Env → Option r.Ex → Option r.Ex
renamed_value v = option_of (λ e. rename_r e v)

-- a bracket: its indices, and the value of an update
abbrev pub renamed_bracket : Env → Bracket → Pos × r.Exs × Option r.Ex
renamed_bracket v b = let w = bracket_view b in (w.0, renames_r w.1 v, renamed_value v w.2)
