-- How the code's expressions are read, once they are changed.
use Rattle.std.specs.Prelude.{Option}
use Rattle.bg_base.specs.declared.pos.Pos.{Pos}
use Rattle.bg_text.specs.declared.expr.InfixSign.{InfixSign}
use Rattle.bg_text.specs.Views.{option_of}
use Rattle.bg_ast.specs.declared.resolved.Expr.{Expr}
use Rattle.bg_ast.specs.declared.resolved.Bracket.{Bracket}
use Rattle.bg_ast.specs.declared.resolved.Link.{Link}
use Rattle.bg_ast.specs.Resolved as r
use Rattle.bg_ast.specs.Views.{ex_of, bracket_view}
use Rattle.bg_opened.specs.Changed.{Handlers, changed, all_changed}

-- an expression of the code's
abbrev pub changed_expr : Handlers → Expr → r.Ex
changed_expr h e = changed h (ex_of e)

abbrev pub changed_link : Handlers → Link → Pos × InfixSign × r.Ex
changed_link h l = (l.pos, l.sign, changed_expr h l.operand)

abbrev pub changed_value : Handlers → Option r.Ex → Option r.Ex
changed_value h = option_of (changed h)

-- a bracket: its indices, and the value of an update
abbrev pub changed_bracket : Handlers → Bracket → Pos × r.Exs × Option r.Ex
changed_bracket h b = let w = bracket_view b in (w.0, all_changed h w.1, changed_value h w.2)

-- what is assumed
abbrev pub assuming : r.Ex → r.St
assuming e = r.Assume e
