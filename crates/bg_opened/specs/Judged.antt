-- Programs that are judged: each map has an index, and what guards a clause is a candidate of the program.
use Rattle.std.specs.Prelude.{Bool, ◌&&◌}
use Rattle.std.specs.List.{list_all}
use Rattle.bg_ast.specs.Syntax.{Const, Fun, Prog}
use Rattle.bg_fits.specs.Valued.{is_value_type, any_ex, decls_pass, proc_passes, impl_passes}

-- a constant, unique or not
abbrev pub const_judged : Const → Bool
const_judged c = is_value_type c.ty

-- a function, with a body or without one
abbrev pub fun_judged : Fun → Bool
fun_judged f = list_all is_value_type f.params && is_value_type f.result

-- a program of such parts
abbrev pub is_judged : Prog → Bool
is_judged p =
    decls_pass is_value_type any_ex p.globals
    && (list_all const_judged p.constants
    && (list_all fun_judged p.functions
    && (list_all (proc_passes p.candidates is_value_type any_ex) p.procedures
    && list_all (impl_passes p.candidates is_value_type any_ex) p.implementations)))
