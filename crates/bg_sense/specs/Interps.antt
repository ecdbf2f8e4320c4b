-- Interpretations of a program.
use Rattle.std.specs.Prelude.{Bool, true, not, ◌&&◌, ◌||◌, List, [], ◌∷◌, IsTrue}
use Rattle.bg_ast.specs.Values.{Val, val_eq}
use Rattle.bg_ast.specs.Syntax.{Ex, Const, Prog}
use Rattle.bg_ast.specs.Execution.{Interp}
use Rattle.bg_sense.specs.Eval.{holds_alone}
use Rattle.bg_sense.specs.Types.{are_of, const_types, ty_eq}
use Rattle.bg_sense.specs.Tables.{are_tables}

-- a unique constant differs from the later unique constants of its type
abbrev pub differs : Const → Val → List Const → List Val → Bool
differs c v [] vs = true
differs c v (d ∷ ds) [] = true
differs c v (d ∷ ds) (w ∷ ws) = not (d.is_unique && (ty_eq c.ty d.ty && val_eq v w)) && differs c v ds ws

-- the unique constants of each type are pairwise different
abbrev pub are_distinct : List Const → List Val → Bool
are_distinct [] vs = true
are_distinct (c ∷ cs) [] = true
are_distinct (c ∷ cs) (v ∷ vs) = (not c.is_unique || differs c v cs vs) && are_distinct cs vs

-- each of these axioms is true
abbrev pub all_hold : Prog → Interp → List Ex → Bool
all_hold p i [] = true
all_hold p i (e ∷ es) = holds_alone p i e && all_hold p i es

-- an interpretation gives each constant a value of its type, and each function without a body a typed table
pub record IsInterp (p : Prog) (i : Interp) : Type 0 where
  pub constants : IsTrue (are_of (const_types p.constants) i.constants)
  pub tables : IsTrue (are_tables p.functions i.tables)

-- an interpretation meets a program: the unique constants of each type differ, and the axioms are true
pub record Meets (p : Prog) (i : Interp) : Type 0 where
  pub interp : IsInterp p i
  pub unique : IsTrue (are_distinct p.constants i.constants)
  pub axioms : IsTrue (all_hold p i p.axioms)
