-- Each list of functions has tables: those without entries.
use Rattle.std.proofs.Common.{◌≡◌, Bool, true, false, List, [], ◌∷◌, map, refl}
use Rattle.std.specs.Prelude.{◌&&◌, ◌||◌, not, ◌==◌}
use Rattle.std.proofs.lemmas.Bool.{eq-eqb}
use Rattle.bg_ast.specs.Values.{Ty, IntTy, BoolTy, UserTy, MapTy, is_of, val_eq, Table}
use Rattle.bg_ast.specs.Syntax.{Fun, Prog}
use Rattle.bg_ast.specs.Execution.{Interp}
use Rattle.bg_sense.specs.Eval.{default_for}
use Rattle.bg_sense.specs.Tables.{has_body, is_table_of, are_tables}
use Rattle.bg_sense.proofs.Bools.{both}
use Rattle.bg_sense.proofs.TypedRuns.{default_typed}

-- a table without entries
abbrev pub blank : Fun → Table
blank f = record { entries = []; default = default_for f.result }

-- the interpretation that has these, and no constants
abbrev pub blank_interp : Prog → Interp
blank_interp p = record { constants = []; tables = map blank p.functions }

default_same : (t : Ty) → val_eq (default_for t) (default_for t) ≡ true
default_same IntTy = refl
default_same BoolTy = refl
default_same (UserTy t) = both (t == t) true (eq-eqb t t refl) refl
default_same (MapTy ks t) = default_same t

or_right_true : (a c : Bool) → c ≡ true → (a || c) ≡ true
or_right_true true c e = refl
or_right_true false c e = e

blank_table : (f : Fun) → is_table_of f (blank f) ≡ true
blank_table f =
    both (is_of f.result (default_for f.result) && true) (not (has_body f.body) || val_eq (default_for f.result) (default_for f.result)) (both (is_of f.result (default_for f.result)) true (default_typed f.result) refl) (or_right_true (not (has_body f.body)) (val_eq (default_for f.result) (default_for f.result)) (default_same f.result))

pub blank_tables : (fs : List Fun) → are_tables fs (map blank fs) ≡ true
blank_tables [] = refl
blank_tables (f ∷ fs) = both (is_table_of f (blank f)) (are_tables fs (map blank fs)) (blank_table f) (blank_tables fs)
