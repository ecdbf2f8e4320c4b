-- Tables of functions' types say values of their results' types, and functions without bodies mean them.
use Rattle.std.proofs.Common.{◌≡◌, ℕ, zero, suc, Bool, true, false, List, [], ◌∷◌, length, Option, Some, None, refl}
use Rattle.std.specs.Prelude.{not, ◌&&◌, if◌then◌else◌, slice_get}
use Rattle.bg_ast.specs.Values.{Val, Ty, Table, val_eq, is_of}
use Rattle.bg_ast.specs.Syntax.{Ex, Fun, Prog}
use Rattle.bg_ast.specs.Execution.{Interp}
use Rattle.bg_sense.specs.Eval.{vals_eq, entry_for, look_up, body_of, body_value, functions_to, functions_of}
use Rattle.bg_sense.specs.Types.{are_of}
use Rattle.bg_sense.specs.Tables.{is_before, are_entries, is_table, is_table_of, are_tables}
use Rattle.bg_sense.proofs.Bools.{and_left, and_right}
use Rattle.bg_scalar.specs.Values.{MeanTables}
use Rattle.bg_scalar.specs.Typed.{HaveTables}

one_typed : (t : Ty) (b : Bool) (x y : Val) → is_of t x ≡ true → is_of t y ≡ true → is_of t (if b then x else y) ≡ true
one_typed t true x y h k = h
one_typed t false x y h k = k

-- what an entry or the default says is of the function's type
entry_typed : (fn : Fun) (d : Val) (es : List (List Val × Val)) (args : List Val) (c : Val) → are_entries fn d es ≡ true → is_of fn.result c ≡ true → is_of fn.result (entry_for es args c) ≡ true
entry_typed fn d [] args c h k = k
entry_typed fn d (e ∷ es) args c h k =
    let of_keys = and_right (are_of fn.params e.0) (is_of fn.result e.1 && (not (val_eq e.1 d) && (is_before e.0 es && are_entries fn d es))) h in
    let of_value = and_right (is_of fn.result e.1) (not (val_eq e.1 d) && (is_before e.0 es && are_entries fn d es)) of_keys in
    let of_default = and_right (not (val_eq e.1 d)) (is_before e.0 es && are_entries fn d es) of_value in
    one_typed fn.result (vals_eq e.0 args) e.1 (entry_for es args c) (and_left (is_of fn.result e.1) _ of_keys)
    (entry_typed fn d es args c (and_right (is_before e.0 es) (are_entries fn d es) of_default) k)

pub said_typed : (fs : List Fun) (ts : List Table) → are_tables fs ts ≡ true → HaveTables fs ts
said_typed [] ts h f fn args e = absurd cc
said_typed (g ∷ fs) [] h f fn args e = absurd cc
said_typed (g ∷ fs) (t ∷ ts) h zero fn args e =
    let same : g ≡ fn = cc in
    let one = and_left (is_table g t) _ (and_left (is_table_of g t) (are_tables fs ts) h) in
    rw same at
    (entry_typed g t.default t.entries args t.default (and_right (is_of g.result t.default) _ one) (and_left (is_of g.result t.default) _ one))
said_typed (g ∷ fs) (t ∷ ts) h (suc f) fn args e =
    said_typed fs ts (and_right (is_table_of g t) (are_tables fs ts) h) f fn args e

-- a function without a body means its table
no_body : (o : Option Ex) (fs : ℕ → List Val → Val) (i : Interp) (f : ℕ) (args : List Val) → o ≡ None → body_value o fs i f args ≡ look_up (slice_get i.tables f) args
no_body None fs i f args h = refl
no_body (Some e) fs i f args h = absurd cc

pub mean_tables : (p : Prog) (i : Interp) → ((f : ℕ) → body_of (slice_get p.functions f) ≡ None) → MeanTables (functions_of p i) i.tables
mean_tables p i h f args =
    no_body (body_of (slice_get p.functions f)) (functions_to (length p.functions) p.functions i) i f args (h f)
