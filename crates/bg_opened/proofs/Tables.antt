-- What functions without a body mean, in a program and in the opened one.
use Rattle.std.proofs.Common.{◌≡◌, ℕ, zero, suc, Bool, true, false, List, [], ◌∷◌, length, map, Option, Some, None, refl, sym, ap, ◌∙◌}
use Rattle.std.specs.Prelude.{◌&&◌, ◌||◌, not, if◌then◌else◌, ◌==◌, slice_get}
use Rattle.std.proofs.lemmas.Bool.{eq-eqb}
use Rattle.bg_ast.specs.Values.{Val, Ty, IntTy, BoolTy, UserTy, MapTy, is_of, val_eq, Table}
use Rattle.bg_ast.specs.Syntax.{Ex, Fun, Prog}
use Rattle.bg_ast.specs.Execution.{Interp}
use Rattle.bg_sense.specs.Eval.{look_up, body_value, body_of, functions_to, functions_of, default_for}
use Rattle.bg_sense.specs.Types.{are_of}
use Rattle.bg_sense.specs.Tables.{is_before, are_entries, is_table, has_body, is_blank, is_table_of, are_tables}
use Rattle.bg_sense.proofs.Bools.{and_left, and_right, both}
use Rattle.bg_sense.proofs.TypedRuns.{default_typed}
use Rattle.bg_opened.specs.Exprs.{body_in, raw_bodies}
use Rattle.bg_opened.specs.Programs.{bodiless, opened_program}
use Rattle.bg_opened.specs.Moments.{blank, tables_for}

-- a function has no body here, or isn't there
abbrev pub HasNone : List Fun → ℕ → Type 0
HasNone fs f = not (has_body (raw_bodies fs f)) ≡ true

-- both give functions without a body the same tables
abbrev pub Agree : List Fun → Interp → Interp → Type 0
Agree fs i j = (f : ℕ) → HasNone fs f → slice_get i.tables f ≡ slice_get j.tables f

is_none : (o : Option Ex) → not (has_body o) ≡ true → o ≡ None
is_none None h = refl
is_none (Some e) h = absurd (let bad : ⊥ = cc in bad)

same_body : (o : Option Fun) → body_of o ≡ body_in o
same_body None = refl
same_body (Some f) = refl

no_bodies : (fs : List Fun) (f : ℕ) → body_of (slice_get (map bodiless fs) f) ≡ None
no_bodies [] f = refl
no_bodies (x ∷ fs) zero = refl
no_bodies (x ∷ fs) (suc f) = no_bodies fs f

-- no body is left
pub no_body : (fs : List Fun) (f : ℕ) (fn : Fun) (e : Ex) → slice_get (map bodiless fs) f ≡ Some fn → fn.body ≡ Some e → ⊥
no_body fs f fn e at body =
    let none = sym (ap body_of at) ∙ no_bodies fs f in
    let bad : ⊥ = cc in
    bad

-- a function without a body means its table
means_table : (p : Prog) (i : Interp) (f : ℕ) (args : List Val) → body_of (slice_get p.functions f) ≡ None → functions_of p i f args ≡ look_up (slice_get i.tables f) args
means_table p i f args none =
    ap (λ b. body_value b (functions_to (length p.functions) p.functions i) i f args) none

-- it means the same in the opened program, under the same table
pub same_functions : (depth : ℕ) (p : Prog) (i j : Interp) → Agree p.functions i j → (f : ℕ) (args : List Val) → HasNone p.functions f → functions_of (opened_program depth p) j f args ≡ functions_of p i f args
same_functions depth p i j agree f args none =
    means_table (opened_program depth p) j f args (no_bodies p.functions f)
    ∙ sym (ap (λ t. look_up t args) (agree f none))
    ∙ sym (means_table p i f args (same_body (slice_get p.functions f) ∙ is_none (raw_bodies p.functions f) none))

-- ---- tables

entries_alike : (f : Fun) (d : Val) (es : List (List Val × Val)) → are_entries (bodiless f) d es ≡ are_entries f d es
entries_alike f d [] = refl
entries_alike f d (e ∷ es) =
    ap (λ b. are_of f.params e.0 && (is_of f.result e.1 && (not (val_eq e.1 d) && (is_before e.0 es && b)))) (entries_alike f d es)

table_alike : (f : Fun) (t : Table) → is_table (bodiless f) t ≡ is_table f t
table_alike f t = ap (λ b. is_of f.result t.default && b) (entries_alike f t.default t.entries)

-- tables of functions are tables of the functions without their bodies
pub bodiless_tables : (fs : List Fun) (ts : List Table) → are_tables fs ts ≡ true → are_tables (map bodiless fs) ts ≡ true
bodiless_tables [] [] h = refl
bodiless_tables [] (t ∷ ts) h = absurd (let bad : ⊥ = cc in bad)
bodiless_tables (f ∷ fs) [] h = absurd (let bad : ⊥ = cc in bad)
bodiless_tables (f ∷ fs) (t ∷ ts) h =
    let here = and_left (is_table f t) (not (has_body f.body) || is_blank f t) (and_left (is_table_of f t) (are_tables fs ts) h) in
    both (is_table (bodiless f) t && true) (are_tables (map bodiless fs) ts) (both (is_table (bodiless f) t) true (table_alike f t ∙ here) refl) (bodiless_tables fs ts (and_right (is_table_of f t) (are_tables fs ts) h))

default_same : (t : Ty) → val_eq (default_for t) (default_for t) ≡ true
default_same IntTy = refl
default_same BoolTy = refl
default_same (UserTy t) = both (t == t) true (eq-eqb t t refl) refl
default_same (MapTy ks t) = default_same t

or_right_true : (a c : Bool) → c ≡ true → (a || c) ≡ true
or_right_true true c e = refl
or_right_true false c e = e

blank_table : (f : Fun) → is_table_of f (blank f) ≡ true
blank_table f =
    both (is_of f.result (default_for f.result) && true) (not (has_body f.body) || val_eq (default_for f.result) (default_for f.result)) (both (is_of f.result (default_for f.result)) true (default_typed f.result) refl) (or_right_true (not (has_body f.body)) (val_eq (default_for f.result) (default_for f.result)) (default_same f.result))

-- the blank table where there is a body, else this one
own_table : (f : Fun) (t : Table) (b : Bool) → has_body f.body ≡ b → is_table f t ≡ true → is_table_of f (if b then blank f else t) ≡ true
own_table f t true e h = blank_table f
own_table f t false e h =
    both (is_table f t) (not (has_body f.body) || is_blank f t) h (ap (λ b. not b || is_blank f t) e)

-- tables of the functions without their bodies, and the blank ones where there is a body, are tables of the functions
pub are_tables_for : (fs : List Fun) (ts : List Table) → are_tables (map bodiless fs) ts ≡ true → are_tables fs (tables_for fs ts) ≡ true
are_tables_for [] ts h = refl
are_tables_for (f ∷ fs) [] h = absurd (let bad : ⊥ = cc in bad)
are_tables_for (f ∷ fs) (t ∷ ts) h =
    let here = and_left (is_table (bodiless f) t) true (and_left (is_table_of (bodiless f) t) (are_tables (map bodiless fs) ts) h) in
    both (is_table_of f (if has_body f.body then blank f else t)) (are_tables fs (tables_for fs ts)) (own_table f t (has_body f.body) refl (sym (table_alike f t) ∙ here)) (are_tables_for fs ts (and_right (is_table_of (bodiless f) t) (are_tables (map bodiless fs) ts) h))

table_if : (f : Fun) (t : Table) (b : Bool) → not b ≡ true → Some (if b then blank f else t) ≡ Some t
table_if f t true h = absurd (let bad : ⊥ = cc in bad)
table_if f t false h = refl

-- they are the same where there is no body
pub tables_agree : (fs : List Fun) (ts : List Table) → are_tables (map bodiless fs) ts ≡ true → (f : ℕ) → HasNone fs f → slice_get (tables_for fs ts) f ≡ slice_get ts f
tables_agree [] [] h f n = refl
tables_agree [] (t ∷ ts) h f n = absurd (let bad : ⊥ = cc in bad)
tables_agree (f ∷ fs) [] h k n = absurd (let bad : ⊥ = cc in bad)
tables_agree (f ∷ fs) (t ∷ ts) h zero n = table_if f t (has_body f.body) n
tables_agree (f ∷ fs) (t ∷ ts) h (suc k) n =
    tables_agree fs ts (and_right (is_table_of (bodiless f) t) (are_tables (map bodiless fs) ts) h) k n
