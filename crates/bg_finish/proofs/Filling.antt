-- Tables that applications are put into, function by function.
use Rattle.std.proofs.Common.{◌≡◌, ℕ, zero, suc, Bool, true, false, List, [], ◌∷◌, ◌++◌, length, Some, None, refl, sym, ap, ◌∙◌, subst, arith}
use Rattle.std.specs.Prelude.{if◌then◌else◌, slice_get, ◌==◌}
use Rattle.std.proofs.lemmas.Bool.{eqb-true}
use Rattle.std.proofs.lemmas.Bool.Decides.{nat_tests}
use Rattle.std.proofs.lemmas.List.{append-nil, append_assoc}
use Rattle.bg_ast.specs.Values.{Val, is_of, val_eq}
use Rattle.bg_ast.specs.Syntax.{Fun}
use Rattle.bg_sense.specs.Eval.{vals_eq, entry_for}
use Rattle.bg_sense.specs.Types.{are_of}
use Rattle.bg_sense.proofs.MapLaws.{val_same}
use Rattle.bg_sense.proofs.Order.{vals_same}
use Rattle.bg_scalar.specs.declared.value.Value.{Value}
use Rattle.bg_scalar.specs.Values.{value_of}
use Rattle.bg_scalar.specs.Views.{vals_in}
use Rattle.bg_finish.specs.Filled.{TableOf, RowOf, with_entry, put_in, at_place, with_row, filled, rows_for}
use Rattle.bg_finish.proofs.Entered.{told, entered, InOrder, in_order, Fit, fit_entry, IsArgs, IsTold}

-- ---- one table among many

place_same : {A : Type 0} (f : ℕ) (g : A → A) (ts : List A) (t : A) → slice_get ts f ≡ Some t → slice_get (at_place f g ts) f ≡ Some (g t)
place_same f g [] t e = absurd (let bad : ⊥ = cc in bad)
place_same zero g (u ∷ ts) t e = let same : u ≡ t = cc in ap (λ z. Some (g z)) same
place_same (suc f) g (u ∷ ts) t e = place_same f g ts t e

place_other : {A : Type 0} (i f : ℕ) (g : A → A) (ts : List A) → (i ≡ f → ⊥) → slice_get (at_place i g ts) f ≡ slice_get ts f
place_other i f g [] n = refl
place_other zero zero g (u ∷ ts) n = absurd (n refl)
place_other zero (suc f) g (u ∷ ts) n = refl
place_other (suc i) zero g (u ∷ ts) n = refl
place_other (suc i) (suc f) g (u ∷ ts) n = place_other i f g ts (λ e. n (ap suc e))

place_none : {A : Type 0} (i f : ℕ) (g : A → A) (ts : List A) → slice_get ts f ≡ None → slice_get (at_place i g ts) f ≡ None
place_none i f g [] e = e
place_none zero zero g (u ∷ ts) e = absurd (let bad : ⊥ = cc in bad)
place_none zero (suc f) g (u ∷ ts) e = e
place_none (suc i) zero g (u ∷ ts) e = absurd (let bad : ⊥ = cc in bad)
place_none (suc i) (suc f) g (u ∷ ts) e = place_none i f g ts e

number_self : (n : ℕ) → (n == n) ≡ true
number_self n = grind (arith, nat_tests)

-- a function's table
abbrev pub fill : ℕ → List RowOf → TableOf → TableOf
fill f [] t = t
fill f (r ∷ rs) t = fill f rs (if r.function == f then put_in t r.args r.value else t)

pub filled_at : (f : ℕ) (rs : List RowOf) (ts : List TableOf) (t : TableOf) → slice_get ts f ≡ Some t → slice_get (filled rs ts) f ≡ Some (fill f rs t)
filled_at f [] ts t e = e
filled_at f (r ∷ rs) ts t e = filled_at f rs (with_row r ts) _ (on (r.function == f) refl)
  where
    on : (b : Bool) → (r.function == f) ≡ b → slice_get (with_row r ts) f ≡ Some (if b then put_in t r.args r.value else t)
    on true h =
        subst (λ i. slice_get (at_place i (λ u. put_in u r.args r.value) ts) f ≡ Some (put_in t r.args r.value)) (sym (eqb-true r.function f h)) (place_same f (λ u. put_in u r.args r.value) ts t e)
    on false h =
        place_other r.function f (λ u. put_in u r.args r.value) ts (λ s. let yes : (r.function == f) ≡ true = subst (λ i. (i == f) ≡ true) (sym s) (number_self f) in let no : false ≡ true = sym h ∙ yes in let bad : ⊥ = cc in bad)
        ∙ e

pub filled_none : (f : ℕ) (rs : List RowOf) (ts : List TableOf) → slice_get ts f ≡ None → slice_get (filled rs ts) f ≡ None
filled_none f [] ts e = e
filled_none f (r ∷ rs) ts e = filled_none f rs (with_row r ts) (place_none r.function f (λ u. put_in u r.args r.value) ts e)

pub filled_more : (rs qs : List RowOf) (ts : List TableOf) → filled (rs ++ qs) ts ≡ filled qs (filled rs ts)
filled_more [] qs ts = refl
filled_more (r ∷ rs) qs ts = filled_more rs qs (with_row r ts)

-- ---- what is told

-- what matches these arguments has this value
abbrev AllTell : List (List Val × Val) → List Val → Val → Type 0
AllTell [] args v = Unit {0}
AllTell (e ∷ es) args v = (vals_eq e.0 args ≡ true → e.1 ≡ v) × AllTell es args v

tell_default : (es : List (List Val × Val)) (args : List Val) (v : Val) → AllTell es args v → entry_for es args v ≡ v
tell_default [] args v h = refl
tell_default (e ∷ es) args v h = on (vals_eq e.0 args) refl (tell_default es args v h.1)
  where
    on : (c : Bool) → vals_eq e.0 args ≡ c → entry_for es args v ≡ v → (if c then e.1 else entry_for es args v) ≡ v
    on true q later = h.0 q
    on false q later = later

tell_last : (es : List (List Val × Val)) (k args : List Val) (v d : Val) → vals_eq k args ≡ true → AllTell es args v → entry_for (es ++ (k, v) ∷ []) args d ≡ v
tell_last [] k args v d q h = ap (λ c. if c then v else d) q
tell_last (e ∷ es) k args v d q h = on (vals_eq e.0 args) refl (tell_last es k args v d q h.1)
  where
    on : (c : Bool) → vals_eq e.0 args ≡ c → entry_for (es ++ (k, v) ∷ []) args d ≡ v → (if c then e.1 else entry_for (es ++ (k, v) ∷ []) args d) ≡ v
    on true p later = h.0 p
    on false p later = later

tell_other : (es : List (List Val × Val)) (k args : List Val) (v d : Val) → vals_eq k args ≡ false → entry_for (es ++ (k, v) ∷ []) args d ≡ entry_for es args d
tell_other [] k args v d q = ap (λ c. if c then v else d) q
tell_other (e ∷ es) k args v d q =
    ap (λ x. if vals_eq e.0 args then e.1 else x) (tell_other es k args v d q)

-- entries for the same arguments have one value
abbrev pub AreAgreed : List (List Val × Val) → Type 0
AreAgreed es =
    (i j : ℕ) (e g : List Val × Val) → slice_get es i ≡ Some e → slice_get es j ≡ Some g → e.0 ≡ g.0 → e.1 ≡ g.1

at_front : {A : Type 0} (es gs : List A) (i : ℕ) (e : A) → slice_get es i ≡ Some e → slice_get (es ++ gs) i ≡ Some e
at_front [] gs i e h = absurd (let bad : ⊥ = cc in bad)
at_front (u ∷ es) gs zero e h = h
at_front (u ∷ es) gs (suc i) e h = at_front es gs i e h

at_here : {A : Type 0} (es gs : List A) (g : A) → slice_get (es ++ g ∷ gs) (length es) ≡ Some g
at_here [] gs g = refl
at_here (u ∷ es) gs g = at_here es gs g

tell_all : (es : List (List Val × Val)) (args : List Val) (v : Val) → ((i : ℕ) (e : List Val × Val) → slice_get es i ≡ Some e → vals_eq e.0 args ≡ true → e.1 ≡ v) → AllTell es args v
tell_all [] args v h = tt
tell_all (e ∷ es) args v h = (h 0 e refl, tell_all es args v (λ i g q. h (suc i) g q))

-- those before one that they agree with
agreed_tell : (es gs : List (List Val × Val)) (k : List Val) (v : Val) → AreAgreed (es ++ (k, v) ∷ gs) → (args : List Val) → vals_eq k args ≡ true → AllTell es args v
agreed_tell es gs k v agree args m =
    tell_all es args v (λ i e q p. agree i (length es) e (k, v) (at_front es ((k, v) ∷ gs) i e q) (at_here es gs (k, v)) (vals_same e.0 args p ∙ sym (vals_same k args m)))

-- rows of a function one behind the other
pub rows_more : (f : ℕ) (ps qs : List RowOf) → rows_for f (ps ++ qs) ≡ rows_for f ps ++ rows_for f qs
rows_more f [] qs = refl
rows_more f (p ∷ ps) qs = on (p.function == f) (rows_more f ps qs)
  where
    on : (c : Bool) → rows_for f (ps ++ qs) ≡ rows_for f ps ++ rows_for f qs → (if c then (vals_in p.args, value_of p.value) ∷ rows_for f (ps ++ qs) else rows_for f (ps ++ qs)) ≡ (if c then (vals_in p.args, value_of p.value) ∷ rows_for f ps else rows_for f ps) ++ rows_for f qs
    on true later = ap (λ l. (vals_in p.args, value_of p.value) ∷ l) later
    on false later = later

pub rows_one : (f : ℕ) (r : RowOf) (qs : List RowOf) (b : Bool) → (r.function == f) ≡ b → rows_for f (r ∷ qs) ≡ (if b then (vals_in r.args, value_of r.value) ∷ rows_for f qs else rows_for f qs)
rows_one f r qs b h = ap (λ c. if c then (vals_in r.args, value_of r.value) ∷ rows_for f qs else rows_for f qs) h

-- a table that tells what rows so far say
abbrev Tells : TableOf → Val → List (List Val × Val) → Type 0
Tells t d es = (t.default ≡ d) × ((args : List Val) → told t.entries args d ≡ entry_for es args d)

put_tells : (t : TableOf) (d : Val) (es : List (List Val × Val)) (k : List Value) (x : Value) → ((args : List Val) → vals_eq (vals_in k) args ≡ true → AllTell es args (value_of x)) → Tells t d es → Tells (put_in t k x) d (es ++ (vals_in k, value_of x) ∷ [])
put_tells t d es k x all so = on (val_eq (value_of x) t.default) refl
  where
    by_args : (args : List Val) (c : Bool) → vals_eq (vals_in k) args ≡ c → (if c then value_of x else told t.entries args d) ≡ entry_for (es ++ (vals_in k, value_of x) ∷ []) args d
    by_args args true q = sym (tell_last es (vals_in k) args (value_of x) d q (all args q))
    by_args args false q = so.1 args ∙ sym (tell_other es (vals_in k) args (value_of x) d q)

    as_default : value_of x ≡ d → (args : List Val) (c : Bool) → vals_eq (vals_in k) args ≡ c → told t.entries args d ≡ (if c then value_of x else told t.entries args d)
    as_default e args true q = so.1 args ∙ (ap (entry_for es args) (sym e) ∙ tell_default es args (value_of x) (all args q))
    as_default e args false q = refl

    on : (b : Bool) → val_eq (value_of x) t.default ≡ b → Tells (if b then t else record t { entries = with_entry k x t.entries }) d (es ++ (vals_in k, value_of x) ∷ [])
    on true q =
        let e : value_of x ≡ d = val_same (value_of x) t.default q ∙ so.0 in
        (so.0, λ args. as_default e args (vals_eq (vals_in k) args) refl ∙ by_args args (vals_eq (vals_in k) args) refl)
    on false q = (so.0, λ args. entered k x t.entries args d ∙ by_args args (vals_eq (vals_in k) args) refl)

pub fill_tells : (f : ℕ) (d : Val) (ps rs : List RowOf) (t : TableOf) → AreAgreed (rows_for f (ps ++ rs)) → Tells t d (rows_for f ps) → Tells (fill f rs t) d (rows_for f (ps ++ rs))
fill_tells f d ps [] t agree so = subst (λ l. Tells t d (rows_for f l)) (sym (append-nil ps)) so
fill_tells f d ps (r ∷ rs) t agree so =
    subst (λ l. Tells (fill f rs (if r.function == f then put_in t r.args r.value else t)) d (rows_for f l)) (append_assoc ps (r ∷ []) rs) (fill_tells f d (ps ++ r ∷ []) rs (if r.function == f then put_in t r.args r.value else t) (subst (λ l. AreAgreed (rows_for f l)) (sym (append_assoc ps (r ∷ []) rs)) agree) (on (r.function == f) refl))
  where
    on : (b : Bool) → (r.function == f) ≡ b → Tells (if b then put_in t r.args r.value else t) d (rows_for f (ps ++ r ∷ []))
    on true h =
        let split : rows_for f (ps ++ r ∷ rs) ≡ rows_for f ps ++ (vals_in r.args, value_of r.value) ∷ rows_for f rs = rows_more f ps (r ∷ rs) ∙ ap (λ l. rows_for f ps ++ l) (rows_one f r rs true h) in
        subst (Tells (put_in t r.args r.value) d) (sym (rows_more f ps (r ∷ []) ∙ ap (λ l. rows_for f ps ++ l) (rows_one f r [] true h)))
        (put_tells t d (rows_for f ps) r.args r.value (agreed_tell (rows_for f ps) (rows_for f rs) (vals_in r.args) (value_of r.value) (subst AreAgreed split agree)) so)
    on false h =
        subst (Tells t d) (sym (rows_more f ps (r ∷ []) ∙ (ap (λ l. rows_for f ps ++ l) (rows_one f r [] false h) ∙ append-nil (rows_for f ps)))) so

-- ---- what stays so

-- what is said of a function fits it
abbrev pub EachFits : Fun → List (List Val × Val) → Type 0
EachFits g [] = Unit {0}
EachFits g (e ∷ es) = ((are_of g.params e.0 ≡ true) × (is_of g.result e.1 ≡ true)) × EachFits g es

abbrev pub Keeps : Fun → Val → TableOf → Type 0
Keeps g d t = (t.default ≡ d) × (InOrder t.entries × Fit (IsArgs g) (IsTold g d) t.entries)

put_keeps : (g : Fun) (d : Val) (t : TableOf) (k : List Value) (x : Value) → are_of g.params (vals_in k) ≡ true → is_of g.result (value_of x) ≡ true → Keeps g d t → Keeps g d (put_in t k x)
put_keeps g d t k x h v so = on (val_eq (value_of x) t.default) refl
  where
    on : (b : Bool) → val_eq (value_of x) t.default ≡ b → Keeps g d (if b then t else record t { entries = with_entry k x t.entries })
    on true q = so
    on false q =
        (so.0, (in_order k x t.entries so.1.0, fit_entry (IsArgs g) (IsTold g d) k x t.entries h (v, ap (val_eq (value_of x)) (sym so.0) ∙ q) so.1.1))

pub fill_keeps : (f : ℕ) (g : Fun) (d : Val) (rs : List RowOf) (t : TableOf) → EachFits g (rows_for f rs) → Keeps g d t → Keeps g d (fill f rs t)
fill_keeps f g d [] t h so = so
fill_keeps f g d (r ∷ rs) t h so = on (r.function == f) h (λ u. fill_keeps f g d rs u)
  where
    on : (b : Bool) → EachFits g (if b then (vals_in r.args, value_of r.value) ∷ rows_for f rs else rows_for f rs) → ((u : TableOf) → EachFits g (rows_for f rs) → Keeps g d u → Keeps g d (fill f rs u)) → Keeps g d (fill f rs (if b then put_in t r.args r.value else t))
    on true w later = later (put_in t r.args r.value) w.1 (put_keeps g d t r.args r.value w.0.0 w.0.1 so)
    on false w later = later t w so
