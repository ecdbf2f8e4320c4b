-- The loops over constants and over functions.
use Rattle.std.proofs.Common.{◌≡◌, ℕ, zero, suc, ◌+◌, ◌<◌, ◌≤◌, Bool, true, false, List, [], ◌∷◌, ◌++◌, length, map, drop, get_or, refl, sym, ap, ◌∙◌, arith, append_assoc}
use Rattle.std.specs.Prelude.{Option, Some, slice_get, unwrap_or, if◌then◌else◌}
use Rattle.std.proofs.lemmas.List.{append-nil, drop-drop, drop_more, drop_all}
use Rattle.bg_ast.specs.Values as v
use Rattle.bg_ast.specs.Values.{Ty, IntTy}
use Rattle.bg_ast.specs.Resolved as r
use Rattle.bg_ast.specs.Views.{declared_of, type_name_of, fun_of}
use Rattle.bg_ast.specs.declared.resolved.Declared.{Declared}
use Rattle.bg_ast.specs.declared.resolved.Function.{Function}
use Rattle.bg_ast.specs.declared.resolved.TypeName.{TypeName}
use Rattle.bg_scalar.specs.declared.table.Table.{Table}
use Rattle.bg_scalar.specs.declared.value.Value.{Value}
use Rattle.bg_scalar.specs.Values as scalar
use Rattle.bg_scalar.specs.Views.{vals_in, table_in, tables_in}
use Rattle.bg_replay.specs.Holds.{type_at}
use Rattle.bg_certtext.specs.Views.{ValueOf, GivenOf, FunctionOf}
use Rattle.bg_certify.specs.Given.{HeadOf, type_names, value_of, givens, head_of, heads, function_of, functions, declared_names}
use Rattle.bg_certify.proofs.Along.{first_behind}

abbrev pub names : List Declared → List (List ℕ)
names ds = declared_names (map declared_of ds)

-- one is there
any : {X : Type 0} (xs : List X) (k : ℕ) → k < length xs → X
any [] k h = absurd (omega (arith, h))
any (x ∷ xs) k h = x

pub there : {X : Type 0} (xs : List X) (k : ℕ) → k < length xs → (x : X) × (drop k xs ≡ x ∷ drop (k + 1) xs)
there xs k h = (get_or xs k (any xs k h), drop_more xs k (any xs k h) h)

-- the name of the type at a place
pub type_there : (ds : List TypeName) (t : ℕ) (d : TypeName) → t < length ds → d ≡ get_or ds t d → slice_get (type_names (map type_name_of ds)) t ≡ Some d.name.text.items
type_there [] t d h e = absurd (omega (arith, h))
type_there (x ∷ ds) zero d h e = ap (λ (y : TypeName). Some y.name.text.items) (sym e)
type_there (x ∷ ds) (suc t) d h e = type_there ds t d (omega (arith, h)) e

-- where these types are declared
module _ (T : List r.TypeName) where
  abbrev N : List (List ℕ)
  N = type_names T

  -- ---- constants

  -- what is given to these, which have these types
  abbrev pub rest : List Declared → List Ty → List Value → List GivenOf
  rest ds ts xs = givens N (names ds) ts (vals_in xs)

  nothing_given : (ns : List (List ℕ)) (ts : List Ty) → givens N ns ts [] ≡ []
  nothing_given [] ts = refl
  nothing_given (n ∷ ns) ts = refl

  abbrev one : List ℕ → Ty → Value → GivenOf
  one n t x = record { name = n; value = value_of N t (scalar.value_of x) }

  first_given : (ts : List Ty) (k : ℕ) (d : Declared) (ds : List Declared) (x : Value) (xs : List Value) →
      rest (d ∷ ds) (drop k ts) (x ∷ xs) ≡ one d.name.text.items (type_at ts k) x ∷ rest ds (drop (k + 1) ts) xs
  first_given ts k d ds x xs =
      ap (λ (o : Option Ty). one d.name.text.items (unwrap_or o IntTy) x ∷ rest ds (drop 1 (drop k ts)) xs) (first_behind ts k)
      ∙ ap (λ (l : List Ty). one d.name.text.items (type_at ts k) x ∷ rest ds l xs) (drop-drop 1 k ts)

  -- one more
  pub one_given : (ds : List Declared) (ts : List Ty) (xs : List Value) (k : ℕ) (d : Declared) (x : Value) (g : GivenOf) (old more whole : List GivenOf) → k < length ds → k < length xs →
      g.name ≡ (get_or ds k d).name.text.items → g.value ≡ value_of N (type_at ts k) (scalar.value_of (get_or xs k x)) → more ≡ old ++ (g ∷ []) → old ++ rest (drop k ds) (drop k ts) (drop k xs) ≡ whole →
      more ++ rest (drop (k + 1) ds) (drop (k + 1) ts) (drop (k + 1) xs) ≡ whole
  one_given ds ts xs k d x g old more whole hd hx en ev em w =
      let others = rest (drop (k + 1) ds) (drop (k + 1) ts) (drop (k + 1) xs) in
      ap (λ (l : List GivenOf). l ++ others) em
      ∙ (append_assoc old (g ∷ []) others
      ∙ (ap (λ (n : List ℕ). old ++ (record { name = n; value = g.value } ∷ others)) en
      ∙ (ap (λ (v : ValueOf). old ++ (record { name = (get_or ds k d).name.text.items; value = v } ∷ others)) ev
      ∙ (ap (λ (l : List GivenOf). old ++ l) (sym (first_given ts k (get_or ds k d) (drop (k + 1) ds) (get_or xs k x) (drop (k + 1) xs)))
      ∙ (ap (λ (l : List Declared). old ++ rest l (drop k ts) (get_or xs k x ∷ drop (k + 1) xs)) (sym (drop_more ds k d hd))
      ∙ (ap (λ (l : List Value). old ++ rest (drop k ds) (drop k ts) l) (sym (drop_more xs k x hx)) ∙ w))))))

  -- no value is left
  pub none_given : (ds : List Declared) (ts : List Ty) (xs : List Value) (k : ℕ) (old whole : List GivenOf) → length xs ≤ k → old ++ rest (drop k ds) (drop k ts) (drop k xs) ≡ whole →
      old ++ rest (drop (k + 1) ds) (drop (k + 1) ts) (drop (k + 1) xs) ≡ whole
  none_given ds ts xs k old whole h w =
      let later : length xs ≤ k + 1 = omega (arith, h) in
      ap (λ (l : List Value). old ++ rest (drop (k + 1) ds) (drop (k + 1) ts) l) (drop_all (k + 1) xs later)
      ∙ (ap (λ (l : List GivenOf). old ++ l) (nothing_given (names (drop (k + 1) ds)) (drop (k + 1) ts) ∙ sym (nothing_given (names (drop k ds)) (drop k ts)))
      ∙ (ap (λ (l : List Value). old ++ rest (drop k ds) (drop k ts) l) (sym (drop_all k xs h)) ∙ w))

  -- no constant is left
  pub all_given : (ds : List Declared) (ts : List Ty) (xs : List Value) (k : ℕ) (old whole : List GivenOf) → length ds ≤ k → old ++ rest (drop k ds) (drop k ts) (drop k xs) ≡ whole → old ≡ whole
  all_given ds ts xs k old whole h w =
      sym (append-nil old) ∙ (ap (λ (l : List Declared). old ++ rest l (drop k ts) (drop k xs)) (sym (drop_all k ds h)) ∙ w)

  -- ---- functions

  -- what is given to these
  abbrev pub tables_for : List Function → List Bool → List Table → List FunctionOf
  tables_for ds bs ts = functions N (heads T (map fun_of ds)) bs (tables_in ts)

  abbrev pub table_for : Function → Table → FunctionOf
  table_for d t = function_of N (head_of T (fun_of d)) (table_in t)

  no_bodies : (fs : List HeadOf) (ts : List v.Table) → functions N fs [] ts ≡ []
  no_bodies [] ts = refl
  no_bodies (f ∷ fs) ts = refl

  no_tables : (fs : List HeadOf) (bs : List Bool) → functions N fs bs [] ≡ []
  no_tables [] bs = refl
  no_tables (f ∷ fs) [] = refl
  no_tables (f ∷ fs) (b ∷ bs) = refl

  -- what is given to a function and those behind it
  abbrev behind : Bool → FunctionOf → List FunctionOf → List FunctionOf
  behind b g gs = if b then gs else g ∷ gs

  same_behind : (ds : List Function) (bs : List Bool) (ts : List Table) (k : ℕ) (d : Function) (b : Bool) (t : Table) → drop k ds ≡ d ∷ drop (k + 1) ds → drop k bs ≡ b ∷ drop (k + 1) bs → drop k ts ≡ t ∷ drop (k + 1) ts →
      tables_for (drop k ds) (drop k bs) (drop k ts) ≡ behind b (table_for d t) (tables_for (drop (k + 1) ds) (drop (k + 1) bs) (drop (k + 1) ts))
  same_behind ds bs ts k d b t hd hb ht =
      ap (λ (l : List Function). tables_for l (drop k bs) (drop k ts)) hd
      ∙ (ap (λ (l : List Bool). tables_for (d ∷ drop (k + 1) ds) l (drop k ts)) hb
      ∙ ap (λ (l : List Table). tables_for (d ∷ drop (k + 1) ds) (b ∷ drop (k + 1) bs) l) ht)

  -- one more, which has no body
  pub one_function : (ds : List Function) (bs : List Bool) (ts : List Table) (k : ℕ) (d : Function) (b : Bool) (t : Table) (g : FunctionOf) (old more whole : List FunctionOf) →
      drop k ds ≡ d ∷ drop (k + 1) ds → drop k bs ≡ b ∷ drop (k + 1) bs → drop k ts ≡ t ∷ drop (k + 1) ts → b ≡ false →
      g ≡ table_for d t → more ≡ old ++ (g ∷ []) → old ++ tables_for (drop k ds) (drop k bs) (drop k ts) ≡ whole →
      more ++ tables_for (drop (k + 1) ds) (drop (k + 1) bs) (drop (k + 1) ts) ≡ whole
  one_function ds bs ts k d b t g old more whole hd hb ht none eg em w =
      let others = tables_for (drop (k + 1) ds) (drop (k + 1) bs) (drop (k + 1) ts) in
      ap (λ (l : List FunctionOf). l ++ others) em
      ∙ (append_assoc old (g ∷ []) others
      ∙ (ap (λ (x : FunctionOf). old ++ (x ∷ others)) eg
      ∙ (ap (λ (c : Bool). old ++ behind c (table_for d t) others) (sym none)
      ∙ (ap (λ (l : List FunctionOf). old ++ l) (sym (same_behind ds bs ts k d b t hd hb ht)) ∙ w))))

  -- one that has a body
  pub passed_function : (ds : List Function) (bs : List Bool) (ts : List Table) (k : ℕ) (d : Function) (b : Bool) (t : Table) (old whole : List FunctionOf) →
      drop k ds ≡ d ∷ drop (k + 1) ds → drop k bs ≡ b ∷ drop (k + 1) bs → drop k ts ≡ t ∷ drop (k + 1) ts → b ≡ true →
      old ++ tables_for (drop k ds) (drop k bs) (drop k ts) ≡ whole →
      old ++ tables_for (drop (k + 1) ds) (drop (k + 1) bs) (drop (k + 1) ts) ≡ whole
  passed_function ds bs ts k d b t old whole hd hb ht has w =
      let others = tables_for (drop (k + 1) ds) (drop (k + 1) bs) (drop (k + 1) ts) in
      ap (λ (c : Bool). old ++ behind c (table_for d t) others) (sym has)
      ∙ (ap (λ (l : List FunctionOf). old ++ l) (sym (same_behind ds bs ts k d b t hd hb ht)) ∙ w)

  -- no mark is left, no table is left, no function is left
  pub unmarked : (ds : List Function) (bs : List Bool) (ts : List Table) (k : ℕ) (old whole : List FunctionOf) → length bs ≤ k →
      old ++ tables_for (drop k ds) (drop k bs) (drop k ts) ≡ whole → old ≡ whole
  unmarked ds bs ts k old whole h w =
      sym (append-nil old)
      ∙ (ap (λ (l : List FunctionOf). old ++ l) (sym (no_bodies (heads T (map fun_of (drop k ds))) (tables_in (drop k ts))))
      ∙ (ap (λ (l : List Bool). old ++ tables_for (drop k ds) l (drop k ts)) (sym (drop_all k bs h)) ∙ w))

  pub untabled : (ds : List Function) (bs : List Bool) (ts : List Table) (k : ℕ) (old whole : List FunctionOf) → length ts ≤ k →
      old ++ tables_for (drop k ds) (drop k bs) (drop k ts) ≡ whole → old ≡ whole
  untabled ds bs ts k old whole h w =
      sym (append-nil old)
      ∙ (ap (λ (l : List FunctionOf). old ++ l) (sym (no_tables (heads T (map fun_of (drop k ds))) (drop k bs)))
      ∙ (ap (λ (l : List Table). old ++ tables_for (drop k ds) (drop k bs) l) (sym (drop_all k ts h)) ∙ w))

  pub all_functions : (ds : List Function) (bs : List Bool) (ts : List Table) (k : ℕ) (old whole : List FunctionOf) → length ds ≤ k →
      old ++ tables_for (drop k ds) (drop k bs) (drop k ts) ≡ whole → old ≡ whole
  all_functions ds bs ts k old whole h w =
      sym (append-nil old) ∙ (ap (λ (l : List Function). old ++ tables_for l (drop k bs) (drop k ts)) (sym (drop_all k ds h)) ∙ w)
