-- The tables of a certificate's functions, taken one after the other along a program's functions.
use Rattle.std.proofs.Common.{◌≡◌, ℕ, zero, suc, ◌+◌, ◌<◌, ◌≤◌, Bool, true, false, List, [], ◌∷◌, ◌++◌, length, map, drop, get_or, Option, Some, None, refl, sym, ap, ◌∙◌, append_assoc, arith}
use Rattle.std.specs.Prelude.{not, nat_eq, if◌then◌else◌, is_some}
use Rattle.std.specs.List.{list_all}
use Rattle.bg_sense.proofs.Bools.{and_left, and_right}
use Rattle.std.proofs.lemmas.Bool.Decides.{nat_tests}
use Rattle.std.proofs.lemmas.List.{map-append, drop_all, drop_more}
use Rattle.bg_ast.specs.Resolved as r
use Rattle.bg_ast.specs.Meaning as m
use Rattle.bg_ast.specs.Meaning.{named_of}
use Rattle.bg_ast.specs.Values as v
use Rattle.bg_ast.specs.Syntax.{Fun}
use Rattle.bg_ast.specs.Views.{fun_of}
use Rattle.bg_ast.specs.declared.resolved.Expr.{Expr}
use Rattle.bg_ast.specs.declared.resolved.Function as ast
use Rattle.bg_scalar.specs.Views.{table_in, tables_in}
use Rattle.bg_scalar.specs.declared.table.Table.{Table}
use Rattle.bg_certtext.specs.declared.text.Function as text
use Rattle.bg_certtext.specs.Views.{function_of}
use Rattle.bg_confirm.specs.Met.{blank, first_table, table_of, tables_by}
use Rattle.bg_certtext.specs.Spellable.{is_function}
use Rattle.bg_confirm.specs.Typed.{functions_fit}
use Rattle.bg_confirm.proofs.Fitting.{body_alike}

drop_item : {A : Type 0} (xs : List A) (i : ℕ) (x : A) → i < length xs → x ≡ get_or xs i x → drop i xs ≡ x ∷ drop (i + 1) xs
drop_item xs i x l e = drop_more xs i x l ∙ ap (λ y. y ∷ drop (i + 1) xs) (sym e)

some_alike : (f : ast.Function) → is_some (fun_of f).body ≡ is_some f.body
some_alike f = by f.body
  where
    by : (o : Option Expr) → is_some (fun_of (record f { body = o })).body ≡ is_some o
    by None = refl
    by (Some e) = refl

-- whether there is no body, as the code asks
pub bodied_so : (o b : Bool) → o ≡ not b → b ≡ false → o ≡ true
bodied_so o b e h = e ∙ ap not h

pub bodiless_so : (o b : Bool) → o ≡ not b → b ≡ true → o ≡ false
bodiless_so o b e h = e ∙ ap not h

-- one of tables that have a text
pub spelt_at : (gs : List text.Function) (n : ℕ) (g : text.Function) → n < length gs → g ≡ get_or gs n g → list_all is_function (map function_of gs) ≡ true → is_function (function_of g) ≡ true
spelt_at [] n g l e h = absurd (omega (arith, l))
spelt_at (x ∷ gs) zero g l e h = ap (λ (y : text.Function). is_function (function_of y)) e ∙ and_left (is_function (function_of x)) (list_all is_function (map function_of gs)) h
spelt_at (x ∷ gs) (suc n) g l e h = spelt_at gs n g (omega (arith, l)) e (and_right (is_function (function_of x)) (list_all is_function (map function_of gs)) h)

module _ (types : List r.TypeName) where
  abbrev pub one : ast.Function → Fun
  one f = m.fun_of (named_of types) (fun_of f)

  abbrev pub fits_from : List ast.Function → List text.Function → Bool
  fits_from fs gs = functions_fit types (map fun_of fs) (map function_of gs)

  abbrev pub made_from : List ast.Function → List text.Function → List v.Table
  made_from fs gs = tables_by (map (m.fun_of (named_of types)) (map fun_of fs)) (map function_of gs)

  -- ---- where no function is left

  none_left : (n : ℕ) → nat_eq 0 (suc n) ≡ false
  none_left n = grind (arith, nat_tests)

  one_less : (m n : ℕ) → nat_eq (suc m) (suc n) ≡ nat_eq m n
  one_less m n = grind (arith, nat_tests)

  pub fits_ended : (gs : List text.Function) (n : ℕ) → n ≤ length gs → nat_eq n (length gs) ≡ fits_from [] (drop n gs)
  fits_ended [] zero l = refl
  fits_ended [] (suc n) l = absurd (omega (arith, l))
  fits_ended (g ∷ gs) zero l = none_left (length gs)
  fits_ended (g ∷ gs) (suc n) l = one_less n (length gs) ∙ fits_ended gs n (omega (arith, l))

  -- ---- the tables

  made_at : (fs : List ast.Function) (i : ℕ) (f : ast.Function) (hs : List text.Function) (b : Bool) → i < length fs → f ≡ get_or fs i f → is_some f.body ≡ b →
      made_from (drop i fs) hs ≡ (if b then blank (one f) ∷ made_from (drop (i + 1) fs) hs else first_table (one f) (map function_of hs) ∷ tables_by (map (m.fun_of (named_of types)) (map fun_of (drop (i + 1) fs))) (drop 1 (map function_of hs)))
  made_at fs i f hs b l at e =
      ap (λ (k : List ast.Function). made_from k hs) (drop_item fs i f l at)
      ∙ ap (λ (c : Bool). if c then blank (one f) ∷ made_from (drop (i + 1) fs) hs else first_table (one f) (map function_of hs) ∷ tables_by (map (m.fun_of (named_of types)) (map fun_of (drop (i + 1) fs))) (drop 1 (map function_of hs))) (body_alike (fun_of f).body ∙ (some_alike f ∙ e))

  one_more : (made new : List Table) (t : Table) (u : v.Table) (rest : List v.Table) → new ≡ made ++ t ∷ [] → table_in t ≡ u → tables_in new ++ rest ≡ tables_in made ++ u ∷ rest
  one_more made new t u rest e is =
      ap (λ (ts : List Table). tables_in ts ++ rest) e
      ∙ (ap (λ (us : List v.Table). us ++ rest) (map-append table_in made (t ∷ []))
      ∙ (append_assoc (tables_in made) (table_in t ∷ []) rest
      ∙ ap (λ (w : v.Table). tables_in made ++ w ∷ rest) is))

  -- a function with a body
  pub bodied : (fs : List ast.Function) (i : ℕ) (f : ast.Function) (hs : List text.Function) (made new : List Table) (t : Table) (whole : List v.Table) → i < length fs → f ≡ get_or fs i f → is_some f.body ≡ true →
      new ≡ made ++ t ∷ [] → table_in t ≡ blank (one f) → tables_in made ++ made_from (drop i fs) hs ≡ whole → tables_in new ++ made_from (drop (i + 1) fs) hs ≡ whole
  bodied fs i f hs made new t whole l at e more is h =
      one_more made new t (blank (one f)) (made_from (drop (i + 1) fs) hs) more is
      ∙ (ap (λ (r : List v.Table). tables_in made ++ r) (sym (made_at fs i f hs true l at e)) ∙ h)

  -- one without, where no table is left
  pub unmatched : (fs : List ast.Function) (i : ℕ) (f : ast.Function) (gs : List text.Function) (n : ℕ) (made new : List Table) (t : Table) (whole : List v.Table) → i < length fs → f ≡ get_or fs i f → is_some f.body ≡ false → length gs ≤ n →
      new ≡ made ++ t ∷ [] → table_in t ≡ blank (one f) → tables_in made ++ made_from (drop i fs) (drop n gs) ≡ whole → tables_in new ++ made_from (drop (i + 1) fs) (drop n gs) ≡ whole
  unmatched fs i f gs n made new t whole l at e k more is h =
      one_more made new t (blank (one f)) (made_from (drop (i + 1) fs) (drop n gs)) more is
      ∙ (ap (λ (hs : List text.Function). tables_in made ++ blank (one f) ∷ made_from (drop (i + 1) fs) hs) (drop_all n gs k)
      ∙ (ap (λ (r : List v.Table). tables_in made ++ r) (sym (made_at fs i f [] false l at e))
      ∙ (ap (λ (hs : List text.Function). tables_in made ++ made_from (drop i fs) hs) (sym (drop_all n gs k)) ∙ h)))

  -- one without, with the next table
  pub matched : (fs : List ast.Function) (i : ℕ) (f : ast.Function) (gs : List text.Function) (n : ℕ) (d : text.Function) (made new : List Table) (t : Table) (whole : List v.Table) → i < length fs → f ≡ get_or fs i f → is_some f.body ≡ false → n < length gs →
      new ≡ made ++ t ∷ [] → table_in t ≡ table_of (one f) (function_of (get_or gs n d)) → tables_in made ++ made_from (drop i fs) (drop n gs) ≡ whole → tables_in new ++ made_from (drop (i + 1) fs) (drop (n + 1) gs) ≡ whole
  matched fs i f gs n d made new t whole l at e k more is h =
      let g = get_or gs n d in
      let front = drop_more gs n d k in
      one_more made new t (table_of (one f) (function_of g)) (made_from (drop (i + 1) fs) (drop (n + 1) gs)) more is
      ∙ (ap (λ (r : List v.Table). tables_in made ++ r) (sym (made_at fs i f (g ∷ drop (n + 1) gs) false l at e))
      ∙ (ap (λ (hs : List text.Function). tables_in made ++ made_from (drop i fs) hs) (sym front) ∙ h))
