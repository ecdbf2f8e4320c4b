-- Which functions' bodies call which functions, and the fault of recursion.
use Rattle.std.specs.Prelude.{◌≡◌, ℕ, Bool, true, false, List, [], ◌∷◌, ◌++◌, map, flat_map, Option, Some, None, slice_get}
use denote.Bor.{Bor}
use Rattle.bg_text.specs.declared.expr.TreeExpr.{TreeExpr}
use Rattle.bg_text.specs.declared.expr.TreeLink.{TreeLink}
use Rattle.bg_text.specs.declared.expr.TreeBracket.{TreeBracket}
use Rattle.bg_text.specs.declared.tree.Function.{Function}
use Rattle.bg_text.specs.Trees as t
use Rattle.bg_text.specs.Views.{ex_of, bracket_view, fun_of}
use Rattle.bg_graph.specs.Graphs.{Graph, IsAcyclic, IsFirstOnCycle}
use Rattle.bg_names.specs.declared.error.FaultKind.TheVariants as kinds
use Rattle.bg_names.specs.Faults.{Fault, fault, better}
use Rattle.bg_names.specs.Spaces.{has_name, with_name, place}

abbrev pub called : Option ℕ → List ℕ
called None = []
called (Some k) = k ∷ []

abbrev mutual
  -- the numbers of the functions that an expression calls
  pub ex_calls : List (List ℕ) → t.Ex → List ℕ
  ex_calls fs (t.Apply p f es) = called (place fs f) ++ exs_calls fs es
  ex_calls fs (t.Old p e) = ex_calls fs e
  ex_calls fs (t.Parens p e) = ex_calls fs e
  ex_calls fs (t.Prefix signs e) = ex_calls fs e
  ex_calls fs (t.Postfix e bs) = ex_calls fs e ++ brackets_calls fs bs
  ex_calls fs (t.Chain e ls) = ex_calls fs e ++ links_calls fs ls
  ex_calls fs _ = []

  pub exs_calls : List (List ℕ) → t.Exs → List ℕ
  exs_calls fs t.NoMore = []
  exs_calls fs (t.More e es) = ex_calls fs e ++ exs_calls fs es

  pub brackets_calls : List (List ℕ) → t.Brackets → List ℕ
  brackets_calls fs t.NoBracket = []
  brackets_calls fs (t.Select p es bs) = exs_calls fs es ++ brackets_calls fs bs
  brackets_calls fs (t.Update p es e bs) = (exs_calls fs es ++ ex_calls fs e) ++ brackets_calls fs bs

  pub links_calls : List (List ℕ) → t.Links → List ℕ
  links_calls fs t.NoLink = []
  links_calls fs (t.Link p sign e ls) = ex_calls fs e ++ links_calls fs ls

-- the functions of a declaration
abbrev pub funs_of : t.Decl → List t.Fun
funs_of (t.Function f) = f ∷ []
funs_of _ = []

abbrev pub if_first : Bool → t.Fun → List t.Fun
if_first true f = []
if_first false f = f ∷ []

-- those that are declared for the first time
abbrev pub once : List (List ℕ) → List t.Fun → List t.Fun
once names [] = []
once names (f ∷ fs) = if_first (has_name names f.name.text) f ++ once (with_name names f.name.text) fs

abbrev pub body_calls : List (List ℕ) → Option t.Ex → List ℕ
body_calls fs None = []
body_calls fs (Some e) = ex_calls fs e

abbrev pub calls_of : List (List ℕ) → t.Fun → List ℕ
calls_of fs f = body_calls fs f.body

-- the functions that have numbers, in this order
abbrev pub functions_in : List t.Decl → List t.Fun
functions_in ds = once [] (flat_map funs_of ds)

-- for each function the functions that its body calls, where names have these numbers
abbrev pub calls_in : List (List ℕ) → List t.Decl → Graph
calls_in names ds = map (calls_of names) (functions_in ds)

-- the fault of the first function by declaration whose body reaches the function through bodies, where there is one
pub data IsRecursion (names : List (List ℕ)) (ds : List t.Decl) : List Fault → Type 0 where
  never : IsAcyclic (calls_in names ds) → IsRecursion names ds []
  first : (k : ℕ) (f : t.Fun) → IsFirstOnCycle (calls_in names ds) k → slice_get (functions_in ds) k ≡ Some f → IsRecursion names ds (fault kinds.RecursiveFunction f.name.pos f.name.text ∷ [])

-- the first fault with that of recursion
abbrev pub WithRecursion : List (List ℕ) → List t.Decl → Option Fault → Option Fault → Type 0
WithRecursion names ds best new = (rs : List Fault) × IsRecursion names ds rs × (new ≡ better best rs)

abbrev pub fun_id : t.Fun → t.Id
fun_id f = f.name

abbrev pub fun_in : Bor Function → t.Fun
fun_in f = fun_of f.now

-- an expression of the code's, and its brackets and links
abbrev pub tree_calls : List (List ℕ) → TreeExpr → List ℕ
tree_calls fs e = ex_calls fs (ex_of e)

abbrev pub link_calls : List (List ℕ) → TreeLink → List ℕ
link_calls fs l = tree_calls fs l.operand

abbrev pub value_calls : List (List ℕ) → Option t.Ex → List ℕ
value_calls fs None = []
value_calls fs (Some e) = ex_calls fs e

abbrev pub bracket_calls : List (List ℕ) → TreeBracket → List ℕ
bracket_calls fs b = let v = bracket_view b in exs_calls fs v.1 ++ value_calls fs v.2
