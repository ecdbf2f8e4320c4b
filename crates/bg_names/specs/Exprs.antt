-- Expressions and types: what their names mean, and the faults of their names.
use Rattle.std.specs.Prelude.{ℕ, false, List, [], ◌∷◌, ◌++◌}
use Rattle.bg_base.specs.declared.pos.Pos.{Pos}
use Rattle.bg_text.specs.Trees as t
use Rattle.bg_ast.specs.Syntax as s
use Rattle.bg_ast.specs.Resolved as r
use Rattle.bg_names.specs.declared.error.FaultKind.TheVariants as kinds
use Rattle.bg_names.specs.declared.scope.Meaning.{Meaning}
use Rattle.bg_names.specs.declared.scope.Meaning.TheVariants as means
use Rattle.bg_names.specs.Faults.{Fault, fault, unless}
use Rattle.bg_names.specs.Spaces.{Scope, meaning, place, or_zero, use_faults}

-- a name that is read: a candidate may not be, and a name without a meaning is unknown
abbrev pub read_faults : Pos → List ℕ → Meaning → List Fault
read_faults p x means.Nothing = fault kinds.UnknownName p x ∷ []
read_faults p x (means.Candidate k) = fault kinds.BadCandidateUse p x ∷ []
read_faults p x _ = []

abbrev pub read_as : Pos → Meaning → r.Ex
read_as p (means.Constant k) = r.Constant p k
read_as p (means.Global k) = r.Read p (s.Global k)
read_as p (means.Local k) = r.Read p (s.Local k)
read_as p _ = r.Truth p false

abbrev mutual
  -- the faults of an expression's names
  pub ex_faults : Scope → t.Ex → List Fault
  ex_faults s (t.Named p x) = read_faults p x (meaning s x)
  ex_faults s (t.Apply p f es) = use_faults s.functions (record { pos = p; text = f }) ++ exs_faults s es
  ex_faults s (t.Old p e) = unless s.has_old (fault kinds.BadOld p []) ++ ex_faults s e
  ex_faults s (t.Parens p e) = ex_faults s e
  ex_faults s (t.Prefix signs e) = ex_faults s e
  ex_faults s (t.Postfix e bs) = ex_faults s e ++ brackets_faults s bs
  ex_faults s (t.Chain e ls) = ex_faults s e ++ links_faults s ls
  ex_faults s _ = []

  pub exs_faults : Scope → t.Exs → List Fault
  exs_faults s t.NoMore = []
  exs_faults s (t.More e es) = ex_faults s e ++ exs_faults s es

  pub brackets_faults : Scope → t.Brackets → List Fault
  brackets_faults s t.NoBracket = []
  brackets_faults s (t.Select p es bs) = exs_faults s es ++ brackets_faults s bs
  brackets_faults s (t.Update p es e bs) = (exs_faults s es ++ ex_faults s e) ++ brackets_faults s bs

  pub links_faults : Scope → t.Links → List Fault
  links_faults s t.NoLink = []
  links_faults s (t.Link p sign e ls) = ex_faults s e ++ links_faults s ls

abbrev mutual
  -- the expression with numbers for names
  pub named_ex : Scope → t.Ex → r.Ex
  named_ex s (t.Number p z) = r.Number p z
  named_ex s (t.Truth p b) = r.Truth p b
  named_ex s (t.Named p x) = read_as p (meaning s x)
  named_ex s (t.Apply p f es) = r.Apply p (or_zero (place s.functions f)) (named_exs s es)
  named_ex s (t.Old p e) = r.Old p (named_ex s e)
  named_ex s (t.Parens p e) = r.Parens p (named_ex s e)
  named_ex s (t.Prefix signs e) = r.Prefix signs (named_ex s e)
  named_ex s (t.Postfix e bs) = r.Postfix (named_ex s e) (named_brackets s bs)
  named_ex s (t.Chain e ls) = r.Chain (named_ex s e) (named_links s ls)

  pub named_exs : Scope → t.Exs → r.Exs
  named_exs s t.NoMore = r.NoMore
  named_exs s (t.More e es) = r.More (named_ex s e) (named_exs s es)

  pub named_brackets : Scope → t.Brackets → r.Brackets
  named_brackets s t.NoBracket = r.NoBracket
  named_brackets s (t.Select p es bs) = r.Select p (named_exs s es) (named_brackets s bs)
  named_brackets s (t.Update p es e bs) = r.Update p (named_exs s es) (named_ex s e) (named_brackets s bs)

  pub named_links : Scope → t.Links → r.Links
  named_links s t.NoLink = r.NoLink
  named_links s (t.Link p sign e ls) = r.Link p sign (named_ex s e) (named_links s ls)

abbrev mutual
  -- the faults of a type's names, where these types are declared
  pub ty_faults : List (List ℕ) → t.Ty → List Fault
  ty_faults types (t.NamedType p x) = use_faults types (record { pos = p; text = x })
  ty_faults types (t.InParens p e) = ty_faults types e
  ty_faults types (t.MapType is e) = indices_faults types is ++ ty_faults types e
  ty_faults types _ = []

  pub tys_faults : List (List ℕ) → t.Tys → List Fault
  tys_faults types t.NoType = []
  tys_faults types (t.OneType e es) = ty_faults types e ++ tys_faults types es

  pub indices_faults : List (List ℕ) → t.Indices → List Fault
  indices_faults types t.NoIndex = []
  indices_faults types (t.Index p es is) = tys_faults types es ++ indices_faults types is

abbrev mutual
  -- the type with numbers for names
  pub named_ty : List (List ℕ) → t.Ty → r.Ty
  named_ty types (t.IntType p) = r.IntType p
  named_ty types (t.BoolType p) = r.BoolType p
  named_ty types (t.NamedType p x) = r.DeclaredType p (or_zero (place types x))
  named_ty types (t.InParens p e) = r.InParens p (named_ty types e)
  named_ty types (t.MapType is e) = r.MapType (named_indices types is) (named_ty types e)

  pub named_tys : List (List ℕ) → t.Tys → r.Tys
  named_tys types t.NoType = r.NoType
  named_tys types (t.OneType e es) = r.OneType (named_ty types e) (named_tys types es)

  pub named_indices : List (List ℕ) → t.Indices → r.Indices
  named_indices types t.NoIndex = r.NoIndex
  named_indices types (t.Index p es is) = r.Index p (named_tys types es) (named_indices types is)
