-- Expressions as they are written, over incarnations.
use Rattle.std.specs.Prelude.{ℕ, Option, Some, None, pos, slice_get}
use Rattle.bg_base.specs.declared.pos.Pos.{Pos}
use Rattle.bg_ast.specs.Syntax.{Var, Global, Local}
use Rattle.bg_ast.specs.Resolved as r
use Rattle.bg_passive.specs.Incarnations.{Env}

-- the incarnation, or else 0
abbrev pub read_at : Pos → Option ℕ → r.Ex
read_at p None = r.Number p (pos 0)
read_at p (Some j) = r.Read p (Local j)

abbrev pub read_var : Pos → Env → Var → r.Ex
read_var p v (Global x) = read_at p (slice_get v.globals x)
read_var p v (Local x) = read_at p (slice_get v.frame x)

abbrev mutual
  -- the expression over incarnations, as it is written: no global and no `old` is left
  pub rename_r : r.Ex → Env → r.Ex
  rename_r (r.Number p z) v = r.Number p z
  rename_r (r.Truth p b) v = r.Truth p b
  rename_r (r.Constant p k) v = r.Constant p k
  rename_r (r.Read p x) v = read_var p v x
  rename_r (r.Apply p f es) v = r.Apply p f (renames_r es v)
  rename_r (r.Old p e) v = rename_r e (record v { globals = v.before })
  rename_r (r.Parens p e) v = r.Parens p (rename_r e v)
  rename_r (r.Prefix signs e) v = r.Prefix signs (rename_r e v)
  rename_r (r.Postfix e bs) v = r.Postfix (rename_r e v) (rename_brackets bs v)
  rename_r (r.Chain e ls) v = r.Chain (rename_r e v) (rename_links ls v)

  pub renames_r : r.Exs → Env → r.Exs
  renames_r r.NoMore v = r.NoMore
  renames_r (r.More e es) v = r.More (rename_r e v) (renames_r es v)

  pub rename_brackets : r.Brackets → Env → r.Brackets
  rename_brackets r.NoBracket v = r.NoBracket
  rename_brackets (r.Select p es bs) v = r.Select p (renames_r es v) (rename_brackets bs v)
  rename_brackets (r.Update p es e bs) v = r.Update p (renames_r es v) (rename_r e v) (rename_brackets bs v)

  pub rename_links : r.Links → Env → r.Links
  rename_links r.NoLink v = r.NoLink
  rename_links (r.Link p sign e ls) v = r.Link p sign (rename_r e v) (rename_links ls v)
