-- Expressions as they are written, in which constants, variables and applications are changed.
use Rattle.std.specs.Prelude.{ℕ, zero, suc, ◌+◌, pos, List, [], Option, Some, None, slice_get}
use Rattle.bg_base.specs.declared.pos.Pos.{Pos}
use Rattle.bg_ast.specs.Syntax.{Var, Global, Local}
use Rattle.bg_ast.specs.Resolved as r

-- what stands in the place of a constant, of a variable, and of an application to arguments that are changed
pub record Handlers : Type 0 where
  pub constant : Pos → ℕ → r.Ex
  pub read : Pos → Var → r.Ex
  pub apply : Pos → ℕ → r.Exs → r.Ex

abbrev mutual
  pub changed : Handlers → r.Ex → r.Ex
  changed h (r.Number p z) = r.Number p z
  changed h (r.Truth p b) = r.Truth p b
  changed h (r.Constant p k) = h.constant p k
  changed h (r.Read p x) = h.read p x
  changed h (r.Apply p f es) = h.apply p f (all_changed h es)
  changed h (r.Old p e) = r.Old p (changed h e)
  changed h (r.Parens p e) = r.Parens p (changed h e)
  changed h (r.Prefix signs e) = r.Prefix signs (changed h e)
  changed h (r.Postfix e bs) = r.Postfix (changed h e) (brackets_changed h bs)
  changed h (r.Chain e ls) = r.Chain (changed h e) (links_changed h ls)

  pub all_changed : Handlers → r.Exs → r.Exs
  all_changed h r.NoMore = r.NoMore
  all_changed h (r.More e es) = r.More (changed h e) (all_changed h es)

  pub brackets_changed : Handlers → r.Brackets → r.Brackets
  brackets_changed h r.NoBracket = r.NoBracket
  brackets_changed h (r.Select p es bs) = r.Select p (all_changed h es) (brackets_changed h bs)
  brackets_changed h (r.Update p es e bs) = r.Update p (all_changed h es) (changed h e) (brackets_changed h bs)

  pub links_changed : Handlers → r.Links → r.Links
  links_changed h r.NoLink = r.NoLink
  links_changed h (r.Link p sign e ls) = r.Link p sign (changed h e) (links_changed h ls)

-- nothing is changed
abbrev pub copying : Handlers
copying = record { constant = r.Constant; read = r.Read; apply = r.Apply }

-- the expression at a place of a list; 0 past its end
abbrev pub ex_at : Pos → r.Exs → ℕ → r.Ex
ex_at p r.NoMore j = r.Number p (pos 0)
ex_at p (r.More e es) zero = e
ex_at p (r.More e es) (suc j) = ex_at p es j

abbrev pub put_read : r.Exs → Pos → Var → r.Ex
put_read xs p (Global x) = r.Read p (Global x)
put_read xs p (Local j) = ex_at p xs j

-- these stand in the place of the variables of the frame
abbrev pub putting : r.Exs → Handlers
putting xs = record { constant = r.Constant; read = put_read xs; apply = r.Apply }

-- an application, where the function has this body, or none
abbrev pub applied : Option r.Ex → Pos → ℕ → r.Exs → r.Ex
applied None p f xs = r.Apply p f xs
applied (Some b) p f xs = changed (putting xs) b

-- the body of the function, if it has one
abbrev pub body_in : Option r.Fun → Option r.Ex
body_in None = None
body_in (Some f) = f.body

abbrev pub bodies_in : List r.Fun → ℕ → Option r.Ex
bodies_in fs f = body_in (slice_get fs f)

-- constants are globals behind so many others, and bodies of these functions stand in the place of their applications, as they are
abbrev pub opening : ℕ → List r.Fun → Handlers
opening g fs =
    record { constant = λ p k. r.Read p (Global (g + k)); read = r.Read; apply = λ p f xs. applied (bodies_in fs f) p f xs }

-- bodies are put in so often; then constants are globals
abbrev pub opened_within : ℕ → ℕ → List r.Fun → r.Ex → r.Ex
opened_within zero g fs e = changed (opening g []) e
opened_within (suc depth) g fs e = opened_within depth g fs (changed (opening g fs) e)
