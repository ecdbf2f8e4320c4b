-- Guesses as clauses of a tree: what they say, with names for numbers.
use Rattle.std.specs.Prelude.{ℕ, false, true, List, [], ◌∷◌, ◌++◌, map, flat_map, Option, Some, None, slice_get, if◌then◌else◌}
use Rattle.bg_base.specs.declared.pos.Pos.{Pos}
use Rattle.bg_text.specs.Trees as t
use Rattle.bg_ast.specs.Syntax as s
use Rattle.bg_ast.specs.Resolved as r
use Rattle.bg_ast.specs.Views.{declared_of}
use Rattle.bg_words.specs.Sets.{Numbers, has}
use Rattle.bg_keep.specs.declared.guesses.Names as code

-- the variables that a clause may speak of: globals, and parameters, results and locals, which make one frame
pub record Names : Type 0 where
  pub globals : List r.Declared
  pub params : List r.Declared
  pub results : List r.Declared
  pub locals : List r.Declared

-- the same of the code's
abbrev pub names_of : code.Names → Names
names_of f =
    record {
      globals = map declared_of f.globals.now;
      params = map declared_of f.params.now;
      results = map declared_of f.results.now;
      locals = map declared_of f.locals.now;
    }

-- a variable that is declared
abbrev pub read_as : Pos → Option r.Declared → t.Ex
read_as p (Some d) = t.Named p d.name.text
read_as p None = t.Truth p true

-- a variable by its name
abbrev pub read : Names → Pos → s.Var → t.Ex
read f p (s.Global k) = read_as p (slice_get f.globals k)
read f p (s.Local k) = read_as p (slice_get (f.params ++ (f.results ++ f.locals)) k)

-- what stands for an expression that no guess has
abbrev pub other : t.Ex
other = t.Truth (record { line = 0; column = 0 }) true

-- a number or a variable
abbrev pub atom : Names → r.Ex → t.Ex
atom f (r.Number p z) = t.Number p z
atom f (r.Read p x) = read f p x
atom f _ = other

-- the same, or what it was at entry
abbrev pub operand : Names → r.Ex → t.Ex
operand f (r.Old p e) = t.Old p (atom f e)
operand f e = atom f e

-- the operand behind the sign
abbrev pub behind : Names → r.Links → t.Links
behind f (r.Link p sign e r.NoLink) = t.Link p sign (operand f e) t.NoLink
behind f _ = t.NoLink

-- a relation of two operands, as all guesses are
abbrev pub relation : Names → r.Ex → t.Ex
relation f (r.Chain e ls) = t.Chain (atom f e) (behind f ls)
relation f _ = other

abbrev pub guess : Names → r.Clause → t.Clause
guess f c = record { pos = c.pos; is_free = false; attrs = []; says = relation f c.says }

-- a guess of this candidate, where it is retained
abbrev pub guess_of : Numbers → Names → r.Clause → Option ℕ → List t.Clause
guess_of set f c None = []
guess_of set f c (Some k) = if has set k then guess f c ∷ [] else []

-- what is kept of a guess
abbrev pub kept_guess : Numbers → Names → r.Clause → List t.Clause
kept_guess set f c = guess_of set f c c.candidate

-- what is kept of guesses
abbrev pub kept_guesses : Numbers → Names → List r.Clause → List t.Clause
kept_guesses set f cs = flat_map (kept_guess set f) cs
