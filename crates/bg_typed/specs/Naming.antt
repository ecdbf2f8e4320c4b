-- Names of expressions: their numbers are those of declarations.
use Rattle.std.specs.Prelude.{◌≡◌, ◌<◌, [], ◌∷◌, map, length, Some}
use Rattle.bg_ast.specs.Syntax.{Fun, Var, Global, Local}
use Rattle.bg_ast.specs.Resolved as r
use Rattle.bg_sense.specs.Typing.{Sig}
use Rattle.bg_typing.specs.Sides.{Shape, Scope}

-- a declared variable
abbrev pub IsVariable : Sig → Var → Type 0
IsVariable s (Global k) = k < length s.globals
IsVariable s (Local k) = k < length s.frame

abbrev mutual
  -- each number is that of a declaration
  pub IsNamed : Sig → r.Ex → Type 0
  IsNamed s (r.Constant p k) = k < length s.constants
  IsNamed s (r.Read p x) = IsVariable s x
  IsNamed s (r.Apply p f es) = (f < length s.functions) × AreNamed s es
  IsNamed s (r.Old p e) = IsNamed s e
  IsNamed s (r.Parens p e) = IsNamed s e
  IsNamed s (r.Prefix signs e) = IsNamed s e
  IsNamed s (r.Postfix e bs) = IsNamed s e × AreNamedBrackets s bs
  IsNamed s (r.Chain e ls) = IsNamed s e × AreNamedLinks s ls
  IsNamed s _ = Unit {0}

  pub AreNamed : Sig → r.Exs → Type 0
  AreNamed s r.NoMore = Unit {0}
  AreNamed s (r.More e es) = IsNamed s e × AreNamed s es

  pub AreNamedBrackets : Sig → r.Brackets → Type 0
  AreNamedBrackets s r.NoBracket = Unit {0}
  AreNamedBrackets s (r.Select p es bs) = AreNamed s es × AreNamedBrackets s bs
  AreNamedBrackets s (r.Update p es e bs) = AreNamed s es × IsNamed s e × AreNamedBrackets s bs

  pub AreNamedLinks : Sig → r.Links → Type 0
  AreNamedLinks s r.NoLink = Unit {0}
  AreNamedLinks s (r.Link p sign e ls) = IsNamed s e × AreNamedLinks s ls

-- the types of a function
abbrev pub function_kinds : Fun → Shape
function_kinds f = record { params = map Some f.params; results = Some f.result ∷ [] }

-- a scope that has the types of a signature
pub record Matches (g : Scope) (s : Sig) : Type 0 where
  pub constants : g.constants ≡ map Some s.constants
  pub globals : g.globals ≡ map Some s.globals
  pub frame : g.frame ≡ map Some s.frame
  pub functions : g.functions ≡ map function_kinds s.functions
