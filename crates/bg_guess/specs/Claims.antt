-- What guesses say.
use Rattle.std.specs.Prelude.{ℕ, List, [], ◌∷◌, ◌++◌, map, pos}
use Rattle.bg_base.specs.declared.pos.Pos.{Pos}
use Rattle.bg_text.specs.declared.expr.InfixSign.{InfixSign}
use Rattle.bg_text.specs.declared.expr.InfixSign.TheVariants as sign
use Rattle.bg_ast.specs.declared.resolved.Variable.{Variable}
use Rattle.bg_ast.specs.declared.resolved.Variable.TheVariants as variable
use Rattle.bg_ast.specs.Resolved as r
use Rattle.bg_ast.specs.Views.{var_of}
use Rattle.bg_guess.specs.declared.claim.Claim.{Claim}
use Rattle.bg_guess.specs.declared.claim.Subjects as code
use Rattle.bg_guess.specs.declared.claim.Claim.TheVariants.{NotNegative, AtMost, Unchanged}

-- what a list of guesses speaks of: variables of type int, and globals that are compared with their values at entry
pub record Subjects : Type 0 where
  pub numbers : List Variable
  pub kept : List ℕ

-- the same of the code's list
abbrev pub subjects_of : code.Subjects → Subjects
subjects_of s = record { numbers = s.numbers.items; kept = s.kept.items }

-- a list without guesses
abbrev pub nothing : Subjects
nothing = record { numbers = []; kept = [] }

-- one variable against each of others
abbrev pub bounds : Variable → List Variable → List Claim
bounds v ws = map (AtMost v) ws

-- each variable against all others: those in front of it, and those behind it
abbrev pub pairs : (front back : List Variable) → List Claim
pairs front [] = []
pairs front (v ∷ back) = (bounds v front ++ bounds v back) ++ pairs (front ++ v ∷ []) back

-- the guesses of a list, in order
abbrev pub claims : Subjects → List Claim
claims s = map NotNegative s.numbers ++ (pairs [] s.numbers ++ map Unchanged s.kept)

-- a variable in relation to an expression
abbrev pub relation : Pos → Variable → InfixSign → r.Ex → r.Ex
relation p v g e = r.Chain (r.Read p (var_of v)) (r.Link p g e r.NoLink)

-- `v >= 0`, `v <= w` or `g == old(g)`
abbrev pub says : Pos → Claim → r.Ex
says p (NotNegative v) = relation p v sign.AtLeast (r.Number p (pos 0))
says p (AtMost v w) = relation p v sign.AtMost (r.Read p (var_of w))
says p (Unchanged g) = relation p (variable.Global g) sign.Equal (r.Old p (r.Read p (var_of (variable.Global g))))
