-- Expressions: their types, and the faults in them, inner ones before outer ones.
use Rattle.std.specs.Prelude.{true, false, List, [], ◌∷◌, ◌++◌, Option, Some, None, slice_get}
use Rattle.bg_base.specs.declared.pos.Pos.{Pos}
use Rattle.bg_text.specs.declared.expr.InfixSign.{InfixSign}
use Rattle.bg_text.specs.declared.expr.InfixSign.TheVariants as op
use Rattle.bg_ast.specs.Values as v
use Rattle.bg_ast.specs.Resolved as r
use Rattle.bg_kinds.specs.Faults.{Fault}
use Rattle.bg_typing.specs.Sides.{Scope, Side, Judged, leaf, kind_at, variable_kind, signed, infix_side, infix_faults, select_side, select_faults, update_side, update_faults, apply_side, apply_faults}

-- the same part, behind these faults
abbrev pub after : List Fault → Judged → Judged
after fs j = record { side = j.side; faults = fs ++ j.faults }

-- the same part, before these faults
abbrev pub before : Judged → List Fault → Judged
before j fs = record { side = j.side; faults = j.faults ++ fs }

abbrev pub sides_of : List Judged → List Side
sides_of [] = []
sides_of (j ∷ js) = j.side ∷ sides_of js

abbrev pub faults_of : List Judged → List Fault
faults_of [] = []
faults_of (j ∷ js) = j.faults ++ faults_of js

-- a node of its own, with these faults of its own
abbrev pub made : Side → List Fault → Judged
made a fs = record { side = a; faults = fs }

-- parentheses begin before what they hold
abbrev pub in_parens : Pos → Side → Side
in_parens p a = record { start = p; kind = a.kind; is_constant = a.is_constant }

-- `old` makes no constant
abbrev pub in_old : Pos → Side → Side
in_old p a = record { start = p; kind = a.kind; is_constant = false }

-- a sign between two sides
abbrev pub joined : InfixSign → Pos → Side → Side → Judged
joined sign p a b = made (infix_side sign a b) (infix_faults sign p a b)

-- the right side of `==>` is the rest of its chain
abbrev pub implied : Pos → Side → Judged → Judged
implied p a j = after j.faults (joined op.Implies p a j.side)

abbrev mutual
  pub judge : Scope → r.Ex → Judged
  judge g (r.Number p z) = leaf p (Some v.IntTy) true
  judge g (r.Truth p b) = leaf p (Some v.BoolTy) false
  judge g (r.Constant p k) = leaf p (kind_at g.constants k) false
  judge g (r.Read p x) = leaf p (variable_kind g x) false
  judge g (r.Apply p f es) =
      made
      (apply_side p (slice_get g.functions f) (sides_of (judge_all g es)))
      (faults_of (judge_all g es) ++ apply_faults p (slice_get g.functions f) (sides_of (judge_all g es)))
  judge g (r.Old p e) = made (in_old p (judge g e).side) (judge g e).faults
  judge g (r.Parens p e) = made (in_parens p (judge g e).side) (judge g e).faults
  judge g (r.Prefix signs e) = after (judge g e).faults (signed signs (judge g e).side)
  judge g (r.Postfix e bs) = after (judge g e).faults (behind g (judge g e).side bs)
  judge g (r.Chain e ls) = after (judge g e).faults (chained g (judge g e).side ls)

  pub judge_all : Scope → r.Exs → List Judged
  judge_all g r.NoMore = []
  judge_all g (r.More e es) = judge g e ∷ judge_all g es

  -- a row of brackets: the first is the innermost
  pub behind : Scope → Side → r.Brackets → Judged
  behind g m r.NoBracket = made m []
  behind g m (r.Select p es bs) =
      after
      (faults_of (judge_all g es) ++ select_faults p m (sides_of (judge_all g es)))
      (behind g (select_side p m (sides_of (judge_all g es))) bs)
  behind g m (r.Update p es e bs) =
      after
      (faults_of (judge_all g es) ++ ((judge g e).faults ++ update_faults p m (sides_of (judge_all g es)) (judge g e).side))
      (behind g (update_side p m (sides_of (judge_all g es)) (judge g e).side) bs)

  -- a chain: `==>` groups to the right, all others to the left
  pub chained : Scope → Side → r.Links → Judged
  chained g a r.NoLink = made a []
  chained g a (r.Link p op.Implies e ls) = after (judge g e).faults (implied p a (chained g (judge g e).side ls))
  chained g a (r.Link p sign e ls) =
      after ((judge g e).faults ++ infix_faults sign p a (judge g e).side) (chained g (infix_side sign a (judge g e).side) ls)

-- one bracket behind an expression, with the value of an update
abbrev pub bracket_side : Scope → Side → Pos → r.Exs → Option r.Ex → Side
bracket_side g m p es None = select_side p m (sides_of (judge_all g es))
bracket_side g m p es (Some e) = update_side p m (sides_of (judge_all g es)) (judge g e).side

abbrev pub bracket_faults : Scope → Side → Pos → r.Exs → Option r.Ex → List Fault
bracket_faults g m p es None = faults_of (judge_all g es) ++ select_faults p m (sides_of (judge_all g es))
bracket_faults g m p es (Some e) =
    faults_of (judge_all g es) ++ ((judge g e).faults ++ update_faults p m (sides_of (judge_all g es)) (judge g e).side)
