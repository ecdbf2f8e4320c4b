-- Statements: the faults in them, inner ones before outer ones.
use Rattle.std.specs.Prelude.{false, ◌&&◌, if◌then◌else◌, List, [], ◌∷◌, ◌++◌, length, map, Option, Some, None, slice_get, nat_eq}
use Rattle.bg_base.specs.declared.pos.Pos.{Pos}
use Rattle.bg_ast.specs.Values as v
use Rattle.bg_ast.specs.Resolved as r
use Rattle.bg_kinds.specs.Faults.{Fault, Arity}
use Rattle.bg_kinds.specs.Kinds.{Kind}
use Rattle.bg_typing.specs.Sides.{Scope, Shape, Side, Judged, variable_kind, are_typed, pair_faults, matched_faults, select_side, select_faults}
use Rattle.bg_typing.specs.Exprs.{after, made, sides_of, faults_of, judge, judge_all}

-- an expression of which a type is wanted
abbrev pub wanted_faults : Scope → Kind → r.Ex → List Fault
wanted_faults g w e = (judge g e).faults ++ pair_faults w (judge g e).side

abbrev pub truth_faults : Scope → r.Ex → List Fault
truth_faults g e = wanted_faults g (Some v.BoolTy) e

abbrev pub truths_faults : Scope → List r.Ex → List Fault
truths_faults g [] = []
truths_faults g (e ∷ es) = truth_faults g e ++ truths_faults g es

abbrev pub clauses_faults : Scope → List r.Clause → List Fault
clauses_faults g [] = []
clauses_faults g (k ∷ ks) = truth_faults g k.says ++ clauses_faults g ks

abbrev pub guard_faults : Scope → r.Guard → List Fault
guard_faults g r.Star = []
guard_faults g (r.Test e) = truth_faults g e

-- a variable at a place
abbrev pub placed_side : Scope → r.Placed → Side
placed_side g x = record { start = x.pos; kind = variable_kind g x.variable; is_constant = false }

abbrev pub placed_sides : Scope → List r.Placed → List Side
placed_sides g [] = []
placed_sides g (x ∷ xs) = placed_side g x ∷ placed_sides g xs

-- brackets behind a variable that is assigned
abbrev pub indexed : Scope → Side → List (Pos × r.Exs) → Judged
indexed g m [] = made m []
indexed g m (b ∷ bs) =
    after
    (faults_of (judge_all g b.1) ++ select_faults b.0 m (sides_of (judge_all g b.1)))
    (indexed g (select_side b.0 m (sides_of (judge_all g b.1))) bs)

abbrev pub target : Scope → r.Target → Judged
target g t = indexed g (placed_side g t.placed) t.brackets

abbrev pub targets : Scope → List r.Target → List Judged
targets g [] = []
targets g (t ∷ ts) = target g t ∷ targets g ts

abbrev pub kinds_of : List Side → List Kind
kinds_of as_ = map (λ a. a.kind) as_

-- both sides of an assignment, where each part has a type
abbrev pub sides_faults : Pos → List Side → List Side → List Fault
sides_faults p ts es = if are_typed ts && are_typed es then matched_faults p (kinds_of ts) es else []

abbrev pub assign_faults : Scope → Pos → List Judged → List Judged → List Fault
assign_faults g p ts es = faults_of ts ++ (faults_of es ++ sides_faults p (sides_of ts) (sides_of es))

-- a result of a call, at the variable that takes it
abbrev pub take_faults : Side → Kind → List Fault
take_faults x t = pair_faults x.kind (record { start = x.start; kind = t; is_constant = false })

abbrev pub takes_faults : List Side → List Kind → List Fault
takes_faults [] ts = []
takes_faults (x ∷ xs) [] = []
takes_faults (x ∷ xs) (t ∷ ts) = take_faults x t ++ takes_faults xs ts

abbrev pub results_faults : Pos → List Side → List Kind → List Fault
results_faults p xs ts = if nat_eq (length xs) (length ts) then takes_faults xs ts else Arity p ∷ []

-- a call's own faults, where each part has a type
abbrev pub own_call_faults : Pos → Option Shape → (args takes : List Side) → List Fault
own_call_faults p None args takes = []
own_call_faults p (Some q) args takes =
    if are_typed args && are_typed takes
    then matched_faults p q.params args ++ results_faults p takes q.results
    else []

abbrev pub call_faults : Scope → r.Call → List Fault
call_faults g k =
    faults_of (judge_all g k.args)
    ++ own_call_faults k.name_pos (slice_get g.procedures k.procedure) (sides_of (judge_all g k.args)) (placed_sides g k.takes)

abbrev mutual
  pub st_faults : Scope → r.St → List Fault
  st_faults g (r.Assert k) = truth_faults g k.says
  st_faults g (r.Assume e) = truth_faults g e
  st_faults g (r.Assign p ts es) = assign_faults g p (targets g ts) (judge_all g es)
  st_faults g (r.Invoke k) = call_faults g k
  st_faults g (r.If n arms otherwise) = arms_faults g arms ++ sts_faults g otherwise
  st_faults g (r.While n p guard is body) = guard_faults g guard ++ (clauses_faults g is ++ sts_faults g body)
  st_faults g _ = []

  pub sts_faults : Scope → r.Sts → List Fault
  sts_faults g r.NoSt = []
  sts_faults g (r.Then a b) = st_faults g a ++ sts_faults g b

  pub arms_faults : Scope → r.Arms → List Fault
  arms_faults g r.NoArm = []
  arms_faults g (r.Arm guard body arms) = guard_faults g guard ++ (sts_faults g body ++ arms_faults g arms)
