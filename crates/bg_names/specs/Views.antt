-- How the code's tables are read.
use Rattle.std.specs.Prelude.{ℕ, List, [], ◌++◌, map, reverse, Option, Some, None}
use Rattle.bg_base.specs.declared.pos.Pos.{Pos}
use Rattle.bg_text.specs.declared.expr.InfixSign.{InfixSign}
use Rattle.bg_text.specs.declared.expr.TreeExpr.{TreeExpr}
use Rattle.bg_text.specs.declared.expr.TreeLink.{TreeLink}
use Rattle.bg_text.specs.declared.expr.TreeBracket.{TreeBracket}
use Rattle.bg_text.specs.Trees as t
use Rattle.bg_text.specs.declared.tree.TreeType.{TreeType}
use Rattle.bg_text.specs.declared.tree.TypeBracket.{TypeBracket}
use Rattle.bg_text.specs.Views.{id_of, option_of, ex_of, bracket_view, type_of, index_view, links_of, link_view}
use Rattle.bg_ast.specs.Resolved as r
use Rattle.bg_names.specs.declared.names.Names.{Names}
use Rattle.bg_names.specs.declared.notes.Found.{Found}
use Rattle.bg_names.specs.declared.notes.Notes.{Notes}
use Rattle.bg_names.specs.declared.walk.Labelled.{Labelled}
use Rattle.bg_names.specs.declared.changes.Inside as place_
use Rattle.bg_names.specs.Inside.{Inside}
use denote.Bor.{Bor}
use Rattle.bg_text.specs.declared.expr.Name.{Name}
use Rattle.bg_names.specs.declared.scope.Scope as code
use Rattle.bg_names.specs.declared.clauses.Guarded as code_
use Rattle.bg_names.specs.Clauses.{Guarded}
use Rattle.bg_names.specs.Faults.{Fault}
use Rattle.bg_names.specs.Spaces.{Scope}
use Rattle.bg_names.specs.Exprs.{named_ex, named_exs, ex_faults, exs_faults, named_ty, named_tys, ty_faults, tys_faults}

-- names as a list
abbrev pub listed : Names → List (List ℕ)
listed s = map (λ k. k.now) s.set.keys

abbrev pub found_of : Found → Fault
found_of f = record { kind = f.kind; pos = f.pos; name = f.name.now }

-- the first fault so far
abbrev pub first_of : Notes → Option Fault
first_of n = option_of found_of n.first

abbrev pub scope_of : code.Scope → Scope
scope_of s =
    record {
      values = listed s.values.now;
      meanings = s.meanings.now;
      functions = listed s.functions.now;
      frame = listed s.frame.now;
      sees_globals = s.sees_globals;
      has_old = s.has_old;
    }

-- an expression of the code's
abbrev pub named_expr : Scope → TreeExpr → r.Ex
named_expr s e = named_ex s (ex_of e)

abbrev pub expr_faults : Scope → TreeExpr → List Fault
expr_faults s e = ex_faults s (ex_of e)

abbrev pub named_link : Scope → TreeLink → Pos × InfixSign × r.Ex
named_link s l = (l.pos, l.sign, named_expr s l.operand)

abbrev pub link_faults : Scope → TreeLink → List Fault
link_faults s l = expr_faults s l.operand

abbrev pub named_value : Scope → Option t.Ex → Option r.Ex
named_value s = option_of (named_ex s)

abbrev pub value_faults : Scope → Option t.Ex → List Fault
value_faults s None = []
value_faults s (Some e) = ex_faults s e

-- a bracket: its indices, and the value of an update
abbrev pub named_bracket : Scope → TreeBracket → Pos × r.Exs × Option r.Ex
named_bracket s b = let v = bracket_view b in (v.0, named_exs s v.1, named_value s v.2)

abbrev pub bracket_faults : Scope → TreeBracket → List Fault
bracket_faults s b = let v = bracket_view b in exs_faults s v.1 ++ value_faults s v.2

-- a type of the code's, where these types are declared
abbrev pub named_type : List (List ℕ) → TreeType → r.Ty
named_type types e = named_ty types (type_of e)

abbrev pub type_faults : List (List ℕ) → TreeType → List Fault
type_faults types e = ty_faults types (type_of e)

abbrev pub named_type_bracket : List (List ℕ) → TypeBracket → Pos × r.Tys
named_type_bracket types b = let v = index_view b in (v.0, named_tys types v.1)

abbrev pub bracket_type_faults : List (List ℕ) → TypeBracket → List Fault
bracket_type_faults types b = let v = index_view b in tys_faults types v.1

-- a candidate, and the operands behind it
abbrev pub guarded_of : code_.Guarded → Guarded
guarded_of g = (g.candidate, ex_of g.operand.now, links_of (map link_view g.rest.now))

-- the last first
abbrev pub stacked : List ℕ → List ℕ
stacked = reverse

abbrev pub labelled_of : Labelled → ℕ × ℕ
labelled_of x = (x.label, x.block)

abbrev pub blocks_of : List Labelled → List (ℕ × ℕ)
blocks_of xs = map labelled_of (reverse xs)

abbrev pub label_of : Labelled → ℕ
label_of x = x.label

-- the labels of the blocks around
abbrev pub around_of : List Labelled → List ℕ
around_of xs = map label_of (reverse xs)

-- what names mean in a body
abbrev pub inside_of : place_.Inside → Inside
inside_of b =
    record {
      scope = scope_of b.scope;
      inputs = b.inputs;
      modifies = b.modifies.now;
      globals = map (λ x. x.now) b.globals.now;
      procedures = listed b.procedures.now;
      changes = map (λ ks. ks.items) b.changes.now;
      labels = listed b.labels.now;
    }

-- a name by reference
abbrev pub id_in : Bor Name → t.Id
id_in x = id_of x.now
