-- What a body sees, and the variables that it changes.
use Rattle.std.specs.Prelude.{ℕ, ◌+◌, Bool, not, ◌==◌, nat_eq, nat_lt, List, [], ◌∷◌, ◌++◌, map, flat_map, if◌then◌else◌}
use Rattle.std.specs.List.{list_any}
use Rattle.bg_base.specs.declared.pos.Pos.{Pos}
use Rattle.bg_text.specs.Trees as t
use Rattle.bg_ast.specs.Syntax as s
use Rattle.bg_ast.specs.Resolved as r
use Rattle.bg_names.specs.declared.error.FaultKind.TheVariants as kinds
use Rattle.bg_names.specs.declared.scope.Meaning.{Meaning}
use Rattle.bg_names.specs.declared.scope.Meaning.TheVariants as means
use Rattle.bg_names.specs.Faults.{Fault, fault, unless}
use Rattle.bg_names.specs.Spaces.{Scope, meaning}
use Rattle.bg_names.specs.Exprs.{exs_faults, named_exs}

-- what names mean in the body of an implementation
pub record Inside : Type 0 where
  pub scope : Scope
  -- so many of the frame are parameters
  pub inputs : ℕ
  -- the globals that its procedure modifies
  pub modifies : List ℕ
  -- the names of the globals
  pub globals : List (List ℕ)
  -- the procedures, and the globals that each modifies
  pub procedures : List (List ℕ)
  pub changes : List (List ℕ)
  -- the labels of the body
  pub labels : List (List ℕ)

abbrev pub has_number : List ℕ → ℕ → Bool
has_number ks k = list_any (nat_eq k) ks

-- a variable that is changed
abbrev pub change_faults : Inside → t.Id → Meaning → List Fault
change_faults b x means.Nothing = fault kinds.UnknownName x.pos x.text ∷ []
change_faults b x (means.Constant k) = fault kinds.AssignsInput x.pos x.text ∷ []
change_faults b x (means.Candidate k) = fault kinds.AssignsInput x.pos x.text ∷ []
change_faults b x (means.Local k) = unless (not (nat_lt k b.inputs)) (fault kinds.AssignsInput x.pos x.text)
change_faults b x (means.Global k) = unless (has_number b.modifies k) (fault kinds.NotModified x.pos x.text)

abbrev pub id_faults : Inside → t.Id → List Fault
id_faults b x = change_faults b x (meaning b.scope x.text)

abbrev pub variable_as : Meaning → s.Var
variable_as (means.Global k) = s.Global k
variable_as (means.Local k) = s.Local k
variable_as _ = s.Local 0

abbrev pub placed : Inside → t.Id → r.Placed
placed b x = record { pos = x.pos; variable = variable_as (meaning b.scope x.text) }

abbrev pub index_faults : Inside → Pos × t.Exs → List Fault
index_faults b i = exs_faults b.scope i.1

-- the left side of an assignment
abbrev pub target_faults : Inside → t.Target → List Fault
target_faults b x = id_faults b x.name ++ flat_map (index_faults b) x.brackets

abbrev pub named_index : Inside → Pos × t.Exs → Pos × r.Exs
named_index b i = (i.0, named_exs b.scope i.1)

abbrev pub named_target : Inside → t.Target → r.Target
named_target b x = record { placed = placed b x.name; brackets = map (named_index b) x.brackets }

-- the block that a label around names
abbrev pub block_of : List (ℕ × ℕ) → ℕ → ℕ
block_of [] k = 0
block_of (x ∷ xs) k = if x.0 == k then x.1 else block_of xs k

-- a block with the labels directly before it, and the blocks around it
abbrev pub entered : List ℕ → ℕ → List (ℕ × ℕ) → List (ℕ × ℕ)
entered before n blocks = map (λ l. (l, n)) before ++ blocks
