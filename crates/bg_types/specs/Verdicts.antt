-- What is answered of a program.
use Rattle.std.specs.Prelude.{◌≡◌, ◌⊎◌, ℕ, [], map, Option, Some, None}
use Rattle.bg_graph.specs.Graphs.{IsAcyclic}
use Rattle.bg_ast.specs.Resolved as r
use Rattle.bg_ast.specs.Views.{type_name_of}
use Rattle.bg_types.specs.declared.verdict.TypeFault.{TypeFault}
use Rattle.bg_types.specs.declared.verdict.TypeFault.TheVariants.{Refused, Memory}
use Rattle.bg_kinds.specs.Faults.{Fault, IsFirst}
use Rattle.bg_kinds.specs.Kinds.{Kind}
use Rattle.bg_kinds.specs.Synonyms.{IsUnfolded, synonym_graph, IsCyclic}
use Rattle.bg_types.specs.Programs.{program_faults}
use Rattle.bg_kinds.specs.Owned.{answered}

-- no synonym reaches itself, and where synonyms are unfolded there is no fault
pub record IsWellTyped (p : r.Program) : Type 0 where
  pub named : ℕ → Kind
  pub acyclic : IsAcyclic (synonym_graph p.types)
  pub unfolded : IsUnfolded p.types named
  pub none : program_faults named p ≡ []

-- the fault of a program without cyclic synonyms that is answered
pub record HasFault (p : r.Program) (fault : Fault) : Type 0 where
  pub named : ℕ → Kind
  pub acyclic : IsAcyclic (synonym_graph p.types)
  pub unfolded : IsUnfolded p.types named
  pub first : IsFirst fault (program_faults named p)

-- a cyclic synonym comes first
abbrev pub IsFault : r.Program → Fault → Type 0
IsFault p fault = IsCyclic p.types fault ⊎ HasFault p fault

abbrev pub Verdict : r.Program → Option Fault → Type 0
Verdict p None = IsWellTyped p
Verdict p (Some fault) = IsFault p fault

-- a refusal has the first fault, and the names of the declared types
abbrev pub IsRefusal : r.Program → TypeFault → Type 0
IsRefusal p Memory = Unit {0}
IsRefusal p (Refused f) = IsFault p (answered f.fault) × (map type_name_of f.types.items ≡ p.types)
