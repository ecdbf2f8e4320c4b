-- Faults of names, and the first of them.
use Rattle.std.specs.Prelude.{◌≡◌, ℕ, Bool, true, false, ◌||◌, ◌&&◌, ◌==◌, nat_lt, List, [], ◌∷◌, Option, Some, None, if◌then◌else◌, All, Contains}
use Rattle.bg_base.specs.declared.pos.Pos.{Pos}
use Rattle.bg_names.specs.declared.error.FaultKind.{FaultKind}
use Rattle.bg_names.specs.declared.error.FaultKind.TheVariants as kinds

-- a broken rule, where, and the name that breaks it; no name where the rule has none
pub record Fault : Type 0 where
  pub kind : FaultKind
  pub pos : Pos
  pub name : List ℕ

-- the place of a rule in the list of rules
abbrev pub rank_of : FaultKind → ℕ
rank_of kinds.UnknownName = 0
rank_of kinds.Duplicate = 1
rank_of kinds.AssignsInput = 2
rank_of kinds.NotModified = 3
rank_of kinds.BadTarget = 4
rank_of kinds.BadCandidateUse = 5
rank_of kinds.BadOld = 6
rank_of kinds.RecursiveFunction = 7
rank_of kinds.UnnamedArgument = 8

-- by line, then by column, then by rule
unfoldable pub is_before : Fault → Fault → Bool
is_before a b =
    nat_lt a.pos.line b.pos.line
    || ((a.pos.line == b.pos.line)
    && (nat_lt a.pos.column b.pos.column || ((a.pos.column == b.pos.column) && nat_lt (rank_of a.kind) (rank_of b.kind))))

-- the better of what is known and one more fault
abbrev pub lesser : Option Fault → Fault → Option Fault
lesser None f = Some f
lesser (Some g) f = if is_before f g then Some f else Some g

-- the best of what is known and of these faults
abbrev pub better : Option Fault → List Fault → Option Fault
better best [] = best
better best (f ∷ fs) = better (lesser best f) fs

-- one of the faults, and none comes before it
abbrev pub IsFirst : Fault → List Fault → Type 0
IsFirst f fs = Contains fs f × All (λ g. is_before g f ≡ false) fs

-- a fault, unless this holds
abbrev pub unless : Bool → Fault → List Fault
unless true f = []
unless false f = f ∷ []

abbrev pub fault : FaultKind → Pos → List ℕ → Fault
fault k p x = record { kind = k; pos = p; name = x }
