-- Ways through an implementation's passive blocks, and what stands on them.
use Rattle.std.specs.Prelude.{◌≡◌, ℕ, Bool, true, false, List, [], ◌∷◌, ◌++◌, Option, Some, None, Err, slice_get}
use Rattle.std.specs.List.{list_any}
use Rattle.bg_base.specs.declared.exact.OutOfRange.{OutOfRange}
use Rattle.bg_ast.specs.Execution.{Spot}
use Rattle.bg_passive.specs.Passive.{PassiveCmd, Claims, Supposes, Edge, PassiveBlock, spot_eq}
use Rattle.bg_linear.specs.declared.scalar.Sort.{Sort}
use Rattle.bg_linear.specs.Relations.{relation}
use Rattle.bg_atoms.specs.Parts.{HasRelation}
use Rattle.bg_atoms.specs.Sources.{expression_of}

-- the commands on the way along these edges, behind an edge, and from a block on
abbrev pub way_at : Option (List ℕ → List PassiveCmd) → List ℕ → List PassiveCmd
way_at None js = []
way_at (Some f) js = f js

abbrev pub behind_edge : List (List ℕ → List PassiveCmd) → Option Edge → List ℕ → List PassiveCmd
behind_edge later None js = []
behind_edge later (Some e) js = e.cmds ++ way_at (slice_get later e.to) js

abbrev pub onward : List (List ℕ → List PassiveCmd) → List Edge → List ℕ → List PassiveCmd
onward later next [] = []
onward later next (j ∷ js) = behind_edge later (slice_get next j) js

abbrev pub ways : List PassiveBlock → List (List ℕ → List PassiveCmd)
ways [] = []
ways (b ∷ bs) =
    let later = ways bs in
    (λ js. b.cmds ++ onward later b.next js) ∷ later

-- the commands on the way from the entry along these edges, in order
abbrev pub way : List PassiveBlock → List ℕ → List PassiveCmd
way bs js = way_at (slice_get (ways bs) 0) js

-- whether a command is the target's check
abbrev pub is_check : Spot → PassiveCmd → Bool
is_check t (Claims s b e) = spot_eq s t
is_check t (Supposes b e) = false

-- on a way from the entry to the target's check a command has a relation, over incarnations of these sorts, in whose linear forms this
-- operation leaves the range
pub record LiesOnWay (sorts : List Sort) (bs : List PassiveBlock) (t : Spot) (o : OutOfRange) : Type 0 where
  pub edges : List ℕ
  pub front : List PassiveCmd
  pub command : PassiveCmd
  pub behind : List PassiveCmd
  pub is_way : way bs edges ≡ front ++ (command ∷ behind)
  pub leaves : HasRelation sorts (λ op a b. relation op a b ≡ Err o) (expression_of command)
  pub reaches : list_any (is_check t) (command ∷ behind) ≡ true
