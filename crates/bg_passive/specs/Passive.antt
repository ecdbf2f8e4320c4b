-- Passive blocks, in which no variable changes, and walks through them.
use Rattle.std.specs.Prelude.{◌≡◌, ℕ, Bool, true, false, not, ◌&&◌, ◌||◌, if◌then◌else◌, List, [], ◌∷◌, Option, Some, None, slice_get, ◌==◌}
use Rattle.bg_ast.specs.Values.{truth_of}
use Rattle.bg_ast.specs.Syntax.{Ex}
use Rattle.bg_sense.specs.Eval.{Scope, ev}
use Rattle.bg_ast.specs.Execution.{Spot, AtAssert, AtEntry, AfterTurn, AtCall, AtReturn}

-- a command says something of incarnations: each variable's value between two of its changes is a local of its own
pub data PassiveCmd : Type 0 where
  Claims : Spot → Option ℕ → Ex → PassiveCmd
  Supposes : Option ℕ → Ex → PassiveCmd

-- the way to a later block, counted from the next one, with what is supposed on it
pub record Edge : Type 0 where
  pub cmds : List PassiveCmd
  pub to : ℕ

pub record PassiveBlock : Type 0 where
  pub cmds : List PassiveCmd
  pub next : List Edge

abbrev pub spot_eq : Spot → Spot → Bool
spot_eq (AtAssert a) (AtAssert b) = a == b
spot_eq (AtEntry a) (AtEntry b) = a == b
spot_eq (AfterTurn a) (AfterTurn b) = a == b
spot_eq (AtCall s a) (AtCall t b) = (s == t) && (a == b)
spot_eq (AtReturn s a) (AtReturn t b) = (s == t) && (a == b)
spot_eq _ _ = false

-- whether a clause is absent
abbrev pub is_absent : (ℕ → Bool) → Option ℕ → Bool
is_absent set None = false
is_absent set (Some b) = not (set b)

-- how a walk through a block goes: on, to an end without the target's failure, or to it
pub data Walked : Type 0 where
  On : Walked
  Stopped : Walked
  Hit : Walked

abbrev pub walk_cmds : (ℕ → Bool) → Spot → Scope → List PassiveCmd → Walked
walk_cmds set t c [] = On
walk_cmds set t c (Claims s b e ∷ ks) =
    if is_absent set b || truth_of (ev e c) then walk_cmds set t c ks
    else if spot_eq s t then Hit else Stopped
walk_cmds set t c (Supposes b e ∷ ks) =
    if is_absent set b || truth_of (ev e c) then walk_cmds set t c ks else Stopped

-- a walk along these branches fails at the target, where the incarnations have these values
abbrev pub walk_on : Walked → (List ℕ → Bool) → List ℕ → Bool
walk_on On go_on choices = go_on choices
walk_on Stopped go_on choices = false
walk_on Hit go_on choices = true

abbrev pub walk_at : Option (List ℕ → Bool) → List ℕ → Bool
walk_at None choices = false
walk_at (Some f) choices = f choices

abbrev pub walk_edge : (ℕ → Bool) → Spot → Scope → List (List ℕ → Bool) → Option Edge → List ℕ → Bool
walk_edge set t c later None choices = false
walk_edge set t c later (Some e) choices =
    walk_on (walk_cmds set t c e.cmds) (walk_at (slice_get later e.to)) choices

abbrev pub follow : (ℕ → Bool) → Spot → Scope → List (List ℕ → Bool) → List Edge → List ℕ → Bool
follow set t c later next [] = false
follow set t c later next (j ∷ choices) = walk_edge set t c later (slice_get next j) choices

abbrev pub walks : (ℕ → Bool) → Spot → Scope → List PassiveBlock → List (List ℕ → Bool)
walks set t c [] = []
walks set t c (b ∷ bs) =
    let later = walks set t c bs in
    (λ choices. walk_on (walk_cmds set t c b.cmds) (follow set t c later b.next) choices) ∷ later

-- whether some walk from this block on fails at the target
abbrev pub SomeWalk : (ℕ → Bool) → Spot → Scope → List PassiveBlock → ℕ → Type 0
SomeWalk set t c bs k = (choices : List ℕ) × (walk_at (slice_get (walks set t c bs) k) choices ≡ true)
