-- Blocks of forms that say what passive blocks say.
use Rattle.std.specs.Prelude.{◌≡◌, ℕ, Bool, List, [], ◌∷◌, Option, Some, None, Ok, Err}
use Rattle.bg_ast.specs.Values.{truth_of}
use Rattle.bg_ast.specs.Syntax.{Ex}
use Rattle.bg_sense.specs.Eval.{Scope, ev}
use Rattle.bg_passive.specs.Passive.{PassiveCmd, Claims, Supposes, Edge, PassiveBlock}
use Rattle.bg_forms.specs.Forms.{form_true}
use Rattle.bg_formed.specs.Formed.{Says, FormCmd, Asks, Takes, FormEdge, FormBlock}

-- the candidate of a command without a form: the same, or none
abbrev pub IsSame : Option ℕ → Option ℕ → Type 0
IsSame b None = Unit {0}
IsSame b (Some d) = b ≡ Some d

-- the same candidate, and a form under truth values of atoms is worth what the expression is in a scope; where none could be made,
-- nothing is asked of it
abbrev pub IsSaid : (ℕ → Bool) → Scope → Option ℕ → Ex → Option ℕ → Says → Type 0
IsSaid w c b e d (Ok f) = (b ≡ d) × (form_true w f ≡ truth_of (ev e c))
IsSaid w c b e d (Err x) = IsSame b d

-- the same checks, and the same is said
abbrev pub SaidCmds : (ℕ → Bool) → Scope → List PassiveCmd → List FormCmd → Type 0
SaidCmds w c [] [] = Unit {0}
SaidCmds w c (Claims s b e ∷ ks) (Asks t d r ∷ ls) = ((s ≡ t) × IsSaid w c b e d r) × SaidCmds w c ks ls
SaidCmds w c (Supposes b e ∷ ks) (Takes d r ∷ ls) = IsSaid w c b e d r × SaidCmds w c ks ls
SaidCmds w c _ _ = ⊥

abbrev pub SaidEdges : (ℕ → Bool) → Scope → List Edge → List FormEdge → Type 0
SaidEdges w c [] [] = Unit {0}
SaidEdges w c (e ∷ es) (f ∷ fs) = ((e.to ≡ f.to) × SaidCmds w c e.cmds f.cmds) × SaidEdges w c es fs
SaidEdges w c _ _ = ⊥

abbrev pub SaidBlocks : (ℕ → Bool) → Scope → List PassiveBlock → List FormBlock → Type 0
SaidBlocks w c [] [] = Unit {0}
SaidBlocks w c (b ∷ bs) (f ∷ fs) = (SaidCmds w c b.cmds f.cmds × SaidEdges w c b.next f.next) × SaidBlocks w c bs fs
SaidBlocks w c _ _ = ⊥
