-- Scopes of names against signatures: what a name means is declared there.
use Rattle.std.specs.Prelude.{◌≡◌, ◌<◌, ℕ, List, length, Some, slice_get}
use Rattle.bg_ast.specs.Syntax.{Proc}
use Rattle.bg_names.specs.declared.scope.Meaning.TheVariants as means
use Rattle.bg_names.specs.Spaces.{Scope, meaning, place}
use Rattle.bg_names.specs.Inside.{Inside}
use Rattle.bg_bodies.specs.Bodies.{changes_at}
use Rattle.bg_sense.specs.Typing.{Sig}
use Rattle.bg_sense.specs.Typed.{Around, sig_around}

-- each constant, variable and function that a name means is one of the signature's
pub record Covers (s : Scope) (g : Sig) : Type 0 where
  pub constants : (x : List ℕ) (k : ℕ) → meaning s x ≡ means.Constant k → k < length g.constants
  pub globals : (x : List ℕ) (k : ℕ) → meaning s x ≡ means.Global k → k < length g.globals
  pub frame : (x : List ℕ) (k : ℕ) → meaning s x ≡ means.Local k → k < length g.frame
  pub functions : (x : List ℕ) (k : ℕ) → place s.functions x ≡ Some k → k < length g.functions

-- what a body's names mean is around it: two names mean two globals, what means one of the frame stands in the frame, and
-- procedures modify what they say
pub record CoversBody (b : Inside) (w : Around) : Type 0 where
  pub names : Covers b.scope (sig_around w)
  pub apart : (x y : List ℕ) (k : ℕ) → meaning b.scope x ≡ means.Global k → meaning b.scope y ≡ means.Global k → x ≡ y
  pub places : (x : List ℕ) (k : ℕ) → meaning b.scope x ≡ means.Local k → place b.scope.frame x ≡ Some k
  pub inputs : b.inputs ≡ length w.procedure.params
  pub modifies : b.modifies ≡ w.procedure.modifies
  pub procedures :
      (x : List ℕ) (k : ℕ) → place b.procedures x ≡ Some k →
      (q : Proc) × (slice_get w.program.procedures k ≡ Some q) × (changes_at b.changes (Some k) ≡ q.modifies)
