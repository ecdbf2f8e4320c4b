-- Blocks of forms that say what passive blocks say, as far as the rows go.
use Rattle.std.specs.Prelude.{◌≡◌, ℕ, ◌+◌, ℤ, Bool, true, List, length, Ok, Err}
use Rattle.bg_ast.specs.Values.{truth_of}
use Rattle.bg_ast.specs.Syntax.{Ex}
use Rattle.bg_sense.specs.Eval.{Scope, ev}
use Rattle.bg_passive.specs.Passive.{PassiveCmd, Claims, Supposes, Edge, PassiveBlock}
use Rattle.bg_formula.specs.Atoms.{AtomOf}
use Rattle.bg_formula.specs.Meaning.{AtomsAgree}
use Rattle.bg_forms.specs.Forms.{form_true}
use Rattle.bg_formed.specs.Agree.{RowsAgree}
use Rattle.bg_formed.specs.Formed.{Says, FormCmd, Asks, Takes, FormEdge, FormBlock, form_below, said}
use Rattle.bg_linear.specs.declared.scalar.Sort.{Sort}
use Rattle.bg_linear.specs.Sorts.{kind_ex, is_truth, HoldScalars}
use Rattle.bg_atoms.specs.Pairs.{Pairs}
use Rattle.bg_atoms.specs.Ranks.{rank}
use Rattle.bg_atoms.specs.Over.{says_over}

-- a form under truth values of atoms is worth what the expression is in a scope; where none could be made, nothing is asked
abbrev pub IsWorth : (ℕ → Bool) → Scope → Ex → Says → Type 0
IsWorth w c e (Ok f) = form_true w f ≡ truth_of (ev e c)
IsWorth w c e (Err x) = Unit {0}

-- what is said of a truth over incarnations, where these rows are the atoms from n on
pub record Tells (sorts : List Sort) (n : ℕ) (rows : List AtomOf) (e : Ex) (r : Says) : Type 0 where
  pub below : form_below (n + length rows) (said r) ≡ true
  pub same : (numbers : ℕ → ℤ) (truth : ℕ → Bool) (c : Scope) → RowsAgree numbers truth n rows → AtomsAgree rows → HoldScalars sorts numbers (λ j. truth (rank sorts j)) c.frame → IsWorth truth c e r
  pub exact : r ≡ says_over sorts n rows e

abbrev pub IsTold : List Sort → ℕ → List AtomOf → Ex → Says → Type 0
IsTold sorts n rows e r = is_truth (kind_ex sorts e) ≡ true → Tells sorts n rows e r

abbrev pub CmdTold : List Sort → ℕ → List AtomOf → PassiveCmd → FormCmd → Type 0
CmdTold sorts n rows (Claims s b e) (Asks t d r) = (s ≡ t) × ((b ≡ d) × IsTold sorts n rows e r)
CmdTold sorts n rows (Supposes b e) (Takes d r) = (b ≡ d) × IsTold sorts n rows e r
CmdTold sorts n rows _ _ = ⊥

abbrev pub CmdsTold : List Sort → ℕ → List AtomOf → List PassiveCmd → List FormCmd → Type 0
CmdsTold sorts n rows = Pairs (CmdTold sorts n rows)

abbrev pub EdgeTold : List Sort → ℕ → List AtomOf → Edge → FormEdge → Type 0
EdgeTold sorts n rows e f = (e.to ≡ f.to) × CmdsTold sorts n rows e.cmds f.cmds

abbrev pub EdgesTold : List Sort → ℕ → List AtomOf → List Edge → List FormEdge → Type 0
EdgesTold sorts n rows = Pairs (EdgeTold sorts n rows)

abbrev pub BlockTold : List Sort → ℕ → List AtomOf → PassiveBlock → FormBlock → Type 0
BlockTold sorts n rows b f = CmdsTold sorts n rows b.cmds f.cmds × EdgesTold sorts n rows b.next f.next

abbrev pub BlocksTold : List Sort → ℕ → List AtomOf → List PassiveBlock → List FormBlock → Type 0
BlocksTold sorts n rows = Pairs (BlockTold sorts n rows)
