-- Where rows come from: relations of numbers in the expressions of commands.
use Rattle.std.specs.Prelude.{List, Any, All, Contains, IsOkAnd, ◌⊎◌}
use Rattle.bg_ast.specs.Syntax.{Ex, Op}
use Rattle.bg_passive.specs.Passive.{PassiveCmd, Claims, Supposes, Edge, PassiveBlock}
use Rattle.bg_formula.specs.Atoms.{AtomOf}
use Rattle.bg_linear.specs.declared.scalar.Sort.{Sort}
use Rattle.bg_linear.specs.Relations.{relation}
use Rattle.bg_atoms.specs.Parts.{HasRelation}

-- the row, with its denial, is one of the relation's
abbrev pub IsRowOf : AtomOf → Op → Ex → Ex → Type 0
IsRowOf r op a b = IsOkAnd (relation op a b) (λ rs. Contains rs r)

-- the row is one of some relation in the expression
abbrev pub IsFrom : List Sort → Ex → AtomOf → Type 0
IsFrom sorts e r = HasRelation sorts (IsRowOf r) e

-- what a command claims or supposes
abbrev pub expression_of : PassiveCmd → Ex
expression_of (Claims s b e) = e
expression_of (Supposes b e) = e

-- it is so of the expression of some command
abbrev pub InCmds : (Ex → Type 0) → List PassiveCmd → Type 0
InCmds P ks = Any (λ k. P (expression_of k)) ks

-- the same of the commands of some edge
abbrev pub InEdges : (Ex → Type 0) → List Edge → Type 0
InEdges P es = Any (λ e. InCmds P e.cmds) es

-- the same of the block's commands, or of those of its edges
abbrev pub InBlock : (Ex → Type 0) → PassiveBlock → Type 0
InBlock P b = InCmds P b.cmds ⊎ InEdges P b.next

-- the same of some block
abbrev pub InBlocks : (Ex → Type 0) → List PassiveBlock → Type 0
InBlocks P bs = Any (InBlock P) bs

-- each row is one of some relation in the expression of some command of the blocks
abbrev pub AreFrom : List Sort → List PassiveBlock → List AtomOf → Type 0
AreFrom sorts bs rows = All (λ r. InBlocks (λ e. IsFrom sorts e r) bs) rows
