-- The forms of blocks of which only what counts for a target says something, made without making these.
use Rattle.std.specs.Prelude.{ℕ, Bool, List, [], ◌∷◌, Option}
use Rattle.bg_ast.specs.Execution.{Spot}
use Rattle.bg_forms.specs.Forms.{Form}
use Rattle.bg_formed.specs.Formed.{FormCmd, FormEdge, FormBlock}
use Rattle.bg_formed.specs.Used.{Use, use_cmds, use_block}
use Rattle.bg_formed.specs.Seen.{use_of}
use Rattle.bg_slice.specs.Slices.{slice_cmds, slice_block}
use Rattle.bg_clause.specs.declared.fails.Ahead as code
use Rattle.bg_clause.specs.Lends.{lent_in}
use Rattle.bg_clause.specs.Failing.{fail_cmds, fail_later, fail_block}
use Rattle.bg_clause.specs.Told.{Told, nothing, is_short, told_by}

-- what stands behind commands: the form that says that it fails, and what is reached there
pub record Ahead : Type 0 where
  pub form : Form
  pub on : Use

abbrev pub ahead_of : code.Ahead → Ahead
ahead_of a = record { form = lent_in a.form; on = use_of a.on }

-- commands, of which those count that are in front of the target's check, in front of what is behind them
abbrev pub cut_cmds : List (Option ℕ) → Spot → List FormCmd → Ahead → Ahead
cut_cmds cs t ks a = record { form = fail_cmds cs t (slice_cmds t ks a.on) a.form; on = use_cmds t ks a.on }

abbrev pub fail_edge : List (Option ℕ) → Spot → List Form → FormEdge → Form
fail_edge cs t later e = fail_cmds cs t e.cmds (fail_later later e.to)

abbrev pub cut_block : List (Option ℕ) → Spot → List Form → List Use → FormBlock → Ahead
cut_block cs t later uses b =
    record { form = fail_block cs t later (slice_block t uses b); on = use_block t uses b }

-- what is told of blocks, and what is reached from each
pub record CutTold : Type 0 where
  pub told : Told
  pub uses : List Use

-- nothing is told yet, and the numbers from a on are free
abbrev pub cut_nothing : ℕ → CutTold
cut_nothing a = record { told = nothing a; uses = [] }

-- one more block in front, of which this is told; a form that is not short has an atom in its place
abbrev pub cut_by : Bool → Ahead → CutTold → CutTold
cut_by b a s = record { told = told_by b a.form s.told; uses = a.on ∷ s.uses }

abbrev pub cut_one : List (Option ℕ) → Spot → CutTold → FormBlock → CutTold
cut_one cs t s b = let a = cut_block cs t s.told.fails s.uses b in cut_by (is_short a.form) a s

-- blocks in front of others
abbrev pub cut_told : List (Option ℕ) → Spot → CutTold → List FormBlock → CutTold
cut_told cs t s [] = s
cut_told cs t s (b ∷ bs) = cut_one cs t (cut_told cs t s bs) b
