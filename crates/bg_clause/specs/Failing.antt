-- The form that says that a block fails, where forms say so of the later blocks.
use Rattle.std.specs.Prelude.{ℕ, true, false, if◌then◌else◌, List, [], ◌∷◌, Option, Some, None, slice_get, unwrap_or}
use Rattle.bg_ast.specs.Execution.{Spot}
use Rattle.bg_passive.specs.Passive.{spot_eq}
use Rattle.bg_forms.specs.Forms.{Form, Plain, is_true, denied, both_of, any_of}
use Rattle.bg_clause.specs.Tables.{atom_in}
use Rattle.bg_formed.specs.Formed.{FormCmd, Asks, Takes, FormEdge, FormBlock, said}

-- the candidate of this atom is there; one without an atom isn't
abbrev pub is_true_atom : Option ℕ → Form
is_true_atom None = Plain false
is_true_atom (Some a) = is_true a

-- the candidate, if any, is there, where candidates have these atoms
abbrev pub is_there : List (Option ℕ) → Option ℕ → Form
is_there cs None = Plain true
is_there cs (Some b) = is_true_atom (atom_in cs b)

abbrev pub is_not_there : List (Option ℕ) → Option ℕ → Form
is_not_there cs b = denied (is_there cs b)

-- commands fail where one claims the target in vain, or else what is behind them fails
abbrev pub fail_cmds : List (Option ℕ) → Spot → List FormCmd → Form → Form
fail_cmds cs t [] rest = rest
fail_cmds cs t (Asks s b r ∷ ks) rest =
    if spot_eq s t
    then any_of (both_of (is_there cs b) (denied (said r))) (fail_cmds cs t ks rest)
    else both_of (any_of (is_not_there cs b) (said r)) (fail_cmds cs t ks rest)
fail_cmds cs t (Takes b r ∷ ks) rest =
    both_of (any_of (is_not_there cs b) (said r)) (fail_cmds cs t ks rest)

-- the later block so far ahead fails, where these forms say so of each
abbrev pub fail_later : List Form → ℕ → Form
fail_later later k = unwrap_or (slice_get later k) (Plain false)

abbrev pub fail_edges : List (Option ℕ) → Spot → List Form → List FormEdge → Form
fail_edges cs t later [] = Plain false
fail_edges cs t later (e ∷ es) = any_of (fail_cmds cs t e.cmds (fail_later later e.to)) (fail_edges cs t later es)

abbrev pub fail_block : List (Option ℕ) → Spot → List Form → FormBlock → Form
fail_block cs t later b = fail_cmds cs t b.cmds (fail_edges cs t later b.next)
