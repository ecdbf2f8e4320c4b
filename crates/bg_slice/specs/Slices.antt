-- Blocks of forms and rows, cut down to what counts for a target. Atoms keep their numbers.
use Rattle.std.specs.Prelude.{ℕ, zero, suc, ◌==◌, Bool, true, false, ◌||◌, if◌then◌else◌, List, [], ◌∷◌, Option, Some, None, pos, negsuc, Err}
use Rattle.bg_base.specs.declared.exact.Op.TheVariants.{Negate}
use Rattle.bg_formula.specs.Atoms.{AtomOf, IsRow}
use Rattle.bg_ast.specs.Execution.{Spot}
use Rattle.bg_passive.specs.Passive.{spot_eq}
use Rattle.bg_forms.specs.Forms.{Form, Plain, Is, NotSo, Both, Same}
use Rattle.bg_formed.specs.Formed.{Says, FormCmd, Asks, Takes, FormEdge, FormBlock, said}
use Rattle.bg_formed.specs.Used.{Use, use_cmds, use_later, use_edges, uses}

-- what stands in the place of a form that doesn't count: nothing is said
abbrev pub left_out : Says
left_out = Err (record { op = Negate; a = negsuc 170141183460469231731687303715884105727; b = pos 0 })

-- what counts stays
abbrev pub kept : Bool → Says → Says
kept true r = r
kept false r = left_out

-- so does its candidate
abbrev pub kept_guard : Bool → Option ℕ → Option ℕ
kept_guard true b = b
kept_guard false b = None

-- a command, which counts or not
abbrev pub ask_if : Bool → Spot → Option ℕ → Says → FormCmd
ask_if counts s b r = Asks s (kept_guard counts b) (kept counts r)

abbrev pub take_if : Bool → Option ℕ → Says → FormCmd
take_if counts b r = Takes (kept_guard counts b) (kept counts r)

-- a command counts where it claims at the target, or the target's check is reached behind it
abbrev pub slice_cmds : Spot → List FormCmd → Use → List FormCmd
slice_cmds t [] u = []
slice_cmds t (Asks s b r ∷ ks) u = ask_if (spot_eq s t || (use_cmds t ks u).reached) s b r ∷ slice_cmds t ks u
slice_cmds t (Takes b r ∷ ks) u = take_if (use_cmds t ks u).reached b r ∷ slice_cmds t ks u

abbrev pub slice_edge : Spot → List Use → FormEdge → FormEdge
slice_edge t later e = record { cmds = slice_cmds t e.cmds (use_later later e.to); to = e.to }

abbrev pub slice_edges : Spot → List Use → List FormEdge → List FormEdge
slice_edges t later [] = []
slice_edges t later (e ∷ es) = slice_edge t later e ∷ slice_edges t later es

abbrev pub slice_block : Spot → List Use → FormBlock → FormBlock
slice_block t later b =
    record { cmds = slice_cmds t b.cmds (use_edges t later b.next); next = slice_edges t later b.next }

-- the blocks, in which only commands that count for the target say something
abbrev pub sliced : Spot → List FormBlock → List FormBlock
sliced t [] = []
sliced t (b ∷ bs) = slice_block t (uses t bs) b ∷ sliced t bs

-- ---- which atoms are named

-- whether a form names the atom
abbrev pub names_form : ℕ → Form → Bool
names_form n (Plain b) = false
names_form n (Is l) = n == l.atom
names_form n (NotSo f) = names_form n f
names_form n (Both f g) = names_form n f || names_form n g
names_form n (Same f g) = names_form n f || names_form n g

abbrev pub names_cmd : ℕ → FormCmd → Bool
names_cmd n (Asks s b r) = names_form n (said r)
names_cmd n (Takes b r) = names_form n (said r)

abbrev pub names_cmds : ℕ → List FormCmd → Bool
names_cmds n [] = false
names_cmds n (k ∷ ks) = names_cmd n k || names_cmds n ks

abbrev pub names_edges : ℕ → List FormEdge → Bool
names_edges n [] = false
names_edges n (e ∷ es) = names_cmds n e.cmds || names_edges n es

abbrev pub names_blocks : ℕ → List FormBlock → Bool
names_blocks n [] = false
names_blocks n (b ∷ bs) = (names_cmds n b.cmds || names_edges n b.next) || names_blocks n bs

-- ---- which candidates guard commands

abbrev pub is_guard : ℕ → Option ℕ → Bool
is_guard c None = false
is_guard c (Some b) = c == b

abbrev pub guards_cmd : ℕ → FormCmd → Bool
guards_cmd c (Asks s b r) = is_guard c b
guards_cmd c (Takes b r) = is_guard c b

abbrev pub guards_cmds : ℕ → List FormCmd → Bool
guards_cmds c [] = false
guards_cmds c (k ∷ ks) = guards_cmd c k || guards_cmds c ks

abbrev pub guards_edges : ℕ → List FormEdge → Bool
guards_edges c [] = false
guards_edges c (e ∷ es) = guards_cmds c e.cmds || guards_edges c es

abbrev pub guards_blocks : ℕ → List FormBlock → Bool
guards_blocks c [] = false
guards_blocks c (b ∷ bs) = (guards_cmds c b.cmds || guards_edges c b.next) || guards_blocks c bs

-- which of n candidates from number c on guard a command of the blocks
abbrev pub guards_from : ℕ → ℕ → List FormBlock → List Bool
guards_from c zero bs = []
guards_from c (suc n) bs = guards_blocks c bs ∷ guards_from (suc c) n bs

-- which of the first n candidates do
abbrev pub guards_in : ℕ → List FormBlock → List Bool
guards_in n bs = guards_from 0 n bs

-- ---- rows

-- the row 0 <= 0, whose denial is 0 <= -1
abbrev pub no_row : AtomOf
no_row = IsRow (record { entries = []; bound = pos 0 }) (record { entries = []; bound = negsuc 0 })

-- a row that is named stays
abbrev pub row_if : Bool → AtomOf → AtomOf
row_if named a = if named then a else no_row

-- the rows from atom n on, of which those that the blocks name stay
abbrev pub sliced_rows : ℕ → List FormBlock → List AtomOf → List AtomOf
sliced_rows n bs [] = []
sliced_rows n bs (a ∷ rows) = row_if (names_blocks n bs) a ∷ sliced_rows (suc n) bs rows
