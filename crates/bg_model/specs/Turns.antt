-- Where a failing walk through blocks of forms goes from each of them, and the choices along it.
use Rattle.std.specs.Prelude.{ℕ, zero, suc, ◌+◌, Bool, true, false, if◌then◌else◌, List, [], ◌∷◌, ◌++◌, length, take, drop, Option, Some, None, slice_get}
use Rattle.bg_ast.specs.Values.{Val}
use Rattle.bg_ast.specs.Execution.{Choice}
use Rattle.bg_flow.specs.Core.{Cmd, Check, Suppose, Forget, Put, Perform, Finish}
use Rattle.bg_flow.specs.Blocks.{Exit, Block}
use Rattle.bg_passive.specs.Passive.{Walked, On, Stopped, Hit}
use Rattle.bg_passive.specs.Incarnations.{after_exs, after_vars, after_decls, targets_of}
use Rattle.bg_passive.specs.ReadBack.{cmd_choices, exit_choices}
use Rattle.bg_incarnate.specs.Even.{how_many}
use Rattle.bg_formed.specs.Formed.{FormCmd, FormEdge, FormBlock}
use Rattle.bg_model.specs.declared.turn.Turn.{Turn}
use Rattle.bg_model.specs.declared.turn.Turn.TheVariants.{Well, Ends, Leads}
use Rattle.bg_model.specs.Fronts.{if_on}

-- ---- where failing walks go

-- whether some walk fails from the block with this turn, if it is there
abbrev pub fails : Option Turn → Bool
fails None = false
fails (Some Well) = false
fails (Some Ends) = true
fails (Some (Leads j)) = true

abbrev pub fails_by : Walked → Bool → Bool
fails_by On behind = behind
fails_by Stopped behind = false
fails_by Hit behind = true

-- an edge fails where what is supposed on it holds and the later block fails
abbrev pub edge_fails : (List FormCmd → Walked) → List Turn → FormEdge → Bool
edge_fails walked later e = fails_by (walked e.cmds) (fails (slice_get later e.to))

-- the lowest edge that fails, where they are numbered from j on
abbrev pub lowest : (List FormCmd → Walked) → List Turn → ℕ → List FormEdge → Turn
lowest walked later j [] = Well
lowest walked later j (e ∷ es) = if edge_fails walked later e then Leads j else lowest walked later (suc j) es

abbrev pub turn_by : Walked → Turn → Turn
turn_by On behind = behind
turn_by Stopped behind = Well
turn_by Hit behind = Ends

abbrev pub turn_at : (List FormCmd → Walked) → List Turn → FormBlock → Turn
turn_at walked later b = turn_by (walked b.cmds) (lowest walked later 0 b.next)

-- the turns of blocks in front of those with these turns
abbrev pub turns_onto : (List FormCmd → Walked) → List FormBlock → List Turn → List Turn
turns_onto walked [] later = later
turns_onto walked (b ∷ bs) later = let behind = turns_onto walked bs later in turn_at walked behind b ∷ behind

abbrev pub turns : (List FormCmd → Walked) → List FormBlock → List Turn
turns walked bs = turns_onto walked bs []

-- ---- choices, by what the code has at hand

-- how many passive commands a command makes, and so how many of forms
abbrev pub width : Cmd → ℕ
width (Check ds) = length ds
width (Suppose ds) = length ds
width (Forget xs) = 0
width (Put xs es) = how_many es
width (Perform k) = how_many k.args + (length k.needs + length k.gives)
width Finish = 1

-- the next new incarnation behind a command
abbrev pub next_after : Cmd → ℕ → ℕ
next_after (Forget xs) n = after_vars xs n
next_after (Put xs es) n = after_exs es n
next_after (Perform k) n = after_decls k.results (after_vars k.modifies (after_exs k.args n))
next_after _ n = n

-- the choices of commands up to the one that fails, where these are their commands of forms
abbrev pub front_of : (List FormCmd → Walked) → List Val → List Cmd → List FormCmd → ℕ → List Choice → List Choice
front_of walked vs [] ps n rest = rest
front_of walked vs (k ∷ ks) ps n rest =
    if_on (walked (take (width k) ps)) (cmd_choices k n vs ++ front_of walked vs ks (drop (width k) ps) (next_after k n) rest)

-- by its turn, the choices at the end of a block and those behind it
abbrev pub choices_on : Option ℕ → (ℕ → List Choice) → List Choice
choices_on None behind = []
choices_on (Some k) behind = behind k

abbrev pub turn_choices : Turn → Exit → (ℕ → List Choice) → List Choice
turn_choices (Leads j) x behind = exit_choices x j ++ choices_on (slice_get (targets_of x) j) behind
turn_choices _ x behind = []

-- the choices from the block on that is so far ahead, where these are the blocks of forms, their first incarnations
-- and their turns
abbrev pub taken : (List FormCmd → Walked) → List Val → List Block → List FormBlock → List ℕ → List Turn → ℕ → List Choice
taken walked vs [] qs ns ts k = []
taken walked vs (b ∷ bs) [] ns ts k = []
taken walked vs (b ∷ bs) (q ∷ qs) [] ts k = []
taken walked vs (b ∷ bs) (q ∷ qs) (n ∷ ns) [] k = []
taken walked vs (b ∷ bs) (q ∷ qs) (n ∷ ns) (t ∷ ts) (suc k) = taken walked vs bs qs ns ts k
taken walked vs (b ∷ bs) (q ∷ qs) (n ∷ ns) (t ∷ ts) zero =
    front_of walked vs b.cmds q.cmds n (turn_choices t b.exit (taken walked vs bs qs ns ts))
