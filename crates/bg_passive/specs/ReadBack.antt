-- The choices of an execution, read off the values of incarnations along a walk through passive blocks.
use Rattle.std.specs.Prelude.{ℕ, suc, List, [], ◌∷◌, ◌++◌, Option, Some, None, slice_get}
use Rattle.bg_ast.specs.Values.{Val}
use Rattle.bg_ast.specs.Syntax.{Var, Star, Test, Decl}
use Rattle.bg_sense.specs.Eval.{value_at}
use Rattle.bg_ast.specs.Execution.{Choice, Branch, Chosen}
use Rattle.bg_flow.specs.Core.{Cmd, Forget, Perform}
use Rattle.bg_flow.specs.Blocks.{Exit, Leap, Either, Block}
use Rattle.bg_passive.specs.Incarnations.{Env, after_vars, after_exs, pass, Arrival, targets_of}

abbrev pub vars_choices : List Var → ℕ → List Val → List Choice
vars_choices [] n values = []
vars_choices (x ∷ xs) n values = Chosen (value_at values n) ∷ vars_choices xs (suc n) values

abbrev pub decls_choices : List Decl → ℕ → List Val → List Choice
decls_choices [] n values = []
decls_choices (d ∷ ds) n values = Chosen (value_at values n) ∷ decls_choices ds (suc n) values

-- what a command chooses, where its incarnations begin at n
abbrev pub cmd_choices : Cmd → ℕ → List Val → List Choice
cmd_choices (Forget xs) n values = vars_choices xs n values
cmd_choices (Perform k) n values =
    vars_choices k.modifies (after_exs k.args n) values
    ++ decls_choices k.results (after_vars k.modifies (after_exs k.args n)) values
cmd_choices _ n values = []

abbrev pub cmds_choices : List Cmd → Env → ℕ → List Val → List Choice
cmds_choices [] v n values = []
cmds_choices (k ∷ ks) v n values = cmd_choices k n values ++ cmds_choices ks (pass k v n).env (pass k v n).next values

-- the branch, where the exit has a choice
abbrev pub exit_choices : Exit → ℕ → List Choice
exit_choices (Leap []) j = []
exit_choices (Leap (k ∷ [])) j = []
exit_choices (Leap (k ∷ l ∷ ks)) j = Branch j ∷ []
exit_choices (Either Star on off) j = Branch j ∷ []
exit_choices (Either (Test e) on off) j = []

abbrev pub choices_at : Option (List ℕ → List Choice) → List ℕ → List Choice
choices_at None walk = []
choices_at (Some f) walk = f walk

abbrev pub choices_to : List (List ℕ → List Choice) → Option ℕ → List ℕ → List Choice
choices_to later None walk = []
choices_to later (Some k) walk = choices_at (slice_get later k) walk

abbrev pub follow_choices : List (List ℕ → List Choice) → Exit → List ℕ → List Choice
follow_choices later x [] = []
follow_choices later x (j ∷ walk) = exit_choices x j ++ choices_to later (slice_get (targets_of x) j) walk

-- from each block on
abbrev pub walk_choices : List Val → List Arrival → List Block → List (List ℕ → List Choice)
walk_choices values later [] = []
walk_choices values [] (b ∷ bs) = []
walk_choices values (a ∷ later) (b ∷ bs) =
    let behind = walk_choices values later bs in
    (λ walk. cmds_choices b.cmds a.env a.next values ++ follow_choices behind b.exit walk) ∷ behind
