-- Where an execution has a choice, it takes the next one that it was given.
use Rattle.std.specs.Prelude.{ℕ, if◌then◌else◌, List, [], ◌∷◌, nat_lt, ◌==◌}
use Rattle.bg_ast.specs.Values.{Ty, Val, is_of, truth_of}
use Rattle.bg_ast.specs.Syntax.{Var, Guard, Test, Star, Decl}
use Rattle.bg_ast.specs.Execution.{Chosen, Choice, Branch}
use Rattle.bg_sense.specs.Eval.{ev}
use Rattle.bg_sense.specs.Flow.{World, BadChoice, Over, Next, Flow}
use Rattle.bg_sense.specs.Context.{Ctx, scope}
use Rattle.bg_sense.specs.Variables.{put, type_in, decl_of}

-- a value of this type is chosen
abbrev pub choose_from : List Choice → Ty → World → (Val → World → Flow) → Flow
choose_from [] t w go_on = Over BadChoice
choose_from (Branch n ∷ cs) t w go_on = Over BadChoice
choose_from (Chosen v ∷ cs) t w go_on = if is_of t v then go_on v (record w { choices = cs }) else Over BadChoice

-- a value of this type is chosen
abbrev pub choose : Ty → World → (Val → World → Flow) → Flow
choose t w go_on = choose_from w.choices t w go_on

-- one of so many branches is chosen
abbrev pub branch_from : List Choice → ℕ → World → (ℕ → World → Flow) → Flow
branch_from [] n w go_on = Over BadChoice
branch_from (Chosen v ∷ cs) n w go_on = Over BadChoice
branch_from (Branch k ∷ cs) n w go_on = if nat_lt k n then go_on k (record w { choices = cs }) else Over BadChoice

-- one of so many branches is chosen
abbrev pub branch : ℕ → World → (ℕ → World → Flow) → Flow
branch n w go_on = branch_from w.choices n w go_on

-- each variable gets a chosen value, in order
abbrev pub forget_all : Ctx → List Var → World → Flow
forget_all c [] w = Next w
forget_all c (x ∷ xs) w = choose (type_in (decl_of c x)) w (λ v u. forget_all c xs (put x v u))

-- values of these types are chosen, in order
abbrev pub choose_all : List Decl → World → (List Val → World → Flow) → Flow
choose_all [] w go_on = go_on [] w
choose_all (d ∷ ds) w go_on = choose d.ty w (λ v u. choose_all ds u (λ vs x. go_on (v ∷ vs) x))

-- a guard decides between two ways: a free choice takes branch 0 or 1, a test its value
abbrev pub decide : Ctx → Guard → World → (World → Flow) → (World → Flow) → Flow
decide c Star w on off = branch 2 w (λ k u. if k == 0 then on u else off u)
decide c (Test e) w on off = if truth_of (ev e (scope c w)) then on w else off w
