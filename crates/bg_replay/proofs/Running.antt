-- Runs of blocks are their executions.
use Rattle.std.proofs.Common.{◌≡◌, ℕ, zero, suc, Bool, true, false, List, [], ◌∷◌, length, Option, Some, None, refl}
use Rattle.std.specs.Prelude.{if◌then◌else◌, ◌==◌, slice_get, nat_lt, unwrap_or}
use Rattle.bg_ast.specs.Values.{Val, Num, Truth, Element, Default, Entry, truth_of}
use Rattle.bg_ast.specs.Syntax.{Guard, Star, Test, Decl, Prog}
use Rattle.bg_ast.specs.Execution as e
use Rattle.bg_ast.specs.Execution.{Choice, Branch, Chosen}
use Rattle.bg_sense.specs.Eval.{ev, functions_of}
use Rattle.bg_sense.specs.Flow as f
use Rattle.bg_sense.specs.Flow.{Answer, BadChoice, Flow, Jumps, Behind, and_then}
use Rattle.bg_sense.specs.Context.{Ctx, scope}
use Rattle.bg_sense.specs.Choices.{branch_from, decide}
use Rattle.bg_flow.specs.Core.{act_all}
use Rattle.bg_flow.specs.Blocks.{Block, Exit, Leap, Either, Table, at_table, enter, index, leave, table}
use Rattle.bg_scalar.specs.Worths as worths
use Rattle.bg_scalar.specs.Worths.{WorthOf, worth}
use Rattle.bg_scalar.specs.Values.{MeanTables}
use Rattle.bg_scalar.proofs.Agreeing as scalar
use Rattle.bg_replay.specs.Moments.{Moment, Around, Out, Goes, Over, Outside, Unknown, world_of, seen_at}
use Rattle.bg_replay.specs.Said.{Said, Fine, Stops, Leaves, Unsaid}
use Rattle.bg_replay.specs.Acts.{behind_one}
use Rattle.bg_replay.specs.Ways.{Way, On, Off, Beyond, Nowhere, branched, go_to, branch_to, test_to, decided, leaves, acts_each, enters, ran, runs}
use Rattle.bg_replay.proofs.Less.{is_some, some_at}
use Rattle.bg_replay.proofs.Agreeing.{Agrees, ctx, Declares}
use Rattle.bg_replay.proofs.Calling.{all_acts_agree}

-- where a block leads is where it leads in the execution, in front of these blocks
abbrev EnterIs : Table → Way → Flow → Type 0
EnterIs t (On k m) w = enter t index w ≡ at_table t k (world_of m)
EnterIs t (Off x) w = enter t index w ≡ x
EnterIs t (Beyond o) w = Unit {0}
EnterIs t Nowhere w = Unit {0}

-- the answer is this one, where one is known
abbrev pub RunIs : Said → Answer → Type 0
RunIs Fine y = Unit {0}
RunIs (Stops x) y = y ≡ x
RunIs (Leaves o) y = Unit {0}
RunIs Unsaid y = Unit {0}

module _ (t : Table) where
  here_or : (o : Option ℕ) (b : Bool) (d : ℕ) (m : Moment) → is_some o ≡ b → EnterIs t (go_to o m) (if b then Jumps (Behind (unwrap_or o d)) (world_of m) else f.Over BadChoice)
  here_or None true d m h = absurd cc
  here_or None false d m h = refl
  here_or (Some k) true d m h = refl
  here_or (Some k) false d m h = absurd cc

  branches : (cs : List Choice) (k : ℕ) (ks : List ℕ) (m : Moment) → EnterIs t (branch_to (branched cs) (k ∷ ks) (record m { choices = behind_one cs })) (branch_from cs (suc (length ks)) (world_of m) (λ j u. Jumps (Behind (unwrap_or (slice_get (k ∷ ks) j) k)) u))
  branches [] k ks m = refl
  branches (Branch j ∷ cs) k ks m =
      here_or (slice_get (k ∷ ks) j) (nat_lt j (suc (length ks))) k (record m { choices = cs }) (some_at (k ∷ ks) j)
  branches (Chosen x ∷ cs) k ks m = refl

  side_or : (j : ℕ) (b : Bool) (on off : ℕ) (m : Moment) → is_some (slice_get (on ∷ off ∷ []) j) ≡ b → EnterIs t (go_to (slice_get (on ∷ off ∷ []) j) m) (if b then (if j == 0 then Jumps (Behind on) (world_of m) else Jumps (Behind off) (world_of m)) else f.Over BadChoice)
  side_or zero true on off m h = refl
  side_or zero false on off m h = absurd cc
  side_or (suc zero) true on off m h = refl
  side_or (suc zero) false on off m h = absurd cc
  side_or (suc (suc j)) true on off m h = absurd cc
  side_or (suc (suc j)) false on off m h = refl

  sides : (cs : List Choice) (on off : ℕ) (m : Moment) → EnterIs t (branch_to (branched cs) (on ∷ off ∷ []) (record m { choices = behind_one cs })) (branch_from cs 2 (world_of m) (λ k u. if k == 0 then Jumps (Behind on) u else Jumps (Behind off) u))
  sides [] on off m = refl
  sides (Branch j ∷ cs) on off m =
      side_or j (nat_lt j 2) on off (record m { choices = cs }) (some_at (on ∷ off ∷ []) j)
  sides (Chosen x ∷ cs) on off m = refl

  tests : (o : WorthOf) (x : Val) (on off : ℕ) (m : Moment) → scalar.Agrees o x → EnterIs t (test_to o on off m) (if truth_of x then Jumps (Behind on) (world_of m) else Jumps (Behind off) (world_of m))
  tests (worths.Is (Truth true)) x on off m h = rw h refl
  tests (worths.Is (Truth false)) x on off m h = rw h refl
  tests (worths.Is (Num z)) x on off m h = tt
  tests (worths.Is (Element u z)) x on off m h = tt
  tests (worths.Is (Default d)) x on off m h = tt
  tests (worths.Is (Entry q u n)) x on off m h = tt
  tests (worths.Leaves o) x on off m h = tt
  tests worths.NoValue x on off m h = tt

module _ (p : Prog) (i : e.Interp) (number : ℕ) (ds : List Decl) (a : Around) (mean : MeanTables (functions_of p i) a.tables) where
  abbrev c : Ctx
  c = ctx p i number ds a

  decides : (t : Table) (g : Guard) (on off : ℕ) (m : Moment) → EnterIs t (decided a g on off m) (decide c g (world_of m) (Jumps (Behind on)) (Jumps (Behind off)))
  decides t Star on off m = sides t m.choices on off m
  decides t (Test x) on off m =
      tests t (worth x (seen_at a m)) (ev x (scope c (world_of m))) on off m (scalar.agrees (functions_of p i) i.constants x (seen_at a m) mean)

  leaving : (t : Table) (x : Exit) (m : Moment) → EnterIs t (leaves a x m) (leave c x (world_of m))
  leaving t (Leap []) m = refl
  leaving t (Leap (k ∷ [])) m = refl
  leaving t (Leap (k ∷ l ∷ ks)) m = branches t m.choices k (l ∷ ks) m
  leaving t (Either g on off) m = decides t g on off m

  -- a block is entered, and runs from there are known
  entered : (t : Table) (g : ℕ → Moment → Said) → ((k : ℕ) (u : Moment) → RunIs (g k u) (at_table t k (world_of u))) → (w : Way) (x : Flow) → EnterIs t w x → RunIs (enters w g) (enter t index x)
  entered t g ih (On k m) x h = rw h (ih k m)
  entered t g ih (Off y) x h = h
  entered t g ih (Beyond o) x h = tt
  entered t g ih Nowhere x h = tt

  ran_is : (t : Table) (g : ℕ → Moment → Said) → ((k : ℕ) (u : Moment) → RunIs (g k u) (at_table t k (world_of u))) → (x : Exit) (o : Out) (w : Flow) → Agrees o w → RunIs (ran o (λ n. enters (leaves a x n) g)) (enter t index (and_then w (leave c x)))
  ran_is t g ih x (Goes m) w h = rw h (entered t g ih (leaves a x m) (leave c x (world_of m)) (leaving t x m))
  ran_is t g ih x (Over y) w h = rw h refl
  ran_is t g ih x (Outside o) w h = tt
  ran_is t g ih x Unknown w h = tt

  pub runs_agree : Declares p i number ds a → (k : ℕ) (bs : List Block) (m : Moment) → RunIs (runs a k bs m) (at_table (table c [] bs) k (world_of m))
  runs_agree d k [] m = refl
  runs_agree d zero (b ∷ bs) m =
      ran_is (table c [] bs) (λ k u. runs a k bs u) (λ k u. runs_agree d k bs u) b.exit (acts_each a b.cmds m) (act_all c b.cmds (world_of m))
      (all_acts_agree p i number ds a mean d b.cmds m)
  runs_agree d (suc k) (b ∷ bs) m = runs_agree d k bs m
