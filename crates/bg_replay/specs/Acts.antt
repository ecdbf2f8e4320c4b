-- What commands do.
use Rattle.std.specs.Prelude.{if◌then◌else◌, List, [], ◌∷◌, ◌++◌, length, drop, Option, Some, None, slice_set}
use Rattle.bg_ast.specs.Values.{Ty, Val, is_of}
use Rattle.bg_ast.specs.Syntax.{Var, Global, Local, Exs}
use Rattle.bg_ast.specs.Execution.{Choice, Branch, Chosen}
use Rattle.bg_sense.specs.Types.{types_of}
use Rattle.bg_sense.specs.Flow.{Ended, BadChoice}
use Rattle.bg_flow.specs.Core.{Demand, Saying, Cmd, Check, Suppose, Forget, Put, Perform, Finish}
use Rattle.bg_scalar.specs.Lists.{Listed, Are, Leave, NoValues, worths}
use Rattle.bg_replay.specs.Holds.{variable_type}
use Rattle.bg_replay.specs.Moments.{Moment, Around, Out, Goes, Over, Outside, Unknown, and_so, seen_at}
use Rattle.bg_replay.specs.Said.{on_said, checks, supposes}

-- the value that is chosen next, where it is of this type
abbrev pub taken : Ty → List Choice → Option Val
taken t [] = None
taken t (Branch k ∷ cs) = None
taken t (Chosen x ∷ cs) = if is_of t x then Some x else None

abbrev pub behind_one : List Choice → List Choice
behind_one [] = []
behind_one (c ∷ cs) = cs

-- behind one choice
abbrev pub moved : Moment → Moment
moved m = record m { choices = behind_one m.choices }

abbrev pub choose_by : Option Val → Moment → (Val → Moment → Out) → Out
choose_by None m go_on = Over BadChoice
choose_by (Some x) m go_on = go_on x m

-- a value for a variable of this type
abbrev pub choose_for : Ty → Moment → (Val → Moment → Out) → Out
choose_for t m go_on = choose_by (taken t m.choices) (moved m) go_on

abbrev pub put : Var → Val → Moment → Moment
put (Global x) y m = record m { globals = slice_set m.globals x y }
put (Local x) y m = record m { frame = slice_set m.frame x y }

abbrev pub put_each : List Var → List Val → Moment → Moment
put_each [] ys m = m
put_each (x ∷ xs) [] m = m
put_each (x ∷ xs) (y ∷ ys) m = put_each xs ys (put x y m)

-- each variable gets a chosen value, in order
abbrev pub forgotten : Around → List Var → Moment → Out
forgotten a [] m = Goes m
forgotten a (x ∷ xs) m = choose_for (variable_type a x) m (λ y n. forgotten a xs (put x y n))

-- variables get these values, if there are some
abbrev pub assigned : Listed → List Var → Moment → Out
assigned (Are ys) xs m = Goes (put_each xs ys m)
assigned (Leave o) xs m = Outside o
assigned NoValues xs m = Unknown

abbrev pub cons_o : Option Val → Option (List Val) → Option (List Val)
cons_o None xs = None
cons_o (Some x) None = None
cons_o (Some x) (Some xs) = Some (x ∷ xs)

-- values that are chosen next, for variables of these types
abbrev pub chosen : List Ty → List Choice → Option (List Val)
chosen [] cs = Some []
chosen (t ∷ ts) cs = cons_o (taken t cs) (chosen ts (behind_one cs))

-- these in front
abbrev pub append_o : List Val → Option (List Val) → Option (List Val)
append_o xs None = None
append_o xs (Some ys) = Some (xs ++ ys)

-- behind these choices
abbrev pub skipped : List Val → Moment → Moment
skipped xs m = record m { choices = drop (length xs) m.choices }

-- the end of a call with these arguments, which began with these globals: the results are chosen
abbrev pub given_back : Option (List Val) → Around → List Val → List Val → List Saying → List Var → Moment → Out
given_back None a was args gives takes m = Over BadChoice
given_back (Some xs) a was args gives takes m =
    let t = skipped xs m in
    and_so (on_said (supposes a.set (record { tables = a.tables; globals = t.globals; before = was; frame = args ++ xs }) gives) t) (λ s. Goes (put_each takes xs s))

-- a call with these arguments, if they have values
abbrev pub called_with : Listed → Around → List Demand → List Var → List Ty → List Saying → List Var → Moment → Out
called_with (Are args) a needs modifies results gives takes m =
    and_so (on_said (checks a.set (record { tables = a.tables; globals = m.globals; before = m.globals; frame = args }) needs) m) (λ n.
    and_so (forgotten a modifies n) (λ u.
    given_back (chosen results u.choices) a n.globals args gives takes u))
called_with (Leave o) a needs modifies results gives takes m = Outside o
called_with NoValues a needs modifies results gives takes m = Unknown

-- a call
abbrev pub called : Around → Exs → List Demand → List Var → List Ty → List Saying → List Var → Moment → Out
called a args needs modifies results gives takes m = called_with (worths args (seen_at a m)) a needs modifies results gives takes m

-- a command
abbrev pub acts : Around → Cmd → Moment → Out
acts a (Check ds) m = on_said (checks a.set (seen_at a m) ds) m
acts a (Suppose ds) m = on_said (supposes a.set (seen_at a m) ds) m
acts a (Forget xs) m = forgotten a xs m
acts a (Put xs es) m = assigned (worths es (seen_at a m)) xs m
acts a (Perform k) m = called a k.args k.needs k.modifies (types_of k.results) k.gives k.takes m
acts a Finish m = Over Ended
