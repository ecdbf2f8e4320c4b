-- How the code's values are read.
use Rattle.std.specs.Prelude.{ℕ, Bool, false, List, map, Option, Some, None, Vec, slice_get, unwrap_or}
use Rattle.std.specs.declared.alloc.Global.{Global}
use Rattle.bg_kinds.specs.Views.{ref_in}
use Rattle.bg_places.specs.Views.{spot_of}
use Rattle.bg_sense.specs.Flow.{Ended, Blocked, Failed, BadChoice}
use Rattle.bg_ast.specs.Values.{Val}
use Rattle.bg_scalar.specs.Choices.{choice_of}
use Rattle.bg_scalar.specs.Views.{tables_in, vals_in}
use Rattle.bg_scalar.specs.declared.value.Value.{Value}
use Rattle.bg_replay.specs.Moments.{Moment, Around}
use Rattle.bg_replay.specs.Said.{Said, Fine, Stops, Leaves, Unsaid}
use Rattle.bg_replay.specs.Ways.{Way, On, Off, Beyond, Nowhere}
use Rattle.bg_replay.specs.declared.moment.Moment as code
use Rattle.bg_replay.specs.declared.moment.Around as code_around
use Rattle.bg_replay.specs.declared.ending.Ending.{Ending}
use Rattle.bg_replay.specs.declared.ending.Ending.TheVariants as ending
use Rattle.bg_replay.specs.declared.ending.Step.{Step}
use Rattle.bg_replay.specs.declared.ending.Step.TheVariants as step
use Rattle.bg_replay.specs.declared.ending.Way as code_way
use Rattle.bg_replay.specs.declared.ending.Way.TheVariants as way

abbrev pub moment_of : code.Moment → Moment
moment_of m =
    record { globals = vals_in m.globals.items; frame = vals_in m.frame.items; choices = map choice_of m.left.now }

-- the candidates that are there; one without an entry isn't
abbrev pub set_of : List Bool → ℕ → Bool
set_of bs b = unwrap_or (slice_get bs b) false

abbrev pub around_of : code_around.Around → Around
around_of a =
    record {
      set = set_of a.set.now;
      tables = tables_in a.tables.now;
      before = vals_in a.before.now;
      globals = map ref_in a.globals.now;
      frame = map ref_in a.frame.now;
    }

abbrev pub said_by : Ending → Said
said_by ending.Ended = Stops Ended
said_by ending.Blocked = Stops Blocked
said_by (ending.Failed s) = Stops (Failed (spot_of s))
said_by ending.BadChoice = Stops BadChoice
said_by (ending.OutOfRange o) = Leaves o
said_by ending.NoValues = Unsaid

abbrev pub said_of : Step → Said
said_of step.Goes = Fine
said_of (step.Over e) = said_by e

abbrev pub off_way : Said → Way
off_way Fine = Nowhere
off_way (Stops a) = Off a
off_way (Leaves o) = Beyond o
off_way Unsaid = Nowhere

abbrev pub way_of : code_way.Way → Moment → Way
way_of (way.To k) m = On k m
way_of (way.Over e) m = off_way (said_by e)

abbrev pub items_of : Option (Vec Value Global) → Option (List Val)
items_of None = None
items_of (Some xs) = Some (vals_in xs.items)
