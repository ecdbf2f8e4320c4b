-- How the code's values of variables, tables and worths are read.
use Rattle.std.specs.Prelude.{Bool, List, map, Option, Some, None, Vec}
use Rattle.std.specs.Borrow.{Bor}
use Rattle.std.specs.declared.alloc.Global.{Global}
use Rattle.bg_ast.specs.Values.{Val, Truth, Table}
use Rattle.bg_scalar.specs.Worths.{Seen, WorthOf, Is, Leaves, NoValue}
use Rattle.bg_scalar.specs.Values.{value_of}
use Rattle.bg_scalar.specs.declared.value.Value.{Value}
use Rattle.bg_scalar.specs.declared.held.Found.{Found}
use Rattle.bg_scalar.specs.declared.held.Found.TheVariants as found
use Rattle.bg_scalar.specs.declared.held.Lent.{Lent}
use Rattle.bg_scalar.specs.declared.held.Lent.TheVariants as lent
use Rattle.bg_scalar.specs.declared.held.Worth.{Worth}
use Rattle.bg_scalar.specs.declared.held.Worth.TheVariants as worth
use Rattle.bg_scalar.specs.declared.table.Table as code
use Rattle.bg_scalar.specs.declared.eval.Sight.{Sight}

abbrev pub vals_in : List Value → List Val
vals_in xs = map value_of xs

abbrev pub entry_in : Vec Value Global × Value → List Val × Val
entry_in e = (vals_in e.0.items, value_of e.1)

-- the entries, in the order of their keys
abbrev pub table_in : code.Table → Table
table_in t = record { entries = map entry_in t.entries.entries; default = value_of t.default }

abbrev pub tables_in : List code.Table → List Table
tables_in ts = map table_in ts

abbrev pub seen_of : Sight → Seen
seen_of s =
    record {
      tables = tables_in s.tables.now;
      globals = vals_in s.globals.now;
      before = vals_in s.before.now;
      frame = vals_in s.frame.now;
    }

abbrev pub found_in : Found → WorthOf
found_in (found.Is v) = Is (value_of v.now)
found_in (found.Leaves o) = Leaves o
found_in found.NoValue = NoValue

abbrev pub lent_in : Lent → Val
lent_in (lent.Kept v) = value_of v.now
lent_in (lent.Made v) = value_of v

abbrev pub worth_in : Worth → WorthOf
worth_in (worth.Is x) = Is (lent_in x)
worth_in (worth.Leaves o) = Leaves o
worth_in worth.NoValue = NoValue

-- a premise, if there is one
abbrev pub premise_in : Option Worth → Option WorthOf
premise_in None = None
premise_in (Some p) = Some (worth_in p)

-- a value that is lent, if there is one
abbrev pub lent_at : Option (Bor Value) → Option Val
lent_at None = None
lent_at (Some x) = Some (value_of x.now)

-- a truth value, if it is one
abbrev pub truth_in : Val → Option Bool
truth_in (Truth b) = Some b
truth_in _ = None
