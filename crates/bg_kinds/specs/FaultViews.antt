-- How the code's faults are read.
use Rattle.std.specs.Prelude.{Option}
use Rattle.bg_text.specs.Views.{option_of}
use Rattle.bg_kinds.specs.declared.faults.Wanted.{Wanted}
use Rattle.bg_kinds.specs.declared.faults.Wanted.TheVariants as wanted
use Rattle.bg_kinds.specs.declared.faults.Found.{Found}
use Rattle.bg_kinds.specs.declared.faults.Found.TheVariants as found
use Rattle.bg_kinds.specs.Faults as f
use Rattle.bg_kinds.specs.Views.{ref_of}

abbrev pub wanted_of : Wanted → f.Wanted
wanted_of wanted.SomeMap = f.SomeMap
wanted_of (wanted.Wants t) = f.Wants (ref_of t)

abbrev pub fault_of : Found → f.Fault
fault_of (found.MapIndex p) = f.MapIndex p
fault_of (found.Arity p) = f.Arity p
fault_of (found.Mismatch p w t) = f.Mismatch p (wanted_of w) (ref_of t)
fault_of (found.Nonlinear p) = f.Nonlinear p

abbrev pub best_of : Option Found → Option f.Fault
best_of best = option_of fault_of best
