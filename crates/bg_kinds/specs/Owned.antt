-- How the faults that are answered are read.
use Rattle.std.specs.Prelude.{Option}
use Rattle.bg_text.specs.Views.{id_of, option_of}
use Rattle.bg_kinds.specs.declared.answers.WantedType.{WantedType}
use Rattle.bg_kinds.specs.declared.answers.WantedType.TheVariants as wanted
use Rattle.bg_kinds.specs.declared.answers.Fault.{Fault}
use Rattle.bg_kinds.specs.declared.answers.Fault.TheVariants as fault
use Rattle.bg_kinds.specs.Faults as f
use Rattle.bg_kinds.specs.Views.{ref_in}

abbrev pub wanted_type_of : WantedType → f.Wanted
wanted_type_of wanted.SomeMap = f.SomeMap
wanted_type_of (wanted.Wants t) = f.Wants (ref_in t)

abbrev pub answered : Fault → f.Fault
answered (fault.CyclicSynonym name) = f.CyclicSynonym (id_of name)
answered (fault.MapIndex p) = f.MapIndex p
answered (fault.Arity p) = f.Arity p
answered (fault.Mismatch p w t) = f.Mismatch p (wanted_type_of w) (ref_in t)
answered (fault.Nonlinear p) = f.Nonlinear p

abbrev pub answer_of : Option Fault → Option f.Fault
answer_of o = option_of answered o
