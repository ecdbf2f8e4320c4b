-- Calls that are counted, and that fail when they are told to.
use Rattle.std.specs.Prelude.{◌≡◌, ℕ, Contains, Result, is_ok, if◌then◌else◌, Vec}
use Rattle.std.specs.declared.alloc.Global.{Global}
use Rattle.bg_io.specs.declared.calls.Calls.{Calls}
use Rattle.bg_io.specs.Causes.{raised}

-- before the first call, where these are to fail
abbrev pub first_call : Vec ℕ Global → Calls
first_call fails = record { fails = fails; made = 0; faults = 0 }

-- the next call is one of those that are to fail
abbrev pub IsToFail : Calls → Type 0
IsToFail calls = Contains calls.fails.items (raised calls.made 1)

-- one call was counted, and its fault where it failed
abbrev pub IsCounted : {T E : Type 0} → Calls → Calls → Result T E → Type 0
IsCounted old new result = new ≡ record old { made = raised old.made 1; faults = if is_ok result then old.faults else raised old.faults 1 }
