-- Facts for one error of a read.
use Rattle.std.specs.Prelude.{ℕ, Result, Ok, Err}
use Rattle.bg_io.specs.declared.errors.ReadError.{ReadError}
use Rattle.bg_io.specs.declared.errors.ReadError.TheVariants.{ReadFault, TooLong, Memory}

-- the fact for the file of a read fault
abbrev pub IfReadFault : {T : Type 0} → Result T ReadError → (ℕ → Type 0) → Type 0
IfReadFault (Err (ReadFault file)) P = P file
IfReadFault (Err (TooLong bytes)) P = Unit {0}
IfReadFault (Err Memory) P = Unit {0}
IfReadFault (Ok v) P = Unit {0}

-- the fact for the bytes of a text that is too long
abbrev pub IfTooLong : {T : Type 0} → Result T ReadError → (ℕ → Type 0) → Type 0
IfTooLong (Err (TooLong bytes)) P = P bytes
IfTooLong (Err (ReadFault file)) P = Unit {0}
IfTooLong (Err Memory) P = Unit {0}
IfTooLong (Ok v) P = Unit {0}
