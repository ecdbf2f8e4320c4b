-- Faults, as the code answers them.
use Rattle.std.specs.Prelude.{ℕ, List}
use Rattle.bg_lex.specs.declared.error.Fault.{Fault}
use Rattle.bg_lex.specs.declared.error.Fault.TheVariants as faults
use Rattle.bg_lex.specs.declared.error.LexError.{LexError}
use Rattle.bg_lex.specs.declared.error.LexError.TheVariants as errors
use Rattle.bg_text.specs.Text as text

-- the fault that the code's answer stands for
abbrev pub fault_of : Fault → text.Fault
fault_of faults.BadByte = text.BadByte
fault_of faults.OpenComment = text.OpenComment
fault_of faults.NumberTooBig = text.NumberTooBig
fault_of (faults.Unsupported name) = text.Unsupported name.now

-- the text is refused there, with that fault, unless memory ran out
abbrev pub IsRefusal : List ℕ → LexError → Type 0
IsRefusal bytes (errors.Refused at fault) = text.Refused bytes at (fault_of fault)
IsRefusal bytes errors.Memory = Unit {0}
