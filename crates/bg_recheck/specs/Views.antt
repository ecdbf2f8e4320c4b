-- Why nothing is answered, by the code's reasons.
use Rattle.std.specs.Prelude.{List, ℕ, false}
use Rattle.bg_ast.specs.Resolved.{Program}
use Rattle.bg_front.specs.Programs.{IsProgramOf, IsRefusedBy}
use Rattle.bg_front.specs.Refusals.{refusal_of}
use Rattle.bg_recheck.specs.declared.answer.Why.{Why}
use Rattle.bg_recheck.specs.declared.answer.Why.TheVariants as why
use Rattle.bg_recheck.specs.Refusals.{OtherVersion, BadLine, IsCertRefusedBy}

abbrev pub Spells : List ℕ → Type 0
Spells bytes = (p : Program) × IsProgramOf false bytes p

-- the program's text is refused; or it spells a program, and the certificate's text is refused
abbrev pub IsWhy : List ℕ → List ℕ → Why → Type 0
IsWhy bytes certificate (why.Program r) = IsRefusedBy false bytes (refusal_of r)
IsWhy bytes certificate why.Version = Spells bytes × IsCertRefusedBy certificate OtherVersion
IsWhy bytes certificate (why.BadLine n) = Spells bytes × IsCertRefusedBy certificate (BadLine n)
IsWhy bytes certificate why.Memory = Unit {0}
