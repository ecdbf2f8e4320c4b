-- A report that is true of what the files hold.
use Rattle.std.specs.Prelude.{◌≡◌, ℕ, Bool, false, List, [], ◌++◌}
use Rattle.bg_text.specs.Tokens.{Tok}
use Rattle.bg_ast.specs.Resolved.{Program}
use Rattle.bg_typed.specs.Rules.{KeepsTypes}
use Rattle.bg_guess.specs.Guessed.{guessed}
use Rattle.bg_front.specs.Programs.{IsMeaningOf}
use Rattle.bg_sound.specs.Report.{IsTrueReport}
use Rattle.bg_told.specs.Report.{result_text}
use Rattle.bg_ends.specs.declared.status.Status.{Status}
use Rattle.bg_ends.specs.Statuses.{number_of}

-- the bytes spell this program, which keeps the rules of types
pub record Spells (bytes : List ℕ) (program : Program) : Type 0 where
  pub tokens : List Tok
  pub spelled : IsMeaningOf bytes tokens program
  pub typed : KeepsTypes program

-- it is a program that the bytes spell, with its guesses
pub record SpellsGuessed (bytes : List ℕ) (program : Program) : Type 0 where
  pub written : Program
  pub spells : Spells bytes written
  pub is : program ≡ guessed written

-- the text begins with a report that tells what is true of the program that bytes spell in this sense, and the status is that of what it
-- tells; behind the report there is nothing where no history is asked for
pub record IsTrueText (spells : List ℕ → Program → Type 0) (history : Bool) (bytes : List ℕ) (ends : Status) (text : List ℕ) : Type 0 where
  pub front : List ℕ
  pub report : IsTrueReport spells result_text bytes front (number_of ends)
  pub behind : List ℕ
  pub is : text ≡ front ++ behind
  pub none : history ≡ false → behind ≡ []
