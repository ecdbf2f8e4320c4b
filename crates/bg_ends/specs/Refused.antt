-- Refusals, and their lines.
use Rattle.std.specs.Prelude.{◌≡◌, ◌+◌, ℕ, Bool, List, ◌++◌, Option, Some, codes, slice_get}
use Rattle.bg_io.specs.Causes.{joined, counted, IsTextOf}
use Rattle.bg_front.specs.Programs.{IsRefusedBy}
use Rattle.bg_front.specs.Refusals.{Refusal}
use Rattle.bg_front.specs.Lines.{line_of}
use Rattle.bg_ends.specs.declared.status.Status.{Status}
use Rattle.bg_ends.specs.Statuses.{refusal_status}

-- the bytes are refused for a reason that gives the status, and its line was written, whole
pub record RefusedFor (guess : Bool) (bytes : List ℕ) (ends : Status) (before now : Option (List ℕ)) : Type 0 where
  pub reason : Refusal
  pub refused : IsRefusedBy guess bytes reason
  pub gives : ends ≡ refusal_status reason
  pub written : now ≡ joined before (line_of reason)

-- the text of these files is refused for a reason that gives the status, and its line was written, whole
pub record Refuses (guess : Bool) (contents : Option (List ℕ → List ℕ)) (names : List (List ℕ)) (ends : Status) (before now : Option (List ℕ)) : Type 0 where
  pub bytes : List ℕ
  pub read : IsTextOf contents names bytes
  pub refused : RefusedFor guess bytes ends before now

-- the line that says how the words go
abbrev pub usage_line : List ℕ
usage_line = codes "usage: bg verify|annotate|certify|check|generate|bench ..\n"

-- the line names the file with the number of the last start, counted from 0
pub record NamesFile (names : List (List ℕ)) (starts started : Option ℕ) (before now : Option (List ℕ)) : Type 0 where
  pub number : ℕ
  pub name : List ℕ
  pub there : slice_get names number ≡ Some name
  pub is : started ≡ counted starts (number + 1)
  pub written : now ≡ joined before (codes "error: cannot read " ++ name ++ codes "\n")
