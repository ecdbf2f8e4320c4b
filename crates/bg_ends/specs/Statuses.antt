-- What the statuses stand for.
use Rattle.std.specs.Prelude.{ℕ, Bool, true, false, if◌then◌else◌}
use Rattle.bg_front.specs.Refusals.{Refusal, is_limit}
use Rattle.bg_ends.specs.declared.status.Status.{Status}
use Rattle.bg_ends.specs.declared.status.Status.TheVariants as status

-- the status of the process
abbrev pub number_of : Status → ℕ
number_of status.Verified = 0
number_of status.Refuted = 1
number_of status.Unknown = 2
number_of status.Text = 3
number_of status.Usage = 4
number_of status.Read = 5
number_of status.Write = 6
number_of status.Memory = 7
number_of status.Limit = 8

-- the status that a refusal of a text gives
abbrev pub refusal_status : Refusal → Status
refusal_status r = if is_limit r then status.Limit else status.Text

-- whether the status says that a report was written, or a program with its annotations
abbrev pub is_report : Status → Bool
is_report status.Verified = true
is_report status.Refuted = true
is_report status.Unknown = true
is_report _ = false

-- whether the status says that the text is refused
abbrev pub is_refused : Status → Bool
is_refused status.Text = true
is_refused status.Limit = true
is_refused _ = false

-- whether the status says that a line was written to the error sink
abbrev pub is_refusal : Status → Bool
is_refusal status.Text = true
is_refusal status.Usage = true
is_refusal status.Read = true
is_refusal status.Limit = true
is_refusal _ = false
