-- What a report tells, as data: words, places and values, with nothing of how they were found.
use Rattle.std.specs.Prelude.{ℕ, Bool, true, false, not, List, Option, Some, None, is_none, slice_get, if◌then◌else◌, ◌||◌}
use Rattle.std.specs.List.{list_any, list_all}
use Rattle.bg_base.specs.declared.exact.OutOfRange.{OutOfRange}
use Rattle.bg_ast.specs.Values.{Ty}
use Rattle.bg_ast.specs.Execution.{Interp, State, Choice}
use Rattle.bg_places.specs.Placed.{Placed}

-- why something is left unknown: a budget that is used up, or an operation that leaves the range
pub data Why : Type 0 where
  Nodes : ℕ → Why
  Rows : ℕ → Why
  Range : OutOfRange → Why

-- of the axioms
pub data Axioms : Type 0 where
  Consistent : Axioms
  Contradictory : Axioms
  Undecided : Why → Axioms

-- of a candidate; `Unchecked` is retained and has no place
pub data Fate : Type 0 where
  Retained : Fate
  Unchecked : Fate
  Dropped : Fate
  DroppedFor : Why → Fate

-- of a place; a refuted one with the printed counterexample, and the types of its choices
pub data Verdict : Type 0 where
  Proved : Verdict
  Refuted : Interp → State → List Ty → List Choice → Verdict
  Unknown : Why → Verdict

pub record Judged : Type 0 where
  pub placed : Placed
  pub verdict : Verdict

-- of a program: its candidates by number, whether the retained set is called greatest, and the ordinary places by implementation
pub record Outcome : Type 0 where
  pub axioms : Axioms
  pub fates : List Fate
  pub is_greatest : Bool
  pub implementations : List (List Judged)

-- ---- the retained candidates

abbrev pub is_kept_by : Fate → Bool
is_kept_by Retained = true
is_kept_by Unchecked = true
is_kept_by Dropped = false
is_kept_by (DroppedFor why) = false

abbrev pub is_kept_at : Option Fate → Bool
is_kept_at (Some fate) = is_kept_by fate
is_kept_at None = false

abbrev pub retained : Outcome → ℕ → Bool
retained o b = is_kept_at (slice_get o.fates b)

-- ---- words

abbrev pub placed_at : Judged → Placed
placed_at j = j.placed

-- a place is ordinary where no candidate guards its clause
abbrev pub is_ordinary : Placed → Bool
is_ordinary a = is_none a.place.candidate

abbrev pub is_proved : Verdict → Bool
is_proved Proved = true
is_proved _ = false

abbrev pub is_refuted : Verdict → Bool
is_refuted (Refuted i s ts choices) = true
is_refuted _ = false

abbrev pub is_unknown : Verdict → Bool
is_unknown (Unknown why) = true
is_unknown _ = false

pub data Word : Type 0 where
  AllProved : Word
  SomeRefuted : Word
  SomeUnknown : Word

-- refuted where a place is refuted, else unknown where one is unknown, else verified
abbrev pub word_of : List Judged → Word
word_of js =
    if list_any (λ j. is_refuted j.verdict) js then SomeRefuted
    else if list_any (λ j. is_unknown j.verdict) js then SomeUnknown
    else AllProved

-- nothing is left unknown at a place
abbrev pub are_settled : List (List Judged) → Bool
are_settled os = list_all (λ js. list_all (λ j. not (is_unknown j.verdict)) js) os

-- ---- the status

abbrev pub is_contradictory : Axioms → Bool
is_contradictory Contradictory = true
is_contradictory _ = false

abbrev pub is_undecided : Axioms → Bool
is_undecided (Undecided why) = true
is_undecided _ = false

abbrev pub has_refuted : List Judged → Bool
has_refuted js = list_any (λ j. is_refuted j.verdict) js

abbrev pub has_unknown : List Judged → Bool
has_unknown js = list_any (λ j. is_unknown j.verdict) js

-- 1 where the axioms are contradictory or a place is refuted, else 2 where they are undecided or a place is unknown, else 0
abbrev pub status_of : Outcome → ℕ
status_of o =
    if is_contradictory o.axioms || list_any has_refuted o.implementations then 1
    else if is_undecided o.axioms || list_any has_unknown o.implementations then 2
    else 0
