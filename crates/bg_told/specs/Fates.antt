-- How the code finds what became of each candidate.
use Rattle.std.specs.Prelude.{ℕ, Bool, false, not, ◌==◌, if◌then◌else◌, List, Option, Some, None, get_or, count_by}
use Rattle.std.specs.Borrow.{Bor}
use Rattle.std.specs.List.{list_any}
use Rattle.bg_text.specs.Views.{option_of}
use Rattle.bg_ast.specs.Views.{candidate_of}
use Rattle.bg_places.specs.declared.place.Place.{Place}
use Rattle.bg_rounds.specs.declared.keeper.Removal.{Removal}
use Rattle.bg_sound.specs.Told as t
use Rattle.bg_check.specs.Kept.{told_kept}
use Rattle.bg_houdini.specs.declared.reason.Reason.{Reason}
use Rattle.bg_houdini.specs.Told.{is_candidate, earlier}
use Rattle.bg_told.specs.declared.fates.Fate.{Fate}
use Rattle.bg_told.specs.declared.fates.Fate.TheVariants.{Retained, Unchecked, Dropped, DroppedFor}

abbrev pub told_fate : Fate → t.Fate
told_fate Retained = t.Retained
told_fate Unchecked = t.Unchecked
told_fate Dropped = t.Dropped
told_fate (DroppedFor kept) = t.DroppedFor (told_kept kept)

-- whether the place has the candidate
abbrev pub is_of : ℕ → Place → Bool
is_of b place = is_candidate b (option_of candidate_of place.candidate)

-- whether one of these places has the candidate
abbrev pub has_place : ℕ → List Place → Bool
has_place b places = list_any (is_of b) places

-- the truth value with this number; false where there is none
abbrev pub truth_at : List Bool → ℕ → Bool
truth_at bs b = get_or bs b false

abbrev pub Entry : Type 0
Entry = Option (Bor (Removal Reason))

-- the removal that is referred to
abbrev pub removal_of : Entry → Option (Removal Reason)
removal_of None = None
removal_of (Some d) = Some d.now

-- the removal with this number
abbrev pub entry_at : List Entry → ℕ → Option (Removal Reason)
entry_at es b = removal_of (get_or es b None)

-- a removal before those that are known
abbrev pub with_earlier : Removal Reason → ℕ → Option (Removal Reason) → Option (Removal Reason)
with_earlier d b first = if d.cand.0 == b then Some (earlier d first) else first

-- whether what became of a candidate is that it is retained, or where that isn't asked, that it isn't
abbrev pub is_asked : Bool → t.Fate → Bool
is_asked kept fate = if kept then t.is_kept_by fate else not (t.is_kept_by fate)

abbrev pub count_where : Bool → List t.Fate → ℕ
count_where kept fates = count_by (is_asked kept) fates
