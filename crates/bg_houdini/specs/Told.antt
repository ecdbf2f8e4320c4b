-- An outcome as what a report tells.
use Rattle.std.specs.Prelude.{ℕ, zero, suc, Bool, false, not, ◌==◌, nat_lt, if◌then◌else◌, length, List, [], ◌∷◌, Option, Some, None, map}
use Rattle.std.specs.List.{list_any, list_all}
use Rattle.bg_ast.specs.Syntax.{Prog}
use Rattle.bg_sense.specs.Places.{places}
use Rattle.bg_words.specs.Sets.{has}
use Rattle.bg_rounds.specs.declared.keeper.Removal.{Removal}
use Rattle.bg_sound.specs.Told as t
use Rattle.bg_check.specs.declared.verdict.Cause.{Cause}
use Rattle.bg_check.specs.Kept.{told_kept}
use Rattle.bg_check.specs.Verdicts.{judged}
use Rattle.bg_check.specs.Outcomes.{told}
use Rattle.bg_houdini.specs.declared.reason.Reason.{Reason}
use Rattle.bg_houdini.specs.declared.reason.Reason.TheVariants.{Refuted, Unknown, Left}
use Rattle.bg_houdini.specs.declared.outcome.Outcome.{Outcome}

abbrev pub is_candidate : ℕ → Option ℕ → Bool
is_candidate b None = false
is_candidate b (Some c) = c == b

-- whether a place has the candidate
abbrev pub is_checked : Prog → ℕ → Bool
is_checked p b = list_any (λ t. is_candidate b t.candidate) (places p)

-- of two removals the one with the smaller number
abbrev pub earlier : Removal Reason → Option (Removal Reason) → Removal Reason
earlier d None = d
earlier d (Some e) = if nat_lt e.number d.number then e else d

-- the first removal of the candidate, by number
abbrev pub first_of : ℕ → List (Removal Reason) → Option (Removal Reason)
first_of b [] = None
first_of b (d ∷ ds) = if d.cand.0 == b then Some (earlier d (first_of b ds)) else first_of b ds

abbrev pub fate_for : (ℕ → Cause → t.Why) → Reason → t.Fate
fate_for words (Refuted cex) = t.Dropped
fate_for words (Unknown rounds cause) = t.DroppedFor (words (length rounds.items) cause)
fate_for words (Left kept) = t.DroppedFor (told_kept kept)

abbrev pub fate_by : (ℕ → Cause → t.Why) → Option (Removal Reason) → t.Fate
fate_by words None = t.Dropped
fate_by words (Some d) = fate_for words d.told

-- what became of the candidate: retained, which is unchecked where no place has it, or dropped, for the reason of its first removal
abbrev pub fate : (ℕ → Cause → t.Why) → Prog → Outcome → ℕ → t.Fate
fate words p o b =
    if has o.inferred.retained b then (if is_checked p b then t.Retained else t.Unchecked)
    else fate_by words (first_of b o.inferred.removals.items)

-- of each number below n
abbrev pub each_below : {A : Type 0} → ℕ → (ℕ → A) → List A
each_below zero f = []
each_below (suc n) f = f 0 ∷ each_below n (λ k. f (suc k))

-- no candidate went because its check ended unknown
abbrev pub are_known : List (Removal Reason) → Bool
are_known ds = list_all (λ d. not d.unknown) ds

abbrev pub outcome_of : (ℕ → Cause → t.Why) → Prog → Outcome → t.Outcome
outcome_of words p o =
    record {
      axioms = t.Consistent;
      fates = each_below p.candidates (fate words p o);
      is_greatest = are_known o.inferred.removals.items;
      implementations = map (told words) (judged o.verdicts.items);
    }
