-- Which candidates have places, and what became of each.
use Rattle.std.proofs.Common.{◌≡◌, ℕ, zero, suc, ◌+◌, ◌||◌, Bool, if◌then◌else◌, List, [], ◌∷◌, ◌++◌, Option, map, refl, sym, ap, ◌∙◌, add-one}
use Rattle.std.specs.List.{list_any}
use Rattle.std.proofs.lemmas.List.{map-append}
use Rattle.bg_ast.specs.Resolved.{Program}
use Rattle.bg_ast.specs.Syntax.{Prog}
use Rattle.bg_ast.specs.Meaning.{meaning_of}
use Rattle.bg_ast.specs.Execution as run
use Rattle.bg_sense.specs.Places.{places}
use Rattle.bg_places.specs.declared.place.Place.{Place}
use Rattle.bg_places.specs.Placed.{place_in, placed}
use Rattle.bg_places.specs.Views.{placed_in}
use Rattle.bg_words.specs.Sets.{has}
use Rattle.bg_sound.specs.Told as t
use Rattle.bg_rounds.specs.declared.keeper.Removal.{Removal}
use Rattle.bg_houdini.specs.declared.reason.Reason.{Reason}
use Rattle.bg_houdini.specs.declared.outcome.Outcome.{Outcome}
use Rattle.bg_houdini.specs.Told.{is_candidate, is_checked, first_of, fate_by, fate, each_below}
use Rattle.bg_told.specs.declared.fates.Fate.{Fate}
use Rattle.bg_told.specs.Fates.{told_fate, is_of, has_place, Entry, removal_of}
use Rattle.bg_check.specs.Kept.{why_of}

read_as : (b : ℕ) (ps : List Place) → has_place b ps ≡ list_any (λ (t : run.Place). is_candidate b t.candidate) (map place_in (placed_in ps))
read_as b [] = refl
read_as b (p ∷ ps) = ap (λ x. is_of b p || x) (read_as b ps)

-- the code's places have a candidate where the places of the program do
pub checked_is : (p : Program) (b : ℕ) (ps : List Place) → placed_in ps ≡ placed p → map place_in (placed p) ≡ places (meaning_of p) → has_place b ps ≡ is_checked (meaning_of p) b
checked_is p b ps e law =
    read_as b ps ∙ ap (λ (ts : List run.Place). list_any (λ t. is_candidate b t.candidate) ts) (ap (map place_in) e ∙ law)

-- the last of each below n + 1
pub one_more : {A : Type 0} (n : ℕ) (f : ℕ → A) → each_below (n + 1) f ≡ each_below n f ++ (f n ∷ [])
one_more n f = rw add-one (by n f)
  where
    by : {A : Type 0} (n : ℕ) (f : ℕ → A) → each_below (suc n) f ≡ each_below n f ++ (f n ∷ [])
    by zero f = refl
    by (suc n) f = ap (λ fs. f 0 ∷ fs) (by n (λ k. f (suc k)))

-- what became of one candidate more
pub fate_more : (p : Prog) (o : Outcome) (made : List Fate) (f : Fate) (b : ℕ) (kept checked : Bool) (first : Entry) → map told_fate made ≡ each_below b (fate why_of p o) → told_fate f ≡ (if kept then (if checked then t.Retained else t.Unchecked) else fate_by why_of (removal_of first)) → kept ≡ has o.inferred.retained b → checked ≡ is_checked p b → removal_of first ≡ first_of b o.inferred.removals.items → map told_fate (made ++ (f ∷ [])) ≡ each_below (b + 1) (fate why_of p o)
fate_more p o made f b kept checked first before is k c r =
    map-append told_fate made (f ∷ [])
    ∙ ap (λ (fs : List t.Fate). fs ++ (told_fate f ∷ [])) before
    ∙ ap (λ (x : t.Fate). each_below b (fate why_of p o) ++ (x ∷ []))
    (is
    ∙ ap (λ (x : Bool). if x then (if checked then t.Retained else t.Unchecked) else fate_by why_of (removal_of first)) k
    ∙ ap (λ (x : Bool). if has o.inferred.retained b then (if x then t.Retained else t.Unchecked) else fate_by why_of (removal_of first)) c
    ∙ ap (λ (x : Option (Removal Reason)). if has o.inferred.retained b then (if is_checked p b then t.Retained else t.Unchecked) else fate_by why_of x) r)
    ∙ sym (one_more b (fate why_of p o))
