-- The text of a history: why each candidate went.
use Rattle.std.specs.Prelude.{◌≡◌, ℕ, Bool, if◌then◌else◌, List, [], ◌++◌, codes, flat_map, map, filter, Option, Some, None, is_some, slice_get}
use Rattle.std.specs.List.Sorted.{IsPermutation, IsNonDecreasingBy}
use Rattle.std.specs.Fmt.{decimal}
use Rattle.bg_text.specs.Trees.{Id}
use Rattle.bg_ast.specs.Resolved.{Program}
use Rattle.bg_ast.specs.Meaning.{meaning_of}
use Rattle.bg_places.specs.Placed.{Placed, placed}
use Rattle.bg_rounds.specs.declared.keeper.Removal.{Removal}
use Rattle.bg_sound.specs.Told.{Why, Verdict, Proved, Refuted, Unknown}
use Rattle.bg_check.specs.declared.verdict.Cause.{Cause}
use Rattle.bg_check.specs.declared.verdict.Verdict.TheVariants as verdict
use Rattle.bg_check.specs.Outcomes.{verdict_of}
use Rattle.bg_houdini.specs.declared.reason.Reason.{Reason}
use Rattle.bg_houdini.specs.declared.reason.Reason.TheVariants as reason
use Rattle.bg_inference.specs.declared.outcome.Outcome.{Outcome}
use Rattle.bg_opened.specs.Axioms.{of_axioms}
use Rattle.bg_carried.specs.Carried.{carried_verdict}
use Rattle.bg_told.specs.Kept.{why_text, kept_line}
use Rattle.bg_told.specs.Lines.{texts}
use Rattle.bg_lines.specs.Lines.{line, position_text}
use Rattle.bg_told.specs.Places.{Names, interp_text, counterexample_text}
use Rattle.bg_lines.specs.Places.{place_text}
use Rattle.bg_told.specs.Sheets.{Head, Outer, Sheet, sheet_of, type_name, variable_in, names_of}

-- an entry as it is told: its number, the candidate that went, the place that isn't proved, the candidates that its check had, and what
-- was found there
pub record Gone : Type 0 where
  pub number : ℕ
  pub candidate : ℕ
  pub placed : Option Placed
  pub snapshot : List Bool
  pub found : Verdict

abbrev pub number_of : Gone → ℕ
number_of g = g.number

-- ---- of removals

abbrev pub has_candidate : Placed → Bool
has_candidate a = is_some a.place.candidate

-- the places that have a candidate, by implementation and place
abbrev pub guarded : Program → List Placed
guarded p = filter has_candidate (placed p)

abbrev pub found_of : (ℕ → Cause → Why) → Reason → Verdict
found_of words (reason.Refuted cex) = verdict_of words (verdict.Refuted cex)
found_of words (reason.Unknown rounds cause) = verdict_of words (verdict.Unknown rounds cause)
found_of words (reason.Left kept) = verdict_of words (verdict.Left kept)

abbrev pub gone_of : (ℕ → Cause → Why) → Program → Removal Reason → Gone
gone_of words p d =
    record {
      number = d.number;
      candidate = d.cand.0;
      placed = slice_get (guarded p) d.target.0;
      snapshot = d.snapshot;
      found = carried_verdict (meaning_of p) (found_of words d.told);
    }

-- ---- the text

-- the name with this number
abbrev pub name_text : Option Id → List ℕ
name_text None = []
name_text (Some name) = name.text

-- the name of a candidate that the set has
abbrev pub member_text : Id → Bool → List ℕ
member_text name here = if here then codes " " ++ name.text else []

-- what was found, in words
abbrev pub found_text : Verdict → List ℕ
found_text Proved = []
found_text (Refuted i s ts choices) = codes "refuted"
found_text (Unknown why) = codes "unknown " ++ why_text why

-- how the place fails, or what is kept of the cause
abbrev pub shown_text : Names → Verdict → List ℕ
shown_text names Proved = []
shown_text names (Refuted i s ts choices) = counterexample_text names i (s.globals ++ s.frame) ts choices
shown_text names (Unknown why) = kept_line why

-- the number of an entry, its candidate, and the implementation
abbrev pub front_text : List Id → Head → ℕ → ℕ → List ℕ
front_text names m number candidate =
    codes "drop " ++ decimal number ++ codes " " ++ name_text (slice_get names candidate) ++ codes " in " ++ m.name.text ++ codes " " ++ position_text m.pos

-- the line of an entry at this place of this implementation
abbrev pub gone_line : List Id → Head → Placed → ℕ → ℕ → Verdict → List ℕ
gone_line names m a number candidate found =
    line (front_text names m number candidate ++ codes " at " ++ place_text a ++ codes ": " ++ found_text found)

abbrev pub snapshot_line : List Id → List Bool → List ℕ
snapshot_line names snapshot = line (codes "  snapshot" ++ texts member_text names snapshot)

abbrev pub gone_in : Sheet → Gone → Placed → Option Head → List ℕ
gone_in s g a None = []
gone_in s g a (Some h) = gone_line s.candidates h a g.number g.candidate g.found ++ (snapshot_line s.candidates g.snapshot ++ shown_text (names_of s.outer h) g.found)

abbrev pub gone_at : Sheet → Gone → Option Placed → List ℕ
gone_at s g None = []
gone_at s g (Some a) = gone_in s g a (slice_get s.implementations a.place.implementation)

-- an entry: what went where and why, the candidates of its snapshot by declaration, and how the place fails or what is kept; nothing
-- where there is no such place
abbrev pub gone_text : Sheet → Gone → List ℕ
gone_text s g = gone_at s g g.placed

-- the interpretation that meets the axioms, where one was found
abbrev pub interpretation_text : Outer → Verdict → List ℕ
interpretation_text outer Proved = []
interpretation_text outer (Refuted i s ts choices) =
    line (codes "interpretation:") ++ interp_text (map type_name outer.types) (map (variable_in outer.types) outer.constants) outer.functions i
interpretation_text outer (Unknown why) = []

-- the entries, in this order, and behind them the interpretation by the verdict on the axioms' own program
abbrev pub history_text : Sheet → Verdict → List Gone → List ℕ
history_text s axioms gs = line (codes "history:") ++ (flat_map (gone_text s) gs ++ interpretation_text s.outer axioms)

-- what is known of the axioms' own program
abbrev pub axioms_found : (ℕ → Cause → Why) → Program → Outcome → Verdict
axioms_found words p o = carried_verdict (of_axioms (meaning_of p)) (verdict_of words o.axioms)

-- the text is that of the removals of the outcome, each once, by number, and of the interpretation
pub record IsHistory (words : ℕ → Cause → Why) (p : Program) (o : Outcome) (text : List ℕ) : Type 0 where
  pub entries : List Gone
  pub same : IsPermutation (map (gone_of words p) o.judged.inferred.removals.items) entries
  pub rising : IsNonDecreasingBy number_of entries
  pub is : text ≡ history_text (sheet_of p) (axioms_found words p o) entries
