-- The text of the entries of the opened program's history is that of the program's.
use Rattle.std.proofs.Common.{◌≡◌, ℕ, List, [], ◌∷◌, ◌++◌, map, flat_map, length, Option, Some, None, refl, sym, ap, ◌∙◌}
use Rattle.std.specs.Prelude.{slice_get}
use Rattle.std.specs.Borrow.{Bor}
use Rattle.bg_ast.specs.Resolved.{Program}
use Rattle.bg_ast.specs.Meaning.{meaning_of}
use Rattle.bg_places.specs.Placed.{Placed}
use Rattle.bg_rounds.specs.declared.keeper.Removal.{Removal}
use Rattle.bg_houdini.specs.declared.reason.Reason.{Reason}
use Rattle.bg_sound.specs.Told.{Verdict, Proved, Refuted, Unknown}
use Rattle.bg_check.specs.Kept.{why_of}
use Rattle.bg_check.specs.Outcomes.{verdict_of}
use Rattle.bg_inference.specs.declared.outcome.Outcome.{Outcome}
use Rattle.bg_opened.specs.Axioms.{of_axioms}
use Rattle.bg_carried.specs.Carried.{carried_verdict}
use Rattle.bg_told.specs.Lines.{texts}
use Rattle.bg_told.specs.Places.{constant_text}
use Rattle.bg_told.specs.Sheets.{Head, Outer, Sheet, type_name, variable_in, names_of}
use Rattle.bg_told.specs.History.{Gone, guarded, found_of, found_text, shown_text, front_text, gone_line, snapshot_line, gone_of, gone_in, gone_at, gone_text, interpretation_text, axioms_found}
use Rattle.bg_lines.specs.Lines.{line}
use Rattle.bg_lines.specs.Places.{place_text}
use Rattle.bg_told.specs.Entries.{split_verdict, gone_by, told_gone}
use Rattle.bg_told.proofs.Fitting.{Fits}
use Rattle.bg_told.proofs.Split.{found_same, shown_same}

module _ (s : Sheet) (p : Program) (fits : Fits s.outer (meaning_of p)) where
  abbrev n : ℕ
  n = length (meaning_of p).globals

  -- the entry with another finding
  abbrev with_found : Removal Reason → Verdict → Gone
  with_found d v =
      record { number = d.number; candidate = d.cand.0; placed = slice_get (guarded p) d.target.0; snapshot = d.snapshot; found = v }

  in_same : (d : Removal Reason) (a : Placed) (h : Option Head) → gone_in s (with_found d (split_verdict n (found_of why_of d.told))) a h ≡ gone_in s (with_found d (carried_verdict (meaning_of p) (found_of why_of d.told))) a h
  in_same d a None = refl
  in_same d a (Some h) =
      let v = found_of why_of d.told in
      let names = names_of s.outer h in
      ap (λ (x : List ℕ). line (front_text s.candidates h d.number d.cand.0 ++ Rattle.std.proofs.Common.codes " at " ++ place_text a ++ Rattle.std.proofs.Common.codes ": " ++ x) ++ (snapshot_line s.candidates d.snapshot ++ shown_text names (split_verdict n v))) (found_same (meaning_of p) n v)
      ∙ ap (λ (x : List ℕ). gone_line s.candidates h a d.number d.cand.0 (carried_verdict (meaning_of p) v) ++ (snapshot_line s.candidates d.snapshot ++ x)) (shown_same s.outer h (meaning_of p) fits v)

  at_same : (d : Removal Reason) (a : Option Placed) → gone_at s (with_found d (split_verdict n (found_of why_of d.told))) a ≡ gone_at s (with_found d (carried_verdict (meaning_of p) (found_of why_of d.told))) a
  at_same d None = refl
  at_same d (Some a) = in_same d a (slice_get s.implementations a.place.implementation)

  pub all_same : (refs : List (Bor (Removal Reason))) → flat_map (gone_text s) (map (told_gone (guarded p) n) refs) ≡ flat_map (gone_text s) (map (λ d. gone_of why_of p d.now) refs)
  all_same [] = refl
  all_same (d ∷ refs) =
      ap (λ (x : List ℕ). x ++ flat_map (gone_text s) (map (told_gone (guarded p) n) refs)) (at_same d.now (slice_get (guarded p) d.now.target.0))
      ∙ ap (λ (x : List ℕ). gone_text s (gone_of why_of p d.now) ++ x) (all_same refs)

-- the interpretation's lines
pub axioms_same : (s : Outer) (p : Program) (o : Outcome) → Fits s (meaning_of p) → interpretation_text s (split_verdict 0 (verdict_of why_of o.axioms)) ≡ interpretation_text s (axioms_found why_of p o)
axioms_same s p o fits = by (verdict_of why_of o.axioms)
  where
    by : (v : Verdict) → interpretation_text s (split_verdict 0 v) ≡ interpretation_text s (carried_verdict (of_axioms (meaning_of p)) v)
    by Proved = refl
    by (Refuted i u ts cs) =
        ap (λ (x : List ℕ). line (Rattle.std.proofs.Common.codes "interpretation:") ++ (texts (constant_text (map type_name s.types)) (map (variable_in s.types) s.constants) u.globals ++ x)) (sym (fits i.tables))
    by (Unknown why) = refl
