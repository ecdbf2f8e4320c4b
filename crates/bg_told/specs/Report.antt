-- The text of a report.
use Rattle.std.specs.Prelude.{ℕ, Bool, true, false, not, List, ◌++◌, codes, count_by, flat_map, map}
use Rattle.std.specs.Fmt.{decimal}
use Rattle.bg_text.specs.Trees.{Id}
use Rattle.bg_ast.specs.Resolved.{Program}
use Rattle.bg_sound.specs.Told.{Axioms, Consistent, Contradictory, Undecided, Fate, Retained, Unchecked, Dropped, DroppedFor, Judged, Outcome, is_kept_by, Word, AllProved, SomeRefuted, SomeUnknown, word_of}
use Rattle.bg_told.specs.Kept.{why_text}
use Rattle.bg_told.specs.Lines.{texts, word_text}
use Rattle.bg_lines.specs.Lines.{line, position_text}
use Rattle.bg_told.specs.Places.{judged_text}
use Rattle.bg_told.specs.Sheets.{Head, Outer, Sheet, sheet_of, names_of}

abbrev pub axioms_text : Axioms → List ℕ
axioms_text Consistent = codes "consistent"
axioms_text Contradictory = codes "contradictory"
axioms_text (Undecided why) = codes "unknown " ++ why_text why

-- ---- candidates

abbrev pub fate_text : Fate → List ℕ
fate_text Retained = codes "retained"
fate_text Unchecked = codes "retained unchecked"
fate_text Dropped = codes "dropped"
fate_text (DroppedFor why) = codes "dropped unknown " ++ why_text why

abbrev pub candidate_text : Id → Fate → List ℕ
candidate_text name fate = line (codes "candidate " ++ name.text ++ codes " " ++ fate_text fate)

-- the retained set by whether it is called greatest
abbrev pub set_text : Bool → List ℕ
set_text true = codes "greatest"
set_text false = codes "inductive"

-- and its line
abbrev pub set_line : Bool → List ℕ
set_line is_greatest = line (codes "retained set: " ++ set_text is_greatest)

-- ---- implementations

abbrev pub head_text : Head → Word → List ℕ
head_text h word = line (codes "implementation " ++ h.name.text ++ codes " " ++ position_text h.pos ++ codes " " ++ word_text word)

-- an implementation, and its places that aren't proved
abbrev pub implementation_text : Outer → Head → List Judged → List ℕ
implementation_text outer h js = head_text h (word_of js) ++ flat_map (judged_text (names_of outer h)) js

-- ---- the whole

abbrev pub is_word : Word → Word → Bool
is_word AllProved AllProved = true
is_word SomeRefuted SomeRefuted = true
is_word SomeUnknown SomeUnknown = true
is_word _ _ = false

-- how many of these implementations have the word, and the word
abbrev pub count_text : Word → List (List Judged) → List ℕ
count_text word os = decimal (count_by (λ js. is_word word (word_of js)) os) ++ codes " " ++ word_text word

-- how many candidates are retained and dropped
abbrev pub fates_text : List Fate → List ℕ
fates_text fates =
    decimal (count_by is_kept_by fates) ++ codes " retained, " ++ decimal (count_by (λ f. not (is_kept_by f)) fates) ++ codes " dropped; "

abbrev pub summary_text : Outcome → List ℕ
summary_text o =
    line (codes "summary: " ++ fates_text o.fates ++ count_text AllProved o.implementations ++ codes ", " ++ count_text SomeRefuted o.implementations ++ codes ", " ++ count_text SomeUnknown o.implementations)

-- what is told of a program: its axioms, its candidates, its implementations, and how many there are of each word
abbrev pub report_text : Sheet → Outcome → List ℕ
report_text s o =
    line (codes "axioms: " ++ axioms_text o.axioms)
    ++ texts candidate_text s.candidates o.fates
    ++ set_line o.is_greatest
    ++ texts (implementation_text s.outer) s.implementations o.implementations
    ++ summary_text o

abbrev pub result_text : Program → Outcome → List ℕ
result_text p = report_text (sheet_of p)

-- ---- a part of it, of a program that is made

-- the seed and the size of the program
abbrev pub bench_line : ℕ → ℕ → List ℕ
bench_line seed size = line (codes "bench " ++ decimal seed ++ codes " " ++ decimal size)

-- of what is told of the program of a seed and a size: what the retained set is called, and how many candidates and implementations there
-- are of each word
abbrev pub bench_text : ℕ → ℕ → Outcome → List ℕ
bench_text seed size o = bench_line seed size ++ set_line o.is_greatest ++ summary_text o
