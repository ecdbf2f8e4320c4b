-- How the code finds the word for an implementation, and for a program.
use Rattle.std.specs.Prelude.{ℕ, Bool, true, false, ◌&&◌, List, is_none, if◌then◌else◌, count_by}
use Rattle.std.specs.List.{list_any}
use Rattle.bg_places.specs.declared.place.Place.{Place}
use Rattle.bg_check.specs.declared.verdict.Verdict.{Verdict}
use Rattle.bg_check.specs.declared.verdict.Verdict.TheVariants as verdict
use Rattle.bg_check.specs.declared.verdict.Judged.{Judged}
use Rattle.bg_told.specs.declared.word.Word.{Word}
use Rattle.bg_told.specs.declared.word.Word.TheVariants.{Verified, Refuted, Unknown}

-- a place is ordinary where no candidate guards its clause
abbrev pub is_ordinary : Place → Bool
is_ordinary p = is_none p.candidate

-- what is known of a place, in a word
abbrev pub word_in : Verdict → Word
word_in (verdict.Proved proof) = Verified
word_in (verdict.Refuted cex) = Refuted
word_in (verdict.Unknown rounds cause) = Unknown
word_in (verdict.Left kept) = Unknown

abbrev pub is_word : Word → Word → Bool
is_word Verified Verified = true
is_word Refuted Refuted = true
is_word Unknown Unknown = true
is_word _ _ = false

-- an ordinary place of which this word is known
abbrev pub has_word : Word → Judged → Bool
has_word word j = is_ordinary j.place && is_word word (word_in j.verdict)

-- whether the word is known of some ordinary place of the implementation
abbrev pub has : Word → List Judged → Bool
has word js = list_any (has_word word) js

-- refuted where an ordinary place is refuted, else unknown where one is unknown, else verified
abbrev pub word_of : List Judged → Word
word_of js = if has Refuted js then Refuted else (if has Unknown js then Unknown else Verified)

-- the same over the places of all implementations
abbrev pub word_for : List (List Judged) → Word
word_for outcome = if list_any (has Refuted) outcome then Refuted else (if list_any (has Unknown) outcome then Unknown else Verified)

-- the word of a program of whose axioms nothing is known, by the word of its places
abbrev pub left_unknown : Word → Word
left_unknown Refuted = Refuted
left_unknown w = Unknown

-- the word of a program by the verdict on its axioms' own program, and the word of its places
abbrev pub with_axioms : Verdict → Word → Word
with_axioms (verdict.Proved proof) w = Refuted
with_axioms (verdict.Refuted cex) w = w
with_axioms (verdict.Unknown rounds cause) w = left_unknown w
with_axioms (verdict.Left kept) w = left_unknown w

-- how many implementations have the word
abbrev pub count_of : Word → List (List Judged) → ℕ
count_of word outcome = count_by (λ js. is_word word (word_of js)) outcome
