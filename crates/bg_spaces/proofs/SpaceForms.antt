-- The spaces of a program, part by part.
use Rattle.std.proofs.Common.{◌≡◌, ℕ, List, [], map, flat_map, length, refl, ap, ◌∙◌}
use Rattle.std.proofs.lemmas.List.{length-map}
use Rattle.bg_text.specs.Trees as t
use Rattle.bg_names.specs.declared.scope.Meaning.{Meaning}
use Rattle.bg_spaces.specs.Declarations.{Spaces, text_of, spaces_of, type_ids, value_ids, function_ids, procedure_ids, global_ids, meanings_from, entries_from, no_counts, changes_of}
use Rattle.bg_names.specs.Spaces.{names_of}

abbrev pub spaces_from : List (List ℕ) → List (List ℕ) → List Meaning → List (List ℕ) → List (List ℕ) → List (List ℕ) → List (List ℕ) → Spaces
spaces_from types values meanings functions procedures globals changes =
    record {
      types = types;
      values = values;
      meanings = meanings;
      functions = functions;
      procedures = procedures;
      globals = globals;
      changes = changes;
    }

pub as_many : (texts : List (List ℕ)) (ids : List t.Id) → texts ≡ map text_of ids → length texts ≡ length ids
as_many texts ids h = ap length h ∙ length-map ids text_of

pub spaces-are : (ds : List t.Decl) (types values : List (List ℕ)) (meanings : List Meaning) (functions procedures globals changes : List (List ℕ)) (n : ℕ) → types ≡ names_of (type_ids ds) → values ≡ names_of (value_ids ds) → meanings ≡ meanings_from [] (entries_from no_counts ds) → functions ≡ names_of (function_ids ds) → procedures ≡ names_of (procedure_ids ds) → globals ≡ map text_of (global_ids ds) → n ≡ length (global_ids ds) → changes ≡ flat_map (changes_of values meanings n) ds → spaces_from types values meanings functions procedures globals changes ≡ spaces_of ds
spaces-are ds types values meanings functions procedures globals changes n a b c d e f k h =
    rw (h, a, b, c, d, e, f, k) refl
