-- Stored files by their names and by their numbers.
use Rattle.std.proofs.Common.{◌≡◌, ℕ, Bool, true, false, cond, nat_lt, List, [], ◌∷◌, length, Option, Some, None, is_some, slice_get, unwrap_or, refl, sym, ap, ◌∙◌, arith, position}
use Rattle.std.specs.List.{position_or_len}
use Rattle.std.specs.Option.{option_map_or}
use Rattle.std.proofs.lemmas.List.Folds.{find_at}
use Rattle.std.proofs.lemmas.Option.{slice_get_past, slice_get-get_or}
use Rattle.std.proofs.lemmas.Bool.{ltb-false, ltb-true}
use Rattle.bg_io.specs.declared.stored.StoredFile.{StoredFile}
use Rattle.bg_io.specs.Stored.{has_name, holds, contents_of, bytes_at}

-- an index that is kept where it is within the list finds what it found
slice_get-kept : {X : Type 0} (xs : List X) (i : ℕ) (b : Bool) → nat_lt i (length xs) ≡ b → slice_get xs (unwrap_or (cond b (Some i) None) (length xs)) ≡ slice_get xs i
slice_get-kept xs i true e = refl
slice_get-kept xs i false e = slice_get_past xs (length xs) (omega arith) ∙ sym (slice_get_past xs i (ltb-false i (length xs) e))

is_some-kept : {X : Type 0} (xs : List X) (i : ℕ) (b : Bool) → nat_lt i (length xs) ≡ b → is_some (cond b (Some i) None) ≡ is_some (slice_get xs i)
is_some-kept [] i true e = absurd (omega (arith, ltb-true i 0 e))
is_some-kept (x ∷ xs) i true e = sym (ap is_some (slice_get-get_or (x ∷ xs) i x (ltb-true i (length (x ∷ xs)) e)))
is_some-kept xs i false e = sym (ap is_some (slice_get_past xs i (ltb-false i (length xs) e)))

-- the first file of a name has the bytes under the name
pub bytes_at_first : (files : List StoredFile) (name : List ℕ) → bytes_at files (unwrap_or (position (has_name name) files) (length files)) ≡ contents_of files name
bytes_at_first files name =
    ap (λ (found : Option StoredFile). option_map_or (λ file. file.bytes.items) found [])
    (slice_get-kept files (position_or_len (has_name name) files) _ refl ∙ sym (find_at (has_name name) files))

-- there is a first file of a name where one has the name
pub is_some-position : (files : List StoredFile) (name : List ℕ) → is_some (position (has_name name) files) ≡ holds files name
is_some-position files name = is_some-kept files (position_or_len (has_name name) files) _ refl ∙ ap is_some (sym (find_at (has_name name) files))
