-- Files that are kept in memory, and calls that are to fail.
use Rattle.std.specs.Prelude.{ℕ, Bool, List, [], drop, Option, is_some, option_map, find, slice_get, string_bytes, bytes_eq}
use Rattle.std.specs.Option.{option_map_or}
use Rattle.bg_io.specs.declared.stored.StoredFile.{StoredFile}
use Rattle.bg_io.specs.declared.stored.Shelf.{Shelf}

-- whether a stored file has this name
abbrev pub has_name : List ℕ → StoredFile → Bool
has_name name file = bytes_eq (string_bytes file.name) name

-- whether a file of this name is stored
abbrev pub holds : List StoredFile → List ℕ → Bool
holds files name = is_some (find (has_name name) files)

-- the bytes of the first file of this name, or none
abbrev pub contents_of : List StoredFile → List ℕ → List ℕ
contents_of files name = option_map_or (λ file. file.bytes.items) (find (has_name name) files) []

-- the bytes of the file of this number, or none
abbrev pub bytes_at : List StoredFile → ℕ → List ℕ
bytes_at files file = option_map_or (λ file. file.bytes.items) (slice_get files file) []

-- what is left of the started file
abbrev pub left_of : Shelf → Option (List ℕ)
left_of shelf = option_map (λ file. drop shelf.read (bytes_at shelf.files.items file)) shelf.file
