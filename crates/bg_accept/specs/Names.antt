-- Which candidates a certificate's text retains.
use Rattle.std.specs.Prelude.{ℕ, suc, Bool, true, false, if◌then◌else◌, List, [], ◌∷◌, Option, Some, None}
use Rattle.std.specs.Str.{bytes_eq}
use Rattle.bg_text.specs.Trees.{Id}

-- of each candidate whether it is named, where the names come in the order of the candidates
abbrev pub marks : List Id → List (List ℕ) → List Bool
marks [] names = []
marks (c ∷ cs) [] = false ∷ marks cs []
marks (c ∷ cs) (n ∷ ns) = if bytes_eq c.text n then true ∷ marks cs ns else false ∷ marks cs (n ∷ ns)

-- the first name that is none of the candidates' behind those of the names before it
abbrev pub unplaced : List Id → List (List ℕ) → Option (List ℕ)
unplaced cs [] = None
unplaced [] (n ∷ ns) = Some n
unplaced (c ∷ cs) (n ∷ ns) = if bytes_eq c.text n then unplaced cs ns else unplaced cs (n ∷ ns)

-- the number of the first candidate of this name; how many there are where none has it
abbrev pub number_in : List Id → List ℕ → ℕ
number_in [] name = 0
number_in (c ∷ cs) name = if bytes_eq c.text name then 0 else suc (number_in cs name)
