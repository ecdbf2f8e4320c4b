-- Names of candidates.
use Rattle.std.specs.Prelude.{ℕ, Bool, List, [], ◌∷◌, map, Option, Some, None, slice_get, if◌then◌else◌}
use Rattle.bg_text.specs.Trees.{Id}
use Rattle.bg_ast.specs.Resolved as r
use Rattle.bg_meant.specs.Once.{AreOnce}

abbrev pub text_in : Id → List ℕ
text_in x = x.text

-- no two candidates have one name
abbrev pub HasOwnNames : r.Program → Type 0
HasOwnNames p = AreOnce (map text_in p.candidates)

-- the names of those that are in the set, in order
abbrev pub names_in : List Bool → List Id → List (List ℕ)
names_in [] cs = []
names_in (b ∷ bs) [] = []
names_in (b ∷ bs) (c ∷ cs) = if b then c.text ∷ names_in bs cs else names_in bs cs

abbrev pub text_or_none : Option Id → List ℕ
text_or_none None = []
text_or_none (Some x) = x.text

-- the name of a candidate; none where it isn't there
abbrev pub name_at : List Id → ℕ → List ℕ
name_at names c = text_or_none (slice_get names c)
