-- Words, looked up by their first byte.
use Rattle.std.specs.Prelude.{ℕ, List, [], ◌∷◌, Option, Some, None, ◌==◌, ◌||◌, if◌then◌else◌, codes, bytes_eq}
use Rattle.bg_text.specs.declared.token.Kind.{Kind}
use Rattle.bg_text.specs.declared.token.Kind.TheVariants as kinds
use Rattle.bg_text.specs.Pieces.{is_bit_vector}

-- the kind of the first of these that is the word, or a name
abbrev pub kind_in : List (List ℕ × Kind) → List ℕ → Kind
kind_in [] word = kinds.Name
kind_in (entry ∷ rest) word = if bytes_eq word entry.0 then entry.1 else kind_in rest word

-- none for a reserved word
abbrev pub look_up : List (List ℕ) → List (List ℕ × Kind) → List ℕ → Option Kind
look_up [] keywords word = Some (kind_in keywords word)
look_up (w ∷ ws) keywords word = if bytes_eq word w then None else look_up ws keywords word

abbrev pub a_reserved : List (List ℕ)
a_reserved = codes "async" ∷ []

abbrev pub a_keywords : List (List ℕ × Kind)
a_keywords =
    (codes "assert", kinds.Assert) ∷ (codes "assume", kinds.Assume) ∷ (codes "axiom", kinds.Axiom) ∷ []

abbrev pub b_reserved : List (List ℕ)
b_reserved = []

abbrev pub b_keywords : List (List ℕ × Kind)
b_keywords =
    (codes "bool", kinds.Bool) ∷ (codes "break", kinds.Break) ∷ []

abbrev pub c_reserved : List (List ℕ)
c_reserved = codes "complete" ∷ []

abbrev pub c_keywords : List (List ℕ × Kind)
c_keywords =
    (codes "call", kinds.Call) ∷ (codes "const", kinds.Const) ∷ []

abbrev pub de_reserved : List (List ℕ)
de_reserved = codes "datatype" ∷ codes "div" ∷ codes "exists" ∷ codes "extends" ∷ []

abbrev pub de_keywords : List (List ℕ × Kind)
de_keywords =
    (codes "else", kinds.Else) ∷ (codes "ensures", kinds.Ensures) ∷ []

abbrev pub f_reserved : List (List ℕ)
f_reserved = codes "finite" ∷ codes "forall" ∷ []

abbrev pub f_keywords : List (List ℕ × Kind)
f_keywords =
    (codes "false", kinds.False) ∷ (codes "free", kinds.Free) ∷ (codes "function", kinds.Function) ∷ []

abbrev pub ghi_reserved : List (List ℕ)
ghi_reserved = []

abbrev pub ghi_keywords : List (List ℕ × Kind)
ghi_keywords =
    (codes "goto", kinds.Goto) ∷ (codes "havoc", kinds.Havoc) ∷ (codes "if", kinds.If) ∷ (codes "implementation", kinds.Implementation) ∷ (codes "int", kinds.Int) ∷ (codes "invariant", kinds.Invariant) ∷ []

abbrev pub lmo_reserved : List (List ℕ)
lmo_reserved = codes "lambda" ∷ codes "mod" ∷ []

abbrev pub lmo_keywords : List (List ℕ × Kind)
lmo_keywords =
    (codes "modifies", kinds.Modifies) ∷ (codes "old", kinds.Old) ∷ []

abbrev pub pr_reserved : List (List ℕ)
pr_reserved = codes "par" ∷ codes "real" ∷ []

abbrev pub pr_keywords : List (List ℕ × Kind)
pr_keywords =
    (codes "procedure", kinds.Procedure) ∷ (codes "requires", kinds.Requires) ∷ (codes "return", kinds.Return) ∷ (codes "returns", kinds.Returns) ∷ []

abbrev pub t_reserved : List (List ℕ)
t_reserved = codes "then" ∷ []

abbrev pub t_keywords : List (List ℕ × Kind)
t_keywords =
    (codes "true", kinds.True) ∷ (codes "type", kinds.Type) ∷ []

abbrev pub uvwy_reserved : List (List ℕ)
uvwy_reserved = codes "where" ∷ codes "yield" ∷ []

abbrev pub uvwy_keywords : List (List ℕ × Kind)
uvwy_keywords =
    (codes "unique", kinds.Unique) ∷ (codes "var", kinds.Var) ∷ (codes "while", kinds.While) ∷ []

-- the kind of a word, or none where it is reserved
abbrev pub word_kind : List ℕ → Option Kind
word_kind [] = Some kinds.Name
word_kind (b ∷ bs) =
    if b == 97 then look_up a_reserved a_keywords (b ∷ bs) else (
    if b == 98 then (if is_bit_vector (b ∷ bs) then None else look_up b_reserved b_keywords (b ∷ bs)) else (
    if b == 99 then look_up c_reserved c_keywords (b ∷ bs) else (
    if b == 100 || b == 101 then look_up de_reserved de_keywords (b ∷ bs) else (
    if b == 102 then look_up f_reserved f_keywords (b ∷ bs) else (
    if b == 103 || b == 104 || b == 105 then look_up ghi_reserved ghi_keywords (b ∷ bs) else (
    if b == 108 || b == 109 || b == 111 then look_up lmo_reserved lmo_keywords (b ∷ bs) else (
    if b == 112 || b == 114 then look_up pr_reserved pr_keywords (b ∷ bs) else (
    if b == 116 then look_up t_reserved t_keywords (b ∷ bs) else (
    if b == 117 || b == 118 || b == 119 || b == 121 then look_up uvwy_reserved uvwy_keywords (b ∷ bs) else (
    Some kinds.Name))))))))))
