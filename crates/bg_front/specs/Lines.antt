-- The lines of refusals, each with its newline byte.
use Rattle.std.specs.Prelude.{ℕ, ◌+◌, List, [], ◌∷◌, ◌++◌, codes}
use Rattle.std.specs.Fmt.{decimal}
use Rattle.bg_base.specs.declared.pos.Pos.{Pos}
use Rattle.bg_text.specs.Text as text
use Rattle.bg_ast.specs.Resolved as r
use Rattle.bg_names.specs.declared.error.FaultKind.{FaultKind}
use Rattle.bg_names.specs.declared.error.FaultKind.TheVariants as kinds
use Rattle.bg_kinds.specs.Faults as types
use Rattle.bg_kinds.specs.Texts.{type_text}
use Rattle.bg_front.specs.Limits.{most_bytes}
use Rattle.bg_front.specs.Refusals.{Refusal, TooLong, Bytes, Syntax, Nesting, Names, Types, Implementations, Candidates, Places, Bodies, Expanded}
use Rattle.bg_places.specs.Counts.{most_expanded}

-- line and column
abbrev pub position_text : Pos → List ℕ
position_text p = decimal p.line ++ codes ":" ++ decimal p.column

abbrev pub fault_start : Pos → List ℕ
fault_start p = codes "error: " ++ position_text p ++ codes " "

-- `error: L:C ` and the words
abbrev pub fault_line : Pos → List ℕ → List ℕ
fault_line p words = fault_start p ++ (words ++ 10 ∷ [])

-- `error: limit `, a word, and the number that exceeds the limit
abbrev pub limit_line : List ℕ → ℕ → List ℕ
limit_line word number = codes "error: limit " ++ word ++ codes " " ++ decimal number ++ 10 ∷ []

-- the words of what stands in no token list
abbrev pub bytes_words : text.Fault → List ℕ
bytes_words text.BadByte = codes "bad byte"
bytes_words text.OpenComment = codes "open comment"
bytes_words text.NumberTooBig = codes "number too big"
bytes_words (text.Unsupported name) = codes "unsupported " ++ name

-- the words of a fault of names; two kinds name nothing
abbrev pub name_words : FaultKind → List ℕ → List ℕ
name_words kinds.UnknownName name = codes "unknown " ++ name
name_words kinds.Duplicate name = codes "duplicate " ++ name
name_words kinds.AssignsInput name = codes "input " ++ name
name_words kinds.NotModified name = codes "modifies " ++ name
name_words kinds.BadTarget name = codes "target " ++ name
name_words kinds.BadCandidateUse name = codes "candidate " ++ name
name_words kinds.BadOld name = codes "old"
name_words kinds.RecursiveFunction name = codes "recursive " ++ name
name_words kinds.UnnamedArgument name = codes "unnamed"

-- a type that was wanted, or the word `map`
abbrev pub wanted_text : List r.TypeName → types.Wanted → List ℕ
wanted_text ds types.SomeMap = codes "map"
wanted_text ds (types.Wants t) = type_text ds t

-- the words of a fault of types, where these types are declared
abbrev pub type_words : List r.TypeName → types.Fault → List ℕ
type_words ds (types.CyclicSynonym name) = codes "cyclic " ++ name.text
type_words ds (types.MapIndex p) = codes "index"
type_words ds (types.Arity p) = codes "arity"
type_words ds (types.Mismatch p wanted found) = codes "type " ++ wanted_text ds wanted ++ codes " " ++ type_text ds found
type_words ds (types.Nonlinear p) = codes "nonlinear"

-- the line of a refusal
abbrev pub line_of : Refusal → List ℕ
line_of TooLong = limit_line (codes "bytes") (most_bytes + 1)
line_of (Bytes p f) = fault_line p (bytes_words f)
line_of (Syntax p) = fault_line p (codes "syntax")
line_of Nesting = limit_line (codes "nesting") 201
line_of (Names f) = fault_line f.pos (name_words f.kind f.name)
line_of (Types ds f) = fault_line (types.position_of f) (type_words ds f)
line_of (Implementations n) = limit_line (codes "implementations") n
line_of (Candidates n) = limit_line (codes "candidates") n
line_of (Places n) = limit_line (codes "places") n
line_of (Bodies n) = limit_line (codes "bodies") n
line_of Expanded = limit_line (codes "expanded") (most_expanded + 1)
