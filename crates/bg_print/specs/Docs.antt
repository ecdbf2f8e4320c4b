-- What is printed: words, signs, spaces and newlines, one after the other.
use Rattle.std.specs.Prelude.{ℕ, zero, suc, List, [], ◌∷◌, ◌++◌, codes, Bool, true, false, Option, Some, None}
use Rattle.std.specs.Fmt.{signed_decimal}
use Rattle.bg_text.specs.declared.token.Kind.{Kind}
use Rattle.bg_text.specs.declared.token.Kind.TheVariants as kinds

infixr 55 ◌⨾◌
pub data Doc : Type 0 where
  -- nothing
  Empty : Doc
  -- a keyword, a sign or a number
  Say : Kind → Doc
  -- a name as it is written
  Called : List ℕ → Doc
  -- a string with its quotes
  Quote : List ℕ → Doc
  Space : Doc
  Newline : Doc
  -- one and then the other
  ◌⨾◌ : Doc → Doc → Doc

-- how a keyword, a sign or a number is written; names and strings have texts of their own
abbrev pub word : Kind → List ℕ
word kinds.Name = []
word (kinds.Number z) = signed_decimal z
word kinds.Quoted = []
word kinds.Assert = codes "assert"
word kinds.Assume = codes "assume"
word kinds.Axiom = codes "axiom"
word kinds.Bool = codes "bool"
word kinds.Break = codes "break"
word kinds.Call = codes "call"
word kinds.Const = codes "const"
word kinds.Else = codes "else"
word kinds.Ensures = codes "ensures"
word kinds.False = codes "false"
word kinds.Free = codes "free"
word kinds.Function = codes "function"
word kinds.Goto = codes "goto"
word kinds.Havoc = codes "havoc"
word kinds.If = codes "if"
word kinds.Implementation = codes "implementation"
word kinds.Int = codes "int"
word kinds.Invariant = codes "invariant"
word kinds.Modifies = codes "modifies"
word kinds.Old = codes "old"
word kinds.Procedure = codes "procedure"
word kinds.Requires = codes "requires"
word kinds.Return = codes "return"
word kinds.Returns = codes "returns"
word kinds.True = codes "true"
word kinds.Type = codes "type"
word kinds.Unique = codes "unique"
word kinds.Var = codes "var"
word kinds.While = codes "while"
word kinds.Open = codes "("
word kinds.Close = codes ")"
word kinds.OpenBracket = codes "["
word kinds.CloseBracket = codes "]"
word kinds.OpenBrace = codes "{"
word kinds.CloseBrace = codes "}"
word kinds.Comma = codes ","
word kinds.Semicolon = codes ";"
word kinds.Colon = codes ":"
word kinds.Becomes = codes ":="
word kinds.Sets = codes "="
word kinds.Less = codes "<"
word kinds.AtMost = codes "<="
word kinds.Greater = codes ">"
word kinds.AtLeast = codes ">="
word kinds.Equal = codes "=="
word kinds.Unequal = codes "!="
word kinds.Implies = codes "==>"
word kinds.Explies = codes "<=="
word kinds.Iff = codes "<==>"
word kinds.And = codes "&&"
word kinds.Or = codes "||"
word kinds.Not = codes "!"
word kinds.Plus = codes "+"
word kinds.Minus = codes "-"
word kinds.Times = codes "*"

-- the bytes
abbrev pub text : Doc → List ℕ
text Empty = []
text (Say k) = word k
text (Called name) = name
text (Quote quoted) = quoted
text Space = 32 ∷ []
text Newline = 10 ∷ []
text (a ⨾ b) = text a ++ text b

-- each part, one after the other
abbrev pub each : {A : Type 0} → (A → Doc) → List A → Doc
each f [] = Empty
each f (a ∷ rest) = f a ⨾ each f rest

-- what stands before a part of a list: a comma and a space, where another part stands before
abbrev pub gap : Bool → Doc
gap true = Say kinds.Comma ⨾ Space
gap false = Empty

-- the rest of a list, `, a, b`, or the whole of it
abbrev pub commas_from : {A : Type 0} → Bool → (A → Doc) → List A → Doc
commas_from behind f [] = Empty
commas_from behind f (a ∷ rest) = gap behind ⨾ f a ⨾ commas_from true f rest

-- a list, `a, b`
abbrev pub commas : {A : Type 0} → (A → Doc) → List A → Doc
commas f xs = commas_from false f xs

-- a part that may be left out
abbrev pub if_there : {A : Type 0} → (A → Doc) → Option A → Doc
if_there f None = Empty
if_there f (Some a) = f a

-- between parentheses
abbrev pub in_parens : Doc → Doc
in_parens d = Say kinds.Open ⨾ d ⨾ Say kinds.Close

-- between brackets
abbrev pub in_brackets : Doc → Doc
in_brackets d = Say kinds.OpenBracket ⨾ d ⨾ Say kinds.CloseBracket

-- a sign with one space on both sides, and what stands behind it
abbrev pub spaced : Kind → Doc → Doc
spaced sign d = Space ⨾ Say sign ⨾ Space ⨾ d

-- n spaces
abbrev pub margin : ℕ → Doc
margin zero = Empty
margin (suc n) = Space ⨾ margin n

-- a line at an indent of n
abbrev pub line : ℕ → Doc → Doc
line n d = margin n ⨾ d ⨾ Newline

-- lines in braces, at an indent of n
abbrev pub block : ℕ → Doc → Doc
block n lines = Say kinds.OpenBrace ⨾ Newline ⨾ lines ⨾ margin n ⨾ Say kinds.CloseBrace
