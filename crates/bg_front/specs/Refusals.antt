-- Why a text is refused.
use Rattle.std.specs.Prelude.{ℕ, List, Bool, true, false, map}
use Rattle.bg_base.specs.declared.pos.Pos.{Pos}
use Rattle.bg_text.specs.Text as text
use Rattle.bg_lex.specs.Faults.{fault_of}
use Rattle.bg_ast.specs.Resolved as r
use Rattle.bg_ast.specs.Views.{type_name_of}
use Rattle.bg_names.specs.Faults as names
use Rattle.bg_resolve.specs.Resolves as resolves
use Rattle.bg_kinds.specs.Faults as types
use Rattle.bg_kinds.specs.Owned.{answered}
use Rattle.bg_front.specs.declared.refusal.Refusal as code
use Rattle.bg_front.specs.declared.refusal.Refusal.TheVariants as codes_

-- the first rule that is broken, and where; a fault of types has the declared types, whose names its line has
pub data Refusal : Type 0 where
  TooLong : Refusal
  Bytes : Pos → text.Fault → Refusal
  Syntax : Pos → Refusal
  Nesting : Refusal
  Names : names.Fault → Refusal
  Types : List r.TypeName → types.Fault → Refusal
  Implementations : ℕ → Refusal
  Candidates : ℕ → Refusal
  Places : ℕ → Refusal
  Bodies : ℕ → Refusal
  Expanded : Refusal

-- whether a limit is exceeded
abbrev pub is_limit : Refusal → Bool
is_limit TooLong = true
is_limit Nesting = true
is_limit (Implementations n) = true
is_limit (Candidates n) = true
is_limit (Places n) = true
is_limit (Bodies n) = true
is_limit Expanded = true
is_limit _ = false

-- how the code's refusals are read
abbrev pub refusal_of : code.Refusal → Refusal
refusal_of codes_.TooLong = TooLong
refusal_of (codes_.Bytes p f) = Bytes p (fault_of f)
refusal_of (codes_.Syntax p) = Syntax p
refusal_of codes_.Nesting = Nesting
refusal_of (codes_.Names f) = Names (resolves.fault_of f)
refusal_of (codes_.Types f) = Types (map type_name_of f.types.items) (answered f.fault)
refusal_of (codes_.Implementations n) = Implementations n
refusal_of (codes_.Candidates n) = Candidates n
refusal_of (codes_.Places n) = Places n
refusal_of (codes_.Bodies n) = Bodies n
refusal_of codes_.Expanded = Expanded
