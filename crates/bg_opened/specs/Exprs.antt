-- Expressions in which constants are globals, and bodies of functions stand in the place of their applications.
use Rattle.std.specs.Prelude.{ℕ, zero, suc, ◌+◌, pos, List, Option, Some, None, slice_get}
use Rattle.bg_ast.specs.Syntax.{Global, Local, Ex, Exs, Number, Fact, Constant, Read, Not, Negative, Binary, Apply, Select, Update, Old, NoMore, More, Fun}

-- the expression at a place of a list; 0 past its end
abbrev pub ex_at : Exs → ℕ → Ex
ex_at NoMore j = Number (pos 0)
ex_at (More e es) zero = e
ex_at (More e es) (suc j) = ex_at es j

abbrev mutual
  -- an expression with these in the place of the variables of the frame
  pub put_in : Ex → Exs → Ex
  put_in (Number z) xs = Number z
  put_in (Fact b) xs = Fact b
  put_in (Constant k) xs = Constant k
  put_in (Read (Global x)) xs = Read (Global x)
  put_in (Read (Local j)) xs = ex_at xs j
  put_in (Not e) xs = Not (put_in e xs)
  put_in (Negative e) xs = Negative (put_in e xs)
  put_in (Binary op a b) xs = Binary op (put_in a xs) (put_in b xs)
  put_in (Apply f es) xs = Apply f (put_in_all es xs)
  put_in (Select m es) xs = Select (put_in m xs) (put_in_all es xs)
  put_in (Update m es e) xs = Update (put_in m xs) (put_in_all es xs) (put_in e xs)
  put_in (Old e) xs = Old (put_in e xs)

  pub put_in_all : Exs → Exs → Exs
  put_in_all NoMore xs = NoMore
  put_in_all (More e es) xs = More (put_in e xs) (put_in_all es xs)

-- an application, where the function has this body, or none
abbrev pub applied : Option Ex → ℕ → Exs → Ex
applied None f xs = Apply f xs
applied (Some b) f xs = put_in b xs

abbrev mutual
  -- an expression, where constants are globals behind so many others, and functions have these bodies
  pub opened : ℕ → (ℕ → Option Ex) → Ex → Ex
  opened g bodies (Number z) = Number z
  opened g bodies (Fact b) = Fact b
  opened g bodies (Constant k) = Read (Global (g + k))
  opened g bodies (Read x) = Read x
  opened g bodies (Not e) = Not (opened g bodies e)
  opened g bodies (Negative e) = Negative (opened g bodies e)
  opened g bodies (Binary op a b) = Binary op (opened g bodies a) (opened g bodies b)
  opened g bodies (Apply f es) = applied (bodies f) f (all_opened g bodies es)
  opened g bodies (Select m es) = Select (opened g bodies m) (all_opened g bodies es)
  opened g bodies (Update m es e) = Update (opened g bodies m) (all_opened g bodies es) (opened g bodies e)
  opened g bodies (Old e) = Old (opened g bodies e)

  pub all_opened : ℕ → (ℕ → Option Ex) → Exs → Exs
  all_opened g bodies NoMore = NoMore
  all_opened g bodies (More e es) = More (opened g bodies e) (all_opened g bodies es)

-- a function's body, opened, if it has one
abbrev pub opened_body : (Ex → Ex) → Option Ex → Option Ex
opened_body o None = None
opened_body o (Some e) = Some (o e)

abbrev pub opened_fun : (Ex → Ex) → Option Fun → Option Ex
opened_fun o None = None
opened_fun o (Some f) = opened_body o f.body

-- the bodies of functions, in which bodies are opened so deep
abbrev pub bodies_to : ℕ → List Fun → ℕ → ℕ → Option Ex
bodies_to g fs zero f = None
bodies_to g fs (suc depth) f = opened_fun (opened g (bodies_to g fs depth)) (slice_get fs f)

abbrev pub body_in : Option Fun → Option Ex
body_in None = None
body_in (Some f) = f.body

-- the bodies of functions as they are
abbrev pub raw_bodies : List Fun → ℕ → Option Ex
raw_bodies fs f = body_in (slice_get fs f)
