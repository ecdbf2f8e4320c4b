-- What is known of an expression, and of a node over parts of which it is known.
use Rattle.std.specs.Prelude.{ℕ, Bool, true, false, ◌&&◌, if◌then◌else◌, List, [], ◌∷◌, ◌++◌, map, length, Option, Some, None, slice_get, nat_eq}
use Rattle.bg_base.specs.declared.pos.Pos.{Pos}
use Rattle.bg_text.specs.declared.expr.InfixSign.{InfixSign}
use Rattle.bg_text.specs.declared.expr.InfixSign.TheVariants as op
use Rattle.bg_text.specs.declared.expr.PrefixSign.{PrefixSign}
use Rattle.bg_text.specs.declared.expr.PrefixSign.TheVariants as prefix
use Rattle.bg_text.specs.declared.expr.TreePrefix.{TreePrefix}
use Rattle.bg_ast.specs.Values as v
use Rattle.bg_ast.specs.Syntax as s
use Rattle.bg_sense.specs.Typing.{key_ty}
use Rattle.bg_kinds.specs.Faults.{Fault, Arity, Mismatch, Nonlinear, Wanted, SomeMap, Wants, against, is_none}
use Rattle.bg_kinds.specs.Kinds.{Kind}

-- a function's or procedure's types
pub record Shape : Type 0 where
  pub params : List Kind
  pub results : List Kind

-- what names mean
pub record Scope : Type 0 where
  pub constants : List Kind
  pub globals : List Kind
  pub frame : List Kind
  pub functions : List Shape
  pub procedures : List Shape

-- what is known of an expression: where it begins, its type where it has one, and whether it is a constant
pub record Side : Type 0 where
  pub start : Pos
  pub kind : Kind
  pub is_constant : Bool

-- the same, with the faults inside, inner ones first
pub record Judged : Type 0 where
  pub side : Side
  pub faults : List Fault

abbrev pub leaf : Pos → Kind → Bool → Judged
leaf p t c = record { side = record { start = p; kind = t; is_constant = c }; faults = [] }

-- the type that a table has, where it has one
abbrev pub or_none : Option Kind → Kind
or_none None = None
or_none (Some t) = t

abbrev pub kind_at : List Kind → ℕ → Kind
kind_at ts k = or_none (slice_get ts k)

abbrev pub variable_kind : Scope → s.Var → Kind
variable_kind g (s.Global x) = kind_at g.globals x
variable_kind g (s.Local x) = kind_at g.frame x

-- a part of which this is wanted, where it has a type
abbrev pub wanting_at : Pos → Wanted → Kind → List Fault
wanting_at p w None = []
wanting_at p w (Some t) = against p w t

abbrev pub wanting : Wanted → Side → List Fault
wanting w a = wanting_at a.start w a.kind

-- the type, where there is no fault
abbrev pub kind_if : Bool → Kind → Kind
kind_if true t = t
kind_if false t = None

abbrev pub is_typed_kind : Kind → Bool
is_typed_kind None = false
is_typed_kind (Some t) = true

-- whether each has a type
abbrev pub are_typed : List Side → Bool
are_typed [] = true
are_typed (a ∷ as_) = is_typed_kind a.kind && are_typed as_

-- parts of which these types are wanted, one for each
abbrev pub pair_faults : Kind → Side → List Fault
pair_faults None a = []
pair_faults (Some w) a = wanting (Wants w) a

abbrev pub pairs_faults : List Kind → List Side → List Fault
pairs_faults [] bs = []
pairs_faults (w ∷ ws) [] = []
pairs_faults (w ∷ ws) (b ∷ bs) = pair_faults w b ++ pairs_faults ws bs

-- the numbers are to agree, and then the types
abbrev pub matched_faults : Pos → List Kind → List Side → List Fault
matched_faults p ws bs = if nat_eq (length bs) (length ws) then pairs_faults ws bs else Arity p ∷ []

-- the same, where each part has a type
abbrev pub parts_faults : Pos → List Kind → List Side → List Fault
parts_faults p ws bs = if are_typed bs then matched_faults p ws bs else []

-- whether each part has a type that is wanted
abbrev pub do_parts_fit : Pos → List Kind → List Side → Bool
do_parts_fit p ws bs = are_typed bs && is_none (matched_faults p ws bs)

-- what both sides of a sign are to be; none where they are to be of one type
abbrev pub sign_wants : InfixSign → Kind
sign_wants op.Iff = Some v.BoolTy
sign_wants op.Implies = Some v.BoolTy
sign_wants op.Explies = Some v.BoolTy
sign_wants op.And = Some v.BoolTy
sign_wants op.Or = Some v.BoolTy
sign_wants op.Equal = None
sign_wants op.Unequal = None
sign_wants op.Less = Some v.IntTy
sign_wants op.AtMost = Some v.IntTy
sign_wants op.Greater = Some v.IntTy
sign_wants op.AtLeast = Some v.IntTy
sign_wants op.Plus = Some v.IntTy
sign_wants op.Minus = Some v.IntTy
sign_wants op.Times = Some v.IntTy

-- whether a sign makes numbers of numbers; the others make truth values
abbrev pub is_arithmetic : InfixSign → Bool
is_arithmetic op.Plus = true
is_arithmetic op.Minus = true
is_arithmetic op.Times = true
is_arithmetic _ = false

abbrev pub sign_gives : InfixSign → v.Ty
sign_gives sign = if is_arithmetic sign then v.IntTy else v.BoolTy

-- two sides that begin at p and q, of these types
abbrev pub two_faults : Kind → (p q : Pos) → (t u : v.Ty) → List Fault
two_faults None p q t u = against q (Wants t) u
two_faults (Some w) p q t u = against p (Wants w) t ++ against q (Wants w) u

-- a product of which no side is a constant
abbrev pub product_fault : InfixSign → Pos → (a b : Bool) → List Fault
product_fault op.Times p false false = Nonlinear p ∷ []
product_fault _ p a b = []

abbrev pub infix_faults_at : InfixSign → Pos → (a b : Side) → (t u : Kind) → List Fault
infix_faults_at sign p a b (Some t) (Some u) =
    two_faults (sign_wants sign) a.start b.start t u ++ product_fault sign p a.is_constant b.is_constant
infix_faults_at sign p a b _ _ = []

-- the faults of a sign itself, between two sides
abbrev pub infix_faults : InfixSign → Pos → (a b : Side) → List Fault
infix_faults sign p a b = infix_faults_at sign p a b a.kind b.kind

abbrev pub infix_kind_at : InfixSign → (a b : Side) → (t u : Kind) → Kind
infix_kind_at sign a b (Some t) (Some u) = kind_if (is_none (two_faults (sign_wants sign) a.start b.start t u)) (Some (sign_gives sign))
infix_kind_at sign a b _ _ = None

-- what is known of two sides with a sign between them. A product has a type, also where it isn't linear
abbrev pub infix_side : InfixSign → (a b : Side) → Side
infix_side sign a b =
    record {
      start = a.start;
      kind = infix_kind_at sign a b a.kind b.kind;
      is_constant = is_arithmetic sign && (a.is_constant && b.is_constant);
    }

abbrev pub prefix_type : PrefixSign → v.Ty
prefix_type prefix.Not = v.BoolTy
prefix_type prefix.Minus = v.IntTy

abbrev pub is_minus : PrefixSign → Bool
is_minus prefix.Not = false
is_minus prefix.Minus = true

abbrev pub does_fit : Wanted → Side → Bool
does_fit w a = is_typed_kind a.kind && is_none (wanting w a)

abbrev pub prefix_side : TreePrefix → Side → Side
prefix_side x a =
    record {
      start = x.pos;
      kind = kind_if (does_fit (Wants (prefix_type x.sign)) a) (Some (prefix_type x.sign));
      is_constant = is_minus x.sign && a.is_constant;
    }

-- a row of prefix signs before an expression: the first is the outermost
abbrev pub signed : List TreePrefix → Side → Judged
signed [] a = record { side = a; faults = [] }
signed (x ∷ xs) a =
    record {
      side = prefix_side x (signed xs a).side;
      faults = (signed xs a).faults ++ wanting (Wants (prefix_type x.sign)) (signed xs a).side;
    }

abbrev pub key_kind : v.KeyType → Kind
key_kind k = Some (key_ty k)

abbrev pub key_kinds : List v.KeyType → List Kind
key_kinds ks = map key_kind ks

-- indices of an expression of this type
abbrev pub indices_faults_at : Pos → Pos → List Side → v.Ty → List Fault
indices_faults_at start p es (v.MapTy ks t) = matched_faults p (key_kinds ks) es
indices_faults_at start p es t = Mismatch start SomeMap t ∷ []

abbrev pub select_faults_at : Pos → Pos → List Side → Kind → List Fault
select_faults_at start p es None = []
select_faults_at start p es (Some t) = if are_typed es then indices_faults_at start p es t else []

-- the faults of a bracket itself
abbrev pub select_faults : Pos → Side → List Side → List Fault
select_faults p m es = select_faults_at m.start p es m.kind

abbrev pub select_kind_at : Pos → Pos → List Side → Kind → Kind
select_kind_at start p es None = None
select_kind_at start p es (Some t) = kind_if (are_typed es && is_none (indices_faults_at start p es t)) (Some (v.result_of t))

abbrev pub select_side : Pos → Side → List Side → Side
select_side p m es = record { start = m.start; kind = select_kind_at m.start p es m.kind; is_constant = false }

-- indices and the value of an update, of an expression of this type
abbrev pub update_faults_in : Pos → Pos → List Side → Side → v.Ty → List Fault
update_faults_in start p es e (v.MapTy ks t) = matched_faults p (key_kinds ks) es ++ wanting (Wants t) e
update_faults_in start p es e t = Mismatch start SomeMap t ∷ []

abbrev pub update_faults_at : Pos → Pos → List Side → Side → Kind → List Fault
update_faults_at start p es e None = []
update_faults_at start p es e (Some t) =
    if are_typed es && is_typed_kind e.kind then update_faults_in start p es e t else []

abbrev pub update_faults : Pos → Side → List Side → Side → List Fault
update_faults p m es e = update_faults_at m.start p es e m.kind

abbrev pub update_kind_at : Pos → Pos → List Side → Side → Kind → Kind
update_kind_at start p es e None = None
update_kind_at start p es e (Some t) =
    kind_if ((are_typed es && is_typed_kind e.kind) && is_none (update_faults_in start p es e t)) (Some t)

abbrev pub update_side : Pos → Side → List Side → Side → Side
update_side p m es e = record { start = m.start; kind = update_kind_at m.start p es e m.kind; is_constant = false }

-- a function's value: of its result's type
abbrev pub apply_kind : Pos → Option Shape → List Side → Kind
apply_kind p None es = None
apply_kind p (Some f) es = kind_if (do_parts_fit p f.params es) (kind_at f.results 0)

abbrev pub apply_faults : Pos → Option Shape → List Side → List Fault
apply_faults p None es = []
apply_faults p (Some f) es = parts_faults p f.params es

abbrev pub apply_side : Pos → Option Shape → List Side → Side
apply_side p f es = record { start = p; kind = apply_kind p f es; is_constant = false }
