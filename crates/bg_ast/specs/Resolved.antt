-- A program whose names are numbers; names, positions and forms of writing are kept.
use Rattle.std.specs.Prelude.{ℕ, ℤ, Bool, List, Option}
use Rattle.bg_base.specs.declared.pos.Pos.{Pos}
use Rattle.bg_text.specs.declared.expr.InfixSign.{InfixSign}
use Rattle.bg_text.specs.declared.expr.TreePrefix.{TreePrefix}
use Rattle.bg_text.specs.Trees.{Id}
use Rattle.bg_ast.specs.Syntax.{Var}

mutual
  -- a type as it is written; a declared type has the number of its declaration
  pub data Ty : Type 0 where
    IntType : Pos → Ty
    BoolType : Pos → Ty
    DeclaredType : Pos → ℕ → Ty
    InParens : Pos → Ty → Ty
    MapType : Indices → Ty → Ty

  pub data Tys : Type 0 where
    NoType : Tys
    OneType : Ty → Tys → Tys

  pub data Indices : Type 0 where
    NoIndex : Indices
    Index : Pos → Tys → Indices → Indices

mutual
  -- an expression as it is written
  pub data Ex : Type 0 where
    Number : Pos → ℤ → Ex
    Truth : Pos → Bool → Ex
    Constant : Pos → ℕ → Ex
    Read : Pos → Var → Ex
    Apply : Pos → ℕ → Exs → Ex
    Old : Pos → Ex → Ex
    Parens : Pos → Ex → Ex
    Prefix : List TreePrefix → Ex → Ex
    Postfix : Ex → Brackets → Ex
    Chain : Ex → Links → Ex

  pub data Exs : Type 0 where
    NoMore : Exs
    More : Ex → Exs → Exs

  pub data Brackets : Type 0 where
    NoBracket : Brackets
    Select : Pos → Exs → Brackets → Brackets
    Update : Pos → Exs → Ex → Brackets → Brackets

  pub data Links : Type 0 where
    NoLink : Links
    Link : Pos → InfixSign → Ex → Links → Links

-- a clause: where its first word stands, its number, and what it says behind the candidate that guards it
pub record Clause : Type 0 where
  pub pos : Pos
  pub id : ℕ
  pub is_free : Bool
  pub candidate : Option ℕ
  pub says : Ex

pub data Guard : Type 0 where
  Star : Guard
  Test : Ex → Guard

-- a variable that is assigned, and where its name stands
pub record Placed : Type 0 where
  pub pos : Pos
  pub variable : Var

-- the left side of an assignment
pub record Target : Type 0 where
  pub placed : Placed
  pub brackets : List (Pos × Exs)

-- a call: its number, where `call` and the procedure's name stand, and the variables that take the results
pub record Call : Type 0 where
  pub pos : Pos
  pub site : ℕ
  pub name_pos : Pos
  pub procedure : ℕ
  pub args : Exs
  pub takes : List Placed

mutual
  -- a statement, or a label; labels are numbered in their implementation, loops and arms in the program
  pub data St : Type 0 where
    Label : ℕ → St
    Assert : Clause → St
    Assume : Ex → St
    Havoc : List Placed → St
    Assign : Pos → List Target → Exs → St
    Invoke : Call → St
    If : ℕ → Arms → Sts → St
    While : ℕ → Pos → Guard → List Clause → Sts → St
    Break : ℕ → St
    Goto : List ℕ → St
    Return : St

  pub data Sts : Type 0 where
    NoSt : Sts
    Then : St → Sts → Sts

  -- the arms of a chain of `else if`, which have consecutive numbers
  pub data Arms : Type 0 where
    NoArm : Arms
    Arm : Guard → Sts → Arms → Arms

-- a type that is declared, and what it stands for where it is a synonym
pub record TypeName : Type 0 where
  pub name : Id
  pub synonym : Option Ty

-- a variable's declaration
pub record Declared : Type 0 where
  pub name : Id
  pub ty : Ty

-- a constant that is no candidate
pub record Const : Type 0 where
  pub name : Id
  pub is_unique : Bool
  pub ty : Ty

-- a function; its arguments are the frame of its body
pub record Fun : Type 0 where
  pub name : Id
  pub params : List Ty
  pub result : Ty
  pub body : Option Ex

-- a procedure; its clauses speak of parameters and results by their places in the frame
pub record Proc : Type 0 where
  pub pos : Pos
  pub name : Id
  pub params : List Declared
  pub results : List Declared
  pub modifies : List ℕ
  pub requires_ : List Clause
  pub ensures_ : List Clause

-- an implementation, with its own names for the parameters and results
pub record Impl : Type 0 where
  pub pos : Pos
  pub name : Id
  pub procedure : ℕ
  pub params : List Declared
  pub results : List Declared
  pub locals : List Declared
  pub body : Sts

-- the declarations of each kind, in the order of the text
pub record Program : Type 0 where
  pub types : List TypeName
  pub constants : List Const
  pub candidates : List Id
  pub globals : List Declared
  pub functions : List Fun
  pub axioms : List Ex
  pub procedures : List Proc
  pub implementations : List Impl
