-- Programs as they are written, without where they lie in memory.
use Rattle.std.specs.Prelude.{ℕ, ℤ, Bool, List, Option}
use Rattle.bg_base.specs.declared.pos.Pos.{Pos}
use Rattle.bg_text.specs.declared.expr.InfixSign.{InfixSign}
use Rattle.bg_text.specs.declared.expr.TreePrefix.{TreePrefix}

-- a name, and where it stands
pub record Id : Type 0 where
  pub pos : Pos
  pub text : List ℕ

mutual
  -- a chain of one level, a row of prefix signs and a row of brackets are one node each
  pub data Ex : Type 0 where
    Number : Pos → ℤ → Ex
    Truth : Pos → Bool → Ex
    Named : Pos → List ℕ → Ex
    Apply : Pos → List ℕ → Exs → Ex
    Old : Pos → Ex → Ex
    Parens : Pos → Ex → Ex
    Prefix : List TreePrefix → Ex → Ex
    Postfix : Ex → Brackets → Ex
    Chain : Ex → Links → Ex

  pub data Exs : Type 0 where
    NoMore : Exs
    More : Ex → Exs → Exs

  -- a row of brackets: reads, and writes with their values
  pub data Brackets : Type 0 where
    NoBracket : Brackets
    Select : Pos → Exs → Brackets → Brackets
    Update : Pos → Exs → Ex → Brackets → Brackets

  -- the operands behind the first, each with the sign before it
  pub data Links : Type 0 where
    NoLink : Links
    Link : Pos → InfixSign → Ex → Links → Links

mutual
  -- a type; a row of map brackets before one result type is one node
  pub data Ty : Type 0 where
    IntType : Pos → Ty
    BoolType : Pos → Ty
    NamedType : Pos → List ℕ → Ty
    InParens : Pos → Ty → Ty
    MapType : Indices → Ty → Ty

  pub data Tys : Type 0 where
    NoType : Tys
    OneType : Ty → Tys → Tys

  -- the brackets of a row, each with its index types
  pub data Indices : Type 0 where
    NoIndex : Indices
    Index : Pos → Tys → Indices → Indices

-- an argument of an attribute: an expression, or a string with its quotes
pub data Arg : Type 0 where
  Formula : Ex → Arg
  Quoted : List ℕ → Arg

pub record Attr : Type 0 where
  pub name : Id
  pub args : List Arg

-- names with one type, with the attributes before them
pub record Group : Type 0 where
  pub attrs : List Attr
  pub names : List Id
  pub ty : Ty

-- a clause, and where its first word stands
pub record Clause : Type 0 where
  pub pos : Pos
  pub is_free : Bool
  pub attrs : List Attr
  pub says : Ex

pub data Guard : Type 0 where
  Star : Pos → Guard
  Test : Ex → Guard

-- the left side of an assignment: a variable with brackets behind it
pub record Target : Type 0 where
  pub name : Id
  pub brackets : List (Pos × Exs)

-- a call, with the variables that take its results
pub record Call : Type 0 where
  pub pos : Pos
  pub attrs : List Attr
  pub takes : List Id
  pub procedure : Id
  pub args : Exs

mutual
  -- a statement, or a label; the position is that of the first word, of an assignment that of `:=`
  pub data St : Type 0 where
    Label : Id → St
    Assert : Clause → St
    Assume : Clause → St
    Havoc : Pos → List Id → St
    Assign : Pos → List Target → Exs → St
    Invoke : Call → St
    If : Pos → Arms → St
    IfElse : Pos → Arms → Sts → St
    While : Pos → Guard → List Clause → Sts → St
    Break : Pos → Option Id → St
    Goto : Pos → List Id → St
    Return : Pos → St

  pub data Sts : Type 0 where
    NoSt : Sts
    Then : St → Sts → Sts

  -- the arms of a chain of `else if`
  pub data Arms : Type 0 where
    NoArm : Arms
    Arm : Guard → Sts → Arms → Arms

-- a type that is declared, and what it stands for where it is a synonym
pub record NewType : Type 0 where
  pub name : Id
  pub synonym : Option Ty

-- an argument of a function, or its result, with a name or without
pub record FunArg : Type 0 where
  pub name : Option Id
  pub ty : Ty

-- `returns (..)`, or `: ..`
pub data FunResult : Type 0 where
  Returns : FunArg → FunResult
  Colon : Ty → FunResult

-- the parameters, and the results unless `returns` is left out
pub record Sig : Type 0 where
  pub params : List Group
  pub results : Option (List Group)

pub data Spec : Type 0 where
  Requires : Clause → Spec
  Ensures : Clause → Spec
  Modifies : Pos → List Id → Spec

-- one `var` with its groups of names
pub record Vars : Type 0 where
  pub pos : Pos
  pub groups : List Group

pub record Body : Type 0 where
  pub locals : List Vars
  pub stmts : Sts

pub record Consts : Type 0 where
  pub pos : Pos
  pub is_unique : Bool
  pub group : Group

pub record Fun : Type 0 where
  pub pos : Pos
  pub attrs : List Attr
  pub name : Id
  pub args : List FunArg
  pub result : FunResult
  pub body : Option Ex

pub record Proc : Type 0 where
  pub pos : Pos
  pub attrs : List Attr
  pub name : Id
  pub sig : Sig
  pub specs : List Spec
  pub body : Option Body

pub record Impl : Type 0 where
  pub pos : Pos
  pub attrs : List Attr
  pub name : Id
  pub sig : Sig
  pub body : Body

pub data Decl : Type 0 where
  Types : Pos → List Attr → List NewType → Decl
  Constants : Consts → Decl
  Function : Fun → Decl
  Axiom : Pos → List Attr → Ex → Decl
  Globals : Vars → Decl
  Procedure : Proc → Decl
  Implementation : Impl → Decl
