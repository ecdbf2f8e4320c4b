-- Worked examples: trees, and their printed texts line by line.
use Rattle.std.proofs.Common.{◌≡◌, ℕ, List, [], ◌∷◌, ◌++◌, Bool, true, false, codes, refl, Some, None, pos}
use Rattle.std.specs.Fmt.{digits}
use Rattle.bg_base.specs.declared.pos.Pos.{Pos}
use Rattle.bg_text.specs.declared.expr.InfixSign.TheVariants as op
use Rattle.bg_text.specs.declared.expr.PrefixSign.TheVariants as prefix
use Rattle.bg_text.specs.Trees.{Id, Ex, Number, Truth, Named, Apply, Old, Parens, Prefix, Postfix, Chain, Exs, NoMore, More, NoBracket, Select, Update, NoLink, Link, Ty, IntType, BoolType, NamedType, InParens, MapType, NoType, OneType, NoIndex, Index, Formula, Quoted, Attr, Group, Clause, Star, Test, Label, Assert, Assume, Havoc, Assign, Invoke, If, IfElse, While, Break, Goto, Return, Sts, NoSt, Then, NoArm, Arm, Returns, Colon, Requires, Ensures, Modifies, Decl, Types, Constants, Function, Axiom, Globals, Procedure, Implementation}
use Rattle.bg_print.specs.Printed.{printed}

abbrev at : Pos
at = record { line = 1; column = 1 }

abbrev id : List ℕ → Id
id x = record { pos = at; text = x }

abbrev called : List ℕ → Ex
called x = Named at x

abbrev n : ℕ → Ex
n k = Number at (pos k)

abbrev one : Ex → Exs
one e = More e NoMore

abbrev two : Ex → Ex → Exs
two e f = More e (More f NoMore)

-- an attribute without arguments
abbrev marked : List ℕ → Attr
marked x = record { name = id x; args = [] }

abbrev group : List Attr → List Id → Ty → Group
group attrs names ty = record { attrs = attrs; names = names; ty = ty }

abbrev clause : Bool → List Attr → Ex → Clause
clause free attrs e = record { pos = at; is_free = free; attrs = attrs; says = e }

-- lines, each with its newline
abbrev lines : List (List ℕ) → List ℕ
lines [] = []
lines (l ∷ ls) = l ++ 10 ∷ lines ls

nothing_is_printed_of_nothing : printed [] ≡ []
nothing_is_printed_of_nothing = refl

abbrev copy : Decl
copy = Procedure record {
  pos = at;
  attrs = [];
  name = id (codes "P");
  sig = record { params = group [] (id (codes "a") ∷ []) (BoolType at) ∷ []; results = None };
  specs = [];
  body = Some record {
    locals = record { pos = at; groups = group [] (id (codes "b") ∷ []) (BoolType at) ∷ [] } ∷ [];
    stmts = Then (Assign at (record { name = id (codes "b"); brackets = [] } ∷ []) (one (called (codes "a")))) (Then (Assert (clause false [] (Chain (called (codes "b")) (Link at op.Equal (called (codes "a")) NoLink)))) NoSt);
  };
}

a_body_stands_in_braces_of_its_own : printed (copy ∷ []) ≡ lines (codes "procedure P(a: bool)" ∷ codes "{" ∷ codes "  var b: bool;" ∷ codes "  b := a;" ∷ codes "  assert b == a;" ∷ codes "}" ∷ [])
a_body_stands_in_braces_of_its_own = refl

types_and_constants_are_lines :
    printed
    (Types at (marked (codes "a") ∷ []) (record { name = id (codes "T"); synonym = None } ∷ record { name = id (codes "U"); synonym = Some (MapType (Index at (OneType (IntType at) (OneType (NamedType at (codes "T")) NoType)) (Index at (OneType (IntType at) NoType) NoIndex)) (InParens at (BoolType at))) } ∷ [])
    ∷ Constants record { pos = at; is_unique = true; group = group (record { name = id (codes "existential"); args = Formula (Truth at true) ∷ [] } ∷ []) (id (codes "b") ∷ id (codes "c") ∷ []) (BoolType at) }
    ∷ Globals record { pos = at; groups = group [] (id (codes "g") ∷ []) (IntType at) ∷ group (record { name = id (codes "w"); args = Quoted (codes "\"x y\"") ∷ Formula (n 7) ∷ [] } ∷ marked (codes "v") ∷ []) (id (codes "h") ∷ id (codes "k") ∷ []) (BoolType at) ∷ [] }
    ∷ [])
    ≡ lines (codes "type {:a} T, U = [int, T][int](bool);" ∷ codes "const {:existential true} unique b, c: bool;" ∷ codes "var g: int, {:w \"x y\", 7} {:v} h, k: bool;" ∷ [])
unfolding digits
types_and_constants_are_lines = refl

functions_and_axioms_are_lines :
    printed
    (Function record { pos = at; attrs = []; name = id (codes "f"); args = record { name = Some (id (codes "x")); ty = IntType at } ∷ record { name = None; ty = BoolType at } ∷ []; result = Returns record { name = None; ty = BoolType at }; body = None }
    ∷ Function record { pos = at; attrs = []; name = id (codes "f0"); args = []; result = Colon (IntType at); body = Some (Chain (n 340282) (Link at op.Plus (Chain (Prefix (record { pos = at; sign = prefix.Minus } ∷ record { pos = at; sign = prefix.Minus } ∷ []) (n 0)) (Link at op.Times (Parens at (called (codes "x"))) NoLink)) (Link at op.Minus (n 1) NoLink))) }
    ∷ Axiom at [] (Prefix (record { pos = at; sign = prefix.Not } ∷ []) (Postfix (Old at (Apply at (codes "f") (two (n 1) (Apply at (codes "f0") NoMore)))) (Select at (two (n 1) (n 2)) (Update at (one (n 3)) (n 4) NoBracket))))
    ∷ [])
    ≡ lines (codes "function f(x: int, bool) returns (bool);" ∷ codes "function f0(): int { 340282 + --0 * (x) - 1 }" ∷ codes "axiom !old(f(1, f0()))[1, 2][3 := 4];" ∷ [])
unfolding digits
functions_and_axioms_are_lines = refl

specifications_are_indented_by_two :
    printed
    (Procedure record {
      pos = at;
      attrs = marked (codes "inline") ∷ [];
      name = id (codes "Q");
      sig = record { params = []; results = Some [] };
      specs = Requires (clause true (marked (codes "r") ∷ []) (Truth at true)) ∷ Modifies at [] ∷ Modifies at (id (codes "g") ∷ id (codes "h") ∷ []) ∷ Ensures (clause false [] (Truth at false)) ∷ [];
      body = None;
    }
    ∷ Procedure record { pos = at; attrs = []; name = id (codes "R"); sig = record { params = []; results = Some (group [] (id (codes "r") ∷ []) (IntType at) ∷ []) }; specs = Ensures (clause false [] (Truth at true)) ∷ []; body = Some record { locals = []; stmts = NoSt } }
    ∷ Implementation record { pos = at; attrs = []; name = id (codes "Q"); sig = record { params = []; results = None }; body = record { locals = []; stmts = Then (Return at) NoSt } }
    ∷ [])
    ≡ lines
    (codes "procedure {:inline} Q() returns ();" ∷ codes "  free requires {:r} true;" ∷ codes "  modifies;" ∷ codes "  modifies g, h;" ∷ codes "  ensures false;"
    ∷ codes "procedure R() returns (r: int)" ∷ codes "  ensures true;" ∷ codes "{" ∷ codes "}"
    ∷ codes "implementation Q()" ∷ codes "{" ∷ codes "  return;" ∷ codes "}" ∷ [])
specifications_are_indented_by_two = refl

-- a procedure with this body
abbrev body_of : Sts → Decl
body_of ss = Procedure record { pos = at; attrs = []; name = id (codes "P"); sig = record { params = []; results = None }; specs = []; body = Some record { locals = []; stmts = ss } }

plain_statements_are_lines :
    printed
    (body_of
    (Then (Assume (clause false (marked (codes "x") ∷ []) (Truth at true)))
    (Then (Havoc at (id (codes "b") ∷ id (codes "c") ∷ []))
    (Then (Assign at (record { name = id (codes "m"); brackets = (at, one (n 1)) ∷ (at, two (n 2) (n 3)) ∷ [] } ∷ record { name = id (codes "c"); brackets = [] } ∷ []) (two (n 1) (n 2)))
    (Then (Invoke record { pos = at; attrs = []; takes = []; procedure = id (codes "P"); args = NoMore })
    (Then (Invoke record { pos = at; attrs = marked (codes "c") ∷ []; takes = id (codes "b") ∷ id (codes "c") ∷ []; procedure = id (codes "P"); args = two (n 1) (n 2) })
    (Then (Label (id (codes "L")))
    (Then (Goto at (id (codes "L") ∷ id (codes "M") ∷ []))
    (Then (Break at None)
    (Then (Break at (Some (id (codes "L")))) NoSt)))))))))
    ∷ [])
    ≡ lines
    (codes "procedure P()" ∷ codes "{" ∷ codes "  assume {:x} true;" ∷ codes "  havoc b, c;" ∷ codes "  m[1][2, 3], c := 1, 2;" ∷ codes "  call P();" ∷ codes "  call {:c} b, c := P(1, 2);"
    ∷ codes "  L:" ∷ codes "  goto L, M;" ∷ codes "  break;" ∷ codes "  break L;" ∷ codes "}" ∷ [])
unfolding digits
plain_statements_are_lines = refl

blocks_stand_two_deeper :
    printed
    (body_of
    (Then (If at (Arm (Star at) NoSt NoArm))
    (Then (IfElse at (Arm (Test (called (codes "a"))) (Then (Return at) NoSt) (Arm (Test (called (codes "b"))) (Then (Label (id (codes "L"))) (Then (Break at None) NoSt)) NoArm)) (Then (If at (Arm (Test (called (codes "c"))) (Then (Return at) NoSt) NoArm)) NoSt))
    (Then (While at (Test (called (codes "a"))) (clause false [] (called (codes "a")) ∷ clause true (marked (codes "i") ∷ []) (called (codes "b")) ∷ []) (Then (While at (Star at) [] (Then (Return at) NoSt)) NoSt))
    NoSt)))
    ∷ [])
    ≡ lines
    (codes "procedure P()" ∷ codes "{" ∷ codes "  if (*) {" ∷ codes "  }"
    ∷ codes "  if (a) {" ∷ codes "    return;" ∷ codes "  } else if (b) {" ∷ codes "    L:" ∷ codes "    break;" ∷ codes "  } else {" ∷ codes "    if (c) {" ∷ codes "      return;" ∷ codes "    }" ∷ codes "  }"
    ∷ codes "  while (a)" ∷ codes "    invariant a;" ∷ codes "    free invariant {:i} b;" ∷ codes "  {" ∷ codes "    while (*)" ∷ codes "    {" ∷ codes "      return;" ∷ codes "    }" ∷ codes "  }" ∷ codes "}" ∷ [])
blocks_stand_two_deeper = refl
