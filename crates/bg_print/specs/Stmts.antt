-- How statements are printed: each on lines of its own, at an indent of n.
use Rattle.std.specs.Prelude.{ℕ, ◌+◌, List, Bool, true, false}
use Rattle.bg_text.specs.declared.token.Kind.TheVariants as kinds
use Rattle.bg_text.specs.Trees.{Id, Clause, Guard, St, Label, Assert, Assume, Havoc, Assign, Invoke, If, IfElse, While, Break, Goto, Return, Sts, NoSt, Then, Arms, NoArm, Arm}
use Rattle.bg_print.specs.Docs.{Doc, Empty, Say, Space, ◌⨾◌, each, commas, if_there, spaced, line, block}
use Rattle.bg_print.specs.Exprs.{list_doc}
use Rattle.bg_print.specs.Parts.{id_doc, clause_doc, guard_doc, target_doc, call_doc}

-- a name behind a space
abbrev pub behind_doc : Id → Doc
behind_doc x = Space ⨾ id_doc x

-- what stands before an arm: ` else if`, where another arm stands before
abbrev pub else_if : Bool → Doc
else_if true = Space ⨾ Say kinds.Else ⨾ Space ⨾ Say kinds.If
else_if false = Empty

-- ` (g) {`, the lines of the block, and `}`
abbrev pub arm_doc : ℕ → Guard → Doc → Doc
arm_doc n g lines = Space ⨾ guard_doc g ⨾ Space ⨾ block n lines

-- the first line of a loop, and its invariants two deeper
abbrev pub while_doc : ℕ → Guard → List Clause → Doc
while_doc n g cs = line n (Say kinds.While ⨾ Space ⨾ guard_doc g) ⨾ each (λ c. line (n + 2) (clause_doc kinds.Invariant c)) cs

abbrev mutual
  -- the lines of a statement
  pub st_doc : ℕ → St → Doc
  st_doc n (Label x) = line n (id_doc x ⨾ Say kinds.Colon)
  st_doc n (Assert c) = line n (clause_doc kinds.Assert c)
  st_doc n (Assume c) = line n (clause_doc kinds.Assume c)
  st_doc n (Havoc p xs) = line n (Say kinds.Havoc ⨾ Space ⨾ commas id_doc xs ⨾ Say kinds.Semicolon)
  st_doc n (Assign p ts es) = line n (commas target_doc ts ⨾ spaced kinds.Becomes (list_doc es) ⨾ Say kinds.Semicolon)
  st_doc n (Invoke c) = line n (call_doc c)
  st_doc n (If p arms) = line n (Say kinds.If ⨾ arms_from false n arms)
  st_doc n (IfElse p arms ss) = line n (Say kinds.If ⨾ arms_from false n arms ⨾ spaced kinds.Else (block n (sts_doc (n + 2) ss)))
  st_doc n (While p g cs ss) = while_doc n g cs ⨾ line n (block n (sts_doc (n + 2) ss))
  st_doc n (Break p x) = line n (Say kinds.Break ⨾ if_there behind_doc x ⨾ Say kinds.Semicolon)
  st_doc n (Goto p xs) = line n (Say kinds.Goto ⨾ Space ⨾ commas id_doc xs ⨾ Say kinds.Semicolon)
  st_doc n (Return p) = line n (Say kinds.Return ⨾ Say kinds.Semicolon)

  -- the lines of statements
  pub sts_doc : ℕ → Sts → Doc
  sts_doc n NoSt = Empty
  sts_doc n (Then s ss) = st_doc n s ⨾ sts_doc n ss

  -- behind `if`: each guard and its block, with ` else if` before each behind the first
  pub arms_from : Bool → ℕ → Arms → Doc
  arms_from behind n NoArm = Empty
  arms_from behind n (Arm g ss arms) = else_if behind ⨾ arm_doc n g (sts_doc (n + 2) ss) ⨾ arms_from true n arms
