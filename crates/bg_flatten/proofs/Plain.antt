-- What is plain stays as it is.
use Rattle.std.proofs.Common.{◌≡◌, List, [], ◌∷◌, refl, ap, ◌∙◌}
use Rattle.bg_ast.specs.Values.{Ty}
use Rattle.bg_ast.specs.Syntax.{Ex, Number, Fact, Constant, Read, Not, Negative, Binary, Apply, Select, Update, Old, Fun}
use Rattle.bg_passive.specs.Passive.{PassiveCmd, Claims, Supposes, Edge, PassiveBlock}
use Rattle.bg_terms.specs.Terms.{Term}
use Rattle.bg_numbered.specs.Numbered.{behind, numbered}
use Rattle.bg_flatten.specs.Makes.{Each}
use Rattle.bg_flatten.specs.Numbered.{list_behind, list_numbered, cmd_behind, cmd_numbered, cmds_behind, cmds_numbered, edge_behind, edge_numbered, block_behind, block_numbered, terms_of, flat_of}
use Rattle.bg_flatten.specs.Plain.{IsPlain, PlainCmd, PlainEdge, PlainBlock, PlainBlocks}

-- ---- lists

module _ (A : Type 0) (Plain : A → Type 0) (f : A → List Term → List Term) (g : A → List Term → A) (same_table : (x : A) (ts : List Term) → Plain x → f x ts ≡ ts) (same : (x : A) (ts : List Term) → Plain x → g x ts ≡ x) where
  list_table : (xs : List A) (ts : List Term) → Each Plain xs → list_behind f xs ts ≡ ts
  list_table [] ts h = refl
  list_table (x ∷ xs) ts h = ap (list_behind f xs) (same_table x ts h.0) ∙ list_table xs ts h.1

  list_same : (xs : List A) (ts : List Term) → Each Plain xs → list_numbered f g xs ts ≡ xs
  list_same [] ts h = refl
  list_same (x ∷ xs) ts h =
      ap (λ y. y ∷ list_numbered f g xs (f x ts)) (same x ts h.0)
      ∙ ap (λ us. x ∷ list_numbered f g xs us) (same_table x ts h.0)
      ∙ ap (λ ys. x ∷ ys) (list_same xs ts h.1)

module _ (fs : List Fun) (incs : List Ty) where
  table : (e : Ex) (ts : List Term) → IsPlain e → behind fs incs e ts ≡ ts
  table (Number z) ts h = refl
  table (Fact b) ts h = refl
  table (Constant k) ts h = refl
  table (Read x) ts h = refl
  table (Not e) ts h = table e ts h
  table (Negative e) ts h = table e ts h
  table (Binary op a b) ts h = ap (behind fs incs b) (table a ts h.0) ∙ table b ts h.1
  table (Apply f es) ts h = absurd h
  table (Select m es) ts h = absurd h
  table (Update m es e) ts h = absurd h
  table (Old e) ts h = absurd h

  stays : (e : Ex) (ts : List Term) → IsPlain e → numbered fs incs e ts ≡ e
  stays (Number z) ts h = refl
  stays (Fact b) ts h = refl
  stays (Constant k) ts h = refl
  stays (Read x) ts h = refl
  stays (Not e) ts h = ap Not (stays e ts h)
  stays (Negative e) ts h = ap Negative (stays e ts h)
  stays (Binary op a b) ts h =
      ap (λ x. Binary op x (numbered fs incs b (behind fs incs a ts))) (stays a ts h.0)
      ∙ ap (λ us. Binary op a (numbered fs incs b us)) (table a ts h.0)
      ∙ ap (Binary op a) (stays b ts h.1)
  stays (Apply f es) ts h = absurd h
  stays (Select m es) ts h = absurd h
  stays (Update m es e) ts h = absurd h
  stays (Old e) ts h = absurd h

  cmd_table : (k : PassiveCmd) (ts : List Term) → PlainCmd k → cmd_behind fs incs k ts ≡ ts
  cmd_table (Claims s b e) ts h = table e ts h
  cmd_table (Supposes b e) ts h = table e ts h

  cmd_stays : (k : PassiveCmd) (ts : List Term) → PlainCmd k → cmd_numbered fs incs k ts ≡ k
  cmd_stays (Claims s b e) ts h = ap (Claims s b) (stays e ts h)
  cmd_stays (Supposes b e) ts h = ap (Supposes b) (stays e ts h)

  cmds_table : (ks : List PassiveCmd) (ts : List Term) → Each PlainCmd ks → cmds_behind fs incs ks ts ≡ ts
  cmds_table = list_table PassiveCmd PlainCmd (cmd_behind fs incs) (cmd_numbered fs incs) cmd_table cmd_stays

  cmds_stay : (ks : List PassiveCmd) (ts : List Term) → Each PlainCmd ks → cmds_numbered fs incs ks ts ≡ ks
  cmds_stay = list_same PassiveCmd PlainCmd (cmd_behind fs incs) (cmd_numbered fs incs) cmd_table cmd_stays

  edge_table : (e : Edge) (ts : List Term) → PlainEdge e → edge_behind fs incs e ts ≡ ts
  edge_table e ts h = cmds_table e.cmds ts h

  edge_stays : (e : Edge) (ts : List Term) → PlainEdge e → edge_numbered fs incs e ts ≡ e
  edge_stays e ts h = ap (λ ks. record { cmds = ks; to = e.to }) (cmds_stay e.cmds ts h)

  block_table : (b : PassiveBlock) (ts : List Term) → PlainBlock b → block_behind fs incs b ts ≡ ts
  block_table b ts h =
      ap (list_behind (edge_behind fs incs) b.next) (cmds_table b.cmds ts h.0)
      ∙ list_table Edge PlainEdge (edge_behind fs incs) (edge_numbered fs incs) edge_table edge_stays b.next ts h.1

  block_stays : (b : PassiveBlock) (ts : List Term) → PlainBlock b → block_numbered fs incs b ts ≡ b
  block_stays b ts h =
      ap (λ ks. record { cmds = ks; next = list_numbered (edge_behind fs incs) (edge_numbered fs incs) b.next (cmds_behind fs incs b.cmds ts) }) (cmds_stay b.cmds ts h.0)
      ∙ ap (λ us. record { cmds = b.cmds; next = list_numbered (edge_behind fs incs) (edge_numbered fs incs) b.next us }) (cmds_table b.cmds ts h.0)
      ∙ ap (λ es. record { cmds = b.cmds; next = es }) (list_same Edge PlainEdge (edge_behind fs incs) (edge_numbered fs incs) edge_table edge_stays b.next ts h.1)

  pub no_terms_of : (bs : List PassiveBlock) → PlainBlocks bs → terms_of fs incs bs ≡ []
  no_terms_of bs h =
      list_table PassiveBlock PlainBlock (block_behind fs incs) (block_numbered fs incs) block_table block_stays bs [] h

  pub same_blocks : (bs : List PassiveBlock) → PlainBlocks bs → flat_of fs incs bs ≡ bs
  same_blocks bs h =
      list_same PassiveBlock PlainBlock (block_behind fs incs) (block_numbered fs incs) block_table block_stays bs [] h
