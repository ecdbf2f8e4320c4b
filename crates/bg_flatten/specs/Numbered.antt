-- Blocks made flat: the terms of their commands come into one table of terms, in the order in which the commands stand.
use Rattle.std.specs.Prelude.{List, [], ◌∷◌}
use Rattle.bg_ast.specs.Values.{Ty}
use Rattle.bg_ast.specs.Syntax.{Fun}
use Rattle.bg_passive.specs.Passive.{PassiveCmd, Claims, Supposes, Edge, PassiveBlock}
use Rattle.bg_terms.specs.Terms.{Term}
use Rattle.bg_numbered.specs.Numbered.{behind, numbered}

-- a list, one after the other: the table behind it, and what is made of each over the table before it
abbrev pub list_behind : {A : Type 0} → (A → List Term → List Term) → List A → List Term → List Term
list_behind f [] ts = ts
list_behind f (x ∷ xs) ts = list_behind f xs (f x ts)

abbrev pub list_numbered : {A : Type 0} → (A → List Term → List Term) → (A → List Term → A) → List A → List Term → List A
list_numbered f g [] ts = []
list_numbered f g (x ∷ xs) ts = g x ts ∷ list_numbered f g xs (f x ts)

-- where the terms stand behind incarnations of these types, and functions are these
module _ (fs : List Fun) (incs : List Ty) where
  abbrev pub cmd_behind : PassiveCmd → List Term → List Term
  cmd_behind (Claims s b e) ts = behind fs incs e ts
  cmd_behind (Supposes b e) ts = behind fs incs e ts

  abbrev pub cmd_numbered : PassiveCmd → List Term → PassiveCmd
  cmd_numbered (Claims s b e) ts = Claims s b (numbered fs incs e ts)
  cmd_numbered (Supposes b e) ts = Supposes b (numbered fs incs e ts)

  abbrev pub cmds_behind : List PassiveCmd → List Term → List Term
  cmds_behind ks ts = list_behind cmd_behind ks ts

  abbrev pub cmds_numbered : List PassiveCmd → List Term → List PassiveCmd
  cmds_numbered ks ts = list_numbered cmd_behind cmd_numbered ks ts

  abbrev pub edge_behind : Edge → List Term → List Term
  edge_behind e ts = cmds_behind e.cmds ts

  abbrev pub edge_numbered : Edge → List Term → Edge
  edge_numbered e ts = record { cmds = cmds_numbered e.cmds ts; to = e.to }

  abbrev pub block_behind : PassiveBlock → List Term → List Term
  block_behind b ts = list_behind edge_behind b.next (cmds_behind b.cmds ts)

  abbrev pub block_numbered : PassiveBlock → List Term → PassiveBlock
  block_numbered b ts =
      record {
        cmds = cmds_numbered b.cmds ts;
        next = list_numbered edge_behind edge_numbered b.next (cmds_behind b.cmds ts);
      }

  -- the terms of blocks, and the blocks made flat over them
  abbrev pub terms_of : List PassiveBlock → List Term
  terms_of bs = list_behind block_behind bs []

  abbrev pub flat_of : List PassiveBlock → List PassiveBlock
  flat_of bs = list_numbered block_behind block_numbered bs []
