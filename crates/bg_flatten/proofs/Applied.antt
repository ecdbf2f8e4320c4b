-- No term of blocks is a part of an index.
use Rattle.std.proofs.Common.{◌≡◌, ℕ, false, List, [], ◌∷◌, Option, Some, None, refl, ap, ◌∙◌, ⊎_elim}
use Rattle.std.specs.Prelude.{slice_get}
use Rattle.bg_ast.specs.Values.{Ty}
use Rattle.bg_ast.specs.Syntax.{Ex, Exs, Number, Fact, Constant, Read, Not, Negative, Binary, Apply, Select, Update, Old, NoMore, More, Fun}
use Rattle.bg_passive.specs.Passive.{PassiveCmd, Claims, Supposes, Edge, PassiveBlock}
use Rattle.bg_terms.specs.Terms.{Head, Applies, Term}
use Rattle.bg_terms.specs.Closed.{is_differs}
use Rattle.bg_numbered.specs.Put.{found_from, made, with_by, with_term, select_head, update_head, map_ty}
use Rattle.bg_numbered.specs.Numbered.{behind, numbered, all_behind, all_numbered}
use Rattle.bg_numbered.proofs.Growing.{last_or}
use Rattle.bg_flatten.specs.Makes.{Each}
use Rattle.bg_flatten.specs.Numbered.{list_behind, cmd_behind, edge_behind, block_behind, terms_of}

-- ---- lists

list_keeps : {A : Type 0} → (Fine : A → Type 0) (Good : List Term → Type 0) (f : A → List Term → List Term) → ((x : A) (ts : List Term) → Fine x → Good ts → Good (f x ts)) → (xs : List A) (ts : List Term) → Each Fine xs → Good ts → Good (list_behind f xs ts)
list_keeps Fine Good f one [] ts k h = h
list_keeps Fine Good f one (x ∷ xs) ts k h = list_keeps Fine Good f one xs (f x ts) k.1 (one x ts k.0 h)

-- ---- no parts of indices

abbrev AreOrdinary : List Term → Type 0
AreOrdinary ts = (a : ℕ) (t : Term) → slice_get ts a ≡ Some t → is_differs t.head ≡ false

abbrev Any : {A : Type 0} → A → Type 0
Any x = Unit {0}

any : {A : Type 0} → (xs : List A) → Each Any xs
any [] = tt
any (x ∷ xs) = (tt, any xs)

module _ (fs : List Fun) (incs : List Ty) where
  put_ordinary : (h : Head) (xs : Exs) (ts : List Term) → is_differs h ≡ false → AreOrdinary ts → AreOrdinary (with_term fs h xs ts)
  put_ordinary h xs ts same k = on (found_from 0 h xs ts)
    where
      on : (o : Option ℕ) → AreOrdinary (with_by o (made fs h xs) ts)
      on (Some a) = k
      on None = λ a t e. ⊎_elim (k a t) (λ last. ap (λ u. is_differs u.head) last ∙ same) (last_or ts (made fs h xs) a t e)

  mutual
    ordinary : (e : Ex) (ts : List Term) → AreOrdinary ts → AreOrdinary (behind fs incs e ts)
    ordinary (Number z) ts h = h
    ordinary (Fact b) ts h = h
    ordinary (Constant c) ts h = h
    ordinary (Read x) ts h = h
    ordinary (Not e) ts h = ordinary e ts h
    ordinary (Negative e) ts h = ordinary e ts h
    ordinary (Binary op a b) ts h = ordinary b (behind fs incs a ts) (ordinary a ts h)
    ordinary (Apply f es) ts h =
        put_ordinary (Applies f) (all_numbered fs incs es ts) (all_behind fs incs es ts) refl (all_ordinary es ts h)
    ordinary (Select m es) ts h =
        let mid = behind fs incs m ts in
        let last = all_behind fs incs es mid in
        let x = numbered fs incs m ts in
        put_ordinary (select_head (map_ty incs x last)) (More x (all_numbered fs incs es mid)) last refl (all_ordinary es mid (ordinary m ts h))
    ordinary (Update m es e) ts h =
        let mid = behind fs incs m ts in
        let far = all_behind fs incs es mid in
        let last = behind fs incs e far in
        let x = numbered fs incs m ts in
        put_ordinary (update_head (map_ty incs x last)) (More x (More (numbered fs incs e far) (all_numbered fs incs es mid))) last refl (ordinary e far (all_ordinary es mid (ordinary m ts h)))
    ordinary (Old e) ts h = ordinary e ts h

    all_ordinary : (es : Exs) (ts : List Term) → AreOrdinary ts → AreOrdinary (all_behind fs incs es ts)
    all_ordinary NoMore ts h = h
    all_ordinary (More e es) ts h = all_ordinary es (behind fs incs e ts) (ordinary e ts h)

  cmd_ordinary : (k : PassiveCmd) (ts : List Term) → Any k → AreOrdinary ts → AreOrdinary (cmd_behind fs incs k ts)
  cmd_ordinary (Claims s b e) ts k h = ordinary e ts h
  cmd_ordinary (Supposes b e) ts k h = ordinary e ts h

  edge_ordinary : (e : Edge) (ts : List Term) → Any e → AreOrdinary ts → AreOrdinary (edge_behind fs incs e ts)
  edge_ordinary e ts k h = list_keeps Any AreOrdinary (cmd_behind fs incs) cmd_ordinary e.cmds ts (any e.cmds) h

  block_ordinary : (b : PassiveBlock) (ts : List Term) → Any b → AreOrdinary ts → AreOrdinary (block_behind fs incs b ts)
  block_ordinary b ts k h =
      list_keeps Any AreOrdinary (edge_behind fs incs) edge_ordinary b.next (list_behind (cmd_behind fs incs) b.cmds ts) (any b.next) (list_keeps Any AreOrdinary (cmd_behind fs incs) cmd_ordinary b.cmds ts (any b.cmds) h)

  pub are_ordinary : (bs : List PassiveBlock) → AreOrdinary (terms_of fs incs bs)
  are_ordinary bs =
      list_keeps Any AreOrdinary (block_behind fs incs) block_ordinary bs [] (any bs) (λ a t e. absurd (let bad : ⊥ = cc in bad))
