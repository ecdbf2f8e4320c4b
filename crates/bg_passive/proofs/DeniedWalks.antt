-- The equations deny a block's truth variable exactly where some walk from it fails at the target.
use Rattle.std.proofs.Common.{◌≡◌, ℕ, zero, suc, Bool, true, false, List, [], ◌∷◌, refl, sym, ◌∙◌}
use Rattle.std.specs.Prelude.{not, ◌&&◌, ◌||◌, if◌then◌else◌, Some, slice_get, ◌↔◌}
use Rattle.bg_ast.specs.Values.{truth_of}
use Rattle.bg_sense.specs.Eval.{Scope, ev}
use Rattle.bg_ast.specs.Execution.{Spot}
use Rattle.bg_passive.specs.Passive.{PassiveCmd, Claims, Supposes, Edge, PassiveBlock, spot_eq, is_absent, Walked, On, Stopped, Hit, walk_cmds, walk_on, walk_at, walk_edge, follow, walks, SomeWalk}
use Rattle.bg_passive.specs.Equations.{equation_cmds, is_well, all_well, equations}

-- the commands' equation, by how a walk through them goes
abbrev Told : Walked → Bool → Bool → Type 0
Told On b rest = b ≡ rest
Told Stopped b rest = b ≡ true
Told Hit b rest = b ≡ false

claim_told : (x y : Bool) (w : Walked) (b rest : Bool) → Told w b rest → Told (if x then w else (if y then Hit else Stopped)) (if y then x && b else (not x || b)) rest
claim_told true true w b rest h = h
claim_told true false w b rest h = h
claim_told false true w b rest h = refl
claim_told false false w b rest h = refl

suppose_told : (x : Bool) (w : Walked) (b rest : Bool) → Told w b rest → Told (if x then w else Stopped) (not x || b) rest
suppose_told true w b rest h = h
suppose_told false w b rest h = refl

-- a walk and a truth value that say the same
abbrev Same : (List ℕ → Bool) → Bool → Type 0
Same f b = (b ≡ false → (choices : List ℕ) × (f choices ≡ true)) × ((choices : List ℕ) → f choices ≡ true → b ≡ false)

abbrev SameAll : List (List ℕ → Bool) → List Bool → Type 0
SameAll [] [] = Unit {0}
SameAll [] (b ∷ bs) = ⊥
SameAll (f ∷ fs) [] = ⊥
SameAll (f ∷ fs) (b ∷ bs) = Same f b × SameAll fs bs

same_at : (fs : List (List ℕ → Bool)) (bs : List Bool) (k : ℕ) → SameAll fs bs → Same (walk_at (slice_get fs k)) (is_well (slice_get bs k))
same_at [] [] k h = (λ e. absurd (let bad : ⊥ = cc in bad), λ choices e. absurd (let bad : ⊥ = cc in bad))
same_at [] (b ∷ bs) k h = absurd h
same_at (f ∷ fs) [] k h = absurd h
same_at (f ∷ fs) (b ∷ bs) zero h = h.0
same_at (f ∷ fs) (b ∷ bs) (suc k) h = same_at fs bs k h.1

denied_walk : (w : Walked) (b rest : Bool) (f : List ℕ → Bool) → Told w b rest → Same f rest → Same (walk_on w f) b
denied_walk On b rest f told h = (λ e. h.0 (sym told ∙ e), λ choices e. told ∙ h.1 choices e)
denied_walk Stopped b rest f told h = (λ e. absurd (let bad : ⊥ = cc in bad), λ choices e. absurd (let bad : ⊥ = cc in bad))
denied_walk Hit b rest f told h = (λ e. ([], refl), λ choices e. told)

and_false : (a b : Bool) → b ≡ false → (a && b) ≡ false
and_false true b e = e
and_false false b e = refl

false_and : (a b : Bool) → a ≡ false → (a && b) ≡ false
false_and true b e = absurd (let bad : ⊥ = cc in bad)
false_and false b e = refl

module _ (set : ℕ → Bool) (t : Spot) (c : Scope) where
  pub cmds_told : (ks : List PassiveCmd) (rest : Bool) → Told (walk_cmds set t c ks) (equation_cmds set t c ks rest) rest
  cmds_told [] rest = refl
  cmds_told (Claims s b e ∷ ks) rest =
      claim_told (is_absent set b || truth_of (ev e c)) (spot_eq s t) (walk_cmds set t c ks) (equation_cmds set t c ks rest) rest (cmds_told ks rest)
  cmds_told (Supposes b e ∷ ks) rest =
      suppose_told (is_absent set b || truth_of (ev e c)) (walk_cmds set t c ks) (equation_cmds set t c ks rest) rest (cmds_told ks rest)

  module _ (fs : List (List ℕ → Bool)) (bs : List Bool) (h : SameAll fs bs) where
    edge_same : (e : Edge) → Same (walk_edge set t c fs (Some e)) (equation_cmds set t c e.cmds (is_well (slice_get bs e.to)))
    edge_same e =
        denied_walk (walk_cmds set t c e.cmds) (equation_cmds set t c e.cmds (is_well (slice_get bs e.to))) (is_well (slice_get bs e.to)) (walk_at (slice_get fs e.to)) (cmds_told e.cmds (is_well (slice_get bs e.to))) (same_at fs bs e.to h)

    well_denied : (es : List Edge) → all_well set t c bs es ≡ false → (choices : List ℕ) × (follow set t c fs es choices ≡ true)
    well_denied [] e = absurd (let bad : ⊥ = cc in bad)
    well_denied (k ∷ ks) e = on (equation_cmds set t c k.cmds (is_well (slice_get bs k.to))) refl e (well_denied ks)
      where
        on : (b : Bool) → equation_cmds set t c k.cmds (is_well (slice_get bs k.to)) ≡ b → (b && all_well set t c bs ks) ≡ false → (all_well set t c bs ks ≡ false → (choices : List ℕ) × (follow set t c fs ks choices ≡ true)) → (choices : List ℕ) × (follow set t c fs (k ∷ ks) choices ≡ true)
        on false q e' rest = let w = (edge_same k).0 q in (0 ∷ w.0, w.1)
        on true q e' rest = further (rest e')
          where
            further : (choices : List ℕ) × (follow set t c fs ks choices ≡ true) → (choices : List ℕ) × (follow set t c fs (k ∷ ks) choices ≡ true)
            further w = shift w.0 w.1
              where
                shift : (choices : List ℕ) → follow set t c fs ks choices ≡ true → (others : List ℕ) × (follow set t c fs (k ∷ ks) others ≡ true)
                shift [] f = absurd (let bad : ⊥ = cc in bad)
                shift (j ∷ js) f = (suc j ∷ js, f)

    denied_well : (es : List Edge) (j : ℕ) (choices : List ℕ) → walk_edge set t c fs (slice_get es j) choices ≡ true → all_well set t c bs es ≡ false
    denied_well [] j choices e = absurd (let bad : ⊥ = cc in bad)
    denied_well (k ∷ ks) zero choices e =
        false_and (equation_cmds set t c k.cmds (is_well (slice_get bs k.to))) (all_well set t c bs ks) ((edge_same k).1 choices e)
    denied_well (k ∷ ks) (suc j) choices e =
        and_false (equation_cmds set t c k.cmds (is_well (slice_get bs k.to))) (all_well set t c bs ks) (denied_well ks j choices e)

    followed : (es : List Edge) (choices : List ℕ) → follow set t c fs es choices ≡ true → all_well set t c bs es ≡ false
    followed es [] e = absurd (let bad : ⊥ = cc in bad)
    followed es (j ∷ choices) e = denied_well es j choices e

  all_same : (bs : List PassiveBlock) → SameAll (walks set t c bs) (equations set t c bs)
  all_same [] = tt
  all_same (b ∷ bs) =
      let rest = all_same bs in
      let fs = walks set t c bs in
      let es = equations set t c bs in
      (denied_walk (walk_cmds set t c b.cmds) _ (all_well set t c es b.next) (follow set t c fs b.next) (cmds_told b.cmds (all_well set t c es b.next)) (λ e. well_denied fs es rest b.next e, λ choices e. followed fs es rest b.next choices e), rest)

  pub denied_where_walked : (bs : List PassiveBlock) (k : ℕ) → is_well (slice_get (equations set t c bs) k) ≡ false ↔ SomeWalk set t c bs k
  denied_where_walked bs k =
      let h = same_at (walks set t c bs) (equations set t c bs) k (all_same bs) in (h.0, λ w. h.1 w.0 w.1)
