-- One turn of loops.
use Rattle.std.proofs.Common.{◌≡◌, ℕ, zero, suc, ◌+◌, ◌-◌, ◌<◌, Bool, true, false, List, [], ◌∷◌, ◌++◌, length, map, drop, get_or, refl, sym, ap, ◌∙◌, arith}
use Rattle.std.specs.Prelude.{if◌then◌else◌}
use Rattle.bg_ast.specs.Values.{Val}
use Rattle.bg_ast.specs.Execution as e
use Rattle.bg_ast.specs.Execution.{Spot}
use Rattle.bg_sense.specs.Eval.{value_at}
use Rattle.bg_sense.specs.Variables.{count_from}
use Rattle.bg_passive.specs.Passive.{spot_eq, Walked, On, Stopped, Hit}
use Rattle.bg_incarnate.proofs.Passing.{drop_item}
use Rattle.bg_formed.specs.declared.blocks.FormCmd as code
use Rattle.bg_formed.specs.Formed.{FormCmd, Asks, Takes}
use Rattle.bg_formed.specs.Wells.{is_met}
use Rattle.bg_formed.specs.Views.{form_cmd_of, form_cmds_of}
use Rattle.bg_scalar.specs.declared.value.Value.{Value}
use Rattle.bg_scalar.specs.Values.{value_of}
use Rattle.bg_model.specs.declared.walk.Went.{Went}
use Rattle.bg_model.specs.declared.walk.Went.TheVariants as went
use Rattle.bg_model.specs.declared.pick.Pick.{Pick}
use Rattle.bg_model.specs.Fronts.{chosen_from}
use Rattle.bg_model.specs.Picks.{choice_by}
use Rattle.bg_model.specs.Over.{walk_over}
use Rattle.bg_model.specs.Views.{walked_of}

-- ---- walks

claim_goes : (m s : Bool) (w : Walked) → (if m then On else (if s then Hit else Stopped)) ≡ On → (if m then w else (if s then Hit else Stopped)) ≡ w
claim_goes true s w h = refl
claim_goes false true w h = absurd (let bad : ⊥ = cc in bad)
claim_goes false false w h = absurd (let bad : ⊥ = cc in bad)

suppose_goes : (m : Bool) (w : Walked) → (if m then On else Stopped) ≡ On → (if m then w else Stopped) ≡ w
suppose_goes true w h = refl
suppose_goes false w h = absurd (let bad : ⊥ = cc in bad)

module _ (set : ℕ → Bool) (t : Spot) (w : ℕ → Bool) where
  one_goes : (k : FormCmd) (ks : List FormCmd) → walk_over set t w (k ∷ []) ≡ On → walk_over set t w (k ∷ ks) ≡ walk_over set t w ks
  one_goes (Asks s b r) ks h = claim_goes (is_met set w b r) (spot_eq s t) (walk_over set t w ks) h
  one_goes (Takes b r) ks h = suppose_goes (is_met set w b r) (walk_over set t w ks) h

  pub walk_goes : (ks : List code.FormCmd) (i : ℕ) (k : code.FormCmd) (g : Went) (r : Walked) → i < length ks → k ≡ get_or ks i k → walked_of g ≡ walk_over set t w (form_cmd_of k ∷ []) → g ≡ went.On → walk_over set t w (form_cmds_of (drop i ks)) ≡ r → walk_over set t w (form_cmds_of (drop (i + 1) ks)) ≡ r
  walk_goes ks i k g r h at told on known =
      sym (one_goes (form_cmd_of k) (form_cmds_of (drop (i + 1) ks)) (sym told ∙ ap walked_of on))
      ∙ (ap (λ l. walk_over set t w (form_cmds_of l)) (sym (drop_item ks i k h at)) ∙ known)

-- ---- choices and values, one more

map_push : {A : Type 0} {B : Type 0} (f : A → B) (xs : List A) (x : A) (ys : List B) → map f (xs ++ x ∷ []) ++ ys ≡ map f xs ++ f x ∷ ys
map_push f [] x ys = refl
map_push f (y ∷ xs) x ys = ap (λ l. f y ∷ l) (map_push f xs x ys)

chosen_first : (vs : List Val) (j left : ℕ) → 0 < left → chosen_from vs j left ≡ e.Chosen (value_at vs j) ∷ chosen_from vs (j + 1) (left - 1)
chosen_first vs j zero h = absurd (let bad : ⊥ = omega (arith, h) in bad)
chosen_first vs j (suc k) h =
    let a : suc j ≡ j + 1 = omega arith in
    let b : k ≡ suc k - 1 = omega arith in
    ap (λ n. e.Chosen (value_at vs j) ∷ chosen_from vs n k) a
    ∙ ap (λ n. e.Chosen (value_at vs j) ∷ chosen_from vs (j + 1) n) b

pub chosen_more : (vs : List Val) (made made' : List Pick) (c : Pick) (j j' left : ℕ) (whole : List e.Choice) → made' ≡ made ++ c ∷ [] → choice_by vs c ≡ e.Chosen (value_at vs j) → j' ≡ j + 1 → 0 < left → map (choice_by vs) made ++ chosen_from vs j left ≡ whole → map (choice_by vs) made' ++ chosen_from vs j' (left - 1) ≡ whole
chosen_more vs made made' c j j' left whole more is next h known =
    ap (λ l. map (choice_by vs) l ++ chosen_from vs j' (left - 1)) more
    ∙ (ap (λ n. map (choice_by vs) (made ++ c ∷ []) ++ chosen_from vs n (left - 1)) next
    ∙ (map_push (choice_by vs) made c (chosen_from vs (j + 1) (left - 1))
    ∙ (ap (λ x. map (choice_by vs) made ++ x ∷ chosen_from vs (j + 1) (left - 1)) is
    ∙ (ap (λ l. map (choice_by vs) made ++ l) (sym (chosen_first vs j left h)) ∙ known))))

count_first : (vs : List Val) (j left : ℕ) → 0 < left → map (value_at vs) (count_from j left) ≡ value_at vs j ∷ map (value_at vs) (count_from (j + 1) (left - 1))
count_first vs j zero h = absurd (let bad : ⊥ = omega (arith, h) in bad)
count_first vs j (suc k) h =
    let a : suc j ≡ j + 1 = omega arith in
    let b : k ≡ suc k - 1 = omega arith in
    ap (λ n. value_at vs j ∷ map (value_at vs) (count_from n k)) a
    ∙ ap (λ n. value_at vs j ∷ map (value_at vs) (count_from (j + 1) n)) b

pub values_more : (vs : List Val) (made made' : List Value) (x : Value) (j j' left : ℕ) (whole : List Val) → made' ≡ made ++ x ∷ [] → value_of x ≡ value_at vs j → j' ≡ j + 1 → 0 < left → map value_of made ++ map (value_at vs) (count_from j left) ≡ whole → map value_of made' ++ map (value_at vs) (count_from j' (left - 1)) ≡ whole
values_more vs made made' x j j' left whole more is next h known =
    ap (λ l. map value_of l ++ map (value_at vs) (count_from j' (left - 1))) more
    ∙ (ap (λ n. map value_of (made ++ x ∷ []) ++ map (value_at vs) (count_from n (left - 1))) next
    ∙ (map_push value_of made x (map (value_at vs) (count_from (j + 1) (left - 1)))
    ∙ (ap (λ y. map value_of made ++ y ∷ map (value_at vs) (count_from (j + 1) (left - 1))) is
    ∙ (ap (λ l. map value_of made ++ l) (sym (count_first vs j left h)) ∙ known))))
