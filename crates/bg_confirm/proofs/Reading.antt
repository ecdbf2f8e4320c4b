-- Values that are read one by one, as those of types.
use Rattle.std.proofs.Common.{◌≡◌, ℕ, zero, suc, ◌+◌, ◌<◌, List, [], ◌∷◌, ◌++◌, length, drop, get_or, refl, sym, ap, ◌∙◌, append_assoc, append-nil}
use Rattle.std.specs.Prelude.{Option, slice_get, unwrap_or}
use Rattle.std.proofs.lemmas.List.{drop-drop, drop_more}
use Rattle.bg_ast.specs.Values.{Val, Ty, IntTy}
use Rattle.bg_scalar.specs.Values.{value_of}
use Rattle.bg_scalar.specs.Views.{vals_in}
use Rattle.bg_scalar.specs.declared.value.Value.{Value}
use Rattle.bg_replay.specs.Holds.{type_at}
use Rattle.bg_certtext.specs.Views.{ValueOf}
use Rattle.bg_confirm.specs.Met.{val_for, vals_for}

pub first_behind : (hs : List Ty) (k : ℕ) → slice_get (drop k hs) 0 ≡ slice_get hs k
first_behind [] zero = refl
first_behind [] (suc k) = refl
first_behind (h ∷ hs) zero = refl
first_behind (h ∷ hs) (suc k) = first_behind hs k

-- the value at place k
step : (hs : List Ty) (k : ℕ) (x : ValueOf) (xs : List ValueOf) → vals_for (drop k hs) (x ∷ xs) ≡ val_for (type_at hs k) x ∷ vals_for (drop (k + 1) hs) xs
step hs k x xs =
    ap (λ (o : Option Ty). val_for (unwrap_or o IntTy) x ∷ vals_for (drop 1 (drop k hs)) xs) (first_behind hs k)
    ∙ ap (λ (l : List Ty). val_for (type_at hs k) x ∷ vals_for l xs) (drop-drop 1 k hs)

vals_more : (xs : List Value) (x : Value) → vals_in (xs ++ x ∷ []) ≡ vals_in xs ++ value_of x ∷ []
vals_more [] x = refl
vals_more (y ∷ ys) x = ap (λ (l : List Val). value_of y ∷ l) (vals_more ys x)

-- one more value
pub one_read : (hs : List Ty) (k : ℕ) (x : ValueOf) (now xs : List ValueOf) (made new : List Value) (s : Value) (whole : List Val) → now ≡ x ∷ xs → new ≡ made ++ s ∷ [] → value_of s ≡ val_for (type_at hs k) x →
    vals_in made ++ vals_for (drop k hs) now ≡ whole → vals_in new ++ vals_for (drop (k + 1) hs) xs ≡ whole
one_read hs k x now xs made new s whole e more is h =
    ap (λ (l : List Value). vals_in l ++ vals_for (drop (k + 1) hs) xs) more
    ∙ (ap (λ (l : List Val). l ++ vals_for (drop (k + 1) hs) xs) (vals_more made s)
    ∙ (append_assoc (vals_in made) (value_of s ∷ []) (vals_for (drop (k + 1) hs) xs)
    ∙ (ap (λ (y : Val). vals_in made ++ y ∷ vals_for (drop (k + 1) hs) xs) is
    ∙ (ap (λ (l : List Val). vals_in made ++ l) (sym (step hs k x xs))
    ∙ (ap (λ (l : List ValueOf). vals_in made ++ vals_for (drop k hs) l) (sym e) ∙ h)))))

-- the same of a list that is read as values
pub reads_more : {W : Type 0} (F : List W → List ValueOf) (f : W → ValueOf) → ((w : W) (ws : List W) → F (w ∷ ws) ≡ f w ∷ F ws) → (hs : List Ty) (k : ℕ) (ws : List W) (d : W) (h : Ty) (made new : List Value) (s : Value) (whole : List Val) →
    k < length ws → new ≡ made ++ s ∷ [] → value_of s ≡ val_for h (f (get_or ws k d)) → h ≡ type_at hs k → vals_in made ++ vals_for (drop k hs) (F (drop k ws)) ≡ whole → vals_in new ++ vals_for (drop (k + 1) hs) (F (drop (k + 1) ws)) ≡ whole
reads_more F f step hs k ws d h made new s whole inside more is at inv =
    let w = get_or ws k d in
    one_read hs k (f w) (F (drop k ws)) (F (drop (k + 1) ws)) made new s whole (ap F (drop_more ws k d inside) ∙ step w (drop (k + 1) ws)) more
    (is ∙ ap (λ (g : Ty). val_for g (f w)) at) inv

-- no value is left
pub all_read : (hs : List Ty) (now : List ValueOf) (made : List Value) (whole : List Val) → now ≡ [] → vals_in made ++ vals_for hs now ≡ whole → vals_in made ≡ whole
all_read hs now made whole e h =
    sym (append-nil (vals_in made)) ∙ (ap (λ (l : List ValueOf). vals_in made ++ vals_for hs l) (sym e) ∙ h)
