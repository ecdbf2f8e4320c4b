-- Choices are of their types.
use Rattle.std.proofs.Common.{◌≡◌, ℕ, zero, suc, Bool, true, false, ◌&&◌, List, [], ◌∷◌, map, refl}
use Rattle.std.specs.Prelude.{slice_get, unwrap_or}
use Rattle.std.proofs.lemmas.Bool.{and_parts}
use Rattle.bg_ast.specs.Values.{Val, Ty, IntTy, is_of}
use Rattle.bg_sense.specs.Types.{are_of}
use Rattle.bg_sense.specs.Eval.{value_at}
use Rattle.bg_sense.proofs.Bools.{both}
use Rattle.bg_sound.specs.Chosen.{choice_is_of, choices_are_of}
use Rattle.bg_model.specs.declared.pick.Pick.{Pick}
use Rattle.bg_model.specs.declared.pick.Pick.TheVariants.{Branch, Incarnation}
use Rattle.bg_model.specs.Picks.{choice_by, type_by}

at_fits : (ts : List Ty) (vs : List Val) (n : ℕ) → are_of ts vs ≡ true → is_of (unwrap_or (slice_get ts n) IntTy) (value_at vs n) ≡ true
at_fits [] [] zero h = refl
at_fits [] [] (suc n) h = refl
at_fits [] (v ∷ vs) n h = absurd (let bad : false ≡ true = h in cc)
at_fits (t ∷ ts) [] n h = absurd (let bad : false ≡ true = h in cc)
at_fits (t ∷ ts) (v ∷ vs) zero h = (and_parts (is_of t v) (are_of ts vs) h).0
at_fits (t ∷ ts) (v ∷ vs) (suc n) h = at_fits ts vs n (and_parts (is_of t v) (are_of ts vs) h).1

pick_fits : (ts : List Ty) (vs : List Val) (x : Pick) → are_of ts vs ≡ true → choice_is_of (type_by ts x) (choice_by vs x) ≡ true
pick_fits ts vs (Branch k) h = refl
pick_fits ts vs (Incarnation n) h = at_fits ts vs n h

-- where values are of their types, what is picked of them is
pub picks_fit : (ts : List Ty) (vs : List Val) (xs : List Pick) → are_of ts vs ≡ true → choices_are_of (map (type_by ts) xs) (map (choice_by vs) xs) ≡ true
picks_fit ts vs [] h = refl
picks_fit ts vs (x ∷ xs) h =
    both (choice_is_of (type_by ts x) (choice_by vs x)) (choices_are_of (map (type_by ts) xs) (map (choice_by vs) xs)) (pick_fits ts vs x h) (picks_fit ts vs xs h)
