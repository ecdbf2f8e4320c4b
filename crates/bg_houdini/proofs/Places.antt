-- What is known of places that were checked in pieces is known of all.
use Rattle.std.proofs.Common.{◌≡◌, ℕ, zero, suc, ◌+◌, ◌*◌, ◌<◌, ◌≤◌, Bool, true, List, [], ◌∷◌, ◌++◌, length, map, take, drop, get_or, Ok, Err, IfOk, refl, sym, ap, ◌∙◌, subst, arith}
use Rattle.std.specs.Fork.{IsChunk}
use Rattle.std.proofs.lemmas.List.{map-append, length-drop, take-append-drop, drop-drop}
use Rattle.bg_ast.specs.Syntax.{Prog}
use Rattle.bg_ast.specs.Resolved as r
use Rattle.bg_places.specs.declared.place.Place.{Place}
use Rattle.bg_places.specs.Views.{placed_of, placed_in}
use Rattle.bg_check.specs.declared.effort.Effort.{Effort}
use Rattle.bg_task.specs.declared.prepared.Prepared.{Prepared}
use Rattle.bg_task.specs.Prepared.{ArePrepared}
use Rattle.bg_task.specs.Asked.{AreAsked}
use Rattle.bg_check.specs.declared.verdict.Judged.{Judged}
use Rattle.bg_check.specs.Verdicts.{placed_at, AreRightAt, have_all}
use Rattle.bg_houdini.specs.Known.{AreRightOn}
use Rattle.bg_houdini.specs.Pieces.{Piece, Joins}
use Rattle.bg_houdini.proofs.Once.{if_ok}
use Rattle.bg_houdini.proofs.Pieces.{both_whole}

-- some of the places of an implementation that is prepared
module _ (p : r.Program) (w : Prepared) where
  abbrev Its : List Place → Type 0
  Its ps = ArePrepared p w (placed_in ps)

  its_take : (n : ℕ) (ps : List Place) → Its ps → Its (take n ps)
  its_take zero ps h = tt
  its_take (suc n) [] h = tt
  its_take (suc n) (x ∷ ps) h = (h.0, its_take n ps h.1)

  its_drop : (n : ℕ) (ps : List Place) → Its ps → Its (drop n ps)
  its_drop zero ps h = h
  its_drop (suc n) [] h = tt
  its_drop (suc n) (x ∷ ps) h = its_drop n ps h.1

  pub its_chunk : (ps : List Place) (size first : ℕ) (piece : List Place) → Its ps → IsChunk ps size first piece → Its piece
  its_chunk ps size first piece h chunk = subst Its (sym chunk.value) (its_take size (drop first ps) (its_drop first ps h))

-- some of the places that are asked
module _ (p : Prog) (set : ℕ → Bool) where
  abbrev Asked : List Place → Type 0
  Asked ps = AreAsked p set (placed_in ps)

  asked_take : (n : ℕ) (ps : List Place) → Asked ps → Asked (take n ps)
  asked_take zero ps h = tt
  asked_take (suc n) [] h = tt
  asked_take (suc n) (x ∷ ps) h = (h.0, asked_take n ps h.1)

  asked_drop : (n : ℕ) (ps : List Place) → Asked ps → Asked (drop n ps)
  asked_drop zero ps h = h
  asked_drop (suc n) [] h = tt
  asked_drop (suc n) (x ∷ ps) h = asked_drop n ps h.1

  pub asked_chunk : (ps : List Place) (size first : ℕ) (piece : List Place) → Asked ps → IsChunk ps size first piece → Asked piece
  asked_chunk ps size first piece h chunk = subst Asked (sym chunk.value) (asked_take size (drop first ps) (asked_drop first ps h))

module _ (effort : Effort) (p : Prog) (set : ℕ → Bool) where
  abbrev Right : List Place → List Judged → Type 0
  Right = AreRightOn effort p set

  -- all parts of what a piece has
  pub right_on : (ps : List Place) (a : Piece Judged) → IfOk a (λ v. map placed_at v.items ≡ placed_in ps) → IfOk a (λ v. AreRightAt effort.budget p set v.items) → IfOk a (λ v. effort.keeps ≡ true → have_all v.items ≡ true)
      → IfOk a (λ v. Right ps v.items)
  right_on ps (Ok v) h g w = record {
    places = h;
    right = g;
    whole = w;
  }
  right_on ps (Err e) h g w = h

  both_right : (js is : List Judged) → AreRightAt effort.budget p set js → AreRightAt effort.budget p set is → AreRightAt effort.budget p set (js ++ is)
  both_right [] is h g = g
  both_right (j ∷ js) is h g = (h.0, both_right js is h.1 g)

  -- verdicts of places, and of those behind them
  both : (ps qs : List Place) (js is : List Judged) → Right ps js → Right qs is → Right (ps ++ qs) (js ++ is)
  both ps qs js is h g = record {
    places =
        map-append placed_at js is
        ∙ (ap (λ xs. xs ++ map placed_at is) h.places ∙ (ap (λ xs. placed_in ps ++ xs) g.places ∙ sym (map-append placed_of ps qs)));
    right = both_right js is h.right g.right;
    whole = λ keeps. both_whole js is (h.whole keeps) (g.whole keeps);
  }

  none_left : (ps : List Place) → length ps ≤ 0 → Right ps []
  none_left [] l = record {
    places = refl;
    right = tt;
    whole = λ keeps. refl;
  }
  none_left (x ∷ ps) l = absurd (omega (arith, l))

  -- what pieces of this size have is right of all
  pub all_known : (size : ℕ) → 0 < size → (ps : List Place) (rs : List (Piece Judged)) (ys : List Judged)
      → ((n : ℕ) (d : Piece Judged) → n < length rs → IfOk (get_or rs n d) (λ v. Right (take size (drop (n * size) ps)) v.items))
      → length ps ≤ length rs * size → Joins rs ys → Right ps ys
  all_known size some ps [] ys each l h = subst (Right ps) (sym h) (none_left ps (let z : 0 * size ≡ 0 = omega arith in omega (arith, l, z)))
  all_known size some ps (Err e ∷ rs) ys each l h = absurd h
  all_known size some ps (Ok v ∷ rs) ys each l h =
      let zs = h.0 in
      let z : 0 * size ≡ 0 = omega arith in
      let here : Right (take size ps) v.items = subst (λ (q : ℕ). Right (take size (drop q ps)) v.items) z (each 0 (Ok v) (omega arith)) in
      let t = length rs * size in
      let enough : length ps ≤ size + t = let m : suc (length rs) * size ≡ size + t = one_time (length rs) size in omega (arith, l, m) in
      let short : length (drop size ps) ≤ t = let e = length-drop size ps in omega (arith, e, enough) in
      let rest : Right (drop size ps) zs = all_known size some (drop size ps) rs zs (λ n d m. later n d (each (suc n) d (omega (arith, m)))) short h.2 in
      subst (Right ps) (sym h.1)
      (subst (λ (qs : List Place). Right qs (v.items ++ zs)) (take-append-drop size ps) (both (take size ps) (drop size ps) v.items zs here rest))
    where
      one_time : (n q : ℕ) → suc n * q ≡ q + n * q
      one_time n q = omega arith

      later : (n : ℕ) (d : Piece Judged) → IfOk (get_or (Ok v ∷ rs) (suc n) d) (λ v. Right (take size (drop (suc n * size) ps)) v.items)
          → IfOk (get_or rs n d) (λ v. Right (take size (drop (n * size) (drop size ps))) v.items)
      later n d g =
          if_ok (get_or rs n d)
          (λ v h.
          subst (λ (qs : List Place). Right (take size qs) v.items) (sym (drop-drop (n * size) size ps))
          (subst (λ (q : ℕ). Right (take size (drop q ps)) v.items) (one_time n size) h))
          g
