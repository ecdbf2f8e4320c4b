-- Verdicts that were made in pieces are those of the whole.
use Rattle.std.proofs.Common.{◌≡◌, ℕ, suc, ◌+◌, ◌*◌, ◌-◌, ◌<◌, ◌≤◌, min, Bool, true, ◌&&◌, List, [], ◌∷◌, ◌++◌, length, take, drop, get_or, Some, Vec, Ok, Err, IfOk, refl, sym, ap, ◌∙◌, subst, arith}
use Rattle.std.specs.Prelude.{slice_get}
use Rattle.std.specs.List.{list_all}
use Rattle.std.specs.declared.alloc.Global.{Global}
use Rattle.std.specs.Fork.{IsChunk}
use Rattle.std.proofs.Math.Seq.{take-suc}
use Rattle.std.proofs.lemmas.List.{map-append, append_assoc, append-nil, length-drop, length-take-le, take_min, take-append-drop, drop-drop, get_or-drop}
use Rattle.std.proofs.lemmas.Option.{slice_get_read, get_or_from_slice_get}
use Rattle.bg_ast.specs.Resolved as r
use Rattle.bg_sense.proofs.Bools.{and_left, and_right}
use Rattle.bg_tree.specs.declared.outcome.Budget.{Budget}
use Rattle.bg_check.specs.declared.verdict.Judged.{Judged}
use Rattle.bg_task.specs.declared.prepared.Prepared.{Prepared}
use Rattle.bg_check.specs.Verdicts.{AreRightOf, AreRightFrom, has_all, have_all, judged}
use Rattle.bg_check.proofs.Judging.{from_more}
use Rattle.bg_houdini.specs.Checkers.{ArePrepared, ArePreparedFrom}
use Rattle.bg_houdini.specs.Pieces.{Piece, IsWith, Joins}
use Rattle.bg_houdini.proofs.Once.{if_ok}
use Rattle.bg_houdini.proofs.Tasks.{get_below, get_there}

abbrev Verdicts : Type 0
Verdicts = List (Vec Judged Global)

abbrev Told : Type 0
Told = Piece (Vec Judged Global)

-- a piece of what is prepared
pub prepared_chunk : (p : r.Program) (ws : List Prepared) (size first : ℕ) (piece : List Prepared) → ArePrepared p (length p.implementations) ws → IsChunk ws size first piece → ArePreparedFrom p first piece
prepared_chunk p ws size first piece h chunk = record {
  inside = let e = h.count_is in let b = chunk.in_bounds in omega (arith, e, b);
  each =
      λ k w e.
      let here = get_below piece k w e in
      let b = chunk.in_bounds in
      let at : first + k < length ws = omega (arith, here, b) in
      let same : w ≡ get_or ws (first + k) w = sym (get_or_from_slice_get piece k w w e) ∙ chunk.elements k w here in
      h.each (first + k) w (slice_get_read ws (length ws) (first + k) w refl at same);
}

module _ (budget : Budget) (p : r.Program) (set : ℕ → Bool) where
  abbrev Right : ℕ → List r.Impl → List (List Judged) → Type 0
  Right = AreRightFrom budget p set

  -- one more implementation of a piece
  pub piece_more : (first k : ℕ) (os : List (List Judged)) (js : List Judged) → first + k < length p.implementations → Right first (take k (drop first p.implementations)) os
      → ((m : r.Impl) → slice_get p.implementations (first + k) ≡ Some m → AreRightOf budget p set (first + k) m js) → Right first (take (k + 1) (drop first p.implementations)) (os ++ (js ∷ []))
  piece_more first k os js l h g =
      let ms = p.implementations in
      let x = get_there ms (first + k) l in
      let rest = drop first ms in
      let inside : k < length rest = let e = length-drop first ms in omega (arith, e, l) in
      let same : get_or rest k x.0 ≡ x.0 = get_or-drop first ms k x.0 ∙ get_or_from_slice_get ms (first + k) x.0 x.0 x.1 in
      let long : length (take k rest) ≡ k = length-take-le k rest (omega (arith, inside)) in
      let s : k + 1 ≡ suc k = omega arith in
      let next : take (k + 1) rest ≡ take k rest ++ (x.0 ∷ []) = ap (λ (j : ℕ). take j rest) s ∙ (take-suc rest k x.0 inside ∙ ap (λ (y : r.Impl). take k rest ++ (y ∷ [])) same) in
      subst (λ (ns : List r.Impl). Right first ns (os ++ (js ∷ []))) (sym next)
      (from_more budget p set first (take k rest) os x.0 js h (subst (λ (j : ℕ). AreRightOf budget p set (first + j) x.0 js) (sym long) (g x.0 x.1)))

  -- verdicts of implementations, and of those behind them
  both_rows : (k : ℕ) (ms ns : List r.Impl) (os us : List (List Judged)) → Right k ms os → Right (k + length ms) ns us → Right k (ms ++ ns) (os ++ us)
  both_rows k [] ns [] us h g = let e : k + 0 ≡ k = omega arith in subst (λ (i : ℕ). Right i ns us) e g
  both_rows k [] ns (o ∷ os) us h g = absurd h
  both_rows k (m ∷ ms) ns [] us h g = absurd h
  both_rows k (m ∷ ms) ns (o ∷ os) us h g =
      let e : k + suc (length ms) ≡ suc k + length ms = omega arith in
      (h.0, both_rows (suc k) ms ns os us h.1 (subst (λ (i : ℕ). Right i ns us) e g))

  -- where there are none, their number is no matter
  moved : (i j : ℕ) (ns : List r.Impl) (us : List (List Judged)) → (0 < length ns → i ≡ j) → Right i ns us → Right j ns us
  moved i j [] [] e h = tt
  moved i j [] (u ∷ us) e h = absurd h
  moved i j (n ∷ ns) us e h = subst (λ (q : ℕ). Right q (n ∷ ns) us) (e (omega arith)) h

  none_left : (k : ℕ) (ms : List r.Impl) → length ms ≤ 0 → Right k ms []
  none_left k [] l = tt
  none_left k (m ∷ ms) l = absurd (omega (arith, l))

  -- what pieces of this size have is right of all
  pub all_right : (size : ℕ) → 0 < size → (k : ℕ) (ms : List r.Impl) (rs : List Told) (ys : Verdicts)
      → ((n : ℕ) (d : Told) → n < length rs → IfOk (get_or rs n d) (λ v. Right (k + n * size) (take size (drop (n * size) ms)) (judged v.items)))
      → length ms ≤ length rs * size → Joins rs ys → Right k ms (judged ys)
  all_right size some k ms [] ys each l h = subst (λ (us : Verdicts). Right k ms (judged us)) (sym h) (none_left k ms (let z : 0 * size ≡ 0 = omega arith in omega (arith, l, z)))
  all_right size some k ms (Err e ∷ rs) ys each l h = absurd h
  all_right size some k ms (Ok v ∷ rs) ys each l h =
      let zs = h.0 in
      let z : 0 * size ≡ 0 = omega arith in
      let z' : k + 0 ≡ k = omega arith in
      let here : Right k (take size ms) (judged v.items) =
      subst (λ (q : ℕ). Right q (take size ms) (judged v.items)) z'
      (subst (λ (q : ℕ). Right (k + q) (take size (drop q ms)) (judged v.items)) z (each 0 (Ok v) (omega arith))) in
      let t = length rs * size in
      let enough : length ms ≤ size + t = let m : suc (length rs) * size ≡ size + t = one_time (length rs) size in omega (arith, l, m) in
      let short : length (drop size ms) ≤ t = let e = length-drop size ms in omega (arith, e, enough) in
      let rest : Right (k + size) (drop size ms) (judged zs) = all_right size some (k + size) (drop size ms) rs zs (λ n d m. later n d (each (suc n) d (omega (arith, m)))) short h.2 in
      let put : Right (k + length (take size ms)) (drop size ms) (judged zs) =
      moved (k + size) (k + length (take size ms)) (drop size ms) (judged zs)
      (λ some'. let e = length-drop size ms in let full = length-take-le size ms (omega (arith, e, some')) in omega (arith, full)) rest in
      subst (λ (us : Verdicts). Right k ms (judged us)) (sym h.1)
      (subst (λ (os : List (List Judged)). Right k ms os) (sym (map-append (λ (w : Vec Judged Global). w.items) v.items zs))
      (subst (λ (ns : List r.Impl). Right k ns (judged v.items ++ judged zs)) (take-append-drop size ms) (both_rows k (take size ms) (drop size ms) (judged v.items) (judged zs) here put)))
    where
      one_time : (n q : ℕ) → suc n * q ≡ q + n * q
      one_time n q = omega arith

      later : (n : ℕ) (d : Told) → IfOk (get_or (Ok v ∷ rs) (suc n) d) (λ v. Right (k + suc n * size) (take size (drop (suc n * size) ms)) (judged v.items))
          → IfOk (get_or rs n d) (λ v. Right (k + size + n * size) (take size (drop (n * size) (drop size ms))) (judged v.items))
      later n d g =
          if_ok (get_or rs n d)
          (λ v h.
          let e : k + (size + n * size) ≡ k + size + n * size = omega arith in
          subst (λ (ns : List r.Impl). Right (k + size + n * size) (take size ns) (judged v.items)) (sym (drop-drop (n * size) size ms))
          (subst (λ (q : ℕ). Right q (take size (drop (size + n * size) ms)) (judged v.items)) e
          (subst (λ (q : ℕ). Right (k + q) (take size (drop q ms)) (judged v.items)) (one_time n size) h)))
          g

-- what is so of each piece, and of what stands behind one another, is so of all that is joined
pub all_joined : {A : Type 0} (P : List A → Type 0) → P [] → ((xs ys : List A) → P xs → P ys → P (xs ++ ys)) → (rs : List (Piece A)) (ys : List A)
    → ((n : ℕ) (d : Piece A) → n < length rs → IfOk (get_or rs n d) (λ v. P v.items)) → Joins rs ys → P ys
all_joined P none both [] ys each h = subst P (sym h) none
all_joined P none both (Err e ∷ rs) ys each h = absurd h
all_joined P none both (Ok v ∷ rs) ys each h =
    subst P (sym h.1) (both v.items h.0 (each 0 (Ok v) (omega arith)) (all_joined P none both rs h.0 (λ n d l. each (suc n) d (omega (arith, l))) h.2))

-- verdicts that have their certificates or causes, and those behind them
pub both_whole : (js is : List Judged) → have_all js ≡ true → have_all is ≡ true → have_all (js ++ is) ≡ true
both_whole [] is h g = g
both_whole (j ∷ js) is h g =
    ap (λ (b : Bool). b && have_all (js ++ is)) (and_left (has_all j.verdict) (have_all js) h)
    ∙ both_whole js is (and_right (has_all j.verdict) (have_all js) h) g

rows_whole : (os us : List (List Judged)) → list_all have_all os ≡ true → list_all have_all us ≡ true → list_all have_all (os ++ us) ≡ true
rows_whole [] us h g = g
rows_whole (js ∷ os) us h g =
    ap (λ (b : Bool). b && list_all have_all (os ++ us)) (and_left (have_all js) (list_all have_all os) h)
    ∙ rows_whole os us (and_right (have_all js) (list_all have_all os) h) g

pub row_more : (os : List (List Judged)) (js : List Judged) → list_all have_all os ≡ true → have_all js ≡ true → list_all have_all (os ++ (js ∷ [])) ≡ true
row_more os js h g = rows_whole os (js ∷ []) h (ap (λ (b : Bool). b && true) g)

pub both_judged : (vs ws : Verdicts) → list_all have_all (judged vs) ≡ true → list_all have_all (judged ws) ≡ true → list_all have_all (judged (vs ++ ws)) ≡ true
both_judged vs ws h g =
    ap (list_all have_all) (map-append (λ (w : Vec Judged Global). w.items) vs ws) ∙ rows_whole (judged vs) (judged ws) h g

-- as many implementations as a piece has
pub chunk_take : {A B : Type 0} (xs : List A) (ms : List B) (size first n : ℕ) → length xs ≡ length ms → n ≡ min size (length xs - first) → take n (drop first ms) ≡ take size (drop first ms)
chunk_take xs ms size first n same is =
    let long : length xs - first ≡ length (drop first ms) = ap (λ (j : ℕ). j - first) same ∙ sym (length-drop first ms) in
    ap (λ (j : ℕ). take j (drop first ms)) (is ∙ ap (min size) long) ∙ take_min size (drop first ms)

-- a piece more is joined
pub joins_more : {A : Type 0} (all : List (Piece A)) (piece : Piece A) (rest next : List (Piece A)) (made new : List A) → rest ≡ piece ∷ next → IsWith piece made new
    → ((zs : List A) → Joins rest zs → Joins all (made ++ zs)) → (zs : List A) → Joins next zs → Joins all (new ++ zs)
joins_more all (Err e) rest next made new is with_it inv zs h = absurd with_it
joins_more {A} all (Ok v) rest next made new is with_it inv zs h =
    subst (Joins all) (sym (append_assoc made v.items zs) ∙ ap (λ (us : List A). us ++ zs) (sym with_it))
    (inv (v.items ++ zs) (subst (λ (rs : List (Piece A)). Joins rs (v.items ++ zs)) (sym is) (zs, refl, h)))

-- where none is left, all are joined
pub done : {A : Type 0} (all rest : List (Piece A)) (made : List A) → length rest ≡ 0 → ((zs : List A) → Joins rest zs → Joins all (made ++ zs)) → Joins all made
done all [] made e inv = subst (Joins all) (append-nil made) (inv [] refl)
done all (r ∷ rest) made e inv = absurd (omega (arith, e))
