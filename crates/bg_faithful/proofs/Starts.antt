-- Typed values of the incarnations begin with a state.
use Rattle.std.proofs.Common.{◌≡◌, ℕ, zero, suc, true, List, [], ◌∷◌, ◌++◌, length, map, Some, refl, ap, ◌∙◌, subst}
use Rattle.std.specs.Prelude.{slice_get}
use Rattle.bg_ast.specs.Values.{Ty, Val, is_of}
use Rattle.bg_ast.specs.Syntax.{Decl, Proc, Impl, Prog}
use Rattle.bg_sense.specs.Types.{are_of, types_of}
use Rattle.bg_sense.specs.Eval.{value_at}
use Rattle.bg_sense.specs.Variables.{count_from, procedure_of}
use Rattle.bg_sense.specs.Claims.{frame_of, frame_with, IsState}
use Rattle.bg_sense.proofs.Bools.{and_left, and_right, both}
use Rattle.bg_flow.specs.Core.{frame_decls}
use Rattle.bg_passive.specs.Incarnations.{first_state}
use Rattle.bg_block_types.specs.Typed.{arrivals_in, incarnations_in}

-- a typed value stands at each place
typed_at : (ts : List Ty) (vs : List Val) (j : ℕ) (t : Ty) → are_of ts vs ≡ true → slice_get ts j ≡ Some t → is_of t (value_at vs j) ≡ true
typed_at [] vs j t h e = absurd (let bad : ⊥ = cc in bad)
typed_at (u ∷ ts) [] j t h e = absurd (let bad : ⊥ = cc in bad)
typed_at (u ∷ ts) (v ∷ vs) zero t h e =
    let same : u ≡ t = cc in subst (λ x. is_of x v ≡ true) same (and_left (is_of u v) (are_of ts vs) h)
typed_at (u ∷ ts) (v ∷ vs) (suc j) t h e = typed_at ts vs j t (and_right (is_of u v) (are_of ts vs) h) e

-- those from j on, where the types stand from j on
abbrev StandAt : List Ty → ℕ → List Ty → Type 0
StandAt all j [] = Unit {0}
StandAt all j (t ∷ ts) = (slice_get all j ≡ Some t) × StandAt all (suc j) ts

shifted : (u : Ty) (all : List Ty) (j : ℕ) (ts : List Ty) → StandAt all j ts → StandAt (u ∷ all) (suc j) ts
shifted u all j [] h = tt
shifted u all j (t ∷ ts) h = (h.0, shifted u all (suc j) ts h.1)

stand_first : (ts us : List Ty) → StandAt (ts ++ us) 0 ts
stand_first [] us = tt
stand_first (t ∷ ts) us = (refl, shifted t (ts ++ us) 0 ts (stand_first ts us))

stand_behind : (ts us : List Ty) (xs : List Ty) → StandAt us 0 xs → StandAt (ts ++ us) (length ts) xs
stand_behind [] us xs h = h
stand_behind (t ∷ ts) us xs h = shifted t (ts ++ us) (length ts) xs (stand_behind ts us xs h)

typed_from : (all : List Ty) (vs : List Val) (j : ℕ) (ds : List Decl) → are_of all vs ≡ true → StandAt all j (types_of ds) → are_of (types_of ds) (map (value_at vs) (count_from j (length ds))) ≡ true
typed_from all vs j [] h s = refl
typed_from all vs j (d ∷ ds) h s =
    both (is_of d.ty (value_at vs j)) (are_of (types_of ds) (map (value_at vs) (count_from (suc j) (length ds)))) (typed_at all vs j d.ty h s.0) (typed_from all vs (suc j) ds h s.1)

types_count : (ds : List Decl) → length (types_of ds) ≡ length ds
types_count [] = refl
types_count (d ∷ ds) = ap (λ n. suc n) (types_count ds)

pub starts : (p : Prog) (k : ℕ) (m : Impl) (q : Proc) → slice_get p.implementations k ≡ Some m → procedure_of p m.procedure ≡ Some q → (values : List Val) → are_of (incarnations_in p k m q) values ≡ true → IsState p k (first_state p (frame_decls m q) values)
starts p k m q im pr values h =
    let ds = frame_decls m q in
    let made = (arrivals_in p k m q).made in
    let all = incarnations_in p k m q in
    let frame : frame_of p (slice_get p.implementations k) ≡ ds = ap (frame_of p) im ∙ ap (λ o. frame_with o m) pr in
    let at_frame : StandAt all (length p.globals) (types_of ds) = subst (λ n. StandAt all n (types_of ds)) (types_count p.globals) (stand_behind (types_of p.globals) (types_of ds ++ made) (types_of ds) (stand_first (types_of ds) made)) in
    record {
      globals = typed_from all values 0 p.globals h (stand_first (types_of p.globals) (types_of ds ++ made));
      frame =
          ap (λ es. are_of (types_of es) (map (value_at values) (count_from (length p.globals) (length ds)))) frame
          ∙ typed_from all values (length p.globals) ds h at_frame;
    }
