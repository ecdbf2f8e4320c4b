-- The entries of a history, by number.
use Rattle.std.proofs.Common.{◌≡◌, ◌<◌, List, [], ◌∷◌, map, length, refl, ap, subst, arith}
use Rattle.std.specs.Borrow.{Bor}
use Rattle.std.specs.List.Sorted.{IsPermutation, IsNonDecreasingBy}
use Rattle.std.proofs.lemmas.List.{get_or-map, length-map}
use Rattle.std.proofs.lemmas.List.Sorted.{IsPermutation-map}
use Rattle.bg_ast.specs.Resolved.{Program}
use Rattle.bg_check.specs.Kept.{why_of}
use Rattle.bg_rounds.specs.declared.keeper.Removal.{Removal}
use Rattle.bg_houdini.specs.declared.reason.Reason.{Reason}
use Rattle.bg_told.specs.History.{Gone, gone_of, number_of}

abbrev pub entry : Program → Bor (Removal Reason) → Gone
entry p d = gone_of why_of p d.now

told_now : (p : Program) (refs : List (Bor (Removal Reason))) → map (gone_of why_of p) (map (λ d. d.now) refs) ≡ map (entry p) refs
told_now p [] = refl
told_now p (r ∷ refs) = ap (λ (gs : List Gone). entry p r ∷ gs) (told_now p refs)

-- the same entries
pub same_told : (p : Program) (ds : List (Removal Reason)) (refs : List (Bor (Removal Reason))) → IsPermutation ds (map (λ d. d.now) refs) → IsPermutation (map (gone_of why_of p) ds) (map (entry p) refs)
same_told p ds refs h =
    subst (λ (gs : List Gone). IsPermutation (map (gone_of why_of p) ds) gs) (told_now p refs) (IsPermutation-map (gone_of why_of p) ds (map (λ d. d.now) refs) h)

-- in the same order
pub rising_told : (p : Program) (refs : List (Bor (Removal Reason))) → IsNonDecreasingBy (λ d. d.now.number) refs → IsNonDecreasingBy number_of (map (entry p) refs)
rising_told p [] h i j d le lt = absurd (omega (arith, lt))
rising_told p (r ∷ refs) h i j d le lt =
    let many = length-map (r ∷ refs) (entry p) in
    let high : j < length (r ∷ refs) = omega (arith, lt, many) in
    let low : i < length (r ∷ refs) = omega (arith, le, high) in
    let first = ap number_of (get_or-map (entry p) (r ∷ refs) i r d low) in
    let second = ap number_of (get_or-map (entry p) (r ∷ refs) j r d high) in
    let between = h i j r le high in
    omega (arith, first, second, between)
