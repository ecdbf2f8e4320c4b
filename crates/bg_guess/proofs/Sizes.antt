-- How many guesses a list has.
use Rattle.std.proofs.Common.{◌≡◌, suc, ◌+◌, ◌*◌, List, [], ◌∷◌, ◌++◌, length, map, ap, arith, suc-mul}
use Rattle.std.proofs.lemmas.List.{length-append, length-map}
use Rattle.bg_ast.specs.declared.resolved.Variable.{Variable}
use Rattle.bg_guess.specs.Claims.{Subjects, bounds, pairs}
use Rattle.bg_guess.specs.declared.claim.Claim.TheVariants.{NotNegative, AtMost, Unchanged}
use Rattle.bg_guess.specs.Loops.{size}

bounds_count : (v : Variable) (ws : List Variable) → length (bounds v ws) ≡ length ws
bounds_count v ws = length-map ws (AtMost v)

-- each of n variables is compared with all others
pairs_count : (front back : List Variable) → length (pairs front back) + length back ≡ length back * (length front + length back)
pairs_count front [] = omega arith
pairs_count front (v ∷ back) =
    let rest = pairs_count (front ++ v ∷ []) back in
    let longer = length-append front (v ∷ []) in
    let one = length-append (bounds v front ++ bounds v back) (pairs (front ++ v ∷ []) back) in
    let two = length-append (bounds v front) (bounds v back) in
    let f = bounds_count v front in
    let g = bounds_count v back in
    let same : length back * (length (front ++ v ∷ []) + length back) ≡ length back * (length front + suc (length back))
    = ap (λ n. length back * n) (omega (arith, longer)) in
    omega (arith, rest, longer, one, two, f, g, same, suc-mul (length back) (length front + suc (length back)))

pub size_is : (s : Subjects) → size s ≡ length s.numbers * length s.numbers + length s.kept
size_is s =
    let one = length-append (map NotNegative s.numbers) (pairs [] s.numbers ++ map Unchanged s.kept) in
    let two = length-append (pairs [] s.numbers) (map Unchanged s.kept) in
    let f = length-map s.numbers NotNegative in
    let g = length-map s.kept Unchanged in
    omega (arith, one, two, f, g, pairs_count [] s.numbers)
