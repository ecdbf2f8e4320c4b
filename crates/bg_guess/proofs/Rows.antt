-- The rows of numbers that the guesses of procedures and of implementations have make one row together.
use Rattle.std.proofs.Common.{◌≡◌, ℕ, zero, suc, ◌+◌, ◌<◌, List, [], ◌∷◌, length, replicate, refl, ap, ◌∙◌, sym, subst, arith}
use Rattle.std.specs.Prelude.{All, get_or}
use Rattle.std.proofs.lemmas.List.{length-set, length-replicate}
use Rattle.std.proofs.lemmas.List.Elements.{All-head, All-tail}
use Rattle.bg_ast.specs.Resolved as r
use Rattle.bg_guess.specs.Guessed.{Survey, proc_count, procs_count, impl_count, impls_count, add_at, with_loops, next_proc, loop_starts}
use Rattle.bg_guess.proofs.Times.{within, within_none, within_join}

-- whether a number is one that the guesses of procedures' clauses have, above a number
abbrev pub procs_within : Survey → List ℕ → (above b k : ℕ) → List r.Proc → ℕ → ℕ
procs_within v loops above b k [] x = 0
procs_within v loops above b k (q ∷ qs) x = within (above + b) (proc_count v k q) x + procs_within v loops above (next_proc v loops b k q) (suc k) qs x

-- and one that those of implementations' loops have
abbrev pub impls_within : Survey → List r.Proc → ℕ → List ℕ → List r.Impl → ℕ → ℕ
impls_within v qs above ns [] x = 0
impls_within v qs above ns (m ∷ ms) x =
    within (above + get_or ns m.procedure 0) (impl_count v qs m) x + impls_within v qs above (add_at m.procedure (impl_count v qs m) ns) ms x

-- whether a number is in one of several rows, of which these are the first numbers and the lengths
abbrev pub rows_within : ℕ → (ns cs : List ℕ) → ℕ → ℕ
rows_within above [] cs x = 0
rows_within above (n ∷ ns) [] x = 0
rows_within above (n ∷ ns) (c ∷ cs) x = within (above + n) c x + rows_within above ns cs x

-- the first numbers behind rows
abbrev pub ends : (ns cs : List ℕ) → List ℕ
ends [] cs = []
ends (n ∷ ns) [] = []
ends (n ∷ ns) (c ∷ cs) = (n + c) ∷ ends ns cs

abbrev pub sum : List ℕ → ℕ
sum [] = 0
sum (n ∷ ns) = n + sum ns

-- one row that grows
grown : (above x c p : ℕ) (ns cs : List ℕ) → length ns ≡ length cs → p < length cs → rows_within above ns (add_at p c cs) x ≡ rows_within above ns cs x + within (above + get_or (ends ns cs) p 0) c x
grown above x c p [] [] e lt = absurd (omega (arith, lt))
grown above x c p [] (d ∷ cs) e lt = absurd (omega (arith, e))
grown above x c p (n ∷ ns) [] e lt = absurd (omega (arith, e))
grown above x c zero (n ∷ ns) (d ∷ cs) e lt =
    let h : within (above + n) (d + c) x ≡ within (above + n) d x + within (above + (n + d)) c x = within_join (above + n) (above + (n + d)) d c x (omega arith) in
    omega (arith, h)
grown above x c (suc p) (n ∷ ns) (d ∷ cs) e lt = let h = grown above x c p ns cs (omega (arith, e)) (omega (arith, lt)) in omega (arith, h)

ends_grown : (c p : ℕ) (ns cs : List ℕ) → length ns ≡ length cs → p < length cs → ends ns (add_at p c cs) ≡ add_at p c (ends ns cs)
ends_grown c p [] [] e lt = absurd (omega (arith, lt))
ends_grown c p [] (d ∷ cs) e lt = absurd (omega (arith, e))
ends_grown c p (n ∷ ns) [] e lt = absurd (omega (arith, e))
ends_grown c zero (n ∷ ns) (d ∷ cs) e lt = let h : n + (d + c) ≡ n + d + c = omega arith in ap (λ k. k ∷ ends ns cs) h
ends_grown c (suc p) (n ∷ ns) (d ∷ cs) e lt = ap (λ l. (n + d) ∷ l) (ends_grown c p ns cs (omega (arith, e)) (omega (arith, lt)))

sum_grown : (c p : ℕ) (cs : List ℕ) → p < length cs → sum (add_at p c cs) ≡ sum cs + c
sum_grown c p [] lt = absurd (omega (arith, lt))
sum_grown c zero (d ∷ cs) lt = omega arith
sum_grown c (suc p) (d ∷ cs) lt = let h = sum_grown c p cs (omega (arith, lt)) in omega (arith, h)

-- each implementation's loops have the next numbers of the row of its procedure
impls_rows : (v : Survey) (qs : List r.Proc) (above x : ℕ) (ns cs : List ℕ) (ms : List r.Impl) → length ns ≡ length cs → All (λ (m : r.Impl). m.procedure < length cs) ms →
    rows_within above ns cs x + impls_within v qs above (ends ns cs) ms x ≡ rows_within above ns (with_loops v qs ms cs) x
impls_rows v qs above x ns cs [] e h = omega arith
impls_rows v qs above x ns cs (m ∷ ms) e h =
    let c = impl_count v qs m in
    let p = m.procedure in
    let lt = All-head (λ (k : r.Impl). k.procedure < length cs) m ms h in
    let same = length-set cs p (get_or cs p 0 + c) in
    let rest = impls_rows v qs above x ns (add_at p c cs) ms (e ∙ sym same) (subst (λ n. All (λ (k : r.Impl). k.procedure < n) ms) (sym same) (All-tail (λ (k : r.Impl). k.procedure < length cs) m ms h)) in
    let one = grown above x c p ns cs e lt in
    let two = ap (λ l. impls_within v qs above l ms x) (ends_grown c p ns cs e lt) in
    omega (arith, rest, one, two)

pub impls_sum : (v : Survey) (qs : List r.Proc) (cs : List ℕ) (ms : List r.Impl) → All (λ (m : r.Impl). m.procedure < length cs) ms → sum (with_loops v qs ms cs) ≡ sum cs + impls_count v qs ms
impls_sum v qs cs [] h = omega arith
impls_sum v qs cs (m ∷ ms) h =
    let c = impl_count v qs m in
    let p = m.procedure in
    let same = length-set cs p (get_or cs p 0 + c) in
    let rest = impls_sum v qs (add_at p c cs) ms (subst (λ n. All (λ (k : r.Impl). k.procedure < n) ms) (sym same) (All-tail (λ (k : r.Impl). k.procedure < length cs) m ms h)) in
    let one = sum_grown c p cs (All-head (λ (k : r.Impl). k.procedure < length cs) m ms h) in
    omega (arith, rest, one)

pub loops_long : (v : Survey) (qs : List r.Proc) (cs : List ℕ) (ms : List r.Impl) → length (with_loops v qs ms cs) ≡ length cs
loops_long v qs cs [] = refl
loops_long v qs cs (m ∷ ms) = loops_long v qs (add_at m.procedure (impl_count v qs m) cs) ms ∙ length-set cs m.procedure (get_or cs m.procedure 0 + impl_count v qs m)

-- empty rows
ends_empty : (ns : List ℕ) → ends ns (replicate (length ns) 0) ≡ ns
ends_empty [] = refl
ends_empty (n ∷ ns) = let h : n + 0 ≡ n = omega arith in ap (λ k. k ∷ ends ns (replicate (length ns) 0)) h ∙ ap (λ l. n ∷ l) (ends_empty ns)

rows_empty : (above x : ℕ) (ns : List ℕ) → rows_within above ns (replicate (length ns) 0) x ≡ 0
rows_empty above x [] = refl
rows_empty above x (n ∷ ns) = let h = within_none (above + n) x in let k = rows_empty above x ns in omega (arith, h, k)

pub sum_empty : (n : ℕ) → sum (replicate n 0) ≡ 0
sum_empty zero = refl
sum_empty (suc n) = let h = sum_empty n in omega (arith, h)

-- how many numbers procedures have with the loops of their implementations
abbrev pub total : Survey → ℕ → List r.Proc → List ℕ → ℕ
total v k [] cs = 0
total v k (q ∷ qs) [] = 0
total v k (q ∷ qs) (c ∷ cs) = proc_count v k q + (c + total v (suc k) qs cs)

pub total_is : (v : Survey) (k : ℕ) (qs : List r.Proc) (cs : List ℕ) → length qs ≡ length cs → total v k qs cs ≡ procs_count v k qs + sum cs
total_is v k [] [] e = refl
total_is v k [] (c ∷ cs) e = absurd (omega (arith, e))
total_is v k (q ∷ qs) [] e = absurd (omega (arith, e))
total_is v k (q ∷ qs) (c ∷ cs) e = let h = total_is v (suc k) qs cs (omega (arith, e)) in omega (arith, h)

-- procedures in turn have one row, each its clauses first and then its loops
procs_rows : (v : Survey) (loops : List ℕ) (above x b k : ℕ) (qs : List r.Proc) (cs : List ℕ) → length qs ≡ length cs → ((j : ℕ) → get_or loops (k + j) 0 ≡ get_or cs j 0) →
    procs_within v loops above b k qs x + rows_within above (loop_starts v loops b k qs) cs x ≡ within (above + b) (total v k qs cs) x
procs_rows v loops above x b k [] cs e h = sym (within_none (above + b) x)
procs_rows v loops above x b k (q ∷ qs) [] e h = absurd (omega (arith, e))
procs_rows v loops above x b k (q ∷ qs) (c ∷ cs) e h =
    let n = proc_count v k q in
    let at : k + 0 ≡ k = omega arith in
    let here : get_or loops k 0 ≡ c = sym (ap (λ i. get_or loops i 0) at) ∙ h 0 in
    let rest =
    procs_rows v loops above x (next_proc v loops b k q) (suc k) qs cs (omega (arith, e)) (λ j. let next : suc k + j ≡ k + suc j = omega arith in ap (λ i. get_or loops i 0) next ∙ h (suc j))
    in
    let one = within_join (above + b) (above + (b + n)) n (c + total v (suc k) qs cs) x (omega arith) in
    let two = within_join (above + (b + n)) (above + next_proc v loops b k q) c (total v (suc k) qs cs) x (omega (arith, here)) in
    omega (arith, rest, one, two)

-- all guesses have one row of numbers
pub one_row : (v : Survey) (above x b : ℕ) (qs : List r.Proc) (ms : List r.Impl) (loops starts : List ℕ) → loops ≡ with_loops v qs ms (replicate (length qs) 0) → starts ≡ loop_starts v loops b 0 qs →
    length starts ≡ length qs → All (λ (m : r.Impl). m.procedure < length qs) ms →
    procs_within v loops above b 0 qs x + impls_within v qs above starts ms x ≡ within (above + b) (procs_count v 0 qs + impls_count v qs ms) x
one_row v above x b qs ms loops starts f g e h =
    let zeros : List ℕ = replicate (length starts) 0 in
    let first : List ℕ = replicate (length qs) 0 in
    let long = loops_long v qs first ms in
    let many : length first ≡ length qs = length-replicate (length qs) 0 in
    let few : length zeros ≡ length starts = length-replicate (length starts) 0 in
    let same : loops ≡ with_loops v qs ms zeros = f ∙ ap (λ n. with_loops v qs ms (replicate n 0)) (sym e) in
    let fit = subst (λ n. All (λ (m : r.Impl). m.procedure < n) ms) (sym (few ∙ e)) h in
    let rows = impls_rows v qs above x starts zeros ms (sym few) fit in
    let empty = rows_empty above x starts in
    let begun = ap (λ l. impls_within v qs above l ms x) (ends_empty starts) in
    let whole = procs_rows v loops above x b 0 qs loops (sym (ap length f ∙ long ∙ many)) (λ j. let z : 0 + j ≡ j = omega arith in ap (λ i. get_or loops i 0) z) in
    let told = ap (λ l. rows_within above l loops x) g in
    let last = ap (λ l. rows_within above starts l x) same in
    let count = total_is v 0 qs loops (sym (ap length f ∙ long ∙ many)) in
    let added = impls_sum v qs zeros ms fit in
    let none = sum_empty (length starts) in
    let summed = ap sum same in
    let all : total v 0 qs loops ≡ procs_count v 0 qs + impls_count v qs ms = omega (arith, count, added, none, summed) in
    let named : within (above + b) (total v 0 qs loops) x ≡ within (above + b) (procs_count v 0 qs + impls_count v qs ms) x = ap (λ n. within (above + b) n x) all in
    omega (arith, rows, empty, begun, whole, told, last, named)
