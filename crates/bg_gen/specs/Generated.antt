-- The program of a seed and a size.
use Rattle.std.specs.Prelude.{ℕ, zero, suc, ◌+◌, ◌*◌, ◌/◌, ◌%◌, List, [], ◌++◌, Option, Some, None, codes, flat_map}
use Rattle.std.specs.List.{range_with_len}
use Rattle.std.specs.Fmt.{decimal}

-- ---- the numbers that are drawn

-- the state after a draw: modulo 2^31, a linear function of the state before
abbrev pub next : ℕ → ℕ
next state = (state * 1103515245 + 12345) % 2147483648

-- the state after so many draws
abbrev pub state_after : ℕ → ℕ → ℕ
state_after seed zero = seed % 2147483648
state_after seed (suc n) = next (state_after seed n)

-- the number that draw n gives, from 0
abbrev pub draw : ℕ → ℕ → ℕ
draw seed n = state_after seed (suc n) / 65536

-- where the counter of procedure k starts; each procedure has two draws
abbrev pub start_of : ℕ → ℕ → ℕ
start_of seed k = draw seed (2 * k) % 10

-- the least value that its third candidate guesses
abbrev pub guess_of : ℕ → ℕ → ℕ
guess_of seed k = start_of seed k + draw seed (suc (2 * k)) % 3

-- the procedure before k, where there is one, and where its counter starts
abbrev pub before : ℕ → ℕ → Option (ℕ × ℕ)
before seed zero = None
before seed (suc k) = Some (k, start_of seed k)

-- ---- the text

-- a candidate
abbrev pub constant : List ℕ → ℕ → List ℕ
constant letter k = codes "const {:existential true} " ++ (letter ++ decimal k) ++ codes ": bool;\n"

-- an invariant that it guards
abbrev pub bound : List ℕ → ℕ → List ℕ → ℕ → List ℕ
bound letter k relation n = codes "    invariant " ++ (letter ++ decimal k) ++ codes " ==> i " ++ (relation ++ decimal n) ++ codes ";\n"

abbrev pub head : ℕ → ℕ → List ℕ
head k a =
    (codes "procedure G" ++ decimal k)
    ++ (codes "(n: int) returns (i: int)\n  requires 0 <= n;\n  ensures i == n + " ++ decimal a)
    ++ codes ";\n{\n"

-- the call of the procedure before, and the check of what it gives
abbrev pub call : Option (ℕ × ℕ) → List ℕ
call None = []
call (Some (k, a)) = (codes "  var j: int;\n  call j := G" ++ decimal k) ++ (codes "(n);\n  assert j == n + " ++ decimal a) ++ codes ";\n"

-- from a on the counter is counted to `n + a`
abbrev pub loop_text : ℕ → ℕ → ℕ → List ℕ
loop_text k a b =
    (codes "  i := " ++ decimal a)
    ++ (codes ";\n  while (i < n + " ++ decimal a)
    ++ codes ")\n"
    ++ bound (codes "a") k (codes ">= ") a
    ++ bound (codes "e") k (codes "<= n + ") a
    ++ bound (codes "d") k (codes ">= ") b
    ++ codes "  {\n    i := i + 1;\n  }\n}\n"

-- three candidates, and the procedure that uses them
abbrev pub part : Option (ℕ × ℕ) → ℕ → ℕ → ℕ → List ℕ
part previous k a b =
    constant (codes "a") k
    ++ constant (codes "d") k
    ++ constant (codes "e") k
    ++ head k a
    ++ call previous
    ++ loop_text k a b

-- the candidates and the procedure of each k below the size, in order
abbrev pub generated : ℕ → ℕ → List ℕ
generated seed size = flat_map (λ k. part (before seed k) k (start_of seed k) (guess_of seed k)) (range_with_len 0 size)
