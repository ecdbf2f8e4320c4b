-- A set of candidates as a list of truth values, and as words of 64 bits.
use Rattle.std.specs.Prelude.{◌≡◌, ℕ, zero, suc, ◌+◌, ◌*◌, ◌/◌, ◌%◌, ◌^◌, Bool, true, false, List, [], ◌∷◌, length, slice_index, slice_index_or, nat_eq, if◌then◌else◌}
use Rattle.std.specs.Int.{bit_not}
use mir.Syntax.{w64}
use mir.Val.{bits}
use Rattle.bg_base.specs.Totals.{total, weight}

-- a set of numbers below n: n truth values, of which the c-th says whether c is in it
abbrev pub Numbers : Type 0
Numbers = List Bool

-- number c is in the set
abbrev pub has : Numbers → ℕ → Bool
has s c = slice_index_or s c false

-- the set of the numbers below n for which f is true
abbrev pub tabulate : ℕ → (ℕ → Bool) → Numbers
tabulate zero f = []
tabulate (suc n) f = f 0 ∷ tabulate n (λ c. f (suc c))

-- all of s is in t
abbrev pub IsSubset : Numbers → Numbers → Type 0
IsSubset s t = (c : ℕ) → has s c ≡ true → has t c ≡ true

-- how many numbers are in the set
abbrev pub size : Numbers → ℕ
size s = total weight s

-- bit k of a word
abbrev pub bit : ℕ → ℕ → Bool
bit word k = nat_eq (word / 2 ^ k % 2) 1

-- candidate c stands at bit c % 64 of word c / 64
abbrev pub present : List ℕ → ℕ → Bool
present words c = bit (slice_index words (c / 64)) (c % 64)

-- how many words n candidates take
abbrev pub words_for : ℕ → ℕ
words_for n = (n + 63) / 64

-- the set whose candidates of word i are those that the word tells
abbrev pub with_word : Numbers → ℕ → ℕ → Numbers
with_word s i word = tabulate (length s) (λ c. if nat_eq (c / 64) i then bit word (c % 64) else has s c)

-- all bits but that of candidate c
abbrev pub mask : ℕ → ℕ
mask c = bit_not w64 (1 * 2 ^ (c % 64) % 2 ^ bits w64)
