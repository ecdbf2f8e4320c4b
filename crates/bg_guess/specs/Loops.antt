-- Guesses as clauses, and loops with guessed invariants.
use Rattle.std.specs.Prelude.{ℕ, suc, ◌+◌, false, List, [], ◌∷◌, ◌++◌, length, Some}
use Rattle.bg_base.specs.declared.pos.Pos.{Pos}
use Rattle.bg_ast.specs.Resolved as r
use Rattle.bg_guess.specs.declared.claim.Claim.{Claim}
use Rattle.bg_guess.specs.Claims.{says, Subjects, claims}

-- the guess of candidate b. Its clause's number is that of the candidate and `above`, which is above all others
abbrev pub guess : ℕ → Pos → ℕ → Claim → r.Clause
guess above p b c = record { pos = p; id = above + b; is_free = false; candidate = Some b; says = says p c }

-- guesses that stand together, of candidates from b on
abbrev pub guesses : ℕ → Pos → ℕ → List Claim → List r.Clause
guesses above p b [] = []
guesses above p b (c ∷ cs) = guess above p b c ∷ guesses above p (suc b) cs

-- how many guesses a list has
abbrev pub size : Subjects → ℕ
size s = length (claims s)

abbrev mutual
  -- how many guesses a statement has, where each loop has so many
  pub st_guesses : ℕ → r.St → ℕ
  st_guesses n (r.If j arms otherwise) = arms_guesses n arms + sts_guesses n otherwise
  st_guesses n (r.While j p g is body) = n + sts_guesses n body
  st_guesses n _ = 0

  pub sts_guesses : ℕ → r.Sts → ℕ
  sts_guesses n r.NoSt = 0
  sts_guesses n (r.Then a b) = st_guesses n a + sts_guesses n b

  pub arms_guesses : ℕ → r.Arms → ℕ
  arms_guesses n r.NoArm = 0
  arms_guesses n (r.Arm g body arms) = sts_guesses n body + arms_guesses n arms

abbrev mutual
  -- a statement with the guesses of each loop behind its invariants, of candidates from b on in the order of the text
  pub guessed_st : ℕ → Subjects → ℕ → r.St → r.St
  guessed_st above s b (r.If j arms otherwise) =
      r.If j (guessed_arms above s b arms) (guessed_sts above s (b + arms_guesses (size s) arms) otherwise)
  guessed_st above s b (r.While j p g is body) =
      r.While j p g (is ++ guesses above p b (claims s)) (guessed_sts above s (b + size s) body)
  guessed_st above s b (r.Label l) = r.Label l
  guessed_st above s b (r.Assert k) = r.Assert k
  guessed_st above s b (r.Assume e) = r.Assume e
  guessed_st above s b (r.Havoc xs) = r.Havoc xs
  guessed_st above s b (r.Assign p ts es) = r.Assign p ts es
  guessed_st above s b (r.Invoke k) = r.Invoke k
  guessed_st above s b (r.Break n) = r.Break n
  guessed_st above s b (r.Goto ls) = r.Goto ls
  guessed_st above s b r.Return = r.Return

  pub guessed_sts : ℕ → Subjects → ℕ → r.Sts → r.Sts
  guessed_sts above s b r.NoSt = r.NoSt
  guessed_sts above s b (r.Then a rest) =
      r.Then (guessed_st above s b a) (guessed_sts above s (b + st_guesses (size s) a) rest)

  pub guessed_arms : ℕ → Subjects → ℕ → r.Arms → r.Arms
  guessed_arms above s b r.NoArm = r.NoArm
  guessed_arms above s b (r.Arm g body arms) =
      r.Arm g (guessed_sts above s b body) (guessed_arms above s (b + sts_guesses (size s) body) arms)
