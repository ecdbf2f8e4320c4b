-- Calls, loops, conditionals and labels are those that a body had without guesses.
use Rattle.std.proofs.Common.{◌≡◌, ℕ, suc, ◌+◌, List, ◌∷◌, ◌++◌, refl, ap}
use Rattle.bg_ast.specs.Resolved as r
use Rattle.bg_ast.specs.Syntax as s
use Rattle.bg_ast.specs.Meaning.{st_of, sts_of, arms_of}
use Rattle.bg_sense.specs.Typed.{labels_of}
use Rattle.bg_sense.specs.Resolved.{calls_in, called_in, branches_in, labels_in}
use Rattle.bg_guess.specs.Claims.{Subjects}
use Rattle.bg_guess.specs.Loops.{size, st_guesses, sts_guesses, arms_guesses, guessed_st, guessed_sts, guessed_arms}

-- what two statements have in common
abbrev pub Alike : s.St → s.St → Type 0
Alike a b =
    (calls_in a ≡ calls_in b) × (called_in a ≡ called_in b) × (branches_in a ≡ branches_in b) × (labels_in a ≡ labels_in b) × (labels_of a ≡ labels_of b)

same : (a : s.St) → Alike a a
same a = (refl, refl, refl, refl, refl)

joined : {A : Type 0} (xs ys zs ws : List A) → xs ≡ ys → zs ≡ ws → xs ++ zs ≡ ys ++ ws
joined xs ys zs ws h k = rw (h, k) refl

mutual
  pub alike_st : (above : ℕ) (l : Subjects) (b : ℕ) (a : r.St) → Alike (st_of (guessed_st above l b a)) (st_of a)
  alike_st above l b (r.Label n) = same (s.Label n)
  alike_st above l b (r.Assert k) = (refl, refl, refl, refl, refl)
  alike_st above l b (r.Assume e) = (refl, refl, refl, refl, refl)
  alike_st above l b (r.Havoc xs) = (refl, refl, refl, refl, refl)
  alike_st above l b (r.Assign p ts es) = (refl, refl, refl, refl, refl)
  alike_st above l b (r.Invoke k) = (refl, refl, refl, refl, refl)
  alike_st above l b (r.If n arms otherwise) = alike_arms above l b n arms _ _ (alike_sts above l (b + arms_guesses (size l) arms) otherwise)
  alike_st above l b (r.While n p g is body) =
      let h = alike_sts above l (b + size l) body in
      (h.0, h.1, ap (λ ns. n ∷ ns) h.2, h.3, refl)
  alike_st above l b (r.Break n) = (refl, refl, refl, refl, refl)
  alike_st above l b (r.Goto ls) = (refl, refl, refl, refl, refl)
  alike_st above l b r.Return = (refl, refl, refl, refl, refl)

  pub alike_sts : (above : ℕ) (l : Subjects) (b : ℕ) (ss : r.Sts) → Alike (sts_of (guessed_sts above l b ss)) (sts_of ss)
  alike_sts above l b r.NoSt = (refl, refl, refl, refl, refl)
  alike_sts above l b (r.Then a rest) =
      let h = alike_st above l b a in
      let k = alike_sts above l (b + st_guesses (size l) a) rest in
      (joined _ _ _ _ h.0 k.0, joined _ _ _ _ h.1 k.1, joined _ _ _ _ h.2 k.2, joined _ _ _ _ h.3 k.3, joined _ _ _ _ h.4 k.4)

  pub alike_arms : (above : ℕ) (l : Subjects) (b n : ℕ) (arms : r.Arms) (o o' : s.St) → Alike o' o → Alike (arms_of n (guessed_arms above l b arms) o') (arms_of n arms o)
  alike_arms above l b n r.NoArm o o' e = e
  alike_arms above l b n (r.Arm g body arms) o o' e =
      let h = alike_sts above l b body in
      let k = alike_arms above l (b + sts_guesses (size l) body) (suc n) arms o o' e in
      (joined _ _ _ _ h.0 k.0, joined _ _ _ _ h.1 k.1, ap (λ ns. n ∷ ns) (joined _ _ _ _ h.2 k.2), joined _ _ _ _ h.3 k.3, refl)
