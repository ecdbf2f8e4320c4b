-- Typed bodies stay typed.
use Rattle.std.proofs.Common.{◌≡◌, ℕ, suc, ◌+◌, List, ◌∷◌, ◌++◌, map, sym, subst}
use Rattle.std.specs.Prelude.{All}
use Rattle.std.proofs.lemmas.List.{map-append}
use Rattle.std.proofs.lemmas.List.Elements.{All-append, All-weaker}
use Rattle.bg_ast.specs.Resolved as r
use Rattle.bg_ast.specs.Syntax as s
use Rattle.bg_ast.specs.Meaning.{ex_of, clause_of, guard_of, call_of, variable_of, values_of, st_of, sts_of, arms_of}
use Rattle.bg_sense.specs.Typing.{Sig, HaveTypes, types_in}
use Rattle.bg_sense.specs.Typed.{IsFormula, IsGuard, Around, MayChange, sig_around, IsTypedCall, labels_of, IsTypedStatement}
use Rattle.bg_guess.specs.Claims.{Subjects, claims}
use Rattle.bg_guess.specs.Loops.{size, guesses, st_guesses, sts_guesses, arms_guesses, guessed_st, guessed_sts, guessed_arms}
use Rattle.bg_guess.proofs.Every.{guesses_all}
use Rattle.bg_guess.proofs.Saying.{Speaks, formulas}
use Rattle.bg_guess.proofs.Parts.{alike_sts}

-- statements are typed around the second where they are around the first
pub record Carries (x y : Around) : Type 0 where
  pub sig : sig_around x ≡ sig_around y
  pub change : (v : s.Var) → MayChange x v → MayChange y v
  pub call : (k : s.Call) → IsTypedCall x k → IsTypedCall y k
  pub types : (vs : List s.Var) → types_in x.program x.variables vs ≡ types_in y.program y.variables vs

guard_carried : (x y : Around) → Carries x y → (g : s.Guard) → IsGuard (sig_around x) g → IsGuard (sig_around y) g
guard_carried x y c s.Star h = tt
guard_carried x y c (s.Test e) h = subst (λ g. IsFormula g e) c.sig h

values_carried : (x y : Around) → Carries x y → (es : s.Exs) (vs : List s.Var) → HaveTypes es (sig_around x) (types_in x.program x.variables vs) → HaveTypes es (sig_around y) (types_in y.program y.variables vs)
values_carried x y c es vs h = subst (λ ts. HaveTypes es (sig_around y) ts) (c.types vs) (subst (λ g. HaveTypes es g (types_in x.program x.variables vs)) c.sig h)

mutual
  pub typed_st : (x y : Around) → Carries x y → (above : ℕ) (l : Subjects) → Speaks (sig_around y) l → (inside before : List ℕ) (b : ℕ) (a : r.St) →
      IsTypedStatement x inside before (st_of a) → IsTypedStatement y inside before (st_of (guessed_st above l b a))
  typed_st x y c above l u inside before b (r.Label n) h = tt
  typed_st x y c above l u inside before b (r.Assert k) h = (h.0, subst (λ g. IsFormula g (ex_of k.says)) c.sig h.1)
  typed_st x y c above l u inside before b (r.Assume e) h = subst (λ g. IsFormula g (ex_of e)) c.sig h
  typed_st x y c above l u inside before b (r.Havoc xs) h = All-weaker (MayChange x) (MayChange y) c.change (map variable_of xs) h
  typed_st x y c above l u inside before b (r.Assign p ts es) h =
      (h.0, All-weaker (MayChange x) (MayChange y) c.change (map (λ t. t.placed.variable) ts) h.1, values_carried x y c (values_of ts es) (map (λ t. t.placed.variable) ts) h.2, h.3)
  typed_st x y c above l u inside before b (r.Invoke k) h = c.call (call_of k) h
  typed_st x y c above l u inside before b (r.If n arms otherwise) h =
      typed_arms x y c above l u inside before b n arms (sts_of otherwise) _ (λ (ns : List ℕ) (i : IsTypedStatement x ns before (sts_of otherwise)). typed_sts x y c above l u ns before (b + arms_guesses (size l) arms) otherwise i) h
  typed_st x y c above l u inside before b (r.While n p g is body) h =
      let Fits = λ (k : s.Clause). IsFormula (sig_around y) k.says in
      let old = subst (λ (q : Sig). All (λ k. IsFormula q k.says) (map clause_of is)) c.sig h.1 in
      let new = guesses_all (IsFormula (sig_around y)) above p b (claims l) (formulas (sig_around y) p l u) in (
        guard_carried x y c (guard_of g) h.0,
        subst (All Fits) (sym (map-append clause_of is (guesses above p b (claims l)))) (All-append Fits (map clause_of is) (map clause_of (guesses above p b (claims l))) old new),
        typed_sts x y c above l u (n ∷ inside) before (b + size l) body h.2,
      )
  typed_st x y c above l u inside before b (r.Break n) h = h
  typed_st x y c above l u inside before b (r.Goto ls) h = h
  typed_st x y c above l u inside before b r.Return h = tt

  pub typed_sts : (x y : Around) → Carries x y → (above : ℕ) (l : Subjects) → Speaks (sig_around y) l → (inside before : List ℕ) (b : ℕ) (ss : r.Sts) →
      IsTypedStatement x inside before (sts_of ss) → IsTypedStatement y inside before (sts_of (guessed_sts above l b ss))
  typed_sts x y c above l u inside before b r.NoSt h = tt
  typed_sts x y c above l u inside before b (r.Then a rest) h =
      let labels = alike_sts above l (b + st_guesses (size l) a) rest in (
        subst (λ ls. IsTypedStatement y inside (ls ++ before) (st_of (guessed_st above l b a))) (sym labels.4) (typed_st x y c above l u inside (labels_of (sts_of rest) ++ before) b a h.0),
        typed_sts x y c above l u inside before (b + st_guesses (size l) a) rest h.1,
      )

  pub typed_arms : (x y : Around) → Carries x y → (above : ℕ) (l : Subjects) → Speaks (sig_around y) l → (inside before : List ℕ) (b n : ℕ) (arms : r.Arms) (o o' : s.St) →
      ((ns : List ℕ) → IsTypedStatement x ns before o → IsTypedStatement y ns before o') →
      IsTypedStatement x inside before (arms_of n arms o) → IsTypedStatement y inside before (arms_of n (guessed_arms above l b arms) o')
  typed_arms x y c above l u inside before b n r.NoArm o o' e h = e inside h
  typed_arms x y c above l u inside before b n (r.Arm g body arms) o o' e h = (
    guard_carried x y c (guard_of g) h.0,
    typed_sts x y c above l u (n ∷ inside) before b body h.1,
    typed_arms x y c above l u (n ∷ inside) before (b + sts_guesses (size l) body) (suc n) arms o o' e h.2,
  )
