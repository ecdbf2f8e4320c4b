-- What holds of each guess of a list.
use Rattle.std.proofs.Common.{ℕ, suc, List, [], ◌∷◌, ◌++◌, map, subst, sym}
use Rattle.std.proofs.lemmas.List.{map-append}
use Rattle.std.specs.Prelude.{All}
use Rattle.std.proofs.lemmas.List.Elements.{All-nil, All-cons, All-head, All-tail, All-append, All-push, All-map, All-weaker}
use Rattle.bg_base.specs.declared.pos.Pos.{Pos}
use Rattle.bg_ast.specs.declared.resolved.Variable.{Variable}
use Rattle.bg_ast.specs.Resolved as r
use Rattle.bg_ast.specs.Syntax as s
use Rattle.bg_ast.specs.Meaning.{ex_of, clause_of}
use Rattle.bg_guess.specs.declared.claim.Claim.{Claim}
use Rattle.bg_guess.specs.declared.claim.Claim.TheVariants.{NotNegative, AtMost, Unchanged}
use Rattle.bg_guess.specs.Claims.{Subjects, bounds, pairs, claims, says}
use Rattle.bg_guess.specs.Loops.{guess, guesses}

pairs_all : (P : Claim → Type 0) (V : Variable → Type 0) → ((v w : Variable) → V v → V w → P (AtMost v w)) → (front back : List Variable) → All V front → All V back → All P (pairs front back)
pairs_all P V two front [] f b = All-nil P
pairs_all P V two front (v ∷ back) f b =
    let here : V v = All-head V v back b in
    let rest = All-tail V v back b in
    let each = λ (ws : List Variable) (h : All V ws). All-map P (AtMost v) ws (All-weaker V (λ w. P (AtMost v w)) (λ w i. two v w here i) ws h) in
    All-append P (bounds v front ++ bounds v back) (pairs (front ++ v ∷ []) back) (All-append P (bounds v front) (bounds v back) (each front f) (each back rest))
    (pairs_all P V two (front ++ v ∷ []) back (All-push V front v f here) rest)

-- what holds of each form where something holds of variables and of globals
pub claims_all : (P : Claim → Type 0) (V : Variable → Type 0) (K : ℕ → Type 0) →
    ((v : Variable) → V v → P (NotNegative v)) → ((v w : Variable) → V v → V w → P (AtMost v w)) → ((g : ℕ) → K g → P (Unchanged g)) →
    (l : Subjects) → All V l.numbers → All K l.kept → All P (claims l)
claims_all P V K one two three l n k =
    All-append P (map NotNegative l.numbers) (pairs [] l.numbers ++ map Unchanged l.kept) (All-map P NotNegative l.numbers (All-weaker V (λ v. P (NotNegative v)) one l.numbers n))
    (All-append P (pairs [] l.numbers) (map Unchanged l.kept) (pairs_all P V two [] l.numbers (All-nil V) n) (All-map P Unchanged l.kept (All-weaker K (λ g. P (Unchanged g)) three l.kept k)))

-- what holds of the formula of each guess holds of what its clause says
pub guesses_all : (Q : s.Ex → Type 0) (above : ℕ) (p : Pos) (b : ℕ) (cs : List Claim) → All (λ c. Q (ex_of (says p c))) cs → All (λ (k : s.Clause). Q k.says) (map clause_of (guesses above p b cs))
guesses_all Q above p b [] h = All-nil (λ (k : s.Clause). Q k.says)
guesses_all Q above p b (c ∷ cs) h =
    All-cons (λ (k : s.Clause). Q k.says) (clause_of (guess above p b c)) (map clause_of (guesses above p (suc b) cs)) (All-head (λ d. Q (ex_of (says p d))) c cs h)
    (guesses_all Q above p (suc b) cs (All-tail (λ d. Q (ex_of (says p d))) c cs h))

-- clauses, and guesses behind them
pub behind : (P : s.Ex → Type 0) (above : ℕ) (p : Pos) (b : ℕ) (l : Subjects) (ks : List r.Clause) → All (λ (k : s.Clause). P k.says) (map clause_of ks) → All (λ c. P (ex_of (says p c))) (claims l) → All (λ (k : s.Clause). P k.says) (map clause_of (ks ++ guesses above p b (claims l)))
behind P above p b l ks h k =
    subst (All (λ (k : s.Clause). P k.says)) (sym (map-append clause_of ks (guesses above p b (claims l))))
    (All-append (λ (k : s.Clause). P k.says) (map clause_of ks) (map clause_of (guesses above p b (claims l))) h (guesses_all P above p b (claims l) k))
