-- What guesses say is a formula.
use Rattle.std.proofs.Common.{◌≡◌, ℕ, zero, suc, ◌+◌, ◌<◌, List, [], ◌∷◌, ◌++◌, map, length, Some, refl, sym, ap, ◌∙◌, subst, arith}
use Rattle.std.specs.Prelude.{All, slice_get, filter}
use Rattle.std.proofs.lemmas.List.Elements.{All-nil, All-cons, All-append, All-map, All-filter, All-weaker}
use Rattle.bg_base.specs.declared.pos.Pos.{Pos}
use Rattle.bg_ast.specs.declared.resolved.Variable.{Variable}
use Rattle.bg_ast.specs.declared.resolved.Variable.TheVariants as variable
use Rattle.bg_ast.specs.Values.{Ty, BoolTy, IntTy, UserTy, MapTy}
use Rattle.bg_ast.specs.Syntax as s
use Rattle.bg_ast.specs.Resolved as r
use Rattle.bg_ast.specs.Meaning.{ex_of, decl_of, named_of, meaning_of}
use Rattle.bg_ast.specs.Views.{var_of}
use Rattle.bg_sense.specs.Types.{types_of}
use Rattle.bg_sense.specs.Typing.{Sig, VarHasType, sig_in}
use Rattle.bg_sense.specs.Resolved.{Rise}
use Rattle.bg_sense.specs.Typed.{IsFormula, HasNoOld}
use Rattle.bg_guess.specs.Claims.{Subjects, claims, says}
use Rattle.bg_guess.specs.Lists.{Sight, is_seen, places_of_numbers, number_globals, subjects}
use Rattle.bg_guess.specs.Guessed.{survey_of}
use Rattle.bg_guess.proofs.Every.{claims_all}

-- a variable of type int, and a global that is there
abbrev pub IsNumber : Sig → Variable → Type 0
IsNumber g v = VarHasType g (var_of v) IntTy

abbrev pub IsGlobal : Sig → ℕ → Type 0
IsGlobal g x = (t : Ty) × (slice_get g.globals x ≡ Some t)

-- a list of guesses speaks of what is there
abbrev pub Speaks : Sig → Subjects → Type 0
Speaks g l = All (IsNumber g) l.numbers × All (IsGlobal g) l.kept

pub formulas : (g : Sig) (p : Pos) (l : Subjects) → Speaks g l → All (λ c. IsFormula g (ex_of (says p c))) (claims l)
formulas g p l h =
    claims_all (λ c. IsFormula g (ex_of (says p c))) (IsNumber g) (IsGlobal g) (λ v i. ((refl, i, refl), (tt, tt, tt))) (λ v w i j. ((refl, i, j), (tt, tt, tt)))
    (λ x i. ((refl, (i.0, i.1, i.1)), (tt, tt, tt))) l h.0 h.1

-- without globals that are compared with their values at entry, no guess has `old`
pub without_old : (p : Pos) (l : Subjects) → l.kept ≡ [] → All (λ c. HasNoOld (ex_of (says p c))) (claims l)
without_old p l none =
    claims_all (λ c. HasNoOld (ex_of (says p c))) (λ v. Unit {0}) (λ x. ⊥) (λ v i. (tt, tt)) (λ v w i j. (tt, tt)) (λ x i. absurd i) l (λ k d lt. tt) (rw (none) (All-nil (λ (x : ℕ). ⊥)))

-- the places of whole numbers are those of type int
pub places_all : (P : ℕ → Type 0) (k : ℕ) (ds : List s.Decl) → ((j : ℕ) → slice_get (types_of ds) j ≡ Some IntTy → P (k + j)) → All P (places_of_numbers k (types_of ds))
places_all P k [] h = All-nil P
places_all P k (d ∷ ds) h =
    by d.ty refl (places_all P (suc k) ds (λ j e. let same : k + suc j ≡ suc k + j = omega arith in subst P same (h (suc j) e)))
  where
    by : (t : Ty) → d.ty ≡ t → All P (places_of_numbers (suc k) (types_of ds)) → All P (places_of_numbers k (types_of (d ∷ ds)))
    by BoolTy e rest = rw (e) rest
    by IntTy e rest = rw (e) (All-cons P k (places_of_numbers (suc k) (types_of ds)) (let same : k + 0 ≡ k = omega arith in subst P same (h 0 (ap Some e))) rest)
    by (UserTy u) e rest = rw (e) rest
    by (MapTy ks u) e rest = rw (e) rest

pub types_append : (ds es : List s.Decl) → types_of (ds ++ es) ≡ types_of ds ++ types_of es
types_append [] es = refl
types_append (d ∷ ds) es = ap (λ hs. d.ty ∷ hs) (types_append ds es)

pub end_append : {A : Type 0} (xs : List A) → xs ++ [] ≡ xs
end_append [] = refl
end_append (x ∷ xs) = ap (λ ys. x ∷ ys) (end_append xs)

-- numbers that rise below a bound are below it
pub risen : (n low : ℕ) (ks : List ℕ) → Rise low n ks → All (λ k. k < n) ks
risen n low [] h = All-nil (λ (k : ℕ). k < n)
risen n low (k ∷ ks) h = All-cons (λ (x : ℕ). x < n) k ks h.1 (risen n (suc k) ks h.2)

pub typed_there : (ds : List s.Decl) (x : ℕ) → x < length ds → (t : Ty) × (slice_get (types_of ds) x ≡ Some t)
typed_there [] x lt = absurd (omega arith)
typed_there (d ∷ ds) zero lt = (d.ty, refl)
typed_there (d ∷ ds) (suc x) lt = typed_there ds x (omega arith)

-- the lists of a program speak of what its clauses see
pub speaks : (p : r.Program) (sight : Sight) (modified : All (λ x. x < length (meaning_of p).globals) sight.modifies) →
    Speaks (sig_in (meaning_of p) (map (decl_of (named_of p.types)) sight.types.params ++ (map (decl_of (named_of p.types)) sight.types.results ++ map (decl_of (named_of p.types)) sight.types.locals)))
    (subjects (survey_of p).base sight)
speaks p sight modified =
    let f = decl_of (named_of p.types) in
    let seen = is_seen p.globals sight.names in
    let ps = map f sight.types.params in
    let rs = map f sight.types.results in
    let ls = map f sight.types.locals in
    let g = sig_in (meaning_of p) (ps ++ (rs ++ ls)) in
    let one = places_all (λ x. IsNumber g (variable.Global x)) 0 (map f p.globals) (λ j e. let same : 0 + j ≡ j = omega arith in subst (λ x. IsNumber g (variable.Global x)) (sym same) e) in
    let two = places_all (λ x. IsNumber g (variable.Local x)) 0 (ps ++ (rs ++ ls)) (λ j e. let same : 0 + j ≡ j = omega arith in subst (λ x. IsNumber g (variable.Local x)) (sym same) e) in
    let held = types_append ps (rs ++ ls) ∙ ap (λ hs. types_of ps ++ hs) (types_append rs ls) in (
      All-append (IsNumber g) (map variable.Global (filter seen (number_globals p.types p.globals))) (map variable.Local (places_of_numbers 0 (types_of ps ++ (types_of rs ++ types_of ls))))
          (All-map (IsNumber g) variable.Global (filter seen (number_globals p.types p.globals)) (All-filter seen (λ x. IsNumber g (variable.Global x)) (number_globals p.types p.globals) one))
          (All-map (IsNumber g) variable.Local (places_of_numbers 0 (types_of ps ++ (types_of rs ++ types_of ls))) (subst (λ hs. All (λ x. IsNumber g (variable.Local x)) (places_of_numbers 0 hs)) held two)),
      All-filter seen (IsGlobal g) sight.modifies (All-weaker (λ x. x < length (meaning_of p).globals) (IsGlobal g) (λ x lt. typed_there (meaning_of p).globals x lt) sight.modifies modified),
    )
