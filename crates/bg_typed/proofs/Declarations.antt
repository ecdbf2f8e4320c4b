-- Axioms, functions and specifications without faults are typed, where each name in them is declared.
use Rattle.std.proofs.Common.{◌≡◌, ℕ, zero, suc, ◌<◌, true, List, [], ◌∷◌, ◌++◌, length, map, Option, Some, None, slice_get, slice_index_or, All, refl, sym, ap, ◌∙◌, subst, arith}
use Rattle.std.proofs.lemmas.List.Elements.{All-map, All-nil}
use Rattle.std.proofs.lemmas.Option.{slice_get_within, get_or_from_slice_get}
use Rattle.bg_ast.specs.Values as v
use Rattle.bg_ast.specs.Syntax as x
use Rattle.bg_ast.specs.Resolved as r
use Rattle.bg_ast.specs.Meaning as m
use Rattle.bg_sense.specs.Typing.{Sig, HasType}
use Rattle.bg_sense.specs.Typed.{IsLinear, HasNoOld, IsFormula, AreTypedDecls}
use Rattle.bg_kinds.specs.Faults.{Fault, Wants, is_none}
use Rattle.bg_kinds.specs.Kinds.{Kind, kind_in}
use Rattle.bg_typing.specs.Sides.{Shape, Scope, kind_at, wanting}
use Rattle.bg_typing.specs.Exprs.{judge}
use Rattle.bg_typing.specs.Stmts.{wanted_faults, truth_faults, truths_faults, clauses_faults}
use Rattle.bg_types.specs.Programs.{function_shape, without_globals, body_faults}
use Rattle.bg_typed.specs.Naming.{IsNamed, Matches}
use Rattle.bg_typed.specs.Programs.{IsNamedPlain, IsNamedBody, body_sig}
use Rattle.bg_typed.proofs.Bits.{split_none, wanted_kind}
use Rattle.bg_typed.proofs.Matched.{agrees}
use Rattle.bg_typed.proofs.Judged.{good_ex}
use Rattle.bg_typed.proofs.Typings.{has_ex, is_formula}

-- an element of a list of which something holds
pub all_at : {A : Type 0} (P : A → Type 0) (xs : List A) (k : ℕ) (y : A) → All P xs → slice_get xs k ≡ Some y → P y
all_at P xs k y all e = subst P (get_or_from_slice_get xs k y y e) (all k y (slice_get_within xs k y e))

-- no element has a fault where none has one in a row
pub each_at : {A : Type 0} (all : List A → List Fault) (own : A → List Fault) → ((y : A) (ys : List A) → all (y ∷ ys) ≡ own y ++ all ys) → (ys : List A) (k : ℕ) (d : A) → k < length ys → is_none (all ys) ≡ true → is_none (own (slice_index_or ys k d)) ≡ true
each_at all own e [] k d h n = absurd (omega arith)
each_at all own e (y ∷ ys) zero d h n = (split_none (own y) (all ys) (sym (ap is_none (e y ys)) ∙ n)).0
each_at all own e (y ∷ ys) (suc k) d h n = each_at all own e ys k d (omega arith) (split_none (own y) (all ys) (sym (ap is_none (e y ys)) ∙ n)).1

-- declarations say nothing of their variables
pub no_wheres : (s : Sig) (n : ℕ → v.Ty) (ds : List r.Declared) → AreTypedDecls s (map (m.decl_of n) ds)
no_wheres s n ds = All-map (λ (d : x.Decl). All (IsFormula s) d.wheres) (m.decl_of n) ds (λ k d h. All-nil (IsFormula s))

-- a formula without `old`
abbrev pub IsPlainFormula : Sig → x.Ex → Type 0
IsPlainFormula s e = IsFormula s e × HasNoOld e

pub plain_formulas : (g : Scope) (s : Sig) → Matches g s → (es : List r.Ex) → All (IsNamedPlain s) es → is_none (truths_faults g es) ≡ true → All (IsPlainFormula s) (map m.ex_of es)
plain_formulas g s h es i n =
    All-map (IsPlainFormula s) m.ex_of es (λ k d l. (is_formula g s (slice_index_or es k d) h (i k d l).0 (each_at (truths_faults g) (truth_faults g) (λ e rest. refl) es k d l n), (i k d l).1))

abbrev pub SaysFormula : Sig → x.Clause → Type 0
SaysFormula s k = IsFormula s k.says

abbrev pub SaysPlain : Sig → x.Clause → Type 0
SaysPlain s k = IsFormula s k.says × HasNoOld k.says

pub plain_clauses : (g : Scope) (s : Sig) → Matches g s → (ks : List r.Clause) → All (λ k. IsNamedPlain s k.says) ks → is_none (clauses_faults g ks) ≡ true → All (SaysPlain s) (map m.clause_of ks)
plain_clauses g s h ks i n =
    All-map (SaysPlain s) m.clause_of ks (λ k d l. (is_formula g s (slice_index_or ks k d).says h (i k d l).0 (each_at (clauses_faults g) (λ c. truth_faults g c.says) (λ c rest. refl) ks k d l n), (i k d l).1))

pub said_clauses : (g : Scope) (s : Sig) → Matches g s → (ks : List r.Clause) → All (λ k. IsNamed s k.says) ks → is_none (clauses_faults g ks) ≡ true → All (SaysFormula s) (map m.clause_of ks)
said_clauses g s h ks i n =
    All-map (SaysFormula s) m.clause_of ks (λ k d l. is_formula g s (slice_index_or ks k d).says h (i k d l) (each_at (clauses_faults g) (λ c. truth_faults g c.says) (λ c rest. refl) ks k d l n))

-- what is wanted to be of a type is of it
wanted_is : (g : Scope) (s : Sig) (e : r.Ex) (w : v.Ty) → Matches g s → IsNamed s e → is_none (wanted_faults g (Some w) e) ≡ true → HasType (m.ex_of e) s w × IsLinear (m.ex_of e)
wanted_is g s e w h i n =
    let side = (judge g e).side in
    let parts = split_none (judge g e).faults (wanting (Wants w) side) n in
    let kind = wanted_kind side.start w side.kind (has_ex g s h e i parts.0) parts.1 in
    let good = good_ex g s (agrees g s h) e parts.0 in
    (good.typed w kind, good.linear w kind)

-- a function's body has its result's type, linear and without `old`
abbrev pub IsTypedBody : x.Prog → x.Fun → Type 0
IsTypedBody p fn = (e : x.Ex) → fn.body ≡ Some e → HasType e (body_sig p fn) fn.result × IsLinear e × HasNoOld e

body_typed : (g : Scope) (s : Sig) (t : v.Ty) (k : Kind) (o : Option r.Ex) → k ≡ Some t → Matches g s → IsNamedBody s o → ((e : r.Ex) → o ≡ Some e → is_none (wanted_faults g k e) ≡ true) → (e : x.Ex) → m.body_of o ≡ Some e → HasType e s t × IsLinear e × HasNoOld e
body_typed g s t k None c h i n e is = let bad : None ≡ Some e = is in absurd (cc)
body_typed g s t k (Some b) c h i n e is =
    let same : m.ex_of b ≡ e = cc in
    let wanted = subst (λ (k : Kind). is_none (wanted_faults g k b) ≡ true) c (n b refl) in
    let typed = wanted_is g s b t h i.0 wanted in
    subst (λ (e : x.Ex). HasType e s t × IsLinear e × HasNoOld e) same (typed.0, typed.1, i.1)

body_wanted : (g : Scope) (f : Shape) (o : Option r.Ex) → is_none (body_faults g f o) ≡ true → (e : r.Ex) → o ≡ Some e → is_none (wanted_faults (without_globals g f.params) (kind_at f.results 0) e) ≡ true
body_wanted g f None n e is = let bad : None ≡ Some e = is in absurd (cc)
body_wanted g f (Some b) n e is =
    let same : b ≡ e = cc in
    subst (λ (e : r.Ex). is_none (wanted_faults (without_globals g f.params) (kind_at f.results 0) e) ≡ true) same n

pub function_typed : (named : ℕ → Kind) (n : ℕ → v.Ty) (g : Scope) (p : x.Prog) (f : r.Fun) → kind_in named f.result ≡ Some (m.type_in n f.result) → Matches (without_globals g (function_shape named f).params) (body_sig p (m.fun_of n f)) → IsNamedBody (body_sig p (m.fun_of n f)) f.body → is_none (body_faults g (function_shape named f) f.body) ≡ true → IsTypedBody p (m.fun_of n f)
function_typed named n g p f c h i none =
    body_typed (without_globals g (function_shape named f).params) (body_sig p (m.fun_of n f)) (m.type_in n f.result) (kind_in named f.result) f.body c h i (body_wanted g (function_shape named f) f.body none)
