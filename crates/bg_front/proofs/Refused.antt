-- A text has one program, or one refusal.
use Rattle.std.proofs.Common.{◌≡◌, ◌≤◌, ◌<◌, ℕ, Bool, List, length, Option, Some, None, refl, sym, ap, ◌∙◌, subst, arith}
use Rattle.bg_text.specs.Tokens.{Tok}
use Rattle.bg_text.specs.Trees.{Decl}
use Rattle.bg_ast.specs.Resolved as r
use Rattle.bg_names.specs.Faults as n
use Rattle.bg_resolve.specs.Program.{named}
use Rattle.bg_resolve.specs.Resolves.{IsToldFault}
use Rattle.bg_resolve.proofs.Told.{one_told}
use Rattle.bg_kinds.specs.Faults as t
use Rattle.bg_types.specs.Verdicts.{IsWellTyped, IsFault}
use Rattle.bg_typed.specs.Rules.{KeepsTypes}
use Rattle.bg_front.specs.Limits.{most_bytes}
use Rattle.bg_front.specs.Refusals.{Refusal, TooLong, Bytes, Syntax, Nesting, Names, Types, Implementations, Candidates, Places, Bodies, Expanded}
use Rattle.bg_front.specs.Trees.{IsTreeOf, HasNoTree}
use Rattle.bg_front.specs.Programs.{IsMeaningOf, IsProgramOf, ExceedsLimit, IsRefusedBy, limit_of, with_guesses}
use Rattle.bg_front.proofs.Named.{AreNamed, are_named_in, is_named_in}
use Rattle.bg_front.proofs.NameFaults.{named_no_fault}
use Rattle.bg_front.proofs.Ones.{Known, one_tree, not_both, one_refusal}
use Rattle.bg_front.proofs.TypeFaults.{typed_no_fault, one_fault}

-- ---- what is said of a text that has a tree
data Rest (guess : Bool) (ts : List Tok) (ds : List Decl) (x : Refusal) : Type 0 where
  misnamed : (f : n.Fault) → IsToldFault ds f → x ≡ Names f → Rest guess ts ds x
  mistyped : (f : t.Fault) → AreNamed ds → IsFault (named ds) f → x ≡ Types (named ds).types f → Rest guess ts ds x
  large : AreNamed ds → IsWellTyped (named ds) → limit_of (with_guesses guess (named ds)) ≡ Some x → Rest guess ts ds x

data Why (guess : Bool) (bytes : List ℕ) (x : Refusal) : Type 0 where
  long : most_bytes < length bytes → x ≡ TooLong → Why guess bytes x
  none : length bytes ≤ most_bytes → HasNoTree bytes x → Why guess bytes x
  some : length bytes ≤ most_bytes → (ts : List Tok) (ds : List Decl) → IsTreeOf bytes ts ds → Rest guess ts ds x → Why guess bytes x

-- what is known of types
abbrev Fine : Type 0
Fine = (p : r.Program) → KeepsTypes p → IsWellTyped p

exceeded : (guess : Bool) → Fine → (bytes : List ℕ) (x : Refusal) → ExceedsLimit guess bytes x → Why guess bytes x
exceeded guess fine bytes x h =
    let m : IsMeaningOf bytes h.0 h.1 = h.2 in
    some m.short h.0 m.decls m.tree (large (are_named_in bytes h.0 h.1 m) (subst (λ (p : r.Program). IsWellTyped p) (is_named_in bytes h.0 h.1 m) (fine h.1 h.3)) (subst (λ (p : r.Program). limit_of (with_guesses guess p) ≡ Some x) (is_named_in bytes h.0 h.1 m) h.4))

why : (guess : Bool) → Fine → (bytes : List ℕ) (x : Refusal) → IsRefusedBy guess bytes x → Why guess bytes x
why guess fine bytes TooLong h = long h refl
why guess fine bytes (Bytes p f) h = none h.0 h.1
why guess fine bytes (Syntax p) h = none h.0 h.1
why guess fine bytes Nesting h = none h.0 h.1
why guess fine bytes (Names f) h = some h.0 h.1 h.2 h.3 (misnamed f h.4 refl)
why guess fine bytes (Types xs f) h =
    let m : IsMeaningOf bytes h.0 h.1 = h.2 in
    some m.short h.0 m.decls m.tree (mistyped f (are_named_in bytes h.0 h.1 m) (subst (λ (p : r.Program). IsFault p f) (is_named_in bytes h.0 h.1 m) h.3) (ap (λ (l : List r.TypeName). Types l f) (h.4 ∙ ap (λ (p : r.Program). p.types) (is_named_in bytes h.0 h.1 m))))
why guess fine bytes (Implementations c) h = exceeded guess fine bytes (Implementations c) h
why guess fine bytes (Candidates c) h = exceeded guess fine bytes (Candidates c) h
why guess fine bytes (Places c) h = exceeded guess fine bytes (Places c) h
why guess fine bytes (Bodies c) h = exceeded guess fine bytes (Bodies c) h
why guess fine bytes Expanded h = exceeded guess fine bytes Expanded h

-- ---- programs
pub one_program : Known → (guess : Bool) (bytes : List ℕ) (p q : r.Program) → IsProgramOf guess bytes p → IsProgramOf guess bytes q → p ≡ q
one_program k guess bytes p q a b =
    let e = one_tree k bytes a.tokens b.tokens a.spelled.decls b.spelled.decls a.spelled.tree b.spelled.tree in
    let same : a.written ≡ b.written = is_named_in bytes a.tokens a.written a.spelled ∙ (ap named e.1 ∙ sym (is_named_in bytes b.tokens b.written b.spelled)) in
    a.is ∙ (ap (with_guesses guess) same ∙ sym b.is)

no_limit : (o : Option Refusal) (x : Refusal) → o ≡ None → o ≡ Some x → ⊥
no_limit o x h k = absurd (let e : None ≡ Some x = sym h ∙ k in cc)

few_rest : (guess : Bool) (ts : List Tok) (ds : List Decl) (x : Refusal) → AreNamed ds → IsWellTyped (named ds) → limit_of (with_guesses guess (named ds)) ≡ None → Rest guess ts ds x → ⊥
few_rest guess ts ds x a b d (misnamed f h e) = named_no_fault ds f a h
few_rest guess ts ds x a b d (mistyped f n h e) = typed_no_fault (named ds) f b h
few_rest guess ts ds x a b d (large n w h) = no_limit (limit_of (with_guesses guess (named ds))) x d h

no_reason : Known → Fine → (guess : Bool) (bytes : List ℕ) (p : r.Program) (x : Refusal) → IsProgramOf guess bytes p → Why guess bytes x → ⊥
no_reason k fine guess bytes p x a (long l e) = omega (arith, l, a.spelled.short)
no_reason k fine guess bytes p x a (none l h) = not_both k bytes a.tokens a.spelled.decls x a.spelled.tree h
no_reason k fine guess bytes p x a (some l ts ds tree h) =
    let e = one_tree k bytes ts a.tokens ds a.spelled.decls tree a.spelled.tree in
    let meant : a.written ≡ named ds = is_named_in bytes a.tokens a.written a.spelled ∙ ap named (sym e.1) in
    few_rest guess ts ds x
    (subst (λ (d : List Decl). AreNamed d) (sym e.1) (are_named_in bytes a.tokens a.written a.spelled))
    (fine (named ds) (subst (λ (q : r.Program). KeepsTypes q) meant a.typed))
    (subst (λ (q : r.Program). limit_of q ≡ None) (a.is ∙ ap (with_guesses guess) meant) a.within)
    h

pub program_not_refused : Known → Fine → (guess : Bool) (bytes : List ℕ) (p : r.Program) (x : Refusal) → IsProgramOf guess bytes p → IsRefusedBy guess bytes x → ⊥
program_not_refused k fine guess bytes p x a b = no_reason k fine guess bytes p x a (why guess fine bytes x b)

-- ---- refusals
one_limit : (o : Option Refusal) (x y : Refusal) → o ≡ Some x → o ≡ Some y → x ≡ y
one_limit o x y h k = let e : Some x ≡ Some y = sym h ∙ k in cc

-- two reasons, by what each is
through : (x y u v : Refusal) → x ≡ u → y ≡ v → u ≡ v → x ≡ y
through x y u v h k e = h ∙ (e ∙ sym k)

rest_alike : (guess : Bool) (ts : List Tok) (ds : List Decl) (x y : Refusal) → Rest guess ts ds x → Rest guess ts ds y → x ≡ y
rest_alike guess ts ds x y (misnamed f a e) (misnamed g b h) = through x y (Names f) (Names g) e h (ap Names (one_told ds f g a b))
rest_alike guess ts ds x y (misnamed f a e) (mistyped g n b h) = absurd (named_no_fault ds f n a)
rest_alike guess ts ds x y (misnamed f a e) (large n t h) = absurd (named_no_fault ds f n a)
rest_alike guess ts ds x y (mistyped f m a e) (misnamed g b h) = absurd (named_no_fault ds g m b)
rest_alike guess ts ds x y (mistyped f m a e) (mistyped g n b h) =
    through x y _ _ e h (ap (λ (z : t.Fault). Types (named ds).types z) (one_fault (named ds) f g a b))
rest_alike guess ts ds x y (mistyped f m a e) (large n t h) = absurd (typed_no_fault (named ds) f t a)
rest_alike guess ts ds x y (large m s e) (misnamed g b h) = absurd (named_no_fault ds g m b)
rest_alike guess ts ds x y (large m s e) (mistyped g n b h) = absurd (typed_no_fault (named ds) g s b)
rest_alike guess ts ds x y (large m s e) (large n t h) = one_limit (limit_of (with_guesses guess (named ds))) x y e h

alike : Known → (guess : Bool) (bytes : List ℕ) (x y : Refusal) → Why guess bytes x → Why guess bytes y → x ≡ y
alike k guess bytes x y (long l e) (long m f) = e ∙ sym f
alike k guess bytes x y (long l e) (none m h) = absurd (omega (arith, l, m))
alike k guess bytes x y (long l e) (some m ts ds tree h) = absurd (omega (arith, l, m))
alike k guess bytes x y (none l g) (long m f) = absurd (omega (arith, l, m))
alike k guess bytes x y (none l g) (none m h) = one_refusal k bytes x y g h
alike k guess bytes x y (none l g) (some m ts ds tree h) = absurd (not_both k bytes ts ds x tree g)
alike k guess bytes x y (some l ts ds tree g) (long m f) = absurd (omega (arith, l, m))
alike k guess bytes x y (some l ts ds tree g) (none m h) = absurd (not_both k bytes ts ds y tree h)
alike k guess bytes x y (some l ts ds tree g) (some m us es other h) =
    let e = one_tree k bytes us ts es ds other tree in
    rest_alike guess ts ds x y g (subst (λ (d : List Decl). Rest guess ts d y) e.1 (subst (λ (t : List Tok). Rest guess t es y) e.0 h))

pub refused_alike : Known → Fine → (guess : Bool) (bytes : List ℕ) (x y : Refusal) → IsRefusedBy guess bytes x → IsRefusedBy guess bytes y → x ≡ y
refused_alike k fine guess bytes x y a b = alike k guess bytes x y (why guess fine bytes x a) (why guess fine bytes y b)
