-- A limit that a program exceeds first refuses its text.
use Rattle.std.proofs.Common.{◌≡◌, ℕ, nat_lt, Bool, true, false, if◌then◌else◌, List, length, Option, Some, None, refl, sym, ap, ◌∙◌}
use Rattle.bg_text.specs.Tokens.{Tok}
use Rattle.bg_ast.specs.Resolved as r
use Rattle.bg_places.specs.Counts.{most_places, most_expanded, place_counts, first_above, is_any_above}
use Rattle.bg_expanded.specs.Chains.{most_bodies, longest_chain}
use Rattle.bg_expanded.specs.Counts.{opened_counts}
use Rattle.bg_typed.specs.Rules.{KeepsTypes}
use Rattle.bg_front.specs.Limits.{most_implementations, most_candidates}
use Rattle.bg_front.specs.Refusals.{Refusal, TooLong, Bytes, Syntax, Nesting, Names, Types, Implementations, Candidates, Places, Bodies, Expanded, refusal_of}
use Rattle.bg_front.specs.declared.refusal.ReadError.{ReadError}
use Rattle.bg_front.specs.declared.refusal.ReadError.TheVariants as errors
use Rattle.bg_front.specs.Programs.{IsMeaningOf, IsRefusedBy, IsRefused, IsLimitOf, size_limit, candidate_count, or_else, too_many, too_large, limit_of, with_guesses}

abbrev is_size : Refusal → Bool
is_size (Implementations n) = true
is_size (Candidates n) = true
is_size (Places n) = true
is_size (Bodies n) = true
is_size Expanded = true
is_size _ = false

same_size : (x y : Refusal) → is_size x ≡ true → Some x ≡ Some y → is_size y ≡ true
same_size x y h e = let k : y ≡ x = cc in ap is_size k ∙ h

none_some : (x : Refusal) → None ≡ Some x → ⊥
none_some x e = absurd (let k : None ≡ Some x = e in cc)

by_nodes : (b : Bool) (x : Refusal) → (if b then Some Expanded else None) ≡ Some x → is_size x ≡ true
by_nodes true x e = same_size Expanded x refl e
by_nodes false x e = absurd (none_some x e)

by_chain : (c b : Bool) (n : ℕ) (x : Refusal) → (if c then Some (Bodies n) else if b then Some Expanded else None) ≡ Some x → is_size x ≡ true
by_chain true b n x e = same_size (Bodies n) x refl e
by_chain false b n x e = by_nodes b x e

size_of : (o : Option ℕ) (chain : ℕ) (b : Bool) (x : Refusal) → size_limit o chain b ≡ Some x → is_size x ≡ true
size_of (Some n) chain b x e = same_size (Places n) x refl e
size_of None chain b x e = by_chain (nat_lt most_bodies chain) b chain x e

by_candidates : (c : Bool) (m : ℕ) (x : Refusal) → (if c then Some (Candidates m) else None) ≡ Some x → is_size x ≡ true
by_candidates true m x e = same_size (Candidates m) x refl e
by_candidates false m x e = absurd (none_some x e)

by_count : (c d : Bool) (n m : ℕ) (x : Refusal) → (if c then Some (Implementations n) else if d then Some (Candidates m) else None) ≡ Some x → is_size x ≡ true
by_count true d n m x e = same_size (Implementations n) x refl e
by_count false d n m x e = by_candidates d m x e

either : (o u : Option Refusal) → ((x : Refusal) → o ≡ Some x → is_size x ≡ true) → ((x : Refusal) → u ≡ Some x → is_size x ≡ true) → (x : Refusal) → or_else o u ≡ Some x → is_size x ≡ true
either (Some y) u a b x e = a x e
either None u a b x e = b x e

is_a_size : (p : r.Program) (x : Refusal) → limit_of p ≡ Some x → is_size x ≡ true
is_a_size p =
    either (too_many p) (too_large p)
    (by_count (nat_lt most_implementations (length p.implementations)) (nat_lt most_candidates (candidate_count p)) (length p.implementations) (candidate_count p))
    (size_of (first_above most_places (place_counts p)) (longest_chain p) (is_any_above most_expanded (opened_counts most_bodies p)))

no_size : {A : Type 0} → false ≡ true → A
no_size e = absurd (let k : false ≡ true = e in cc)

limit_refuses : (guess : Bool) (bytes : List ℕ) (ts : List Tok) (p : r.Program) (x : Refusal) → IsMeaningOf bytes ts p → KeepsTypes p → limit_of (with_guesses guess p) ≡ Some x → IsRefusedBy guess bytes x
limit_refuses guess bytes ts p (Implementations n) m w e = (ts, p, m, w, e)
limit_refuses guess bytes ts p (Candidates n) m w e = (ts, p, m, w, e)
limit_refuses guess bytes ts p (Places n) m w e = (ts, p, m, w, e)
limit_refuses guess bytes ts p (Bodies n) m w e = (ts, p, m, w, e)
limit_refuses guess bytes ts p Expanded m w e = (ts, p, m, w, e)
limit_refuses guess bytes ts p TooLong m w e = no_size (is_a_size (with_guesses guess p) TooLong e)
limit_refuses guess bytes ts p (Bytes q f) m w e = no_size (is_a_size (with_guesses guess p) (Bytes q f) e)
limit_refuses guess bytes ts p (Syntax q) m w e = no_size (is_a_size (with_guesses guess p) (Syntax q) e)
limit_refuses guess bytes ts p Nesting m w e = no_size (is_a_size (with_guesses guess p) Nesting e)
limit_refuses guess bytes ts p (Names f) m w e = no_size (is_a_size (with_guesses guess p) (Names f) e)
limit_refuses guess bytes ts p (Types ds f) m w e = no_size (is_a_size (with_guesses guess p) (Types ds f) e)

-- the same of an answer
pub limit_is_refused : (guess : Bool) (bytes : List ℕ) (ts : List Tok) (p : r.Program) (e : ReadError) → IsMeaningOf bytes ts p → KeepsTypes p → IsLimitOf (with_guesses guess p) e → IsRefused guess bytes e
limit_is_refused guess bytes ts p (errors.Refused e) m w h = limit_refuses guess bytes ts p (refusal_of e) m w h
limit_is_refused guess bytes ts p errors.Memory m w h = h

-- neither too many of something nor too large, or the latter alone
pub no_limit : (p : r.Program) → None ≡ too_many p → None ≡ too_large p → limit_of p ≡ None
no_limit p a b = ap (λ o. or_else o (too_large p)) (sym a) ∙ sym b

pub size_is_limit : (p : r.Program) (x : Refusal) → None ≡ too_many p → Some x ≡ too_large p → limit_of p ≡ Some x
size_is_limit p x a b = ap (λ o. or_else o (too_large p)) (sym a) ∙ sym b
