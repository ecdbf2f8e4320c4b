-- More ways to put readers together.
use Rattle.std.specs.Prelude.{ℕ, zero, suc, List, [], ◌∷◌, Option, Some, None}
use Rattle.bg_base.specs.declared.pos.Pos.{Pos}
use Rattle.bg_text.specs.declared.token.Kind.{Kind}
use Rattle.bg_text.specs.declared.token.Kind.TheVariants as kinds
use Rattle.bg_text.specs.Tokens.{Tok}
use Rattle.bg_reader.specs.Reading.{Read, Out, Reader, with_read, both, peek, one, must, sunk, nothing, if_true, a_sign, a_text}
use Rattle.bg_grammar.specs.Sets.{is_in}

-- a token of one of these kinds
abbrev pub a_kind : List Kind → Tok → Option Pos
a_kind ks t = if_true (is_in ks t.kind) t.pos

abbrev pub choose_on : {A B : Type 0} → Option B → Read A → Read A → Read A
choose_on (Some b) p q = p
choose_on None p q = q

-- P where g takes the next token, else Q
abbrev pub choose : {A B : Type 0} → (Tok → Option B) → Reader A → Reader A → Reader A
choose g P Q ts = choose_on (peek g ts) (P ts) (Q ts)

-- parts, as long as g takes the next token
abbrev pub rows : {A B : Type 0} → (Tok → Option B) → Reader A → ℕ → Reader (List A)
rows g P zero = choose g (λ ts. Out) (nothing [])
rows g P (suc n) = choose g (λ ts. with_read (λ v. v.0 ∷ v.1) (both P (rows g P n) ts)) (nothing [])

-- a sign, and P behind it
abbrev pub after : {A : Type 0} → Kind → Reader A → Reader A
after k P ts = with_read (λ v. v.1) (both (one (a_sign k)) P ts)

-- P, and a sign behind it
abbrev pub before : {A : Type 0} → Reader A → Kind → Reader A
before P k ts = with_read (λ v. v.0) (both P (one (a_sign k)) ts)

-- parts with commas between them
abbrev pub commas_at : {A : Type 0} → Reader A → ℕ → Reader (List A)
commas_at P n ts = with_read (λ v. v.0 ∷ v.1) (both P (rows (a_sign kinds.Comma) (after kinds.Comma P) n) ts)

-- an opening sign, and what is read behind it if a bracket more may be opened
abbrev pub opened : {A : Type 0} → Kind → Option (Reader A) → Reader (Pos × A)
opened k None = sunk (a_sign k)
opened k (Some P) = must (a_sign k) P

-- the same, with the closing sign
abbrev pub enclosed : {A : Type 0} → Kind → Kind → Option (Reader A) → Reader (Pos × A)
enclosed k c None = sunk (a_sign k)
enclosed k c (Some P) = must (a_sign k) (before P c)

-- the same, without its position
abbrev pub inside : {A : Type 0} → Kind → Kind → Option (Reader A) → Reader A
inside k c P ts = with_read (λ v. v.1) (enclosed k c P ts)

-- a reader made from the one for what stands in a bracket
abbrev pub inner : {A B : Type 0} → (Reader A → Reader B) → Option (Reader A) → Option (Reader B)
inner f None = None
inner f (Some P) = Some (f P)

-- how many brackets more may be opened within one
abbrev pub below : ℕ → Option ℕ
below zero = None
below (suc d) = Some d

-- what reads in a bracket, if it may be opened
abbrev pub room : {A : Type 0} → (ℕ → Reader A) → Option ℕ → Option (Reader A)
room P None = None
room P (Some d) = Some (P d)

-- a sign that stands for a value
abbrev pub shut : {A : Type 0} → Kind → A → Reader A
shut k a ts = with_read (λ _. a) (one (a_sign k) ts)

-- parts with commas between them, or none, and the closing sign
abbrev pub list_closed : {A : Type 0} → Kind → Reader A → ℕ → Reader (List A)
list_closed k P n = choose (a_sign k) (shut k []) (before (commas_at P n) k)

-- the text of a token of the kind
abbrev pub text_at : Kind → Reader (List ℕ)
text_at k ts = with_read (λ b. b.1) (one (a_text k) ts)

-- Parts, each behind the signs k and j, as long as they come, and at last, behind k alone, a part of another kind or none
abbrev pub chain_at : {A B : Type 0} → Kind → Kind → Reader A → Reader B → ℕ → Reader (List A × Option B)
chain_at k j P Q zero = choose (a_sign k) (λ ts. Out) (nothing ([], None))
chain_at k j P Q (suc n) =
    choose (a_sign k)
    (after k
    (choose (a_sign j) (λ ts. with_read (λ v. (v.0 ∷ v.1.0, v.1.1)) (both (after j P) (chain_at k j P Q n) ts)) (λ ts. with_read (λ b. ([], Some b)) (Q ts))))
    (nothing ([], None))
