-- What is refused in brackets.
use Rattle.std.proofs.Common.{◌≡◌, ℕ, List, Option, Some, None, refl, ap}
use Rattle.bg_base.specs.declared.pos.Pos.{Pos}
use Rattle.bg_text.specs.declared.token.Kind.{Kind}
use Rattle.bg_text.specs.Tokens.{Tok}
use Rattle.bg_reader.specs.declared.refusal.Refusal.{Refusal}
use Rattle.bg_reader.specs.declared.refusal.Refusal.TheVariants as refusal
use Rattle.bg_reader.specs.Reading.{Got, Bad, Reader, one, peek, branch_on, a_sign, Refuses}
use Rattle.bg_grammar.specs.Rules.{inside}

one_got : (ts : List Tok) (o : Option (Pos × List Tok)) (p : Pos) (a : List Tok) → branch_on o Got (Bad ts) ≡ Got p a → o ≡ Some (p, a)
one_got ts (Some b) p a h = ap (λ (q : Pos × List Tok). Some q) (by h)
  where
    by : Got b.0 b.1 ≡ Got p a → b ≡ (p, a)
    by h = let x : b.0 ≡ p = cc in let y : b.1 ≡ a = cc in rw (x, y) refl
one_got ts None p a h = absurd cc

pub inside_refused : {A : Type 0} (k c : Kind) (R : Option (Reader A)) (P : Reader A) (ts a b : List Tok) (p : Pos) (v : A) (from : ℕ → List Tok) (x : Refusal) → R ≡ Some P → one (a_sign k) ts ≡ Got p a → P a ≡ Got v b → Refuses from x (one (a_sign c) b) → Refuses from x (inside k c R ts)
inside_refused k c R P ts a b p v from (refusal.Syntax i) r h q m = rw (r, one_got ts (peek (a_sign k) ts) p a h, q, m) refl
inside_refused k c R P ts a b p v from (refusal.TooDeep i) r h q m = rw (r, one_got ts (peek (a_sign k) ts) p a h, q, m) refl
inside_refused k c R P ts a b p v from refusal.Memory r h q m = tt
