-- A string is the longest piece where it stands, and where it has no end none stands.
use Rattle.std.proofs.Common.{◌≡◌, ℕ, suc, ◌+◌, ◌≤◌, ◌<◌, List, [], ◌∷◌, ◌++◌, length, take, drop, get_or, Bool, true, false, Some, None, refl, sym, ap, ◌∙◌, subst, arith, length-take}
use Rattle.std.specs.Prelude.{◌==◌}
use Rattle.std.proofs.lemmas.Bool.{eqb-true}
use Rattle.std.proofs.lemmas.List.{take-append-drop}
use Rattle.std.proofs.lemmas.Option.{same_Some}
use Rattle.bg_text.specs.declared.token.Kind.TheVariants as kinds
use Rattle.bg_text.specs.Pieces.{Token, piece_of, when, is_ident, is_space, is_digit, is_quoted}
use Rattle.bg_text.specs.Text.{IsPiece, Stands, BadByte}
use Rattle.bg_lex.specs.declared.quote.Quoting.{Quoting}
use Rattle.bg_lex.specs.declared.quote.Quoting.TheVariants.{Ends, Breaks, Goes}
use Rattle.bg_lex.specs.Ends.{quote_step, quote_on, quote_end}
use Rattle.bg_lex.specs.Fronts.{Found}
use Rattle.bg_lex.proofs.Runs.{when_some}

-- a string that begins here, in terms of what its next byte does
quoted_on : Quoting → (Bool → Bool) → ℕ → Bool
quoted_on Ends more left = left == 0
quoted_on Breaks more left = false
quoted_on (Goes escaped) more left = more escaped

quoted_step : (escaped : Bool) (b : ℕ) (bs : List ℕ) → is_quoted escaped (b ∷ bs) ≡ quoted_on (quote_step escaped b) (λ e. is_quoted e bs) (length bs)
unfolding quoted_on
quoted_step escaped b bs = by escaped (b == 10) (b == 34) (b == 92) refl refl refl
  where
    by : (escaped x y z : Bool) → (b == 10) ≡ x → (b == 34) ≡ y → (b == 92) ≡ z → is_quoted escaped (b ∷ bs) ≡ quoted_on (quote_step escaped b) (λ e. is_quoted e bs) (length bs)
    by true true y z e f g = rw e refl
    by true false y z e f g = rw e refl
    by false x true z e f g = rw f refl
    by false x false true e f g = rw (f, g) refl
    by false true false false e f g = rw (f, g, e) refl
    by false false false false e f g = rw (f, g, e) refl

-- where a front is a whole string, it is what the code counts
full : (q r : List ℕ) (i : ℕ) (escaped : Bool) → is_quoted escaped q ≡ true → quote_end i escaped (q ++ r) ≡ Some (i + length q)
unfolding quoted_on
full [] r i escaped h = absurd cc
full (b ∷ q) r i escaped h = by (quote_step escaped b) (sym (quoted_step escaped b q) ∙ h) (λ e. full q r (i + 1) e)
  where
    by : (s : Quoting) → quoted_on s (λ e. is_quoted e q) (length q) ≡ true → ((e : Bool) → is_quoted e q ≡ true → quote_end (i + 1) e (q ++ r) ≡ Some (i + 1 + length q)) → quote_on i s (λ e. quote_end (i + 1) e (q ++ r)) ≡ Some (i + suc (length q))
    by Ends h more = let none : length q ≡ 0 = eqb-true (length q) 0 h in ap (λ (n : ℕ). Some n) (omega (arith, none))
    by Breaks h more = absurd cc
    by (Goes e) h more = more e h ∙ ap (λ (n : ℕ). Some n) (omega arith)

-- what the code counts is a whole string
record Counted (i n : ℕ) (escaped : Bool) (bs : List ℕ) : Type 0 where
  m : ℕ
  is : n ≡ i + m
  le : m ≤ length bs
  quoted : is_quoted escaped (take m bs) ≡ true

counted : (bs : List ℕ) (i n : ℕ) (escaped : Bool) → quote_end i escaped bs ≡ Some n → Counted i n escaped bs
unfolding quoted_on
counted [] i n escaped h = absurd cc
counted (b ∷ bs) i n escaped h = by (quote_step escaped b) refl h (λ e. counted bs (i + 1) n e)
  where
    by : (s : Quoting) → quote_step escaped b ≡ s → quote_on i s (λ e. quote_end (i + 1) e bs) ≡ Some n → ((e : Bool) → quote_end (i + 1) e bs ≡ Some n → Counted (i + 1) n e bs) → Counted i n escaped (b ∷ bs)
    by Ends e h more = record { m = 1; is = sym (same_Some _ _ h); le = omega arith; quoted = quoted_step escaped b [] ∙ rw e refl }
    by Breaks e h more = absurd cc
    by (Goes x) e h more =
        let c = more x h in
        record { m = suc c.m; is = omega (arith, c.is); le = omega (arith, c.le); quoted = quoted_step escaped b (take c.m bs) ∙ rw e c.quoted }

module _ (bs : List ℕ) where
  string_shape : (q : List ℕ) → piece_of (34 ∷ q) ≡ when (is_quoted false q) (Token kinds.Quoted)
  unfolding is_space is_digit is_ident
  string_shape q = refl

  string_front : (q r : List ℕ) → 34 ∷ bs ≡ q ++ r → IsPiece q → (m : ℕ) × (quote_end 0 false bs ≡ Some m) × (length q ≡ suc m)
  string_front [] r e i = absurd (let h : None ≡ Some i.0 = i.1 in cc)
  string_front (c ∷ q) r e i =
      let first : c ≡ 34 = cc in
      let rest : bs ≡ q ++ r = cc in
      let p : when (is_quoted false q) (Token kinds.Quoted) ≡ Some i.0 = sym (string_shape q) ∙ ap (λ x. piece_of (x ∷ q)) (sym first) ∙ i.1 in
      (length q, ap (quote_end 0 false) rest ∙ full q r 0 false (when_some (is_quoted false q) (Token kinds.Quoted) i.0 p) ∙ ap (λ (n : ℕ). Some n) (omega arith), refl)

  string_found : (n : ℕ) → quote_end 0 false bs ≡ Some n → Found (34 ∷ bs) (Some kinds.Quoted) (n + 1)
  string_found n h =
      let c = counted bs 0 n false h in
      let size : length (take c.m bs) ≡ c.m = omega (arith, length-take c.m bs, c.le) in
      record {
        text = 34 ∷ take c.m bs;
        after = drop c.m bs;
        cut = ap (λ l. 34 ∷ l) (sym (take-append-drop c.m bs));
        len = omega (arith, size, c.is);
        is_piece = string_shape (take c.m bs) ∙ rw c.quoted refl;
        longest = λ q r e i. let f = string_front q r e i in let same : f.0 ≡ n = same_Some _ _ (sym f.1 ∙ h) in omega (arith, f.2, same, size, c.is);
        ends = λ k. absurd cc;
      }

  string_none : quote_end 0 false bs ≡ None → Stands (34 ∷ bs) BadByte
  string_none h = (λ e. absurd cc, λ q r e i. let f = string_front q r e i in let t : None ≡ Some f.0 = sym h ∙ f.1 in absurd cc)

pub quote_found : (bytes : List ℕ) (n : ℕ) → 0 < length bytes → get_or bytes 0 0 ≡ 34 → quote_end 0 false (drop 1 bytes) ≡ Some n → Found bytes (Some kinds.Quoted) (n + 1)
quote_found [] n some e h = absurd (omega arith)
quote_found (b ∷ bs) n some e h = subst (λ b. Found (b ∷ bs) (Some kinds.Quoted) (n + 1)) (sym e) (string_found bs n h)

pub quote_none : (bytes : List ℕ) → 0 < length bytes → get_or bytes 0 0 ≡ 34 → quote_end 0 false (drop 1 bytes) ≡ None → Stands bytes BadByte
quote_none [] some e h = absurd (omega arith)
quote_none (b ∷ bs) some e h = subst (λ b. Stands (b ∷ bs) BadByte) (sym e) (string_none bs h)
