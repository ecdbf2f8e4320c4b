-- Truth values by pieces: those of one function below a number, and behind it those of another.
use Rattle.std.proofs.Common.{◌≡◌, ℕ, zero, suc, ◌+◌, Bool, true, List, [], ◌∷◌, refl, sym, ap, ◌∙◌, arith}
use Rattle.std.specs.Prelude.{nat_lt}
use Rattle.bg_forms.proofs.Meaning.{none_below, below_suc}

abbrev pub behind : ℕ → (ℕ → Bool) → (ℕ → Bool) → ℕ → Bool
behind zero f g j = g j
behind (suc n) f g zero = f zero
behind (suc n) f g (suc j) = behind n (λ k. f (suc k)) g j

abbrev pub front : List Bool → (ℕ → Bool) → ℕ → Bool
front [] g j = g j
front (x ∷ xs) g zero = x
front (x ∷ xs) g (suc j) = front xs g j

pub behind_first : (n : ℕ) (f g : ℕ → Bool) (j : ℕ) → nat_lt j n ≡ true → behind n f g j ≡ f j
behind_first zero f g j e = absurd (none_below j e)
behind_first (suc n) f g zero e = refl
behind_first (suc n) f g (suc j) e = behind_first n (λ k. f (suc k)) g j (sym (below_suc j n) ∙ e)

pub behind_past : (n : ℕ) (f g : ℕ → Bool) (j x : ℕ) → x ≡ n + j → behind n f g x ≡ g j
behind_past zero f g j x e = ap g (omega (arith, e))
behind_past (suc n) f g j zero e = absurd (omega (arith, e))
behind_past (suc n) f g j (suc x) e = behind_past n (λ k. f (suc k)) g j x (omega (arith, e))
