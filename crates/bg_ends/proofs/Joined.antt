-- Texts that are written one after the other.
use Rattle.std.proofs.Common.{◌≡◌, ℕ, List, ◌++◌, Option, Some, None, refl, ap, ◌∙◌, append_assoc}
use Rattle.bg_io.specs.Causes.{joined}

pub joined_twice : (w : Option (List ℕ)) (a b : List ℕ) → joined (joined w a) b ≡ joined w (a ++ b)
joined_twice None a b = refl
joined_twice (Some x) a b = ap Some (append_assoc x a b)

-- a line in three pieces
pub in_pieces : (w x y z : Option (List ℕ)) (a b b' c : List ℕ) → x ≡ joined w a → y ≡ joined x b → b ≡ b' → z ≡ joined y c → z ≡ joined w (a ++ b' ++ c)
in_pieces w x y z a b b' c e f g h =
    h ∙ ap (λ u. joined u c) (f ∙ ap (joined x) g ∙ ap (λ u. joined u b') e ∙ joined_twice w a b') ∙ joined_twice w (a ++ b') c
