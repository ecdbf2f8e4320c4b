-- Texts that are put one after the other.
use Rattle.std.proofs.Common.{◌≡◌, ℕ, List, ◌++◌, ap, ◌∙◌, append_assoc}

pub and_then : (o m n x y : List ℕ) → m ≡ o ++ x → n ≡ m ++ y → n ≡ o ++ (x ++ y)
and_then o m n x y e f = f ∙ ap (λ l. l ++ y) e ∙ append_assoc o x y
