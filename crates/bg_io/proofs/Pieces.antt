-- Bytes that are written piece by piece.
use Rattle.std.proofs.Common.{◌≡◌, ℕ, ◌+◌, List, ◌++◌, Option, Some, None, take, drop, refl, sym, ap, ◌∙◌, append_assoc}
use Rattle.std.proofs.Math.Seq.{take-add}
use Rattle.bg_io.specs.Causes.{joined}

-- two pieces, one after the other, are one piece
pub joined_more : (w : Option (List ℕ)) (bytes : List ℕ) (at n : ℕ) → joined (joined w (take at bytes)) (take n (drop at bytes)) ≡ joined w (take (at + n) bytes)
joined_more None bytes at n = refl
joined_more (Some old) bytes at n = ap Some (append_assoc old _ _ ∙ ap (λ (x : List ℕ). old ++ x) (sym (take-add at n bytes)))
