-- How large forms are: what falls where code goes into them.
use Rattle.std.proofs.Common.{◌≡◌, ℕ, suc, ◌+◌, ◌<◌, ◌≤◌, ap, arith}
use Rattle.bg_forms.specs.Forms.{Form, Plain, Is, NotSo, Both, Same}

abbrev pub size_form : Form → ℕ
size_form (Plain b) = 1
size_form (Is l) = 1
size_form (NotSo f) = suc (size_form f)
size_form (Both f g) = suc (size_form f + size_form g)
size_form (Same f g) = suc (size_form f + size_form g)

pub falls_both : (f g h g2 : Form) (k : ℕ) → f ≡ Both g h → g2 ≡ g → size_form f ≤ k → size_form g2 < k
falls_both f g h g2 k is same le =
    let a = ap size_form is in
    let b = ap size_form same in
    omega (arith, a, b, le)

pub falls_behind : (f g h h2 : Form) (k : ℕ) → f ≡ Both g h → h2 ≡ h → size_form f ≤ k → size_form h2 < k
falls_behind f g h h2 k is same le =
    let a = ap size_form is in
    let b = ap size_form same in
    omega (arith, a, b, le)

pub falls_same : (f g h g2 : Form) (k : ℕ) → f ≡ Same g h → g2 ≡ g → size_form f ≤ k → size_form g2 < k
falls_same f g h g2 k is same le =
    let a = ap size_form is in
    let b = ap size_form same in
    omega (arith, a, b, le)

pub falls_beside : (f g h h2 : Form) (k : ℕ) → f ≡ Same g h → h2 ≡ h → size_form f ≤ k → size_form h2 < k
falls_beside f g h h2 k is same le =
    let a = ap size_form is in
    let b = ap size_form same in
    omega (arith, a, b, le)

pub weaker : (a k : ℕ) → a < k → a ≤ k
weaker a k h = omega (arith, h)
