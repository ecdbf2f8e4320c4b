-- How the blocks of a body stand in front of those behind it: these stay, but the first one where it takes in commands; and no point
-- lies further from the end than there are blocks.
use Rattle.std.proofs.Common.{◌≡◌, ℕ, suc, ◌+◌, ◌≤◌, Bool, true, false, if◌then◌else◌, List, [], ◌∷◌, ◌++◌, length, refl, ap, ◌∙◌, sym, arith, append_assoc}
use Rattle.std.proofs.lemmas.List.{length-append}
use Rattle.bg_sense.specs.Flow.{Point, point_eq}
use Rattle.bg_flow.specs.Core.{Cmd, Core, Nil, Seq, Mark, Do, To, Choose, Loop}
use Rattle.bg_flow.specs.Blocks.{Block, Coded, led, closed, skipped, turned, code}

-- ---- blocks behind others

abbrev pub Ends : List Block → List Block → Type 0
Ends xs ys = (front : List Block) × (xs ≡ front ++ ys)

pub ends_same : (xs : List Block) → Ends xs xs
ends_same xs = ([], refl)

pub ends_ends : (xs ys zs : List Block) → Ends xs ys → Ends ys zs → Ends xs zs
ends_ends xs ys zs d e = (d.0 ++ e.0, d.1 ∙ ap (λ l. d.0 ++ l) e.1 ∙ sym (append_assoc d.0 e.0 zs))

pub ends_long : (xs ys : List Block) → Ends xs ys → length ys ≤ length xs
ends_long xs ys e = let same = ap length e.1 in let long = length-append e.0 ys in omega (arith, same, long)

-- the blocks that stay as they are
abbrev staying : Bool → List Block → List Block
staying false bs = bs
staying true [] = []
staying true (b ∷ bs) = bs

abbrev rest : Coded → List Block
rest t = staying t.takes_in t.blocks

staying_ends : (o : Bool) (bs : List Block) → Ends bs (staying o bs)
staying_ends false bs = ([], refl)
staying_ends true [] = ([], refl)
staying_ends true (b ∷ bs) = (b ∷ [], refl)

led_rest : (o : Bool) (ks : List Cmd) (bs : List Block) → staying true (led o ks bs) ≡ staying o bs
led_rest false ks bs = refl
led_rest true ks [] = refl
led_rest true ks (b ∷ bs) = refl

rest_ends : (s : Core) (t : Coded) → Ends (rest (code s t)) (rest t)
rest_ends Nil t = ends_same (rest t)
rest_ends (Seq a b) t =
    ends_ends (rest (code a (code b t))) (rest (code b t)) (rest t) (rest_ends a (code b t)) (rest_ends b t)
rest_ends (Mark p) t = staying_ends t.takes_in t.blocks
rest_ends (Do ks) t = ([], led_rest t.takes_in ks t.blocks)
rest_ends (To ps) t = staying_ends t.takes_in t.blocks
rest_ends (Choose g a b) t =
    let off = code b (closed t) in
    let on = code a (skipped t off) in
    ends_ends on.blocks (rest on) (rest t) (staying_ends on.takes_in on.blocks)
    (ends_ends (rest on) off.blocks (rest t) (rest_ends a (skipped t off))
    (ends_ends off.blocks (rest off) (rest t) (staying_ends off.takes_in off.blocks)
    (ends_ends (rest off) t.blocks (rest t) (rest_ends b (closed t)) (staying_ends t.takes_in t.blocks))))
rest_ends (Loop h g a) t =
    let body = code a (turned h t) in
    ends_ends body.blocks (rest body) (rest t) (staying_ends body.takes_in body.blocks)
    (ends_ends (rest body) t.blocks (rest t) (rest_ends a (turned h t)) (staying_ends t.takes_in t.blocks))

pub code_ends : (s : Core) (t : Coded) → Ends (code s t).blocks (rest t)
code_ends s t =
    ends_ends (code s t).blocks (rest (code s t)) (rest t) (staying_ends (code s t).takes_in (code s t).blocks) (rest_ends s t)

-- ---- points

abbrev pub held : Bool → ℕ
held true = 1
held false = 0

-- no point lies in front of the blocks; none lies at a block that takes in commands
abbrev pub Fits : Coded → Type 0
Fits t = (p : Point) → t.from_end p + held t.takes_in ≤ length t.blocks

pub closed_fits : (t : Coded) → Fits t → Fits (closed t)
closed_fits t fits p = let lies = fits p in omega (arith, lies)

-- with one more block in front
pub front_fits : (t u : Coded) → Fits t → Ends u.blocks t.blocks → (p : Point) → t.from_end p + 1 ≤ suc (length u.blocks)
front_fits t u fits e p = let lies = fits p in let long = ends_long u.blocks t.blocks e in omega (arith, lies, long)

led_fits : (o : Bool) (ks : List Cmd) (bs : List Block) (n : ℕ) → n + held o ≤ length bs → n + 1 ≤ length (led o ks bs)
led_fits false ks bs n h = omega (arith, h)
led_fits true ks [] n h = omega (arith, h)
led_fits true ks (b ∷ bs) n h = omega (arith, h)

lies_fits : (b : Bool) (n k h : ℕ) → k + h ≤ n → (if b then n else k) + 0 ≤ n
lies_fits true n k h e = omega arith
lies_fits false n k h e = omega (arith, e)

pub code_fits : (s : Core) (t : Coded) → Fits t → Fits (code s t)
code_fits Nil t fits = fits
code_fits (Seq a b) t fits = code_fits a (code b t) (code_fits b t fits)
code_fits (Mark p) t fits = λ q. lies_fits (point_eq p q) (length t.blocks) (t.from_end q) (held t.takes_in) (fits q)
code_fits (Do ks) t fits = λ p. led_fits t.takes_in ks t.blocks (t.from_end p) (fits p)
code_fits (To ps) t fits = front_fits t t fits (ends_same t.blocks)
code_fits (Choose g a b) t fits =
    let off = code b (closed t) in
    let on = code a (skipped t off) in
    front_fits t on fits (ends_ends on.blocks off.blocks t.blocks (code_ends a (skipped t off)) (code_ends b (closed t)))
code_fits (Loop h g a) t fits = front_fits t (code a (turned h t)) fits (code_ends a (turned h t))
