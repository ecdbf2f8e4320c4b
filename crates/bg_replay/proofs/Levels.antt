-- Targets with brackets, from the first bracket to the last and back.
use Rattle.std.proofs.Common.{◌≡◌, ◌<◌, ◌≤◌, ◌+◌, ℕ, suc, List, [], ◌∷◌, ◌++◌, map, length, drop, drop-cons, add-one, get_or, refl, sym, ap, ◌∙◌, append_assoc}
use Rattle.bg_base.specs.declared.pos.Pos.{Pos}
use Rattle.bg_ast.specs.Syntax as s
use Rattle.bg_ast.specs.Resolved as r
use Rattle.bg_ast.specs.Meaning as m
use Rattle.bg_ast.specs.Views.{exs_in, bracket_of}
use Rattle.bg_ast.specs.declared.resolved.Indices.{Indices}
use Rattle.bg_scalar.specs.Worths.{Seen, WorthOf, Listed, selected, updated, worth, worths}
use Rattle.bg_scalar.specs.Lists.{listed}
use Rattle.bg_scalar.specs.Views.{found_in}
use Rattle.bg_replay.specs.Levels.{level_of, levels, put_back}
use Rattle.bg_replay.specs.declared.values.Level.{Level}

-- back through all levels is what is written
pub written_is : (x e : s.Ex) (bs : List (Pos × r.Exs)) (v : Seen) → put_back (levels (worth x v) bs v) (worth e v) ≡ worth (m.written x bs e) v
written_is x e [] v = refl
written_is x e (b ∷ bs) v =
    ap (updated (worth x v) (worths (m.exs_of b.1) v)) (written_is (s.Select x (m.exs_of b.1)) e bs v)

-- one more level
level_behind : (ls : List Level) (l : Level) → map level_of (ls ++ l ∷ []) ≡ map level_of ls ++ level_of l ∷ []
level_behind [] l = refl
level_behind (k ∷ ls) l = ap (λ (xs : List (WorthOf × Listed)). level_of k ∷ xs) (level_behind ls l)

pub level_step : (bs : List Indices) (i : ℕ) (b : Indices) (v : Seen) (made new : List Level) (l : Level) (a inner : WorthOf) (whole : List (WorthOf × Listed)) → i < length bs → b ≡ get_or bs i b → found_in l.map ≡ a → listed l.index ≡ worths (m.exs_of (exs_in b.indices.items)) v → inner ≡ selected (found_in l.map) (listed l.index) → new ≡ made ++ l ∷ [] → map level_of made ++ levels a (map bracket_of (drop i bs)) v ≡ whole → map level_of new ++ levels inner (map bracket_of (drop (i + 1) bs)) v ≡ whole
level_step bs i b v made new l a inner whole h at am li is n known =
    let q = worths (m.exs_of (exs_in b.indices.items)) v in
    let rest : WorthOf → List (WorthOf × Listed) = λ x. levels x (map bracket_of (drop (i + 1) bs)) v in
    let d : drop i bs ≡ b ∷ drop (i + 1) bs = rw (add-one, drop-cons bs i b h) (ap (λ x. x ∷ drop (suc i) bs) (sym at)) in
    let one : level_of l ∷ rest inner ≡ levels a (b_of ∷ map bracket_of (drop (i + 1) bs)) v = rw (is, li, am) refl in
    ap (λ ls. map level_of ls ++ rest inner) n
    ∙ (ap (λ (xs : List (WorthOf × Listed)). xs ++ rest inner) (level_behind made l)
    ∙ (append_assoc (map level_of made) (level_of l ∷ []) (rest inner)
    ∙ (ap (λ xs. map level_of made ++ xs) one
    ∙ (ap (λ ys. map level_of made ++ levels a (map bracket_of ys) v) (sym d) ∙ known))))
  where
    b_of : Pos × r.Exs
    b_of = bracket_of b

-- the last level first
pub back_one : (ls : List (WorthOf × Listed)) (l : WorthOf × Listed) (b : WorthOf) → put_back (ls ++ l ∷ []) b ≡ put_back ls (updated l.0 l.1 b)
back_one [] l b = refl
back_one (k ∷ ls) l b = ap (updated k.0 k.1) (back_one ls l b)

pub back_step : (ls : List Level) (l : Level) (a b whole : WorthOf) → b ≡ updated (found_in l.map) (listed l.index) a → put_back (map level_of (ls ++ l ∷ [])) a ≡ whole → put_back (map level_of ls) b ≡ whole
back_step ls l a b whole is known =
    ap (put_back (map level_of ls)) is
    ∙ (sym (ap (λ xs. put_back xs a) (level_behind ls l) ∙ back_one (map level_of ls) (level_of l) a) ∙ known)
