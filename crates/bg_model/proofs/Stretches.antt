-- Blocks of forms behind what stands in front, as they are walked.
use Rattle.std.proofs.Common.{◌≡◌, ◌<◌, ◌≤◌, ◌+◌, ℕ, suc, List, [], ◌∷◌, ◌++◌, map, length, drop, drop-cons, add-one, get_or, refl, sym, ap, ◌∙◌, arith, append-nil}
use Rattle.std.proofs.lemmas.List.{drop-map, drop_all}
use Rattle.bg_formed.specs.Formed.{FormCmd, FormEdge, FormBlock}
use Rattle.bg_formed.specs.Views.{form_cmd_of, form_cmds_of, form_edge_of, form_block_of}
use Rattle.bg_formed.specs.declared.blocks.FormCmd as code
use Rattle.bg_formed.specs.declared.blocks.FormEdge as way
use Rattle.bg_formed.specs.declared.blocks.FormBlock as whole
use Rattle.bg_model.specs.Behind.{behind_front, stretch_of}
use Rattle.bg_model.specs.declared.stretch.Stretch.{Stretch}

abbrev block : List FormCmd → List FormEdge → FormBlock
block ks es = record { cmds = ks; next = es }

-- a block without its first commands
pub without : (n : ℕ) (b : whole.FormBlock) (ks : List code.FormCmd) (es : List way.FormEdge) → ks ≡ drop n b.cmds.items → es ≡ b.next.items → block (form_cmds_of ks) (map form_edge_of es) ≡ block (drop n (form_block_of b).cmds) (form_block_of b).next
without n b ks es h k =
    ap (λ l. block l (map form_edge_of es)) (ap form_cmds_of h ∙ sym (drop-map form_cmd_of n b.cmds.items))
    ∙ ap (λ l. block (drop n (form_cmds_of b.cmds.items)) (map form_edge_of l)) k

-- there is no block
pub none_behind : (n : ℕ) (bs : List whole.FormBlock) → length bs ≡ 0 → [] ≡ behind_front n (map form_block_of bs)
none_behind n [] h = refl
none_behind n (b ∷ bs) h = absurd (omega (arith, h))

-- the first block
pub first_behind : (n : ℕ) (all : List whole.FormBlock) (b : whole.FormBlock) (bs : List whole.FormBlock) (made : List Stretch) (s : Stretch) → all ≡ b ∷ bs → made ≡ s ∷ [] → stretch_of s ≡ block (drop n (form_block_of b).cmds) (form_block_of b).next → map stretch_of made ++ map form_block_of bs ≡ behind_front n (map form_block_of all)
first_behind n all b bs made s e m h =
    ap (λ l. map stretch_of l ++ map form_block_of bs) m
    ∙ (ap (λ x. x ∷ map form_block_of bs) h ∙ ap (λ l. behind_front n (map form_block_of l)) (sym e))

map_last : (made : List Stretch) (s : Stretch) (rest : List FormBlock) → map stretch_of (made ++ s ∷ []) ++ rest ≡ map stretch_of made ++ (stretch_of s ∷ rest)
map_last [] s rest = refl
map_last (x ∷ made) s rest = ap (λ l. stretch_of x ∷ l) (map_last made s rest)

-- one more block
pub next_behind : (bs : List whole.FormBlock) (i : ℕ) (b : whole.FormBlock) (made new : List Stretch) (s : Stretch) (all : List FormBlock) → i < length bs → b ≡ get_or bs i b → new ≡ made ++ s ∷ [] → stretch_of s ≡ block (drop 0 (form_block_of b).cmds) (form_block_of b).next → map stretch_of made ++ map form_block_of (drop i bs) ≡ all → map stretch_of new ++ map form_block_of (drop (i + 1) bs) ≡ all
next_behind bs i b made new s all l at m h known =
    let rest = map form_block_of (drop (i + 1) bs) in
    let one : drop i bs ≡ b ∷ drop (i + 1) bs = rw (add-one, drop-cons bs i b l) (ap (λ x. x ∷ drop (suc i) bs) (sym at)) in
    ap (λ l. map stretch_of l ++ rest) m
    ∙ (map_last made s rest
    ∙ (ap (λ x. map stretch_of made ++ (x ∷ rest)) h
    ∙ (ap (λ l. map stretch_of made ++ map form_block_of l) (sym one) ∙ known)))

-- all blocks
pub all_behind : (bs : List whole.FormBlock) (i : ℕ) (made : List Stretch) (all : List FormBlock) → length bs ≤ i → map stretch_of made ++ map form_block_of (drop i bs) ≡ all → map stretch_of made ≡ all
all_behind bs i made all l known =
    sym (append-nil (map stretch_of made))
    ∙ (ap (λ l. map stretch_of made ++ map form_block_of l) (sym (drop_all i bs l)) ∙ known)
