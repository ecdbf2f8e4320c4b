-- Blocks behind more commands, one by one.
use Rattle.std.proofs.Common.{◌≡◌, ◌<◌, ◌+◌, ℕ, List, [], ◌∷◌, ◌++◌, length, map, drop, get_or, refl, sym, ap, ◌∙◌, append_assoc}
use Rattle.std.proofs.lemmas.List.{drop_more, map-append}
use Rattle.bg_formula.specs.declared.atom.Literal.{Literal}
use Rattle.bg_formed.specs.declared.blocks.FormBlock as whole
use Rattle.bg_formed.specs.Formed.{FormCmd, FormBlock}
use Rattle.bg_formed.specs.Views.{form_block_of}
use Rattle.bg_ahead.specs.Moved.{moved_block, moved_blocks, behind_cmds}

behind_none : (bs : List FormBlock) → bs ≡ behind_cmds [] bs
behind_none [] = refl
behind_none (b ∷ bs) = refl

-- a block in front of others
behind_more : (ks : List FormCmd) (b x : FormBlock) (bs : List FormBlock) → x ∷ [] ≡ behind_cmds ks (b ∷ []) → x ∷ behind_cmds [] bs ≡ behind_cmds ks (b ∷ bs)
behind_more ks b x bs h =
    ap (λ l. l ++ behind_cmds [] bs) h ∙ ap (λ l. record { cmds = ks ++ b.cmds; next = b.next } ∷ l) (sym (behind_none bs))

-- one more block
pub one_behind : (to : List Literal) (ks none : List FormCmd) (blocks : List whole.FormBlock) (i : ℕ) (b x : whole.FormBlock) (made new : List whole.FormBlock) (all : List FormBlock) → i < length blocks → b ≡ get_or blocks i b → none ≡ [] → new ≡ made ++ x ∷ [] → form_block_of x ∷ [] ≡ behind_cmds ks (moved_block to (form_block_of b) ∷ []) → map form_block_of made ++ behind_cmds ks (moved_blocks to (map form_block_of (drop i blocks))) ≡ all → map form_block_of new ++ behind_cmds none (moved_blocks to (map form_block_of (drop (i + 1) blocks))) ≡ all
one_behind to ks none blocks i b x made new all lt is empty push block h =
    let rest = moved_blocks to (map form_block_of (drop (i + 1) blocks)) in
    let split = drop_more blocks i b lt ∙ ap (λ z. z ∷ drop (i + 1) blocks) (sym is) in
    ap (λ l. map form_block_of l ++ behind_cmds none rest) push
    ∙ ap (λ l. l ++ behind_cmds none rest) (map-append form_block_of made (x ∷ []))
    ∙ append_assoc (map form_block_of made) (form_block_of x ∷ []) (behind_cmds none rest)
    ∙ ap (λ k. map form_block_of made ++ form_block_of x ∷ behind_cmds k rest) empty
    ∙ ap (λ l. map form_block_of made ++ l) (behind_more ks (moved_block to (form_block_of b)) (form_block_of x) rest block)
    ∙ ap (λ l. map form_block_of made ++ behind_cmds ks (moved_blocks to (map form_block_of l))) (sym split)
    ∙ h
