-- Blocks of forms with those of commands in front are those of the passive blocks behind the commands.
use Rattle.std.proofs.Common.{◌≡◌, ◌<◌, ℕ, true, List, [], ◌∷◌, ◌++◌, map, refl, sym, ap, ◌∙◌, subst}
use Rattle.std.proofs.lemmas.List.{append-nil, map-append}
use Rattle.bg_ast.specs.Syntax as s
use Rattle.bg_passive.specs.Passive.{PassiveCmd, PassiveBlock}
use Rattle.bg_formula.specs.declared.atom.Linear.{Linear}
use Rattle.bg_formula.specs.Atoms.{AtomOf, view_linear}
use Rattle.bg_formula.specs.Meaning.{AtomsAgree}
use Rattle.bg_formed.specs.Formed.{FormCmd}
use Rattle.bg_formed.specs.Views.{blocks_of}
use Rattle.bg_linear.specs.declared.scalar.Sort.{Sort}
use Rattle.bg_atoms.specs.Ranks.{truths}
use Rattle.bg_atoms.specs.Made.{rows_in}
use Rattle.bg_atoms.specs.Listed.{with_cmds, with_edges, with_blocks, with_ex, rows_of}
use Rattle.bg_atoms.specs.Encoded.{cmd_over, edge_over, blocks_over}
use Rattle.bg_atoms.specs.Sources.{expression_of}
use Rattle.bg_atoms.specs.Sorted.{blocks_sorted}
use Rattle.bg_atoms.specs.declared.product.Atoms.{Atoms}
use Rattle.bg_flat.specs.Blocks.{supposed, in_front}
use Rattle.bg_ahead.specs.Exact.{IsExact, blanks}
use Rattle.bg_ahead.specs.Rows.{fresh, goes}
use Rattle.bg_ahead.specs.Moved.{moved_blocks, first_cmds, behind_cmds}
use Rattle.bg_ahead.specs.Ahead.{IsAhead}
use Rattle.bg_ahead.proofs.There.{CmdsThere, BlocksThere}
use Rattle.bg_ahead.proofs.Sorts.{blocks_more}
use Rattle.bg_ahead.proofs.Over.{blocks_moved, cmds_on}
use Rattle.bg_ahead.proofs.Fresh.{blocks_behind}
use Rattle.bg_ahead.proofs.Places.{goes_stay, literal_goes}
use Rattle.bg_ahead.proofs.Named.{blocks_there, cmds_there}

-- each row of the code has its denial
pub rows_agree : (rows : List Linear) → AtomsAgree (map view_linear rows)
rows_agree [] = tt
rows_agree (a ∷ rows) = (a.denies, rows_agree rows)

cmds_append : (ss : List Sort) (ks ls : List PassiveCmd) (rows : List AtomOf) → with_cmds ss (ks ++ ls) rows ≡ with_cmds ss ls (with_cmds ss ks rows)
cmds_append ss [] ls rows = refl
cmds_append ss (k ∷ ks) ls rows = cmds_append ss ks ls (with_ex ss (expression_of k) rows)

-- what stands in front of some blocks stands in front of the first one
in_front_over : (ss : List Sort) (n : ℕ) (rows : List AtomOf) (xs : List s.Ex) (b : PassiveBlock) (bs : List PassiveBlock) → behind_cmds (map (cmd_over ss n rows) (supposed xs)) (blocks_over ss n rows (b ∷ bs)) ≡ blocks_over ss n rows (in_front xs (b ∷ bs))
in_front_over ss n rows xs b bs =
    ap (λ (ks : List FormCmd). record { cmds = ks; next = map (edge_over ss n rows) b.next } ∷ blocks_over ss n rows bs) (sym (map-append (cmd_over ss n rows) (supposed xs) b.cmds))

-- the rows in front with those that are fresh behind them are the rows of all
rows_ahead : (ss more : List Sort) (k : ℕ) (xs : List s.Ex) (b : PassiveBlock) (bs : List PassiveBlock) (front : List AtomOf) → AtomsAgree front → blocks_sorted ss k (b ∷ bs) ≡ true → front ≡ with_cmds (ss ++ more) (supposed xs) [] → front ++ fresh front (rows_of ss (b ∷ bs)) ≡ rows_of (ss ++ more) (in_front xs (b ∷ bs))
rows_ahead ss more k xs b bs front agree sorted is =
    let S = ss ++ more in
    sym (blocks_behind ss (b ∷ bs) front agree)
    ∙ sym (blocks_more ss more k (b ∷ bs) front sorted)
    ∙ ap (with_blocks S (b ∷ bs)) is
    ∙ ap (λ rows. with_blocks S bs (with_edges S b.next rows)) (sym (cmds_append S (supposed xs) b.cmds []))

pub exact_ahead : (ss more : List Sort) (k : ℕ) (xs : List s.Ex) (bs : List PassiveBlock) (front base made : Atoms) → blocks_sorted ss k bs ≡ true → blocks_sorted (ss ++ more) k (in_front xs bs) ≡ true → IsExact (ss ++ more) (in_front xs (blanks bs)) front → IsExact ss bs base → IsAhead front base made → IsExact (ss ++ more) (in_front xs bs) made
exact_ahead ss more k xs [] front base made sorted all before own ahead =
    record {
      first = ahead.first ∙ before.first;
      terms = ahead.terms ∙ before.terms;
      rows = ahead.rows ∙ ap (λ l. l ++ fresh l (rows_in base.rows)) before.rows ∙ ap (fresh []) own.rows;
      blocks = ahead.blocks ∙ ap (λ l. behind_cmds (first_cmds (blocks_of front.blocks)) (moved_blocks (goes base.first front.first (rows_in front.rows) (rows_in base.rows)) l)) own.blocks;
    }
exact_ahead ss more k xs (b ∷ bs) front base made sorted all before own ahead =
    let S = ss ++ more in
    let L = rows_in front.rows in
    let B = rows_in base.rows in
    let M = rows_in made.rows in
    let to = goes base.first front.first L B in
    let rows_front : L ≡ with_cmds S (supposed xs) [] = before.rows ∙ ap (λ ks. with_cmds S ks []) (append-nil (supposed xs)) in
    let rows = ahead.rows ∙ ap (λ l. L ++ fresh L l) own.rows ∙ rows_ahead ss more k xs b bs L (rows_agree front.rows.items) sorted rows_front in
    let said = subst (λ l. CmdsThere S l (supposed xs)) (sym rows_front) (cmds_there S (supposed xs)) in
    let firsts = ap first_cmds before.blocks ∙ ap (map (cmd_over S front.first L)) (append-nil (supposed xs)) ∙ sym (cmds_on S front.first L (fresh L B) (supposed xs) said) in
    let there = subst (λ l. BlocksThere ss l (b ∷ bs)) (sym own.rows) (blocks_there ss (b ∷ bs)) in
    let stay = λ (a : ℕ) (h : a < truths ss). goes_stay base.first front.first L B a (subst (λ n. a < n) (sym own.first) h) in
    let go = literal_goes base.first front.first L B (rows_agree front.rows.items) (rows_agree base.rows.items) in
    let moves = blocks_moved ss more base.first front.first B (L ++ fresh L B) to stay go k (b ∷ bs) sorted there in
    let over = λ (n : ℕ) (l : List AtomOf). blocks_over S n l (in_front xs (b ∷ bs)) in
    record {
      first = ahead.first ∙ before.first;
      terms = ahead.terms ∙ before.terms;
      rows = rows;
      blocks =
          ahead.blocks
          ∙ ap (λ ks. behind_cmds ks (moved_blocks to (blocks_of base.blocks))) firsts
          ∙ ap (λ l. behind_cmds (map (cmd_over S front.first (L ++ fresh L B)) (supposed xs)) (moved_blocks to l)) own.blocks
          ∙ ap (behind_cmds (map (cmd_over S front.first (L ++ fresh L B)) (supposed xs))) (sym moves)
          ∙ in_front_over S front.first (L ++ fresh L B) xs b bs
          ∙ ap (over front.first) (sym ahead.rows)
          ∙ ap (λ n. over n M) (sym ahead.first);
    }
