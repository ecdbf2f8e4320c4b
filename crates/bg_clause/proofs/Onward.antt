-- The forms of commands and of edges, from the last one back.
use Rattle.std.proofs.Common.{◌≡◌, ℕ, false, List, [], ◌∷◌, ◌++◌, map, refl, ap, ◌∙◌}
use Rattle.std.specs.Prelude.{if◌then◌else◌, Option}
use Rattle.bg_ast.specs.Execution.{Spot}
use Rattle.bg_passive.specs.Passive.{spot_eq}
use Rattle.bg_formed.specs.Formed.{FormCmd, Asks, Takes, FormEdge, FormBlock, said}
use Rattle.bg_formed.specs.Used.{Use, use_cmds, use_later, use_block, uses}
use Rattle.bg_formed.specs.declared.blocks.FormCmd as code
use Rattle.bg_formed.specs.declared.blocks.FormEdge as way
use Rattle.bg_formed.specs.declared.blocks.FormBlock as whole
use Rattle.bg_formed.specs.Views.{form_cmd_of, form_cmds_of, form_edge_of, form_block_of}
use Rattle.bg_forms.specs.Forms.{Form, Plain, both_of, any_of, denied}
use Rattle.bg_slice.specs.Slices.{slice_cmds, slice_edge, slice_edges, slice_block, sliced}
use Rattle.bg_slice.proofs.Onward.{use_append, cut_append}
use Rattle.bg_clause.specs.Failing.{is_there, is_not_there, fail_cmds, fail_edges, fail_block}
use Rattle.bg_clause.specs.Told.{nothing, told, with_entry, entry_told}
use Rattle.bg_clause.specs.Cutting.{Ahead, cut_cmds, fail_edge, cut_block, CutTold, cut_nothing, cut_one, cut_told}

cmds_append : (cs : List (Option ℕ)) (t : Spot) (ks ms : List FormCmd) (rest : Form) → fail_cmds cs t (ks ++ ms) rest ≡ fail_cmds cs t ks (fail_cmds cs t ms rest)
cmds_append cs t [] ms rest = refl
cmds_append cs t (Asks s b r ∷ ks) ms rest =
    ap (λ x. if spot_eq s t then any_of (both_of (is_there cs b) (denied (said r))) x else both_of (any_of (is_not_there cs b) (said r)) x) (cmds_append cs t ks ms rest)
cmds_append cs t (Takes b r ∷ ks) ms rest =
    ap (both_of (any_of (is_not_there cs b) (said r))) (cmds_append cs t ks ms rest)

pub map_last : {A B : Type 0} (f : A → B) (xs : List A) (x : A) → map f (xs ++ x ∷ []) ≡ map f xs ++ f x ∷ []
map_last f [] x = refl
map_last f (y ∷ xs) x = ap (λ l. f y ∷ l) (map_last f xs x)

ahead_append : (cs : List (Option ℕ)) (t : Spot) (ks : List FormCmd) (k : FormCmd) (a : Ahead) → cut_cmds cs t (ks ++ k ∷ []) a ≡ cut_cmds cs t ks (cut_cmds cs t (k ∷ []) a)
ahead_append cs t ks k a =
    ap (λ l. record { form = fail_cmds cs t l a.form; on = use_cmds t (ks ++ k ∷ []) a.on }) (cut_append t ks k a.on)
    ∙ (ap (λ f. record { form = f; on = use_cmds t (ks ++ k ∷ []) a.on }) (cmds_append cs t (slice_cmds t ks (use_cmds t (k ∷ []) a.on)) (slice_cmds t (k ∷ []) a.on) a.form)
    ∙ ap (λ u. record { form = fail_cmds cs t (slice_cmds t ks (use_cmds t (k ∷ []) a.on)) (fail_cmds cs t (slice_cmds t (k ∷ []) a.on) a.form); on = u }) (use_append t ks k a.on))

-- the last one of the commands is the innermost
pub ahead_last : (cs : List (Option ℕ)) (t : Spot) (ks : List code.FormCmd) (k : code.FormCmd) (a : Ahead) → cut_cmds cs t (form_cmds_of (ks ++ k ∷ [])) a ≡ cut_cmds cs t (form_cmds_of ks) (cut_cmds cs t (form_cmd_of k ∷ []) a)
ahead_last cs t ks k a =
    ap (λ l. cut_cmds cs t l a) (map_last form_cmd_of ks k) ∙ ahead_append cs t (form_cmds_of ks) (form_cmd_of k) a

-- edges in front of what other edges come to
abbrev pub edges_on : List (Option ℕ) → Spot → List Form → List FormEdge → Form → Form
edges_on cs t later [] rest = rest
edges_on cs t later (e ∷ es) rest = any_of (fail_edge cs t later e) (edges_on cs t later es rest)

pub edges_are : (cs : List (Option ℕ)) (t : Spot) (later : List Form) (es : List FormEdge) → edges_on cs t later es (Plain false) ≡ fail_edges cs t later es
edges_are cs t later [] = refl
edges_are cs t later (e ∷ es) = ap (any_of (fail_edge cs t later e)) (edges_are cs t later es)

edges_append : (cs : List (Option ℕ)) (t : Spot) (later : List Form) (us : List Use) (es : List FormEdge) (e : FormEdge) (rest : Form) → edges_on cs t later (slice_edges t us (es ++ e ∷ [])) rest ≡ edges_on cs t later (slice_edges t us es) (any_of (fail_edge cs t later (slice_edge t us e)) rest)
edges_append cs t later us [] e rest = refl
edges_append cs t later us (d ∷ es) e rest =
    ap (any_of (fail_edge cs t later (slice_edge t us d))) (edges_append cs t later us es e rest)

pub edges_last : (cs : List (Option ℕ)) (t : Spot) (later : List Form) (us : List Use) (es : List way.FormEdge) (e : way.FormEdge) (rest : Form) → edges_on cs t later (slice_edges t us (map form_edge_of (es ++ e ∷ []))) rest ≡ edges_on cs t later (slice_edges t us (map form_edge_of es)) (any_of (fail_edge cs t later (slice_edge t us (form_edge_of e))) rest)
edges_last cs t later us es e rest =
    ap (λ l. edges_on cs t later (slice_edges t us l) rest) (map_last form_edge_of es e)
    ∙ edges_append cs t later us (map form_edge_of es) (form_edge_of e) rest

pub ruleset cut_rules = (ahead_last, edges_last, edges_are)

told_append : (cs : List (Option ℕ)) (t : Spot) (s : CutTold) (bs : List FormBlock) (b : FormBlock) → cut_told cs t s (bs ++ b ∷ []) ≡ cut_told cs t (cut_told cs t s (b ∷ [])) bs
told_append cs t s [] b = refl
told_append cs t s (d ∷ bs) b = ap (λ x. cut_one cs t x d) (told_append cs t s bs b)

-- the last one of the blocks is told first
pub told_last : (cs : List (Option ℕ)) (t : Spot) (s : CutTold) (bs : List whole.FormBlock) (b : whole.FormBlock) → cut_told cs t s (map form_block_of (bs ++ b ∷ [])) ≡ cut_told cs t (cut_told cs t s (form_block_of b ∷ [])) (map form_block_of bs)
told_last cs t s bs b =
    ap (cut_told cs t s) (map_last form_block_of bs b)
    ∙ told_append cs t s (map form_block_of bs) (form_block_of b)

pub ruleset told_rules = (told_last)

-- what is told of blocks is told of what is left of them
pub told_are : (cs : List (Option ℕ)) (t : Spot) (a : ℕ) (bs : List FormBlock) → cut_told cs t (cut_nothing a) bs ≡ record { told = told cs t (nothing a) (sliced t bs); uses = uses t bs }
told_are cs t a [] = refl
told_are cs t a (b ∷ bs) = ap (λ x. cut_one cs t x b) (told_are cs t a bs)

-- what is told of the first block
pub entry_told_is : (cs : List (Option ℕ)) (t : Spot) (a : ℕ) (b : FormBlock) (bs : List FormBlock) (s : CutTold) (x : Ahead) → s ≡ cut_told cs t (cut_nothing a) bs → x ≡ cut_block cs t s.told.fails s.uses b → with_entry x.form s.told ≡ entry_told cs t a (sliced t (b ∷ bs))
entry_told_is cs t a b bs s x hs hx =
    ap (λ (y : Ahead). with_entry y.form s.told) hx
    ∙ ap (λ (z : CutTold). with_entry (fail_block cs t z.told.fails (slice_block t z.uses b)) z.told) (hs ∙ told_are cs t a bs)

pub entry_on_is : (cs : List (Option ℕ)) (t : Spot) (a : ℕ) (b : FormBlock) (bs : List FormBlock) (s : CutTold) (x : Ahead) → s ≡ cut_told cs t (cut_nothing a) bs → x ≡ cut_block cs t s.told.fails s.uses b → x.on ≡ use_later (uses t (b ∷ bs)) 0
entry_on_is cs t a b bs s x hs hx =
    ap (λ (y : Ahead). y.on) hx ∙ ap (λ (z : CutTold). use_block t z.uses b) (hs ∙ told_are cs t a bs)
