-- What counts for a target, from the last command, way or block back.
use Rattle.std.proofs.Common.{◌≡◌, ℕ, Bool, true, false, List, [], ◌∷◌, ◌++◌, map, Option, Some, None, refl, ap, sym, ◌∙◌}
use Rattle.std.specs.Prelude.{if◌then◌else◌, ◌||◌}
use Rattle.bg_base.specs.declared.exact.OutOfRange.{OutOfRange}
use Rattle.bg_ast.specs.Execution.{Spot}
use Rattle.bg_passive.specs.Passive.{spot_eq}
use Rattle.bg_formed.specs.declared.blocks.FormCmd as code
use Rattle.bg_formed.specs.declared.blocks.FormEdge as way
use Rattle.bg_formed.specs.declared.blocks.FormBlock as whole
use Rattle.bg_formed.specs.Formed.{FormCmd, Asks, Takes, FormEdge, FormBlock}
use Rattle.bg_formed.specs.Used.{Use, unused, refusal_of, first_of, in_front, use_cmds, use_either, use_later, use_edges, use_block, uses}
use Rattle.bg_formed.specs.Views.{form_cmd_of, form_cmds_of, form_edge_of, form_block_of}

pub map_last : {A B : Type 0} (f : A → B) (xs : List A) (x : A) → map f (xs ++ x ∷ []) ≡ map f xs ++ f x ∷ []
map_last f [] x = refl
map_last f (y ∷ xs) x = ap (λ l. f y ∷ l) (map_last f xs x)

cmds_append : (t : Spot) (ks : List FormCmd) (k : FormCmd) (u : Use) → use_cmds t (ks ++ k ∷ []) u ≡ use_cmds t ks (use_cmds t (k ∷ []) u)
cmds_append t [] k u = refl
cmds_append t (Asks s b r ∷ ks) k u =
    ap (λ v. if spot_eq s t then record { reached = true; refusal = first_of (refusal_of r) v.refusal } else in_front r v) (cmds_append t ks k u)
cmds_append t (Takes b r ∷ ks) k u = ap (in_front r) (cmds_append t ks k u)

pub cmds_last : (t : Spot) (ks : List code.FormCmd) (k : code.FormCmd) (u : Use) → use_cmds t (form_cmds_of (ks ++ k ∷ [])) u ≡ use_cmds t (form_cmds_of ks) (use_cmds t (form_cmd_of k ∷ []) u)
cmds_last t ks k u =
    ap (λ l. use_cmds t l u) (map_last form_cmd_of ks k) ∙ cmds_append t (form_cmds_of ks) (form_cmd_of k) u

-- ways in front of what other ways come to
abbrev pub edges_on : Spot → List Use → List FormEdge → Use → Use
edges_on t later [] u = u
edges_on t later (e ∷ es) u = use_either (use_cmds t e.cmds (use_later later e.to)) (edges_on t later es u)

pub edges_are : (t : Spot) (later : List Use) (es : List FormEdge) → edges_on t later es unused ≡ use_edges t later es
edges_are t later [] = refl
edges_are t later (e ∷ es) = ap (use_either (use_cmds t e.cmds (use_later later e.to))) (edges_are t later es)

edges_append : (t : Spot) (later : List Use) (es : List FormEdge) (e : FormEdge) (u : Use) → edges_on t later (es ++ e ∷ []) u ≡ edges_on t later es (use_either (use_cmds t e.cmds (use_later later e.to)) u)
edges_append t later [] e u = refl
edges_append t later (d ∷ es) e u =
    ap (use_either (use_cmds t d.cmds (use_later later d.to))) (edges_append t later es e u)

pub edges_last : (t : Spot) (later : List Use) (es : List way.FormEdge) (e : way.FormEdge) (u : Use) → edges_on t later (map form_edge_of (es ++ e ∷ [])) u ≡ edges_on t later (map form_edge_of es) (use_either (use_cmds t (form_cmds_of e.cmds.items) (use_later later e.to)) u)
edges_last t later es e u =
    ap (λ l. edges_on t later l u) (map_last form_edge_of es e) ∙ edges_append t later (map form_edge_of es) (form_edge_of e) u

pub ruleset use_rules = (cmds_last, edges_last, edges_are)

-- blocks in front of others
abbrev pub uses_on : Spot → List FormBlock → List Use → List Use
uses_on t [] later = later
uses_on t (b ∷ bs) later = let us = uses_on t bs later in use_block t us b ∷ us

pub uses_are : (t : Spot) (bs : List FormBlock) → uses_on t bs [] ≡ uses t bs
uses_are t [] = refl
uses_are t (b ∷ bs) = ap (λ us. use_block t us b ∷ us) (uses_are t bs)

uses_append : (t : Spot) (bs : List FormBlock) (b : FormBlock) (later : List Use) → uses_on t (bs ++ b ∷ []) later ≡ uses_on t bs (use_block t later b ∷ later)
uses_append t [] b later = refl
uses_append t (d ∷ bs) b later = ap (λ us. use_block t us d ∷ us) (uses_append t bs b later)

pub uses_last : (t : Spot) (bs : List whole.FormBlock) (b : whole.FormBlock) (later : List Use) → uses_on t (map form_block_of (bs ++ b ∷ [])) later ≡ uses_on t (map form_block_of bs) (use_block t later (form_block_of b) ∷ later)
uses_last t bs b later =
    ap (λ l. uses_on t l later) (map_last form_block_of bs b) ∙ uses_append t (map form_block_of bs) (form_block_of b) later

pub ruleset uses_rules = (uses_last, uses_are)
