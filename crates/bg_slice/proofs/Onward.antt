-- What is left of commands, from the last one back.
use Rattle.std.proofs.Common.{◌≡◌, true, List, [], ◌∷◌, ◌++◌, refl, ap, sym, ◌∙◌, append_assoc}
use Rattle.std.specs.Prelude.{reverse, ◌||◌, if◌then◌else◌}
use Rattle.std.proofs.lemmas.List.{reverse-append, map-append}
use Rattle.bg_ast.specs.Execution.{Spot}
use Rattle.bg_passive.specs.Passive.{spot_eq}
use Rattle.bg_formed.specs.declared.blocks.FormCmd as code
use Rattle.bg_formed.specs.Formed.{FormCmd, Asks, Takes}
use Rattle.bg_formed.specs.Used.{Use, refusal_of, first_of, in_front, use_cmds}
use Rattle.bg_formed.specs.Views.{form_cmd_of, form_cmds_of}
use Rattle.bg_slice.specs.Slices.{ask_if, take_if, slice_cmds}

pub use_append : (t : Spot) (ks : List FormCmd) (k : FormCmd) (u : Use) → use_cmds t (ks ++ k ∷ []) u ≡ use_cmds t ks (use_cmds t (k ∷ []) u)
use_append t [] k u = refl
use_append t (Asks s b r ∷ ks) k u =
    ap (λ v. if spot_eq s t then record { reached = true; refusal = first_of (refusal_of r) v.refusal } else in_front r v) (use_append t ks k u)
use_append t (Takes b r ∷ ks) k u = ap (in_front r) (use_append t ks k u)

pub cut_append : (t : Spot) (ks : List FormCmd) (k : FormCmd) (u : Use) → slice_cmds t (ks ++ k ∷ []) u ≡ slice_cmds t ks (use_cmds t (k ∷ []) u) ++ slice_cmds t (k ∷ []) u
cut_append t [] k u = refl
cut_append t (Asks s b r ∷ ks) k u =
    ap (λ v. ask_if (spot_eq s t || v.reached) s b r ∷ slice_cmds t (ks ++ k ∷ []) u) (use_append t ks k u)
    ∙ ap (λ l. ask_if (spot_eq s t || (use_cmds t ks (use_cmds t (k ∷ []) u)).reached) s b r ∷ l) (cut_append t ks k u)
cut_append t (Takes b r ∷ ks) k u =
    ap (λ v. take_if v.reached b r ∷ slice_cmds t (ks ++ k ∷ []) u) (use_append t ks k u)
    ∙ ap (λ l. take_if (use_cmds t ks (use_cmds t (k ∷ []) u)).reached b r ∷ l) (cut_append t ks k u)

-- one more command, where those behind it stand last first
pub cut_last : (t : Spot) (ks : List code.FormCmd) (k : code.FormCmd) (u : Use) (made : List code.FormCmd) (x : code.FormCmd) → form_cmd_of x ∷ [] ≡ slice_cmds t (form_cmd_of k ∷ []) u → slice_cmds t (form_cmds_of ks) (use_cmds t (form_cmd_of k ∷ []) u) ++ form_cmds_of (reverse (made ++ x ∷ [])) ≡ slice_cmds t (form_cmds_of (ks ++ k ∷ [])) u ++ form_cmds_of (reverse made)
cut_last t ks k u made x e =
    ap (λ l. front ++ form_cmds_of l) (reverse-append made (x ∷ []))
    ∙ (ap (λ l. front ++ (l ++ form_cmds_of (reverse made))) e
    ∙ (sym (append_assoc front (slice_cmds t (form_cmd_of k ∷ []) u) (form_cmds_of (reverse made)))
    ∙ ap (λ l. l ++ form_cmds_of (reverse made)) (sym (ap (λ l. slice_cmds t l u) (map-append form_cmd_of ks (k ∷ [])) ∙ cut_append t (form_cmds_of ks) (form_cmd_of k) u))))
  where
    front : List FormCmd
    front = slice_cmds t (form_cmds_of ks) (use_cmds t (form_cmd_of k ∷ []) u)

pub ruleset cut_rules = (cut_last)
