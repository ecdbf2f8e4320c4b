-- What lines say, one after the other.
use Rattle.std.proofs.Common.{◌≡◌, ℕ, ◌+◌, ◌<◌, List, [], ◌∷◌, ◌++◌, length, take, get_or, Option, None, refl, sym, ap, ◌∙◌, append_assoc}
use Rattle.bg_ast.specs.Syntax.{Ex}
use Rattle.bg_ast.specs.declared.resolved.Expr.{Expr}
use Rattle.bg_passive.specs.Passive.{Supposes}
use Rattle.bg_incarnate.specs.declared.blocks.PassiveCmd as code
use Rattle.bg_incarnate.specs.Views.{cmds_of}
use Rattle.bg_terms.specs.Terms.{Term}
use Rattle.bg_terms.specs.Instances.{Instance, instance_ex}
use Rattle.bg_flat.specs.Blocks.{supposed}
use Rattle.bg_flat.specs.Fronts.{stated}
use Rattle.bg_numbered.specs.Lines.{Line, said_by, instances_in}
use Rattle.bg_term_table.specs.declared.line.Line as kept
use Rattle.bg_term_table.specs.Lines.{line_of, lines_of}
use Rattle.bg_fronts.specs.Said.{supposed_by}
use Rattle.bg_fronts.proofs.Stating.{read_more, same_or}

-- the instances of one line more
instances_last : (ls : List Line) (l : Line) → instances_in (ls ++ l ∷ []) ≡ instances_in ls ++ said_by l
instances_last [] l = none (said_by l)
  where
    none : {A : Type 0} (xs : List A) → xs ++ [] ≡ xs
    none [] = refl
    none (x ∷ xs) = ap (λ ys. x ∷ ys) (none xs)
instances_last (k ∷ ls) l =
    ap (λ es. said_by k ++ es) (instances_last ls l) ∙ sym (append_assoc (said_by k) (instances_in ls) (said_by l))

instances_more : (ls : List kept.Line) (i : ℕ) (d : kept.Line) → i < length ls → instances_in (lines_of (take (i + 1) ls)) ≡ instances_in (lines_of (take i ls)) ++ said_by (line_of (get_or ls i d))
instances_more ls i d h =
    ap instances_in (read_more line_of ls i (get_or ls i d) h (same_or ls i d (get_or ls i d) h))
    ∙ instances_last (lines_of (take i ls)) (line_of (get_or ls i d))

-- what is supposed of two lists
supposed_both : (n : ℕ) (ts : List Term) (es fs : List Instance) → supposed (stated n ts (es ++ fs)) ≡ supposed (stated n ts es) ++ supposed (stated n ts fs)
supposed_both n ts [] fs = refl
supposed_both n ts (e ∷ es) fs = ap (λ ks. Supposes None (instance_ex n ts e) ∷ ks) (supposed_both n ts es fs)

pub saying_step : (n : ℕ) (ts : List Term) (ls : List kept.Line) (i : ℕ) (d : kept.Line) (made now : List code.PassiveCmd) (said : Option Expr) → i < length ls → cmds_of now ≡ cmds_of made ++ supposed_by said → supposed_by said ≡ supposed (stated n ts (said_by (line_of (get_or ls i d)))) → cmds_of made ≡ supposed (stated n ts (instances_in (lines_of (take i ls)))) → cmds_of now ≡ supposed (stated n ts (instances_in (lines_of (take (i + 1) ls))))
saying_step n ts ls i d made now said h push says before =
    push
    ∙ (ap (λ ks. ks ++ supposed_by said) before
    ∙ (ap (λ ks. supposed (stated n ts (instances_in (lines_of (take i ls)))) ++ ks) says
    ∙ (sym (supposed_both n ts (instances_in (lines_of (take i ls))) (said_by (line_of (get_or ls i d))))
    ∙ ap (λ es. supposed (stated n ts es)) (sym (instances_more ls i d h)))))
