use Rattle.std.proofs.Common.{refl}
use Rattle.std.proofs.lemmas.Result.{IfOk-weaker}
use Rattle.bg_terms.specs.Instances.{Congruent, AtIndex, Elsewhere, Apart}
use Rattle.bg_numbered.specs.Lines.{Pick, Names, Says}
use Rattle.bg_term_table.specs.declared.line.Line.TheVariants as line
use Rattle.bg_certtext.specs.declared.text.Stated.TheVariants as said
use Rattle.bg_accept.proofs.Missing.{no_pick, no_names, no_two, no_three, read_two, read_three}
use Rattle.bg_accept.proofs.lines.read.Goals as goal

pub returns-in-Pick : goal.returns-in-Pick
returns-in-Pick c =
    IfOk-weaker c.read_pick.result _ _
    (λ o is. read_two (λ m a. Pick m a) (λ m a. line.Pick m a) (λ m a. said.Pick m a) (λ m a. refl) (λ m a. refl) c.args.n c.in-Pick.m c.in-Pick.a (λ incs ts whole. no_pick incs ts c.args.n whole c.in-Pick.m c.in-Pick.a) c.args.stated.now o c.in-Pick.is is)
    c.read_pick.ensures

pub returns-in-Names : goal.returns-in-Names
returns-in-Names c =
    IfOk-weaker c.read_names.result _ _
    (λ o is. read_two (λ m a. Names m a) (λ m a. line.Names m a) (λ m a. said.Names m a) (λ m a. refl) (λ m a. refl) c.args.n c.in-Names.m c.in-Names.k (λ incs ts whole. no_names incs ts c.args.n whole c.in-Names.m c.in-Names.k) c.args.stated.now o c.in-Names.is is)
    c.read_names.ensures

pub returns-in-Congruent : goal.returns-in-Congruent
returns-in-Congruent c =
    IfOk-weaker c.read_congruent.result _ _
    (λ o is. read_two (λ a b. Says (Congruent a b)) (λ a b. line.Congruent a b) (λ a b. said.Congruent a b) (λ a b. refl) (λ a b. refl) c.args.n c.in-Congruent.a c.in-Congruent.b (λ incs ts whole. no_two incs ts c.args.n whole c.in-Congruent.a c.in-Congruent.b) c.args.stated.now o c.in-Congruent.is is)
    c.read_congruent.ensures

pub returns-in-AtIndex : goal.returns-in-AtIndex
returns-in-AtIndex c =
    IfOk-weaker c.read_at_index.result _ _
    (λ o is. read_two (λ u a. Says (AtIndex u a)) (λ u a. line.AtIndex u a) (λ u a. said.AtIndex u a) (λ u a. refl) (λ u a. refl) c.args.n c.in-AtIndex.u c.in-AtIndex.s (λ incs ts whole. no_two incs ts c.args.n whole c.in-AtIndex.u c.in-AtIndex.s) c.args.stated.now o c.in-AtIndex.is is)
    c.read_at_index.ensures

pub returns-in-Elsewhere : goal.returns-in-Elsewhere
returns-in-Elsewhere c =
    IfOk-weaker c.read_elsewhere.result _ _
    (λ o is. read_three (λ u a b. Says (Elsewhere u a b)) (λ u a b. line.Elsewhere u a b) (λ u a b. said.Elsewhere u a b) (λ u a b. refl) (λ u a b. refl) c.args.n c.in-Elsewhere.u c.in-Elsewhere.s c.in-Elsewhere.r (λ incs ts whole. no_three incs ts c.args.n whole c.in-Elsewhere.u c.in-Elsewhere.s c.in-Elsewhere.r) c.args.stated.now o c.in-Elsewhere.is is)
    c.read_elsewhere.ensures

pub returns-in-Apart : goal.returns-in-Apart
returns-in-Apart c =
    IfOk-weaker c.read_apart.result _ _
    (λ o is. read_two (λ a b. Says (Apart a b)) (λ a b. line.Apart a b) (λ a b. said.Apart a b) (λ a b. refl) (λ a b. refl) c.args.n c.in-Apart.s c.in-Apart.r (λ incs ts whole. no_two incs ts c.args.n whole c.in-Apart.s c.in-Apart.r) c.args.stated.now o c.in-Apart.is is)
    c.read_apart.ensures
