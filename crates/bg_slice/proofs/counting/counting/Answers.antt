use Rattle.std.proofs.Common.{rules, ◌≡◌, ◌++◌, [], ◌∷◌, List, length, sym, ap, ◌∙◌, subst}
use Rattle.std.proofs.lemmas.List.{map-append}
use Rattle.bg_places.specs.Views.{spot_of}
use Rattle.bg_formed.specs.Formed.{FormCmd}
use Rattle.bg_formed.specs.Seen.{use_of}
use Rattle.bg_formed.specs.Views.{form_cmd_of, form_cmds_of}
use Rattle.bg_slice.specs.Counting.{IsFront}
use Rattle.bg_slice.proofs.Fronts.{IsLeft, begun, goes_on, found, found_none, found_all, empty}
use Rattle.bg_slice.proofs.counting.counting.Goals as goal

pub returns-then-u : goal.returns-then-u
returns-then-u c = found_all (spot_of c.args.target) (form_cmds_of c.args.cmds.now) (use_of c.args.u) c.if-u.true

pub loop-last-init : goal.loop-last-init
loop-last-init c = begun (spot_of c.args.target) (form_cmds_of c.args.cmds.now) (use_of c.args.u)

pub returns-then-checks : goal.returns-then-checks
returns-then-checks c =
    let t = spot_of c.args.target in
    let ks = form_cmds_of c.args.cmds.now in
    let u = use_of c.args.u in
    let before = c.in-Some.before.now in
    let last = c.in-Some.last.now in
    let cut : c.loop-last.left.now ≡ before ++ last ∷ [] = search rules in
    let same : form_cmds_of c.loop-last.left.now ≡ form_cmds_of before ++ form_cmd_of last ∷ [] = ap form_cmds_of cut ∙ map-append form_cmd_of before (last ∷ []) in
    subst (λ (l : List FormCmd). IsFront t ks u l) (sym same)
    (found t ks u (form_cmds_of before) (form_cmd_of last) (sym c.checks.ensures ∙ c.if-checks.true) (subst (λ (l : List FormCmd). IsLeft t ks u l) same c.loop-last.invariant))

pub loop-last-preserved : goal.loop-last-preserved
loop-last-preserved c =
    let t = spot_of c.args.target in
    let ks = form_cmds_of c.args.cmds.now in
    let u = use_of c.args.u in
    let before = c.in-Some.before.now in
    let last = c.in-Some.last.now in
    let cut : c.loop-last.left.now ≡ before ++ last ∷ [] = search rules in
    let same : form_cmds_of c.loop-last.left.now ≡ form_cmds_of before ++ form_cmd_of last ∷ [] = ap form_cmds_of cut ∙ map-append form_cmd_of before (last ∷ []) in
    goes_on t ks u (form_cmds_of before) (form_cmd_of last) c.if-u.false (sym c.checks.ensures ∙ c.if-checks.false) (subst (λ (l : List FormCmd). IsLeft t ks u l) same c.loop-last.invariant)

pub returns : goal.returns
returns c =
    let t = spot_of c.args.target in
    let ks = form_cmds_of c.args.cmds.now in
    let u = use_of c.args.u in
    let count : length c.loop-last.left.now ≡ 0 = search rules in
    let none : c.loop-last.left.now ≡ [] = empty c.loop-last.left.now count in
    let same : form_cmds_of c.loop-last.left.now ≡ [] = ap form_cmds_of none in
    subst (λ (l : List FormCmd). IsFront t ks u l) (sym same) (found_none t ks u (subst (λ (l : List FormCmd). IsLeft t ks u l) same c.loop-last.invariant))
