-- A tree of an expression means an expression exactly where it has no fault of names.
use Rattle.std.proofs.Common.{◌≡◌, ℕ, Bool, List, [], ◌++◌, Option, Some, refl, sym, ap, ◌∙◌}
use Rattle.bg_base.specs.declared.pos.Pos.{Pos}
use Rattle.bg_text.specs.Trees as t
use Rattle.bg_ast.specs.Resolved as r
use Rattle.bg_names.specs.declared.error.FaultKind.TheVariants as kinds
use Rattle.bg_names.specs.declared.scope.Meaning.{Meaning}
use Rattle.bg_names.specs.declared.scope.Meaning.TheVariants as means
use Rattle.bg_names.specs.Faults.{Fault, fault, unless}
use Rattle.bg_names.specs.Spaces.{Scope, meaning, place, or_zero, use_faults}
use Rattle.bg_names.specs.Exprs.{read_faults, read_as, ex_faults, exs_faults, brackets_faults, links_faults, named_ex, named_exs, named_brackets, named_links}
use Rattle.bg_named.proofs.SpacesOnce.{empty_parts, passed}
use Rattle.bg_named.proofs.SpacesPlaces.{used}
use Rattle.bg_meant.specs.Means.{IsRead, Means, MeanAll, MeanBrackets, MeanLinks}
use Rattle.bg_meant.proofs.Places.{has_by_place}

pub both : (fs gs : List Fault) → fs ≡ [] → gs ≡ [] → fs ++ gs ≡ []
both fs gs e f = ap (λ (l : List Fault). l ++ gs) e ∙ f

pub no_use : (names : List (List ℕ)) (p : Pos) (x : List ℕ) (k : ℕ) → place names x ≡ Some k → use_faults names (record { pos = p; text = x }) ≡ []
no_use names p x k e = ap (λ (b : Bool). unless b (fault kinds.UnknownName p x)) (has_by_place names x k e)

read_fine : (p : Pos) (x : List ℕ) (m : Meaning) (e : r.Ex) → IsRead p m e → (read_faults p x m ≡ []) × (read_as p m ≡ e)
read_fine p x (means.Constant k) e h = (refl, sym h)
read_fine p x (means.Global k) e h = (refl, sym h)
read_fine p x (means.Local k) e h = (refl, sym h)
read_fine p x (means.Candidate k) e h = absurd h
read_fine p x means.Nothing e h = absurd h

is_read : (p : Pos) (x : List ℕ) (m : Meaning) → read_faults p x m ≡ [] → IsRead p m (read_as p m)
is_read p x (means.Constant k) h = refl
is_read p x (means.Global k) h = refl
is_read p x (means.Local k) h = refl
is_read p x (means.Candidate k) h = absurd (let bad : ⊥ = cc in bad)
is_read p x means.Nothing h = absurd (let bad : ⊥ = cc in bad)

module _ (g : Scope) where
  mutual
    fine : (a : t.Ex) (e : r.Ex) → Means g a e → (ex_faults g a ≡ []) × (named_ex g a ≡ e)
    fine (t.Number p z) e h = (refl, sym h)
    fine (t.Truth p b) e h = (refl, sym h)
    fine (t.Named p x) e h = read_fine p x (meaning g x) e h
    fine (t.Apply p f as_) e h =
        let w = all_fine as_ h.1.0 h.1.2 in (
          both (use_faults g.functions (record { pos = p; text = f })) (exs_faults g as_) (no_use g.functions p f h.0 h.1.1) w.0,
          ap (λ (o : Option ℕ). r.Apply p (or_zero o) (named_exs g as_)) h.1.1 ∙ (ap (r.Apply p h.0) w.1 ∙ sym h.1.3),
        )
    fine (t.Old p a) e h =
        let w = fine a h.1.0 h.1.1 in
        (both (unless g.has_old (fault kinds.BadOld p [])) (ex_faults g a) (ap (λ (b : Bool). unless b (fault kinds.BadOld p [])) h.0) w.0, ap (r.Old p) w.1 ∙ sym h.1.2)
    fine (t.Parens p a) e h = let w = fine a h.0 h.1 in (w.0, ap (r.Parens p) w.1 ∙ sym h.2)
    fine (t.Prefix signs a) e h = let w = fine a h.0 h.1 in (w.0, ap (r.Prefix signs) w.1 ∙ sym h.2)
    fine (t.Postfix a bs) e h =
        let w = fine a h.0 h.1.1 in
        let v = brackets_fine bs h.1.0 h.1.2 in
        (both (ex_faults g a) (brackets_faults g bs) w.0 v.0, ap (λ (x : r.Ex). r.Postfix x (named_brackets g bs)) w.1 ∙ (ap (r.Postfix h.0) v.1 ∙ sym h.1.3))
    fine (t.Chain a ls) e h =
        let w = fine a h.0 h.1.1 in
        let v = links_fine ls h.1.0 h.1.2 in
        (both (ex_faults g a) (links_faults g ls) w.0 v.0, ap (λ (x : r.Ex). r.Chain x (named_links g ls)) w.1 ∙ (ap (r.Chain h.0) v.1 ∙ sym h.1.3))

    all_fine : (as_ : t.Exs) (es : r.Exs) → MeanAll g as_ es → (exs_faults g as_ ≡ []) × (named_exs g as_ ≡ es)
    all_fine t.NoMore es h = (refl, sym h)
    all_fine (t.More a as_) es h =
        let w = fine a h.0 h.1.1 in
        let v = all_fine as_ h.1.0 h.1.2 in
        (both (ex_faults g a) (exs_faults g as_) w.0 v.0, ap (λ (x : r.Ex). r.More x (named_exs g as_)) w.1 ∙ (ap (r.More h.0) v.1 ∙ sym h.1.3))

    brackets_fine : (bs : t.Brackets) (cs : r.Brackets) → MeanBrackets g bs cs → (brackets_faults g bs ≡ []) × (named_brackets g bs ≡ cs)
    brackets_fine t.NoBracket cs h = (refl, sym h)
    brackets_fine (t.Select p as_ bs) cs h =
        let w = all_fine as_ h.0 h.1.1 in
        let v = brackets_fine bs h.1.0 h.1.2 in
        (both (exs_faults g as_) (brackets_faults g bs) w.0 v.0, ap (λ (x : r.Exs). r.Select p x (named_brackets g bs)) w.1 ∙ (ap (r.Select p h.0) v.1 ∙ sym h.1.3))
    brackets_fine (t.Update p as_ a bs) cs h =
        let w = all_fine as_ h.0 h.1.1.1 in
        let u = fine a h.1.0 h.1.1.2 in
        let v = brackets_fine bs h.1.1.0 h.1.1.3 in (
          both (exs_faults g as_ ++ ex_faults g a) (brackets_faults g bs) (both (exs_faults g as_) (ex_faults g a) w.0 u.0) v.0,
          ap (λ (x : r.Exs). r.Update p x (named_ex g a) (named_brackets g bs)) w.1 ∙ (ap (λ (x : r.Ex). r.Update p h.0 x (named_brackets g bs)) u.1 ∙ (ap (r.Update p h.0 h.1.0) v.1 ∙ sym h.1.1.4)),
        )

    links_fine : (ls : t.Links) (ms : r.Links) → MeanLinks g ls ms → (links_faults g ls ≡ []) × (named_links g ls ≡ ms)
    links_fine t.NoLink ms h = (refl, sym h)
    links_fine (t.Link p sign a ls) ms h =
        let w = fine a h.0 h.1.1 in
        let v = links_fine ls h.1.0 h.1.2 in
        (both (ex_faults g a) (links_faults g ls) w.0 v.0, ap (λ (x : r.Ex). r.Link p sign x (named_links g ls)) w.1 ∙ (ap (r.Link p sign h.0) v.1 ∙ sym h.1.3))

  mutual
    mean : (a : t.Ex) → ex_faults g a ≡ [] → Means g a (named_ex g a)
    mean (t.Number p z) h = refl
    mean (t.Truth p b) h = refl
    mean (t.Named p x) h = is_read p x (meaning g x) h
    mean (t.Apply p f as_) h =
        let w = empty_parts (use_faults g.functions (record { pos = p; text = f })) (exs_faults g as_) h in
        let at = used g.functions (record { pos = p; text = f }) w.0 in
        (at.0, (named_exs g as_, at.1, mean_all as_ w.1, ap (λ (o : Option ℕ). r.Apply p (or_zero o) (named_exs g as_)) at.1))
    mean (t.Old p a) h =
        let w = empty_parts (unless g.has_old (fault kinds.BadOld p [])) (ex_faults g a) h in
        (passed g.has_old (fault kinds.BadOld p []) w.0, (named_ex g a, mean a w.1, refl))
    mean (t.Parens p a) h = (named_ex g a, mean a h, refl)
    mean (t.Prefix signs a) h = (named_ex g a, mean a h, refl)
    mean (t.Postfix a bs) h =
        let w = empty_parts (ex_faults g a) (brackets_faults g bs) h in
        (named_ex g a, (named_brackets g bs, mean a w.0, mean_brackets bs w.1, refl))
    mean (t.Chain a ls) h =
        let w = empty_parts (ex_faults g a) (links_faults g ls) h in
        (named_ex g a, (named_links g ls, mean a w.0, mean_links ls w.1, refl))

    mean_all : (as_ : t.Exs) → exs_faults g as_ ≡ [] → MeanAll g as_ (named_exs g as_)
    mean_all t.NoMore h = refl
    mean_all (t.More a as_) h =
        let w = empty_parts (ex_faults g a) (exs_faults g as_) h in
        (named_ex g a, (named_exs g as_, mean a w.0, mean_all as_ w.1, refl))

    mean_brackets : (bs : t.Brackets) → brackets_faults g bs ≡ [] → MeanBrackets g bs (named_brackets g bs)
    mean_brackets t.NoBracket h = refl
    mean_brackets (t.Select p as_ bs) h =
        let w = empty_parts (exs_faults g as_) (brackets_faults g bs) h in
        (named_exs g as_, (named_brackets g bs, mean_all as_ w.0, mean_brackets bs w.1, refl))
    mean_brackets (t.Update p as_ a bs) h =
        let w = empty_parts (exs_faults g as_ ++ ex_faults g a) (brackets_faults g bs) h in
        let u = empty_parts (exs_faults g as_) (ex_faults g a) w.0 in
        (named_exs g as_, (named_ex g a, (named_brackets g bs, mean_all as_ u.0, mean a u.1, mean_brackets bs w.1, refl)))

    mean_links : (ls : t.Links) → links_faults g ls ≡ [] → MeanLinks g ls (named_links g ls)
    mean_links t.NoLink h = refl
    mean_links (t.Link p sign a ls) h =
        let w = empty_parts (ex_faults g a) (links_faults g ls) h in
        (named_ex g a, (named_links g ls, mean a w.0, mean_links ls w.1, refl))

pub means_fine : (g : Scope) (a : t.Ex) (e : r.Ex) → Means g a e → (ex_faults g a ≡ []) × (named_ex g a ≡ e)
means_fine g a e h = fine g a e h

pub faultless_means : (g : Scope) (a : t.Ex) → ex_faults g a ≡ [] → Means g a (named_ex g a)
faultless_means g a h = mean g a h

pub all_means_fine : (g : Scope) (as_ : t.Exs) (es : r.Exs) → MeanAll g as_ es → (exs_faults g as_ ≡ []) × (named_exs g as_ ≡ es)
all_means_fine g as_ es h = all_fine g as_ es h

pub faultless_all : (g : Scope) (as_ : t.Exs) → exs_faults g as_ ≡ [] → MeanAll g as_ (named_exs g as_)
faultless_all g as_ h = mean_all g as_ h
