-- A place has one list of clauses, or none.
use Rattle.std.proofs.Common.{◌≡◌, ℕ, Bool, List, Option, Some, None, Result, Ok, Err, sym, ap, ◌∙◌, subst}
use Rattle.std.specs.Prelude.{slice_get}
use Rattle.bg_base.specs.declared.exact.OutOfRange.{OutOfRange}
use Rattle.bg_ast.specs.Syntax.{Proc, Impl, Prog}
use Rattle.bg_ast.specs.Execution.{Spot, Place}
use Rattle.bg_sense.specs.Variables.{procedure_of}
use Rattle.bg_formula.specs.Atoms.{AtomOf}
use Rattle.bg_formula.specs.Formulas.{Formula}
use Rattle.bg_formed.specs.Formed.{FormBlock}
use Rattle.bg_formed.specs.Used.{refused}
use Rattle.bg_clause.specs.Whole.{formula, clauses_by, clauses_of}
use Rattle.bg_slice.specs.Slices.{sliced}
use Rattle.bg_atoms.specs.Encoded.{blocks_over}
use Rattle.bg_faithful.specs.Encoded.{Encoding}
use Rattle.bg_numbered.specs.Lines.{Line}
use Rattle.bg_termed.specs.Lined.{lined_behind, lined_sorts}
use Rattle.bg_task.specs.Cuts.{IsOwn, IsCut, HasOwnClauses}
use Rattle.bg_task.specs.Certified.{HasOutside}

-- an operation leaves the range first in what is left where it does in the whole
abbrev pub AlikeLaw : Type 0
AlikeLaw = (target : Spot) (blocks : List FormBlock) → refused target (sliced target blocks) ≡ refused target blocks

abbrev made : ℕ → ℕ → List AtomOf → List FormBlock → List Bool → Encoding
made first terms rows blocks named =
    record { first = first; terms = terms; rows = rows; blocks = blocks; named = named }

same_encoding : (a b : Encoding) → a.first ≡ b.first → a.terms ≡ b.terms → a.rows ≡ b.rows → a.blocks ≡ b.blocks → a.named ≡ b.named → a ≡ b
same_encoding a b first terms rows blocks named =
    ap (λ x. made x a.terms a.rows a.blocks a.named) first
    ∙ (ap (λ x. made b.first x a.rows a.blocks a.named) terms
    ∙ (ap (λ x. made b.first b.terms x a.blocks a.named) rows
    ∙ (ap (λ x. made b.first b.terms b.rows x a.named) blocks
    ∙ ap (λ x. made b.first b.terms b.rows b.blocks x) named)))

own_is_one : (p : Prog) (k : ℕ) (m : Impl) (q : Proc) (es : List Line) (a b : Encoding) → IsOwn p k m q es a → IsOwn p k m q es b → a ≡ b
own_is_one p k m q es a b h g =
    let first : a.first ≡ b.first = h.encodes.first ∙ sym g.encodes.first in
    let rows : a.rows ≡ b.rows = h.rows ∙ sym g.rows in
    let blocks : a.blocks ≡ b.blocks =
    h.blocks
    ∙ (ap (λ n. blocks_over (lined_sorts p k m q es) n a.rows (lined_behind p k m q es)) first
    ∙ (ap (λ rs. blocks_over (lined_sorts p k m q es) b.first rs (lined_behind p k m q es)) rows ∙ sym g.blocks)) in
    same_encoding a b first (h.encodes.terms ∙ sym g.encodes.terms) rows blocks (h.named ∙ sym g.named)

cut_is_one : (c : ℕ) (t : Spot) (whole a b : Encoding) → IsCut c t whole a → IsCut c t whole b → a ≡ b
cut_is_one c t whole a b h g =
    same_encoding a b (h.first ∙ sym g.first) (h.terms ∙ sym g.terms) (h.rows ∙ sym g.rows) (h.blocks ∙ sym g.blocks) (h.named ∙ sym g.named)

one_there : {A : Type 0} (o : Option A) (x y : A) → o ≡ Some x → o ≡ Some y → x ≡ y
one_there (Some z) x y h k = let e : x ≡ y = cc in e
one_there None x y h k = absurd cc

-- the blocks of forms of the implementation of a place are the same, wherever they are told
whole_is_one : (p : Prog) (t : Place) (es : List Line) (m n : Impl) (q r : Proc) (a b : Encoding) → slice_get p.implementations t.implementation ≡ Some m → procedure_of p m.procedure ≡ Some q → IsOwn p t.implementation m q es a → slice_get p.implementations t.implementation ≡ Some n → procedure_of p n.procedure ≡ Some r → IsOwn p t.implementation n r es b → a ≡ b
whole_is_one p t es m n q r a b mt qt h nt rt g =
    let same : m ≡ n = one_there (slice_get p.implementations t.implementation) m n mt nt in
    let its : procedure_of p n.procedure ≡ Some q = subst (λ (i : Impl). procedure_of p i.procedure ≡ Some q) same qt in
    let also : q ≡ r = one_there (procedure_of p n.procedure) q r its rt in
    own_is_one p t.implementation n r es a b (subst (λ (i : Impl). IsOwn p t.implementation i r es a) same (subst (λ (j : Proc). IsOwn p t.implementation m j es a) also h)) g

abbrev told : Encoding → Spot → Result Formula OutOfRange
told e t = clauses_of e.first e.named e.terms e.rows t e.blocks

one_answer : (o : Result Formula OutOfRange) (f g : Formula) → o ≡ Ok f → o ≡ Ok g → f ≡ g
one_answer (Ok x) f g h k = let e : f ≡ g = cc in e
one_answer (Err x) f g h k = absurd cc

pub clauses_are_one : (p : Prog) (t : Place) (es : List Line) (f g : Formula) → HasOwnClauses p t es f → HasOwnClauses p t es g → f ≡ g
clauses_are_one p t es f g h k =
    let whole : h.whole ≡ k.whole = whole_is_one p t es h.clauses.implementation k.clauses.implementation h.clauses.procedure k.clauses.procedure h.whole k.whole h.clauses.is_there h.clauses.is_its h.is_own k.clauses.is_there k.clauses.is_its k.is_own in
    let cut : h.clauses.encoding ≡ k.clauses.encoding = cut_is_one p.candidates t.spot k.whole h.clauses.encoding k.clauses.encoding (subst (λ (w : Encoding). IsCut p.candidates t.spot w h.clauses.encoding) whole h.is_cut) k.is_cut in
    one_answer (told k.clauses.encoding t.spot) f g (subst (λ (e : Encoding). told e t.spot ≡ Ok f) cut h.clauses.clauses) k.clauses.clauses

no_answer : (e : Encoding) (t : Spot) (o : OutOfRange) (f : Formula) → refused t e.blocks ≡ Some o → told e t ≡ Ok f → ⊥
no_answer e t o f h k =
    let bad : Err o ≡ Ok f = sym (ap (λ (x : Option OutOfRange). clauses_by x (formula e.first e.named e.terms e.rows t e.blocks)) h) ∙ k in
    cc

pub clauses_or_none : AlikeLaw → (p : Prog) (t : Place) (es : List Line) (f : Formula) (o : OutOfRange) → HasOwnClauses p t es f → HasOutside p t es o → ⊥
clauses_or_none alike p t es f o h k =
    let whole : h.whole ≡ k.encoding = whole_is_one p t es h.clauses.implementation k.implementation h.clauses.procedure k.procedure h.whole k.encoding h.clauses.is_there h.clauses.is_its h.is_own k.is_there k.is_its k.is_own in
    let left : refused t.spot h.clauses.encoding.blocks ≡ Some o =
    ap (refused t.spot) h.is_cut.blocks ∙ (alike t.spot h.whole.blocks ∙ (ap (λ (w : Encoding). refused t.spot w.blocks) whole ∙ k.is_refused)) in
    no_answer h.clauses.encoding t.spot o f left h.clauses.clauses
