-- What is left of an implementation's blocks of forms for a place.
use Rattle.std.proofs.Common.{◌≡◌, ℕ, zero, suc, ◌+◌, Bool, true, false, List, [], ◌∷◌, map, length, Option, Some, None, refl, sym, ap, ◌∙◌, subst, append-nil, arith}
use Rattle.std.specs.Prelude.{not, slice_get, ◌==◌}
use Rattle.bg_ast.specs.Values.{Ty, IntTy, BoolTy, UserTy, MapTy, is_map}
use Rattle.bg_ast.specs.Resolved as r
use Rattle.bg_ast.specs.Meaning.{meaning_of, named_of, impl_of, proc_of}
use Rattle.bg_ast.specs.Execution.{Spot}
use Rattle.bg_sense.proofs.Bools.{and_left, and_right}
use Rattle.bg_places.specs.Views.{spot_of}
use Rattle.bg_formula.specs.declared.atom.Linear.{Linear}
use Rattle.bg_formula.specs.Atoms.{view_linear}
use Rattle.bg_formed.specs.declared.blocks.FormBlock as code_block
use Rattle.bg_formed.specs.Used.{refused}
use Rattle.bg_formed.specs.Views.{form_block_of}
use Rattle.bg_slice.specs.Slices.{sliced}
use Rattle.bg_slice.specs.Marks.{marked_rows}
use Rattle.bg_clause.specs.Whole.{clauses_of}
use Rattle.bg_atoms.specs.declared.product.Atoms.{Atoms}
use Rattle.bg_faithful.specs.Encoded.{Encoding}
use Rattle.bg_flatten.specs.Plain.{are_mapless}
use Rattle.bg_terms.specs.Terms.{Term}
use Rattle.bg_terms.specs.Typed.{types_with}
use Rattle.bg_terms.specs.Instances.{Instance, Congruent, AtIndex, Elsewhere, Apart}
use Rattle.bg_numbered.specs.Lines.{Line, Pick, Names, Says, pick_by, names_by, is_any, is_within, is_there, are_there, after_line}
use Rattle.bg_term_table.specs.declared.line.Line as code
use Rattle.bg_term_table.specs.Lines.{lines_of}
use Rattle.bg_termed.specs.Lined.{IsLinedEncoding, lined_behind, lined_sorts}
use Rattle.bg_task.specs.declared.cut.Cut.{Cut}
use Rattle.bg_task.specs.declared.prepared.Prepared.{Prepared}
use Rattle.bg_task.specs.Prepared.{IsPrepared, encoding_over}
use Rattle.bg_task.specs.Cuts.{IsOwn, IsCut}
use Rattle.bg_task.specs.Slices.{whole_in, encoding_by, encoding_in, IsSliceBy, IsSliceFor}

-- where they are its own blocks
pub slice_for : (p : r.Program) (n : ℕ) (w : Prepared) (es : List Line) (t : Spot) (a : Atoms) (c : Cut) → ((h : IsPrepared p n w) → IsOwn (meaning_of p) n (impl_of (named_of p.types) h.implementation) (proc_of (named_of p.types) h.procedure) es (encoding_over (meaning_of p).candidates a)) → whole_in c.whole ≡ a → spot_of c.spot ≡ t → IsSliceBy (meaning_of p).candidates a t c.rows.items c.named.items → IsSliceFor p n w es t c
slice_for p n w es t a c own same at is =
    let e : encoding_in c ≡ encoding_by a t c.rows.items c.named.items = ap (λ x. encoding_by x (spot_of c.spot) c.rows.items c.named.items) same ∙ ap (λ s. encoding_by a s c.rows.items c.named.items) at in
    record {
      whole = encoding_over (meaning_of p).candidates a;
      own = own;
      encoding =
          λ h.
          let m = impl_of (named_of p.types) h.implementation in
          let q = proc_of (named_of p.types) h.procedure in
          subst (λ (x : Encoding). IsLinedEncoding (meaning_of p) n m q es x) (sym e) (is.encodes (lined_sorts (meaning_of p) n m q es) (lined_behind (meaning_of p) n m q es) (own h).encodes);
      cut = subst (λ (x : Encoding). IsCut (meaning_of p).candidates t (encoding_over (meaning_of p).candidates a) x) (sym e) is.cut;
      refusals = ap (λ (x : Encoding). refused t x.blocks) e ∙ is.refusals;
      spot = at;
    }

-- the clauses of what is left for a place are those of the whole by marks
pub clauses_by_marks : (c : Cut) (t : Spot) (a : Atoms) (named kept : List Bool) (rows : List Linear) (blocks : List code_block.FormBlock) → spot_of c.spot ≡ t → a ≡ whole_in c.whole → named ≡ c.named.items → kept ≡ c.rows.items → rows ≡ a.rows.items → blocks ≡ a.blocks.items → clauses_of (encoding_in c).first (encoding_in c).named (encoding_in c).terms (encoding_in c).rows t (encoding_in c).blocks ≡ clauses_of a.first named a.terms (marked_rows kept (map view_linear rows)) t (sliced t (map form_block_of blocks))
clauses_by_marks c t a named kept rows blocks at ha hn hk hr hb =
    let er : (whole_in c.whole).rows.items ≡ rows = sym (hr ∙ ap (λ (x : Atoms). x.rows.items) ha) in
    let eb : (whole_in c.whole).blocks.items ≡ blocks = sym (hb ∙ ap (λ (x : Atoms). x.blocks.items) ha) in
    let w = whole_in c.whole in
    ap (λ s. clauses_of w.first c.named.items w.terms (encoding_in c).rows t (sliced s (map form_block_of w.blocks.items))) at
    ∙ (ap (λ l. clauses_of w.first c.named.items w.terms (encoding_in c).rows t (sliced t (map form_block_of l))) eb
    ∙ (ap (λ l. clauses_of w.first c.named.items w.terms (marked_rows c.rows.items (map view_linear l)) t (sliced t (map form_block_of blocks))) er
    ∙ (ap (λ l. clauses_of w.first c.named.items w.terms (marked_rows l (map view_linear rows)) t (sliced t (map form_block_of blocks))) (sym hk)
    ∙ (ap (λ l. clauses_of w.first l w.terms (marked_rows kept (map view_linear rows)) t (sliced t (map form_block_of blocks))) (sym hn)
    ∙ ap (λ (x : Atoms). clauses_of x.first named x.terms (marked_rows kept (map view_linear rows)) t (sliced t (map form_block_of blocks))) (sym ha)))))

-- ---- lines that name what is there

no_map : (t : Ty) → not (is_map t) ≡ true → is_map t ≡ false
no_map IntTy h = refl
no_map BoolTy h = refl
no_map (UserTy u) h = refl
no_map (MapTy ks t) h = absurd (let bad : ⊥ = cc in bad)

no_pick : (o : Option Ty) (m : ℕ) → is_any (pick_by o m None) ≡ false
no_pick None m = refl
no_pick (Some IntTy) m = refl
no_pick (Some BoolTy) m = refl
no_pick (Some (UserTy u)) m = refl
no_pick (Some (MapTy [] t)) m = refl
no_pick (Some (MapTy (k ∷ ks) t)) m = refl

no_names : (a b : Option Ty) (n m o : ℕ) → ((t : Ty) → a ≡ Some t → is_map t ≡ false) → is_any (names_by a b n m o) ≡ false
no_names None b n m o h = refl
no_names (Some IntTy) b n m o h = refl
no_names (Some BoolTy) b n m o h = refl
no_names (Some (UserTy u)) b n m o h = refl
no_names (Some (MapTy ks t)) b n m o h = absurd (let e = h (MapTy ks t) refl in let bad : ⊥ = cc in bad)

no_map_at : (tys : List Ty) (j : ℕ) (t : Ty) → are_mapless tys ≡ true → slice_get tys j ≡ Some t → is_map t ≡ false
no_map_at [] j t h e = absurd (let bad : ⊥ = cc in bad)
no_map_at (u ∷ tys) zero t h e = let same : u ≡ t = cc in subst (λ x. is_map x ≡ false) same (no_map u (and_left (not (is_map u)) (are_mapless tys) h))
no_map_at (u ∷ tys) (suc j) t h e = no_map_at tys j t (and_right (not (is_map u)) (are_mapless tys) h) e

none_within : (e : Instance) → is_within 0 e ≡ false
none_within (Congruent a b) = grind arith
none_within (AtIndex u s) = grind arith
none_within (Elsewhere u s r) = grind arith
none_within (Apart s r) = grind arith

-- without terms and maps there is none
pub no_line : (incs : List Ty) (l : Line) → are_mapless incs ≡ true → is_there incs [] l ≡ false
no_line incs (Pick m a) h = no_pick (slice_get (types_with incs []) m) m
no_line incs (Names m o) h =
    no_names (slice_get (types_with incs []) m) (slice_get (types_with incs []) o) (length incs + 0) m o (λ t e. no_map_at incs m t h (sym (ap (λ l. slice_get l m) (append-nil incs)) ∙ e))
no_line incs (Says e) h = none_within e

pub no_terms : (incs : List Ty) (ts : List Term) (ls : List Line) → are_mapless incs ≡ true → are_there incs ts ls ≡ true → (ls ≡ [] → ⊥) → ts ≡ [] → ⊥
no_terms incs ts [] h there some e = some refl
no_terms incs ts (l ∷ ls) h there some e =
    let one : is_there incs ts l ≡ true = and_left (is_there incs ts l) (are_there incs (after_line incs ts l) ls) there in
    let none : is_there incs ts l ≡ false = ap (λ us. is_there incs us l) e ∙ no_line incs l h in
    let bad : ⊥ = cc in
    bad

-- whether there is one
pub none_there : {A : Type 0} (ls : List A) (b : Bool) → b ≡ (length ls == 0) → b ≡ true → ls ≡ []
none_there [] b h e = refl
none_there (x ∷ ls) b h e = absurd (let bad : (suc (length ls) == 0) ≡ true = sym h ∙ e in let no : ⊥ = grind (arith, bad) in no)

pub some_there : (ls : List code.Line) (b : Bool) → b ≡ (length ls == 0) → b ≡ false → lines_of ls ≡ [] → ⊥
some_there [] b h e g = let bad : (0 == 0) ≡ false = sym h ∙ e in let no : ⊥ = grind (arith, bad) in no
some_there (x ∷ ls) b h e g = let bad : ⊥ = cc in bad
