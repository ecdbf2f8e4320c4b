-- Blocks of forms behind lines, made of those behind no line.
use Rattle.std.proofs.Common.{◌≡◌, ℕ, true, List, [], ◌∷◌, ◌++◌, map, refl, sym, ap, ◌∙◌, subst}
use Rattle.std.proofs.lemmas.List.{append-nil, map-append, append_assoc}
use Rattle.bg_ast.specs.Values.{Ty}
use Rattle.bg_ast.specs.Syntax as s
use Rattle.bg_ast.specs.Resolved as r
use Rattle.bg_ast.specs.Meaning.{meaning_of}
use Rattle.bg_sense.specs.Typed.{IsTyped}
use Rattle.bg_fits.specs.Valued.{is_over_values}
use Rattle.bg_kinds.specs.Views.{ref_in}
use Rattle.bg_passive.specs.Passive.{PassiveCmd, Claims, Supposes, PassiveBlock}
use Rattle.bg_incarnate.specs.Views.{passive_block_of}
use Rattle.bg_formed.specs.Formed.{fits_candidate}
use Rattle.bg_formed.specs.Views.{blocks_of}
use Rattle.bg_formed.proofs.Below.{and_left, and_right, and_both}
use Rattle.bg_linear.specs.declared.scalar.Sort.{Sort}
use Rattle.bg_linear.specs.Sorts.{kind_ex, is_truth}
use Rattle.bg_sorts.specs.Sorts.{sort_of_type}
use Rattle.bg_atoms.specs.Made.{rows_in}
use Rattle.bg_atoms.specs.Listed.{rows_of}
use Rattle.bg_atoms.specs.Encoded.{blocks_over}
use Rattle.bg_atoms.specs.Sorted.{cmds_sorted, blocks_sorted}
use Rattle.bg_atoms.specs.declared.product.Atoms.{Atoms}
use Rattle.bg_faithful.specs.Encoded.{Encodes}
use Rattle.bg_terms.specs.Alike.{scalar_ty}
use Rattle.bg_terms.specs.Terms.{Term}
use Rattle.bg_terms.specs.Typed.{type_of}
use Rattle.bg_numbered.specs.Lines.{Line, instances_in}
use Rattle.bg_numbered.proofs.Lines.{lines_grow}
use Rattle.bg_flat.specs.Blocks.{supposed, in_front}
use Rattle.bg_flat.specs.Fronts.{stated}
use Rattle.bg_flat_clauses.specs.Sorts.{flat_sorts}
use Rattle.bg_flatten.specs.Plain.{PlainBlocks}
use Rattle.bg_block_types.specs.Typed.{incarnations_in}
use Rattle.bg_termed.specs.Termed.{count_in, terms_in, flats_in}
use Rattle.bg_termed.specs.Lined.{lined_behind, lined_sorts, lined_terms}
use Rattle.bg_ahead.specs.Exact.{IsExact, blanks}
use Rattle.bg_ahead.specs.Ahead.{IsAhead}
use Rattle.bg_task.specs.declared.prepared.Prepared.{Prepared}
use Rattle.bg_task.specs.Prepared.{IsBare, IsPrepared, encoding_over}
use Rattle.bg_task.specs.Cuts.{IsOwn}
use Rattle.bg_task.proofs.LawTypes.{SortLaw}
use Rattle.bg_task.proofs.Prepares.{impl, proc, impl_at, proc_at, sorted_own, none_in_front}

-- ---- what the laws of blocks with more in front say

abbrev pub ExactLaw : Type 0
ExactLaw =
    (sorts more : List Sort) (candidates : ℕ) (xs : List s.Ex) (bs : List PassiveBlock) (front base made : Atoms) →
    blocks_sorted sorts candidates bs ≡ true → blocks_sorted (sorts ++ more) candidates (in_front xs bs) ≡ true →
    IsExact (sorts ++ more) (in_front xs (blanks bs)) front → IsExact sorts bs base → IsAhead front base made →
    IsExact (sorts ++ more) (in_front xs bs) made

abbrev pub SameLaw : Type 0
SameLaw =
    (sorts more : List Sort) (candidates : ℕ) (xs : List s.Ex) (bs : List PassiveBlock) (front base made : Atoms) →
    Encodes (sorts ++ more) candidates (in_front xs (blanks bs)) (encoding_over candidates front) →
    Encodes sorts candidates bs (encoding_over candidates base) → IsAhead front base made →
    Encodes (sorts ++ more) candidates (in_front xs bs) (encoding_over candidates made)

-- ---- blocks that say nothing

pub blanks_plain : (bs : List PassiveBlock) → PlainBlocks (blanks bs)
blanks_plain [] = tt
blanks_plain (b ∷ bs) = ((tt, tt), tt)

front_sorted : (ss : List Sort) (k : ℕ) (ks ls : List PassiveCmd) → cmds_sorted ss k (ks ++ ls) ≡ true → cmds_sorted ss k ks ≡ true
front_sorted ss k [] ls h = refl
front_sorted ss k (Claims s b e ∷ ks) ls h =
    let more = and_right (fits_candidate k b) _ h in
    and_both (fits_candidate k b) _ (and_left (fits_candidate k b) _ h) (and_both (is_truth (kind_ex ss e)) _ (and_left (is_truth (kind_ex ss e)) _ more) (front_sorted ss k ks ls (and_right (is_truth (kind_ex ss e)) _ more)))
front_sorted ss k (Supposes b e ∷ ks) ls h =
    let more = and_right (fits_candidate k b) _ h in
    and_both (fits_candidate k b) _ (and_left (fits_candidate k b) _ h) (and_both (is_truth (kind_ex ss e)) _ (and_left (is_truth (kind_ex ss e)) _ more) (front_sorted ss k ks ls (and_right (is_truth (kind_ex ss e)) _ more)))

pub blanks_sorted : (ss : List Sort) (k : ℕ) (xs : List s.Ex) (bs : List PassiveBlock) → blocks_sorted ss k (in_front xs bs) ≡ true → blocks_sorted ss k (in_front xs (blanks bs)) ≡ true
blanks_sorted ss k xs [] h = refl
blanks_sorted ss k xs (b ∷ bs) h =
    let cmds = front_sorted ss k (supposed xs) b.cmds (and_left (cmds_sorted ss k (supposed xs ++ b.cmds)) _ h) in
    and_both (cmds_sorted ss k (supposed xs ++ [])) _ (ap (cmds_sorted ss k) (append-nil (supposed xs)) ∙ cmds) refl

-- ---- the sorts of more terms

sorts_grow : (incs : List Ty) (ts us : List Term) → flat_sorts (incs ++ map type_of (ts ++ us)) ≡ flat_sorts (incs ++ map type_of ts) ++ flat_sorts (map type_of us)
sorts_grow incs ts us =
    ap (λ l. flat_sorts (incs ++ l)) (map-append type_of ts us)
    ∙ ap flat_sorts (sym (append_assoc incs (map type_of ts) (map type_of us)))
    ∙ ap (map sort_of_type) (map-append scalar_ty (incs ++ map type_of ts) (map type_of us))
    ∙ map-append sort_of_type (map scalar_ty (incs ++ map type_of ts)) (map scalar_ty (map type_of us))

pub sorts_more : (p : s.Prog) (k : ℕ) (m : s.Impl) (q : s.Proc) (ls : List Line) → (more : List Sort) × (lined_sorts p k m q ls ≡ lined_sorts p k m q [] ++ more)
sorts_more p k m q ls =
    let incs = incarnations_in p k m q in
    let g = lines_grow incs (terms_in p k m q) ls in
    (flat_sorts (map type_of g.0), ap (λ ts. flat_sorts (incs ++ map type_of ts)) g.1 ∙ sorts_grow incs (terms_in p k m q) g.0)

-- ---- what was prepared is exact

module _ (p : r.Program) (n : ℕ) (w : Prepared) (h : IsPrepared p n w) where
  abbrev P : s.Prog
  P = meaning_of p

  abbrev M : s.Impl
  M = impl p n w h

  abbrev Q : s.Proc
  Q = proc p n w h

  abbrev pub bare : List Sort
  bare = lined_sorts P n M Q []

  abbrev pub flats : List PassiveBlock
  flats = flats_in P n M Q

  none : lined_behind P n M Q [] ≡ flats
  none = none_in_front flats

  pub base_encodes : Encodes bare P.candidates flats (encoding_over P.candidates w.atoms)
  base_encodes = subst (λ bs. Encodes bare P.candidates bs (encoding_over P.candidates w.atoms)) none h.own.encodes

  pub base_exact : IsExact bare flats w.atoms
  base_exact =
      subst (λ bs. IsExact bare bs w.atoms) none (record { first = h.own.encodes.first; terms = h.own.encodes.terms; rows = h.own.rows; blocks = h.own.blocks })

  pub base_sorted : SortLaw → IsTyped P → is_over_values P ≡ true → blocks_sorted bare P.candidates flats ≡ true
  base_sorted law t o = sorted_own law P n M Q [] t o (impl_at p n w h) (proc_at p n w h) bare P.candidates flats refl refl (sym none)

  -- ---- what lines say

  abbrev pub front : List Line → List s.Ex
  front ls = stated (count_in P n M Q) (lined_terms P n M Q ls) (instances_in ls)

  pub front_is : (IsBare w.terms.items (map ref_in w.kinds.items) → ⊥) → (ls : List Line) (ts : List Term) (bs made : List PassiveBlock) → ts ≡ lined_terms P n M Q ls → bs ≡ blanks (map passive_block_of w.flats.items) → made ≡ in_front (stated w.count ts (instances_in ls)) bs → made ≡ in_front (front ls) (blanks flats)
  front_is some ls ts bs made same none e =
      e
      ∙ ap (in_front (stated w.count ts (instances_in ls))) (none ∙ ap blanks (h.flats some))
      ∙ ap (λ k. in_front (stated k ts (instances_in ls)) (blanks flats)) h.count
      ∙ ap (λ us. in_front (stated (count_in P n M Q) us (instances_in ls)) (blanks flats)) same

  module _ (law : SortLaw) (t : IsTyped P) (o : is_over_values P ≡ true) (ls : List Line) where
    all_sorted : blocks_sorted (lined_sorts P n M Q ls) P.candidates (in_front (front ls) flats) ≡ true
    all_sorted = law P n M Q t o (impl_at p n w h) (proc_at p n w h) ls

    pub front_sorts : (ss : List Sort) (k : ℕ) (bs : List PassiveBlock) → ss ≡ lined_sorts P n M Q ls → k ≡ P.candidates → bs ≡ in_front (front ls) (blanks flats) → blocks_sorted ss k bs ≡ true
    front_sorts ss k bs a b c =
        ap (λ x. blocks_sorted x k bs) a
        ∙ ap (λ x. blocks_sorted (lined_sorts P n M Q ls) x bs) b
        ∙ ap (blocks_sorted (lined_sorts P n M Q ls) P.candidates) c
        ∙ blanks_sorted (lined_sorts P n M Q ls) P.candidates (front ls) flats all_sorted

    module _ (exact_law : ExactLaw) (same_law : SameLaw) (before made : Atoms) (ahead : IsAhead before w.atoms made) where
      -- over the sorts behind lines, written as those behind none with more
      over : (more ss : List Sort) → ss ≡ bare ++ more → blocks_sorted ss P.candidates (in_front (front ls) flats) ≡ true → IsExact ss (in_front (front ls) (blanks flats)) before → Encodes ss P.candidates (in_front (front ls) (blanks flats)) (encoding_over P.candidates before) → IsExact ss (in_front (front ls) flats) made × Encodes ss P.candidates (in_front (front ls) flats) (encoding_over P.candidates made)
      over more ss is sorted exact encodes =
          let bs = in_front (front ls) flats in
          let fs = in_front (front ls) (blanks flats) in
          let sorted' = subst (λ x. blocks_sorted x P.candidates bs ≡ true) is sorted in
          let exact' = subst (λ x. IsExact x fs before) is exact in
          let encodes' = subst (λ x. Encodes x P.candidates fs (encoding_over P.candidates before)) is encodes in (
            subst (λ x. IsExact x bs made) (sym is) (exact_law bare more P.candidates (front ls) flats before w.atoms made (base_sorted law t o) sorted' exact' base_exact ahead),
            subst (λ x. Encodes x P.candidates bs (encoding_over P.candidates made)) (sym is) (same_law bare more P.candidates (front ls) flats before w.atoms made encodes' base_encodes ahead),
          )

      pub own_ahead : (ss : List Sort) (k : ℕ) (bs : List PassiveBlock) → ss ≡ lined_sorts P n M Q ls → k ≡ P.candidates → bs ≡ in_front (front ls) (blanks flats) → Encodes ss k bs (encoding_over k before) → blocks_of before.blocks ≡ blocks_over ss before.first (rows_in before.rows) bs → rows_in before.rows ≡ rows_of ss bs → IsOwn P n M Q ls (encoding_over P.candidates made)
      own_ahead ss k bs a b c encodes exact listed =
          let S = lined_sorts P n M Q ls in
          let fs = in_front (front ls) (blanks flats) in
          let one = subst (λ x. Encodes S P.candidates x (encoding_over P.candidates before)) c (subst (λ x. Encodes S x bs (encoding_over x before)) b (subst (λ x. Encodes x k bs (encoding_over k before)) a encodes)) in
          let blocks = exact ∙ ap (λ x. blocks_over x before.first (rows_in before.rows) bs) a ∙ ap (blocks_over S before.first (rows_in before.rows)) c in
          let rows = listed ∙ ap (λ x. rows_of x bs) a ∙ ap (rows_of S) c in
          let more = sorts_more P n M Q ls in
          let both = over more.0 S more.1 all_sorted (record { first = one.first; terms = one.terms; rows = rows; blocks = blocks }) one in
          record { encodes = both.1; rows = both.0.rows; blocks = both.0.blocks; named = refl }
