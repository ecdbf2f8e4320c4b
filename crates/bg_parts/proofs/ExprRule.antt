-- Expressions are a rule, and so are their lists.
use Rattle.std.proofs.Common.{◌≡◌, ◌≢◌, ℕ, suc, List, [], ◌∷◌, ◌++◌, true, false, refl, sym, ap, ◌∙◌, subst, arith}
use Rattle.std.specs.Prelude.{pos}
use Rattle.bg_text.specs.declared.token.Kind.{Kind}
use Rattle.bg_text.specs.declared.token.Kind.TheVariants as kinds
use Rattle.bg_text.specs.Trees.{Ex, Exs, NoMore, More}
use Rattle.bg_text.specs.Marks.{sign, commas, after_commas}
use Rattle.bg_text.specs.Types.{All}
use Rattle.bg_text.specs.Spelling.{ex_marks, list_marks, more_marks, IsEx, AreExs, SpellsAt}
use Rattle.bg_text.specs.Views.{exs_of}
use Rattle.bg_reader.proofs.Good.{same_good, fewer_good}
use Rattle.bg_expr.specs.Ends.{reach, below, ends}
use Rattle.bg_expr.specs.Exprs.{expr_at}
use Rattle.bg_expr.proofs.Lists.{begins_kind, first_mark}
use Rattle.bg_expr.proofs.Atoms.{expr_good}
use Rattle.bg_expr.proofs.NestsOf.{expr_nests}
use Rattle.bg_expr.proofs.Placed.{placed}
use Rattle.bg_grammar.specs.Sets.{is_in}
use Rattle.bg_grammar.proofs.Rule.{Spelled, of, Starts, Rule, via_rule, commas_rule, list_closed_rule}
use Rattle.bg_parts.specs.Parts.{exs_at, args_in}

-- the kinds behind an expression, and those that begin one
abbrev pub expr_ends : List Kind
expr_ends = kinds.Semicolon ∷ kinds.Comma ∷ kinds.Close ∷ kinds.CloseBracket ∷ kinds.CloseBrace ∷ []

abbrev pub expr_firsts : List Kind
expr_firsts = kinds.Number (pos 0) ∷ kinds.True ∷ kinds.False ∷ kinds.Name ∷ kinds.Old ∷ kinds.Open ∷ kinds.Not ∷ kinds.Minus ∷ []

ends_kind : (k : Kind) → is_in expr_ends k ≡ true → below 0 (reach k) ≡ true
ends_kind kinds.Iff h = absurd cc
ends_kind kinds.Implies h = absurd cc
ends_kind kinds.Explies h = absurd cc
ends_kind kinds.And h = absurd cc
ends_kind kinds.Or h = absurd cc
ends_kind kinds.Equal h = absurd cc
ends_kind kinds.Unequal h = absurd cc
ends_kind kinds.Less h = absurd cc
ends_kind kinds.AtMost h = absurd cc
ends_kind kinds.Greater h = absurd cc
ends_kind kinds.AtLeast h = absurd cc
ends_kind kinds.Plus h = absurd cc
ends_kind kinds.Minus h = absurd cc
ends_kind kinds.Times h = absurd cc
ends_kind kinds.OpenBracket h = absurd cc
ends_kind kinds.Open h = absurd cc
ends_kind _ h = refl

firsts_kind : (k : Kind) → begins_kind k ≡ true → is_in expr_firsts k ≡ true
firsts_kind (kinds.Number z) h = refl
firsts_kind kinds.True h = refl
firsts_kind kinds.False h = refl
firsts_kind kinds.Name h = refl
firsts_kind kinds.Old h = refl
firsts_kind kinds.Open h = refl
firsts_kind kinds.Not h = refl
firsts_kind kinds.Minus h = refl
firsts_kind _ h = absurd cc

pub expr_rule : (n d : ℕ) → Rule n d d expr_ends expr_firsts [] false IsEx ex_marks (expr_at n d)
expr_rule n d = record {
  good = same_good n d (of expr_ends) (SpellsAt 0) (Spelled IsEx ex_marks) (expr_at n d) (fewer_good n d n d (ends 0) (of expr_ends) (SpellsAt 0) (expr_at n d) (expr_good n d) (omega arith) (omega arith) (λ t h. ends_kind t.kind h)) (λ v ts h. (h.0, h.2)) (λ v ts h. (h.0, omega arith, h.1));
  nests = expr_nests n d;
  first = first;
  heads = λ t h. absurd cc;
  twin = λ v ts le i h. (let t = placed v ts i h in (t.0, t.2, t.4));
}
  where
    first : (v : Ex) → IsEx v → Starts expr_firsts false (ex_marks v)
    first v i = let m = first_mark v i in subst (Starts expr_firsts false) (sym m.2) (firsts_kind m.0.kind m.3)

-- lists
more_same : (es : List Ex) → more_marks (exs_of es) ≡ after_commas ex_marks es
more_same [] = refl
more_same (e ∷ es) = ap (λ l. sign kinds.Comma ∷ ex_marks e ++ l) (more_same es)

exs_same : (es : List Ex) → list_marks (exs_of es) ≡ commas ex_marks es
exs_same [] = refl
exs_same (e ∷ es) = ap (λ l. ex_marks e ++ l) (more_same es)

are_exs : (es : List Ex) → All IsEx es → AreExs (exs_of es)
are_exs [] h = tt
are_exs (e ∷ es) h = (h.0, are_exs es h.1)

exs_back : (es : Exs) → AreExs es → (l : List Ex) × (exs_of l ≡ es) × All IsEx l
exs_back NoMore h = ([], refl, tt)
exs_back (More e es) h = let r = exs_back es h.1 in (e ∷ r.0, ap (More e) r.1, (h.0, r.2))

some_exs : (es : List Ex) → es ≢ [] → exs_of es ≢ NoMore
some_exs [] h = absurd (h refl)
some_exs (e ∷ es) h = λ c. cc

abbrev pub SomeExs : Exs → Type 0
SomeExs es = (es ≢ NoMore) × AreExs es

-- an expression list ends before any of these
pub exs_rule : (n d : ℕ) → Rule n d d (kinds.Semicolon ∷ kinds.Close ∷ kinds.CloseBracket ∷ []) expr_firsts [] false SomeExs list_marks (exs_at n d)
unfolding exs_at
exs_rule n d =
    via_rule (commas_rule (expr_rule n d) (kinds.Semicolon ∷ kinds.Close ∷ kinds.CloseBracket ∷ []) refl) exs_of SomeExs list_marks (λ v i. exs_same v) (λ v i. (some_exs v i.0, are_exs v i.1)) back
  where
    back : (w : Exs) → SomeExs w → (v : List Ex) × (exs_of v ≡ w) × ((v ≢ []) × All IsEx v)
    back w h = let r = exs_back w h.1 in (r.0, r.1, ((λ c. h.0 (sym r.1 ∙ ap exs_of c)), r.2))

pub args_rule : (n d : ℕ) (F : List Kind) → Rule n d (suc d) F (kinds.Close ∷ expr_firsts) (kinds.Close ∷ []) false AreExs (λ es. list_marks es ++ sign kinds.Close ∷ []) (args_in n d)
unfolding args_in
args_rule n d F =
    via_rule (list_closed_rule (suc d) F kinds.Close refl refl (expr_rule n d) refl) exs_of AreExs (λ es. list_marks es ++ sign kinds.Close ∷ []) (λ v i. ap (λ l. l ++ sign kinds.Close ∷ []) (exs_same v)) are_exs exs_back
