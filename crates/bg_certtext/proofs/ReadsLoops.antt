-- Rows and values that are read one after the other.
use Rattle.std.proofs.Common.{◌≡◌, ℕ, ◌<◌, Bool, List, [], ◌∷◌, ◌++◌, length, Option, Some, None, codes, refl, ap, sym, ◌∙◌, append_assoc, append-nil, arith}
use Rattle.bg_certtext.specs.Views.{ValueOf}
use Rattle.bg_certtext.specs.Spellable.{is_value}
use Rattle.bg_certtext.specs.Texts.{value_text}
use Rattle.bg_certtext.specs.Machine.{then_, behind, Got, either, RowsOf, default_from, row_from, value_at}
use Rattle.bg_certtext.specs.Got.{prefix}
use Rattle.bg_certtext.proofs.ReadsRows.{Cuts, row_short, behind_length, shorter}
use Rattle.bg_certtext.proofs.ReadsFuel.{value_at_cuts, table_rows, rows_step}
use Rattle.bg_certtext.proofs.ReadsKeys.{values_at, values_step}

abbrev with_row : {K : Type 0} → K × ValueOf → Option (RowsOf K) → Option (RowsOf K)
with_row {K = K} e o = then_ o (λ (t : RowsOf K). Some (record t { entries = e ∷ t.entries }))

prefix_row : {K : Type 0} (es : List (K × ValueOf)) (e : K × ValueOf) (o : Option (RowsOf K)) → prefix es (with_row e o) ≡ prefix (es ++ e ∷ []) o
prefix_row es e None = refl
prefix_row {K = K} es e (Some s) = ap (λ (l : List (K × ValueOf)). let more : RowsOf K = record s { entries = l } in Some more) (sym (append_assoc es (e ∷ []) s.entries))

module _ {K : Type 0} (key : List ℕ → Got K) (kt : K → List ℕ) (kg : K → Bool) (cut_key : Cuts key kt kg) where
  abbrev rows : List ℕ → Option (RowsOf K)
  rows bs = table_rows key kt kg cut_key bs

  abbrev step_by : List ℕ → Option (List ℕ) → Got (K × ValueOf) → Option (RowsOf K)
  step_by bs o r = either o (default_from key value_at) (then_ r (λ e. with_row e.0 (rows e.1)))

  stepped : (bs : List ℕ) → rows bs ≡ step_by bs (behind (codes "else ") bs) (row_from key value_at bs)
  stepped bs = rows_step key kt kg cut_key bs

  -- one more row
  pub more_rows : (es new : List (K × ValueOf)) (bs : List ℕ) (e : (K × ValueOf) × List ℕ) (whole : Option (RowsOf K)) → new ≡ es ++ e.0 ∷ [] → behind (codes "else ") bs ≡ None → row_from key value_at bs ≡ Some e → prefix es (rows bs) ≡ whole → prefix new (rows e.1) ≡ whole
  more_rows es new bs e whole pushed none is inv =
      ap (λ (l : List (K × ValueOf)). prefix l (rows e.1)) pushed
      ∙ (sym (prefix_row es e.0 (rows e.1))
      ∙ (ap (prefix es) (sym (stepped bs ∙ (ap (λ (o : Option (List ℕ)). step_by bs o (row_from key value_at bs)) none ∙ ap (step_by bs None) is))) ∙ inv))

  -- what stands there is no row
  pub no_row : (es : List (K × ValueOf)) (bs : List ℕ) (whole : Option (RowsOf K)) → behind (codes "else ") bs ≡ None → row_from key value_at bs ≡ None → prefix es (rows bs) ≡ whole → None ≡ whole
  no_row es bs whole none is inv =
      ap (prefix es) (sym (stepped bs ∙ (ap (λ (o : Option (List ℕ)). step_by bs o (row_from key value_at bs)) none ∙ ap (step_by bs None) is))) ∙ inv

  -- the default
  pub last_row : (es : List (K × ValueOf)) (bs r : List ℕ) (whole : Option (RowsOf K)) → behind (codes "else ") bs ≡ Some r → prefix es (rows bs) ≡ whole → prefix es (default_from key value_at r) ≡ whole
  last_row es bs r whole some inv =
      ap (prefix es) (sym (stepped bs ∙ ap (λ (o : Option (List ℕ)). step_by bs o (row_from key value_at bs)) some)) ∙ inv

  pub no_default : (es : List (K × ValueOf)) (bs r : List ℕ) (whole : Option (RowsOf K)) → behind (codes "else ") bs ≡ Some r → default_from key value_at r ≡ None → prefix es (rows bs) ≡ whole → None ≡ whole
  no_default es bs r whole some none inv = ap (prefix es) (sym none) ∙ last_row es bs r whole some inv

  pub closed_rows : (es : List (K × ValueOf)) (bs r rest : List ℕ) (d : ValueOf) (whole : Option (RowsOf K)) → behind (codes "else ") bs ≡ Some r → default_from key value_at r ≡ Some (record { entries = []; default = d; rest = rest }) → prefix es (rows bs) ≡ whole → Some (record { entries = es; default = d; rest = rest }) ≡ whole
  closed_rows es bs r rest d whole some is inv =
      ap (λ (l : List (K × ValueOf)). let made : RowsOf K = record { entries = l; default = d; rest = rest } in Some made) (sym (append-nil es))
      ∙ (ap (prefix es) (sym is) ∙ last_row es bs r whole some inv)

  -- a row takes bytes away
  pub row_less : (bs : List ℕ) (e : (K × ValueOf) × List ℕ) → row_from key value_at bs ≡ Some e → length e.1 < length bs
  row_less bs e h = row_short key kt kg cut_key value_at value_at_cuts bs e h

-- ---- the arguments of an entry

abbrev pub in_front : List ValueOf → Got (List ValueOf) → Got (List ValueOf)
in_front vs o = then_ o (λ p. Some (vs ++ p.0, p.1))

abbrev with_value : ValueOf → Got (List ValueOf) → Got (List ValueOf)
with_value v o = then_ o (λ p. Some (v ∷ p.0, p.1))

front_value : (vs : List ValueOf) (v : ValueOf) (o : Got (List ValueOf)) → in_front vs (with_value v o) ≡ in_front (vs ++ v ∷ []) o
front_value vs v None = refl
front_value vs v (Some p) = ap (λ (l : List ValueOf). let made : List ValueOf × List ℕ = (l, p.1) in Some made) (sym (append_assoc vs (v ∷ []) p.0))

abbrev values_by : Got ValueOf → Got (List ValueOf)
values_by o = then_ o (λ v. either (behind (codes ",") v.1) (λ r. with_value v.0 (values_at r)) (Some (v.0 ∷ [], v.1)))

-- one more, with a comma behind it
pub more_values : (vs new : List ValueOf) (bs r : List ℕ) (v : ValueOf × List ℕ) (whole : Got (List ValueOf)) → new ≡ vs ++ v.0 ∷ [] → value_at bs ≡ Some v → behind (codes ",") v.1 ≡ Some r → in_front vs (values_at bs) ≡ whole → in_front new (values_at r) ≡ whole
more_values vs new bs r v whole pushed is some inv =
    ap (λ (l : List ValueOf). in_front l (values_at r)) pushed
    ∙ (sym (front_value vs v.0 (values_at r))
    ∙ (ap (in_front vs) (sym (values_step bs ∙ (ap values_by is ∙ ap (λ (o : Option (List ℕ)). either o (λ r. with_value v.0 (values_at r)) (let made : List ValueOf × List ℕ = (v.0 ∷ [], v.1) in Some made)) some))) ∙ inv))

pub no_value : (vs : List ValueOf) (bs : List ℕ) (whole : Got (List ValueOf)) → value_at bs ≡ None → in_front vs (values_at bs) ≡ whole → None ≡ whole
no_value vs bs whole is inv = ap (in_front vs) (sym (values_step bs ∙ ap values_by is)) ∙ inv

-- the last one
pub last_value : (vs new : List ValueOf) (bs : List ℕ) (v : ValueOf × List ℕ) (whole : Got (List ValueOf)) → new ≡ vs ++ v.0 ∷ [] → value_at bs ≡ Some v → behind (codes ",") v.1 ≡ None → in_front vs (values_at bs) ≡ whole → Some (new, v.1) ≡ whole
last_value vs new bs v whole pushed is none inv =
    ap (λ (l : List ValueOf). let made : List ValueOf × List ℕ = (l, v.1) in Some made) pushed
    ∙ (ap (in_front vs) (sym (values_step bs ∙ (ap values_by is ∙ ap (λ (o : Option (List ℕ)). either o (λ r. with_value v.0 (values_at r)) (let made : List ValueOf × List ℕ = (v.0 ∷ [], v.1) in Some made)) none))) ∙ inv)

pub value_less : (bs r : List ℕ) (v : ValueOf × List ℕ) → value_at bs ≡ Some v → behind (codes ",") v.1 ≡ Some r → length r < length bs
value_less bs r v h k = omega (arith, shorter value_at value_text is_value value_at_cuts bs v h, behind_length (codes ",") v.1 r k)

pub nothing_before : {K : Type 0} (o : Option (RowsOf K)) → prefix [] o ≡ o
nothing_before None = refl
nothing_before (Some s) = refl

pub no_front : (o : Got (List ValueOf)) → in_front [] o ≡ o
no_front None = refl
no_front (Some p) = refl
