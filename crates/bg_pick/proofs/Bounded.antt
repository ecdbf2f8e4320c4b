-- A bound touches no clause: what is ready before it is ready behind it, both ways.
use Rattle.std.proofs.Common.{◌≡◌, ℕ, Bool, true, false, not, ◌&&◌, ◌||◌, cond, List, [], ◌∷◌, ◌++◌, ℤ, refl, sym, ap, ◌∙◌, arith}
use Rattle.std.specs.Prelude.{Option, Some, None}
use Rattle.bg_formula.specs.declared.atom.Literal.{Literal}
use Rattle.bg_formula.specs.Formulas.{Formula}
use Rattle.bg_cert.specs.declared.cert.Decision.{Decision}
use Rattle.bg_cert.specs.declared.cert.Decision.TheVariants.{AtMost}
use Rattle.bg_cert.specs.Paths.{PathOf, decides, clause_false, names_false}
use Rattle.bg_cert.specs.Causes.{is_decided, has_true, undecided, is_one, is_unit, any_false, units_of}
use Rattle.bg_cert.specs.Walks.{path_of}
use Rattle.bg_cert.proofs.Untouched.{decides_snoc}
use Rattle.bg_pick.specs.declared.hint.Hint.{Hint}
use Rattle.bg_pick.specs.declared.index.Index.{Index}
use Rattle.bg_pick.specs.declared.mark.Mark.{Mark}
use Rattle.bg_pick.specs.Index.{clause_at}
use Rattle.bg_pick.specs.Marks.{unit_at, IsMark, IsReady, AllReady}
use Rattle.bg_pick.proofs.Lists.{false_in, none_false as none_false_in}
use Rattle.bg_pick.proofs.Members.{clause_among}
use Rattle.bg_pick.proofs.Readies.{row_more, one_longer}
use Rattle.bg_pick.proofs.Touched.{true_more, decided_more}

or_nothing : (b : Bool) → (b || false) ≡ b
or_nothing true = refl
or_nothing false = refl

pub decides_bound : (a : ℕ) (t : Bool) (ds : List Decision) (x : ℕ) (k : ℤ) (s : Bool) → decides a t (ds ++ (AtMost x k s ∷ [])) ≡ decides a t ds
decides_bound a t ds x k s = decides_snoc a t ds (AtMost x k s) ∙ or_nothing (decides a t ds)

-- two paths decide the same
abbrev pub DecideSame : List Decision → List Decision → Type 0
DecideSame es ds = (a : ℕ) (t : Bool) → decides a t es ≡ decides a t ds

same_false : (es ds : List Decision) (c : List Literal) → DecideSame es ds → clause_false es c ≡ clause_false ds c
same_false es ds [] h = refl
same_false es ds (l ∷ ls) h = rw (h l.atom (not l.sign), same_false es ds ls h) refl

same_true : (es ds : List Decision) (c : List Literal) → DecideSame es ds → has_true es c ≡ has_true ds c
same_true es ds [] h = refl
same_true es ds (l ∷ ls) h = rw (h l.atom l.sign, same_true es ds ls h) refl

same_decided : (es ds : List Decision) (a : ℕ) → DecideSame es ds → is_decided a es ≡ is_decided a ds
same_decided es ds a h = rw (h a true, h a false) refl

same_left : (es ds : List Decision) (c : List Literal) → DecideSame es ds → undecided es c ≡ undecided ds c
same_left es ds [] h = refl
same_left es ds (l ∷ ls) h =
    ap (λ b. cond b (undecided es ls) (l ∷ undecided es ls)) (same_decided es ds l.atom h)
    ∙ ap (λ us. cond (is_decided l.atom ds) us (l ∷ us)) (same_left es ds ls h)

same_unit : (es ds : List Decision) (c : List Literal) → DecideSame es ds → is_unit es c ≡ is_unit ds c
same_unit es ds c h =
    ap (λ b. not b && is_one (undecided es c)) (same_true es ds c h)
    ∙ ap (λ us. not (has_true ds c) && is_one us) (same_left es ds c h)

pub bound_child : (f : Formula) (set : ℕ → Bool) (i : Index) (ds : List Decision) (m : Mark) (x : ℕ) (k : ℤ) (s : Bool) → any_false ds (f.clauses ++ units_of f set) ≡ false → IsMark f set i ds m → IsReady f set i (ds ++ (AtMost x k s ∷ [])) m
bound_child f set i ds m x k s h w =
    record {
      mark = record {
        units = λ y e. let a = w.units y (by_unit (clause_at f set y) e) in record {
          row = a.row;
          place = a.place;
          there = row_more i ds (AtMost x k s) a.row a.place y a.there;
          low = a.low;
          from = a.from;
        };
        low = let l = w.low in omega (arith, one_longer ds (AtMost x k s));
        first = λ q. absurd (let l = w.low in omega (arith, one_longer ds (AtMost x k s)));
        opens = λ j c l e. true_more ds (AtMost x k s) c (w.opens j c l e);
        frees = λ b l. decided_more b ds (AtMost x k s) (w.frees b l);
      };
      fresh = λ y e. absurd (none_false y (clause_at f set y) refl e);
    }
  where
    same : DecideSame (ds ++ (AtMost x k s ∷ [])) ds
    same a t = decides_bound a t ds x k s

    by_unit : (o : Option (List Literal)) → unit_at (ds ++ (AtMost x k s ∷ [])) o ≡ true → unit_at ds o ≡ true
    by_unit None e = absurd (cc)
    by_unit (Some c) e = sym (same_unit (ds ++ (AtMost x k s ∷ [])) ds c same) ∙ e

    none_false : (y : Hint) (o : Option (List Literal)) → clause_at f set y ≡ o → names_false (ds ++ (AtMost x k s ∷ [])) o ≡ true → ⊥
    none_false y None q e = cc
    none_false y (Some c) q e =
        let n = clause_among f set y c q in
        let z = false_in ds (f.clauses ++ units_of f set) n.0 c n.1 h in
        let u = same_false (ds ++ (AtMost x k s ∷ [])) ds c same in
        cc

pub bound_ready : (f : Formula) (set : ℕ → Bool) (i : Index) (ds : List Decision) (m : Mark) (x : ℕ) (k : ℤ) (ps st : List PathOf) (ms new : List Mark) → any_false ds (f.clauses ++ units_of f set) ≡ false → IsMark f set i ds m → AllReady f set i ps ms → st ≡ path_of f (ds ++ (AtMost x k true ∷ [])) ∷ path_of f (ds ++ (AtMost x k false ∷ [])) ∷ ps → new ≡ m ∷ m ∷ ms → AllReady f set i st new
bound_ready f set i ds m x k ps st ms new h w r e g =
    rw (e, g) (bound_child f set i ds m x k true h w, (bound_child f set i ds m x k false h w, r))

-- a mark tells by its first four numbers alone
pub mark_same : (f : Formula) (set : ℕ → Bool) (i : Index) (ds : List Decision) (m n : Mark) → n.row ≡ m.row → n.place ≡ m.place → n.clause ≡ m.clause → n.atom ≡ m.atom → IsMark f set i ds m → IsMark f set i ds n
mark_same f set i ds m n a b c d h =
    record {
      units = λ y e. let w = h.units y e in record {
        row = w.row;
        place = w.place;
        there = w.there;
        low = rw a w.low;
        from = λ q. rw b (w.from (sym a ∙ q));
      };
      low = rw a h.low;
      first = λ q. b ∙ h.first (sym a ∙ q);
      opens = rw c h.opens;
      frees = rw d h.frees;
    }

-- a bound makes nothing false
pub bound_fine : (f : Formula) (set : ℕ → Bool) (ds : List Decision) (x : ℕ) (k : ℤ) (s : Bool) → any_false ds (f.clauses ++ units_of f set) ≡ false → any_false (ds ++ (AtMost x k s ∷ [])) (f.clauses ++ units_of f set) ≡ false
bound_fine f set ds x k s h =
    none_false_in (ds ++ (AtMost x k s ∷ [])) (f.clauses ++ units_of f set)
    (λ n c e. same_false (ds ++ (AtMost x k s ∷ [])) ds c (λ a t. decides_bound a t ds x k s) ∙ false_in ds (f.clauses ++ units_of f set) n c e h)
