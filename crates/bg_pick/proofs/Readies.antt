-- A split makes both paths ready.
use Rattle.std.proofs.Common.{◌≡◌, ℕ, zero, suc, Bool, true, false, not, List, [], ◌∷◌, ◌++◌, length, reverse, refl, ap, ◌∙◌, arith, length-append}
use Rattle.std.specs.Prelude.{Option, Some, None}
use Rattle.bg_formula.specs.declared.atom.Literal.{Literal}
use Rattle.bg_formula.specs.Atoms.{at}
use Rattle.bg_formula.specs.Formulas.{Formula}
use Rattle.bg_cert.specs.declared.cert.Decision.{Decision}
use Rattle.bg_cert.specs.declared.cert.Decision.TheVariants.{Atom}
use Rattle.bg_cert.specs.declared.walk.Walk.{Walk}
use Rattle.bg_cert.specs.Paths.{PathOf, names_false, clause_false}
use Rattle.bg_cert.specs.Causes.{any_false, is_unit, units_of}
use Rattle.bg_cert.specs.Walks.{stack_of, path_of, others_of, decided_on}
use Rattle.bg_pick.specs.declared.hint.Hint.{Hint}
use Rattle.bg_pick.specs.declared.index.Index.{Index}
use Rattle.bg_pick.specs.declared.mark.Mark.{Mark}
use Rattle.bg_pick.specs.Index.{clause_at, stands, Names, list_of, IsIndex}
use Rattle.bg_pick.specs.Marks.{unit_at, touched, row_at, NoneFalse, IsAhead, IsMark, IsReady, AllReady}
use Rattle.bg_pick.proofs.Places.{at_before, at_last}
use Rattle.bg_pick.proofs.Lists.{false_in, none_false}
use Rattle.bg_pick.proofs.Members.{clause_among, clause_named}
use Rattle.bg_pick.proofs.Touched.{false_stays, unit_stays, true_more, decided_more}

-- ---- nothing is false where no false clause is in the last row

pub nothing_false : (f : Formula) (set : ℕ → Bool) (i : Index) (ds : List Decision) (m : Mark) → IsReady f set i ds m → NoneFalse f set ds (row_at i ds (length ds)) → any_false ds (f.clauses ++ units_of f set) ≡ false
nothing_false f set i ds m r h =
    none_false ds (f.clauses ++ units_of f set)
    (λ k c e. let n = clause_named f set c (k, e) in let q = n.1 in rw q at (not_named n.0 (names_false ds (clause_at f set n.0)) refl))
  where
    not_named : (x : Hint) (b : Bool) → names_false ds (clause_at f set x) ≡ b → names_false ds (clause_at f set x) ≡ false
    not_named x false e = e
    not_named x true e = h x (r.fresh x e)

pub something_false : (f : Formula) (set : ℕ → Bool) (ds : List Decision) (x : Hint) → names_false ds (clause_at f set x) ≡ true → any_false ds (f.clauses ++ units_of f set) ≡ true
something_false f set ds x h = by_clause (clause_at f set x) refl h
  where
    by_any : (c : List Literal) → clause_at f set x ≡ Some c → clause_false ds c ≡ true → (b : Bool) → any_false ds (f.clauses ++ units_of f set) ≡ b → b ≡ true
    by_any c e k true a = refl
    by_any c e k false a = absurd (let n = clause_among f set x c e in let y = false_in ds (f.clauses ++ units_of f set) n.0 c n.1 a in cc)

    by_clause : (o : Option (List Literal)) → clause_at f set x ≡ o → names_false ds o ≡ true → any_false ds (f.clauses ++ units_of f set) ≡ true
    by_clause None e k = absurd (cc)
    by_clause (Some c) e k = by_any c e k (any_false ds (f.clauses ++ units_of f set)) refl

-- ---- rows of a longer path

pub row_more : (i : Index) (ds : List Decision) (d : Decision) (g k : ℕ) (x : Hint) → at (row_at i ds g) k ≡ Some x → at (row_at i (ds ++ (d ∷ [])) g) k ≡ Some x
row_more i ds d zero k x h = h
row_more i ds d (suc g) k x h = by_decision (at ds g) refl h
  where
    by_decision : (o : Option Decision) → at ds g ≡ o → at (touched i o) k ≡ Some x → at (touched i (at (ds ++ (d ∷ [])) g)) k ≡ Some x
    by_decision None e r = absurd (cc)
    by_decision (Some c) e r = rw (at_before ds (d ∷ []) g c e) r

last_row : (i : Index) (ds : List Decision) (a : ℕ) (s : Bool) → row_at i (ds ++ (Atom a s ∷ [])) (suc (length ds)) ≡ list_of i a (not s)
last_row i ds a s = ap (touched i) (at_last ds (Atom a s))

pub one_longer : (ds : List Decision) (d : Decision) → length (ds ++ (d ∷ [])) ≡ suc (length ds)
one_longer ds d = length-append ds (d ∷ []) ∙ omega arith

-- ---- the child

child_ahead : (f : Formula) (set : ℕ → Bool) (i : Index) (ds : List Decision) (m : Mark) (a : ℕ) (s : Bool) → IsIndex f set i → IsMark f set i ds m → (x : Hint) → unit_at (ds ++ (Atom a s ∷ [])) (clause_at f set x) ≡ true → IsAhead i (ds ++ (Atom a s ∷ [])) m x
child_ahead f set i ds m a s n h x u = by_clause (clause_at f set x) refl u
  where
    by_literal : (c : List Literal) → clause_at f set x ≡ Some c → is_unit (ds ++ (Atom a s ∷ [])) c ≡ true → (b : Bool) → stands a (not s) c ≡ b → IsAhead i (ds ++ (Atom a s ∷ [])) m x
    by_literal c e v true g =
        let w = (n x c e).each a (not s) g in record {
          row = suc (length ds);
          place = w.0;
          there = rw (last_row i ds a s) w.1;
          low = let l = h.low in omega arith;
          from = λ q. let z = h.first (q ∙ omega arith) in omega arith;
        }
    by_literal c e v false g =
        let y : unit_at ds (clause_at f set x) ≡ true = rw e (unit_stays a s ds c g v) in
        let w = h.units x y in record {
          row = w.row;
          place = w.place;
          there = row_more i ds (Atom a s) w.row w.place x w.there;
          low = w.low;
          from = w.from;
        }

    by_clause : (o : Option (List Literal)) → clause_at f set x ≡ o → unit_at (ds ++ (Atom a s ∷ [])) o ≡ true → IsAhead i (ds ++ (Atom a s ∷ [])) m x
    by_clause None e v = absurd (cc)
    by_clause (Some c) e v = by_literal c e v (stands a (not s) c) refl

child_fresh : (f : Formula) (set : ℕ → Bool) (i : Index) (ds : List Decision) (a : ℕ) (s : Bool) → IsIndex f set i → any_false ds (f.clauses ++ units_of f set) ≡ false → (x : Hint) → names_false (ds ++ (Atom a s ∷ [])) (clause_at f set x) ≡ true → Names (list_of i a (not s)) x
child_fresh f set i ds a s n h x u = by_clause (clause_at f set x) refl u
  where
    by_literal : (c : List Literal) → clause_at f set x ≡ Some c → clause_false (ds ++ (Atom a s ∷ [])) c ≡ true → (b : Bool) → stands a (not s) c ≡ b → Names (list_of i a (not s)) x
    by_literal c e v true g = (n x c e).each a (not s) g
    by_literal c e v false g =
        let k = clause_among f set x c e in
        let y = false_in ds (f.clauses ++ units_of f set) k.0 c k.1 h in
        let z = false_stays a s ds c g v in
        absurd (cc)

    by_clause : (o : Option (List Literal)) → clause_at f set x ≡ o → names_false (ds ++ (Atom a s ∷ [])) o ≡ true → Names (list_of i a (not s)) x
    by_clause None e v = absurd (cc)
    by_clause (Some c) e v = by_literal c e v (stands a (not s) c) refl

pub child_ready : (f : Formula) (set : ℕ → Bool) (i : Index) (ds : List Decision) (m : Mark) (a : ℕ) (s : Bool) → IsIndex f set i → any_false ds (f.clauses ++ units_of f set) ≡ false → IsMark f set i ds m → IsReady f set i (ds ++ (Atom a s ∷ [])) m
child_ready f set i ds m a s n h k =
    record {
      mark = record {
        units = child_ahead f set i ds m a s n k;
        low = let l = k.low in omega (arith, one_longer ds (Atom a s));
        first = λ q. absurd (let l = k.low in omega (arith, one_longer ds (Atom a s)));
        opens = λ j c l e. true_more ds (Atom a s) c (k.opens j c l e);
        frees = λ b l. decided_more b ds (Atom a s) (k.frees b l);
      };
      fresh = λ x e. let w = child_fresh f set i ds a s n h x e in rw (one_longer ds (Atom a s), last_row i ds a s) w;
    }

-- ---- the root

pub root_ready : (f : Formula) (set : ℕ → Bool) (i : Index) → IsIndex f set i → IsReady f set i [] (record { row = 0; place = 0; clause = 0; atom = 0; look = 0; top = 0; from = 0; asked = 0; done = 0; reached = 0; unmet = 0; untrue = 0 })
root_ready f set i n =
    record {
      mark = record {
        units = λ x e. let w = unit_named x (clause_at f set x) refl e in record {
          row = 0;
          place = w.0;
          there = w.1;
          low = omega arith;
          from = λ q. omega arith;
        };
        low = omega arith;
        first = λ q. absurd (omega arith);
        opens = λ k c l e. absurd (omega arith);
        frees = λ a l. absurd (omega arith);
      };
      fresh = λ x e. false_named x (clause_at f set x) refl e;
    }
  where
    unit_named : (x : Hint) (o : Option (List Literal)) → clause_at f set x ≡ o → unit_at [] o ≡ true → Names i.start.items x
    unit_named x None e u = absurd (cc)
    unit_named x (Some c) e u = (n x c e).whole

    false_named : (x : Hint) (o : Option (List Literal)) → clause_at f set x ≡ o → names_false [] o ≡ true → Names i.start.items x
    false_named x None e u = absurd (cc)
    false_named x (Some c) e u = (n x c e).whole

-- ---- all open paths

pub open_ready : (f : Formula) (set : ℕ → Bool) (i : Index) (w : Walk) (m : Mark) (ms : List Mark) → w.is_open ≡ true → AllReady f set i (stack_of f w) (m ∷ ms) → IsReady f set i (decided_on w) m × AllReady f set i (others_of f w) ms
open_ready f set i w m ms o h = rw o at h

pub split_ready : (f : Formula) (set : ℕ → Bool) (i : Index) (ds : List Decision) (m : Mark) (a : ℕ) (ps st : List PathOf) (ms new : List Mark) → IsIndex f set i → any_false ds (f.clauses ++ units_of f set) ≡ false → IsMark f set i ds m → AllReady f set i ps ms → st ≡ path_of f (ds ++ (Atom a true ∷ [])) ∷ path_of f (ds ++ (Atom a false ∷ [])) ∷ ps → new ≡ m ∷ m ∷ ms → AllReady f set i st new
split_ready f set i ds m a ps st ms new n h k r e g =
    rw (e, g) (child_ready f set i ds m a true n h k, (child_ready f set i ds m a false n h k, r))

pub first_ready : (f : Formula) (set : ℕ → Bool) (i : Index) (st : List PathOf) (ms : List Mark) → IsIndex f set i → st ≡ path_of f [] ∷ [] → ms ≡ record { row = 0; place = 0; clause = 0; atom = 0; look = 0; top = 0; from = 0; asked = 0; done = 0; reached = 0; unmet = 0; untrue = 0 } ∷ [] → AllReady f set i st ms
first_ready f set i st ms n e g = rw (e, g) (root_ready f set i n, tt)

-- where no mark is left, no path waits
pub none_ready : (f : Formula) (set : ℕ → Bool) (i : Index) (ps : List PathOf) (old ms : List Mark) → length old ≡ 0 → AllReady f set i ps (reverse old) → AllReady f set i ps ms
none_ready f set i ps [] ms e r = by_paths ps r
  where
    by_paths : (qs : List PathOf) → AllReady f set i qs [] → AllReady f set i qs ms
    by_paths [] h = tt
    by_paths (q ∷ qs) h = absurd h
none_ready f set i ps (m ∷ old) ms e r = absurd (omega arith)
