-- What is written of a true outcome.
use Rattle.std.proofs.Common.{◌≡◌, ℕ, zero, suc, ◌+◌, ◌<◌, Bool, true, false, List, [], ◌∷◌, length, map, Option, Some, None, refl, sym, ap, ◌∙◌, subst, inl, inr, arith}
use Rattle.std.specs.Prelude.{◌⊎◌, if◌then◌else◌, is_some, slice_get, filter}
use Rattle.std.proofs.lemmas.List.{length-map}
use Rattle.std.proofs.lemmas.Option.{slice_get_within}
use Rattle.bg_ast.specs.Syntax.{Prog}
use Rattle.bg_ast.specs.Resolved as r
use Rattle.bg_ast.specs.Meaning.{meaning_of}
use Rattle.bg_ast.specs.Execution.{Place}
use Rattle.bg_sense.specs.Places.{places}
use Rattle.bg_sense.proofs.Bools.{and_left, and_right}
use Rattle.bg_words.specs.Sets.{Numbers, has, IsSubset}
use Rattle.bg_formula.specs.Formulas.{Formula}
use Rattle.bg_cert.specs.declared.cert.Cert.{Cert}
use Rattle.bg_cert.specs.Certs.{CertOf, Accepts, cert_of, uses}
use Rattle.bg_cert.specs.Walks.{no_instance}
use Rattle.bg_places.specs.Placed.{Placed, place_in, placed, placed_impl}
use Rattle.bg_ast.specs.Values.{Ty}
use Rattle.bg_block_types.specs.Typed.{incarnations_in}
use Rattle.bg_terms.specs.Terms.{Term}
use Rattle.bg_numbered.specs.Lines.{Line, is_there, are_there, after_line}
use Rattle.bg_term_table.specs.declared.line.Line as code
use Rattle.bg_term_table.specs.declared.line.Line.TheVariants as kind
use Rattle.bg_term_table.specs.Lines.{line_of, lines_of}
use Rattle.bg_termed.specs.Termed.{terms_in}
use Rattle.bg_task.specs.Certified.{HasCertificate}
use Rattle.bg_task.proofs.Numbered.{OfNumber, number_impl}
use Rattle.bg_tree.specs.declared.outcome.Budget.{Budget}
use Rattle.bg_check.specs.declared.proof.Proof.{Proof}
use Rattle.bg_check.specs.Verdicts as check
use Rattle.bg_check.specs.Verdicts.{judged}
use Rattle.bg_houdini.specs.declared.outcome.Outcome.{Outcome}
use Rattle.bg_houdini.specs.Tasks.{has_candidate, tasks_of, candidate_at, candidate_of}
use Rattle.bg_houdini.specs.Outcomes.{IsTrueOutcome}
use Rattle.bg_meant.specs.Once.{AreOnce}
use Rattle.bg_certtext.specs.Views as text
use Rattle.bg_accept.specs.Names.{marks, unplaced}
use Rattle.bg_accept.specs.Sections.{section_at, extra_behind}
use Rattle.bg_accept.specs.Lines.{then_, line_said, if_there, lines_in}
use Rattle.bg_accept.specs.Accepted.{retained_by, places_of, places_at, is_needed, is_required, IsShown, IsRequired}
use Rattle.bg_certify.specs.Names.{text_in, names_in}
use Rattle.bg_certify.specs.Spelled.{spelled_line, spelled, rows}
use Rattle.bg_certify.specs.Found.{Shown, shown_of, shown_if, cert_kept, certs_from}
use Rattle.bg_certify.specs.Written.{IsUnproved, HasSections}
use Rattle.bg_certify.proofs.Retained.{marks_are, all_placed}
use Rattle.bg_certify.proofs.Spelling.{section_back}
use Rattle.bg_certify.proofs.Order.{cert_at, certs_at, spelled_if, rows_at, rows_fine}
use Rattle.bg_certify.proofs.Cells.{HasIt, Cell, AreKept, TasksKept, kept_from, ImplCells, impl_at, counts, impl_of, cell_of, kept_of}

-- ---- what the laws of the crates below say

abbrev pub PlacedLaw : Type 0
PlacedLaw = (p : r.Program) → map place_in (placed p) ≡ places (meaning_of p)

-- what an accepted certificate uses is in the set
abbrev pub InsideLaw : Type 0
InsideLaw =
    (f : Formula) (set : ℕ → Bool) (c : CertOf) → Accepts f set no_instance c → (b : ℕ) → uses c.nodes b ≡ true → set b ≡ true

-- and it is accepted under each set that has what it uses
abbrev pub AboveLaw : Type 0
AboveLaw =
    (f : Formula) (set other : ℕ → Bool) (c : CertOf) → Accepts f set no_instance c → ((b : ℕ) → uses c.nodes b ≡ true → other b ≡ true) → Accepts f other no_instance c

-- ---- numbers of places

place_number : (m : ℕ) (xs : List Placed) (i : ℕ) (a : Placed) → OfNumber m xs → slice_get xs i ≡ Some a → a.place.implementation ≡ m
place_number m [] i a h e = absurd (let f : None ≡ Some a = e in cc)
place_number m (x ∷ xs) zero a h e = let f : a ≡ x = cc in ap (λ (y : Placed). y.place.implementation) f ∙ h.0
place_number m (x ∷ xs) (suc i) a h e = place_number m xs i a h.1 e

-- an implementation of which a place is there is there too
record At (p : r.Program) (k i : ℕ) (a : Placed) : Type 0 where
  impl : r.Impl
  there : slice_get p.implementations k ≡ Some impl
  place : slice_get (placed_impl p.procedures k impl) i ≡ Some a

at : (p : r.Program) (k i : ℕ) (a : Placed) → slice_get (places_at p k) i ≡ Some a → At p k i a
at p k i a e = by (slice_get p.implementations k) refl e
  where
    by : (o : Option r.Impl) → slice_get p.implementations k ≡ o → slice_get (places_of p k o) i ≡ Some a → At p k i a
    by None f g = absurd (let h : None ≡ Some a = g in cc)
    by (Some m) f g = record { impl = m; there = f; place = g }

inside : (bs : List Bool) (b : ℕ) → has bs b ≡ true → b < length bs
inside [] b e = absurd (let f : false ≡ true = e in cc)
inside (x ∷ bs) zero e = omega arith
inside (x ∷ bs) (suc b) e = let h : b < length bs = inside bs b e in omega arith

-- what a line says as the text has it
line_back : (l : code.Line) → line_said (spelled_line l) ≡ Some (line_of l)
line_back (kind.Pick m a) = refl
line_back (kind.Names m o) = refl
line_back (kind.Congruent a b) = refl
line_back (kind.AtIndex u s) = refl
line_back (kind.Elsewhere u s r) = refl
line_back (kind.Apart s r) = refl

-- lines that name what is there are read back
said_back : (incs : List Ty) (ts : List Term) (ls : List code.Line) → are_there incs ts (lines_of ls) ≡ true → lines_in incs ts (map spelled_line ls) ≡ Some (lines_of ls)
said_back incs ts [] h = refl
said_back incs ts (l ∷ ls) h =
    let next = after_line incs ts (line_of l) in
    let here = and_left (is_there incs ts (line_of l)) (are_there incs next (lines_of ls)) h in
    let rest = said_back incs next ls (and_right (is_there incs ts (line_of l)) (are_there incs next (lines_of ls)) h) in
    let behind : Line → Option (List Line) = λ m. then_ (lines_in incs (after_line incs ts m) (map spelled_line ls)) (λ xs. Some (m ∷ xs)) in
    ap (λ o. then_ (then_ o (if_there incs ts)) behind) (line_back l)
    ∙ (ap (λ b. then_ (if b then Some (line_of l) else None) behind) here ∙ ap (λ o. then_ o (λ xs. Some (line_of l ∷ xs))) rest)

-- the certificate of a task, where it is kept
its_cert : (p : Prog) (set : ℕ → Bool) (t : Place) (proof : Option Proof) → is_some proof ≡ true → check.IsShown p set t proof → (c : Shown) × ((shown_if proof ≡ Some c) × HasCertificate p set t (lines_of c.lines) c.cert)
its_cert p set t None e h = absurd (let f : false ≡ true = e in cc)
its_cert p set t (Some proof) e h = (shown_of proof, (refl, h))

-- the certificates that an outcome has for the places of a program
abbrev pub certs_of : r.Program → Outcome → List (List (Option Shown))
certs_of p o = certs_from p.procedures (has o.inferred.retained) o.inferred.kept.items 0 p.implementations (judged o.verdicts.items)

module _ (placed_law : PlacedLaw) (inside_law : InsideLaw) (above_law : AboveLaw) (budget : Budget) (p : r.Program) (o : Outcome) (true_of : IsTrueOutcome true budget p o) where
  -- ---- what is kept for tasks

  under : (used : Numbers) (t : Place) (es : List Line) (c : Cert) → IsSubset used o.inferred.retained → HasCertificate (meaning_of p) (has used) t es c → HasCertificate (meaning_of p) (has o.inferred.retained) t es c
  under used t es c sub h =
      record {
        formula = h.formula;
        is = h.is;
        there = h.there;
        agree = h.agree;
        accepted =
            above_law h.formula (has used) (has o.inferred.retained) (cert_of c) h.accepted
            (λ b u. sub b (inside_law h.formula (has used) (cert_of c) h.accepted b u));
      }

  tasks_kept : TasksKept (meaning_of p) (has o.inferred.retained) o.inferred.kept.items (tasks_of (meaning_of p))
  tasks_kept t task e s =
      let in_range : t < length (tasks_of (meaning_of p)) = slice_get_within (tasks_of (meaning_of p)) t task e in
      let its : has o.inferred.retained (candidate_of (meaning_of p) t) ≡ true = ap (λ (x : Option Place). has o.inferred.retained (candidate_at x)) e ∙ s in
      let w = true_of.inferred.certificates t in_range its in
      let shown = w.2.shown.0 in
      let same : Some shown.task ≡ Some task = sym shown.is_there ∙ e in
      let is_task : shown.task ≡ task = cc in
      let c = its_cert (meaning_of p) (has w.0.used) task w.0.proof (w.2.shown.1 refl) (subst (λ (x : Place). check.IsShown (meaning_of p) (has w.0.used) x w.0.proof) is_task shown.so) in
      (c.0, (ap cert_kept w.1 ∙ c.1.0, under w.0.used task (lines_of c.0.lines) c.0.cert w.3 c.1.1))

  kept : AreKept (meaning_of p) (has o.inferred.retained) o.inferred.kept.items (placed p)
  kept =
      kept_from (meaning_of p) (has o.inferred.retained) (placed p) o.inferred.kept.items
      (subst (λ (l : List Place). TasksKept (meaning_of p) (has o.inferred.retained) o.inferred.kept.items (filter has_candidate l)) (sym (placed_law p)) tasks_kept)

  -- ---- what is written

  impl_cells : (k : ℕ) (m : r.Impl) → slice_get p.implementations k ≡ Some m →
      ImplCells (meaning_of p) (has o.inferred.retained) p.procedures k k m (judged o.verdicts.items) (certs_of p o)
  impl_cells k m e =
      impl_at budget p (has o.inferred.retained) 0 p.implementations (judged o.verdicts.items) o.inferred.kept.items kept true_of.ordinary (true_of.shown refl) k k m (omega arith) e

  required : (m n j : ℕ) (c : Shown) → m ≡ 0 + n → cert_at (certs_at (certs_of p o) n) j ≡ Some c →
      is_required p (has o.inferred.retained) m j ≡ true
  required m n j c e h =
      let same : n ≡ m = omega arith in
      let w = impl_of p.procedures (has o.inferred.retained) o.inferred.kept.items 0 p.implementations (judged o.verdicts.items) n j c h in
      let k = kept_of (meaning_of p) (has o.inferred.retained) p.procedures n w.0 n j c (judged o.verdicts.items) (certs_of p o) (impl_cells n w.0 w.1) h in
      subst (λ (x : ℕ). is_required p (has o.inferred.retained) x j ≡ true) same
      (ap (λ (x : Option r.Impl). is_needed (has o.inferred.retained) (slice_get (places_of p n x) j)) w.1
      ∙ (ap (is_needed (has o.inferred.retained)) k.there ∙ k.kept))

  in_order : extra_behind (is_required p (has o.inferred.retained)) None (rows p.candidates 0 (certs_of p o)) ≡ None
  in_order =
      rows_fine p.candidates (is_required p (has o.inferred.retained)) (certs_of p o) 0 None tt required

  -- ---- each required place is shown, or has no section

  module _ (once : AreOnce (map text_in p.candidates)) where
    fits : (f : Formula) (c : Cert) → Accepts f (has o.inferred.retained) no_instance (cert_of c) → (b : ℕ) → uses (cert_of c).nodes b ≡ true → b < length p.candidates
    fits f c h b u =
        let l : b < length o.inferred.retained = inside o.inferred.retained b (inside_law f (has o.inferred.retained) (cert_of c) h b u) in
        subst (λ (n : ℕ). b < n) true_of.inferred.count l

    shown : (k i : ℕ) (a : Placed) (x : Option Shown) → a.place.implementation ≡ k → section_at k i (rows p.candidates 0 (certs_of p o)) ≡ spelled_if p.candidates k i x →
        HasIt (meaning_of p) (has o.inferred.retained) a.place a.place.candidate x → IsShown (meaning_of p) (has o.inferred.retained) p.candidates (rows p.candidates 0 (certs_of p o)) i a.place
    shown k i a x number sec h =
        record {
          section = spelled p.candidates k i h.cert;
          is_its =
              ap (λ (n : ℕ). section_at n i (rows p.candidates 0 (certs_of p o))) number
              ∙ (sec ∙ ap (λ (y : Option Shown). spelled_if p.candidates k i y) h.is);
          lines = lines_of h.cert.lines;
          names_them = record {
            implementation = h.right.is.clauses.implementation;
            procedure = h.right.is.clauses.procedure;
            is_there = h.right.is.clauses.is_there;
            is_its = h.right.is.clauses.is_its;
            named = said_back (incarnations_in (meaning_of p) a.place.implementation h.right.is.clauses.implementation h.right.is.clauses.procedure) (terms_in (meaning_of p) a.place.implementation h.right.is.clauses.implementation h.right.is.clauses.procedure) h.cert.lines h.right.there;
          };
          formula = h.right.formula;
          is = h.right.is;
          accepted =
              section_back h.right.formula (has o.inferred.retained) p.candidates once k i h.cert (fits h.right.formula h.cert.cert h.right.accepted)
              ∙ h.right.accepted;
        }

    each : (k i : ℕ) (a : Placed) → IsRequired p (has o.inferred.retained) k i a →
        IsShown (meaning_of p) (has o.inferred.retained) p.candidates (rows p.candidates 0 (certs_of p o)) i a.place
        ⊎ (IsUnproved o k a × (section_at k i (rows p.candidates 0 (certs_of p o)) ≡ None))
    each k i a req =
        let w = at p k i a req.there in
        let ic = impl_cells k w.impl w.there in
        let number = place_number k (placed_impl p.procedures k w.impl) i a (number_impl p.procedures k w.impl) w.place in
        by ic number (rows_at p.candidates (certs_of p o) 0 k k i (omega arith)) (cell_of (meaning_of p) (has o.inferred.retained) p.procedures k w.impl k i a (judged o.verdicts.items) (certs_of p o) ic w.place)
      where
        by : {m : r.Impl} (ic : ImplCells (meaning_of p) (has o.inferred.retained) p.procedures k k m (judged o.verdicts.items) (certs_of p o)) → a.place.implementation ≡ k →
            section_at k i (rows p.candidates 0 (certs_of p o)) ≡ spelled_if p.candidates k i (cert_at (certs_at (certs_of p o) k) i) →
            Cell (meaning_of p) (has o.inferred.retained) ic.verdicts a a.place.candidate (cert_at (certs_at (certs_of p o) k) i) →
            IsShown (meaning_of p) (has o.inferred.retained) p.candidates (rows p.candidates 0 (certs_of p o)) i a.place
            ⊎ (IsUnproved o k a × (section_at k i (rows p.candidates 0 (certs_of p o)) ≡ None))
        by ic number sec (inl h) = absurd (let f : false ≡ true = sym h.1 ∙ req.kept in cc)
        by ic number sec (inr (inl h)) = inl (shown k i a (cert_at (certs_at (certs_of p o) k) i) number sec h)
        by ic number sec (inr (inr h)) =
            inr (
              record { verdicts = ic.verdicts; there = ic.there; verdict = h.verdict; is_one = h.one; is_its = h.its; not_proved = h.unproved },
              sec ∙ ap (λ (y : Option Shown). spelled_if p.candidates k i y) h.none,
            )

    pub has_sections : (c : text.CertOf) → c.retained ≡ names_in o.inferred.retained p.candidates → c.sections ≡ rows p.candidates 0 (certs_of p o) → HasSections p o c
    has_sections c names sections =
        let marks_is : marks p.candidates c.retained ≡ o.inferred.retained =
        ap (marks p.candidates) names ∙ marks_are o.inferred.retained p.candidates true_of.inferred.count once in
        let set_is : retained_by p c ≡ has o.inferred.retained = ap (λ (bs : List Bool). has bs) marks_is in
        record {
          retained = λ b. ap (λ (f : ℕ → Bool). f b) set_is;
          placed = ap (unplaced p.candidates) names ∙ all_placed o.inferred.retained p.candidates once;
          no_other =
              ap (λ (f : ℕ → Bool). extra_behind (is_required p f) None c.sections) set_is
              ∙ (ap (extra_behind (is_required p (has o.inferred.retained)) None) sections ∙ in_order);
          each =
              subst
              (λ (f : ℕ → Bool). (k i : ℕ) (a : Placed) → IsRequired p f k i a → IsShown (meaning_of p) f p.candidates c.sections i a.place ⊎ (IsUnproved o k a × (section_at k i c.sections ≡ None)))
              (sym set_is)
              (subst
              (λ (ss : List text.SectionOf). (k i : ℕ) (a : Placed) → IsRequired p (has o.inferred.retained) k i a → IsShown (meaning_of p) (has o.inferred.retained) p.candidates ss i a.place ⊎ (IsUnproved o k a × (section_at k i ss ≡ None)))
              (sym sections) each);
        }

-- as many lists of verdicts as implementations
pub verdict_count : (keeps : Bool) (budget : Budget) (p : r.Program) (o : Outcome) → IsTrueOutcome keeps budget p o → length o.verdicts.items ≡ length p.implementations
verdict_count keeps budget p o h =
    sym (length-map o.verdicts.items (λ v. v.items)) ∙ counts budget p (has o.inferred.retained) 0 p.implementations (judged o.verdicts.items) h.ordinary
