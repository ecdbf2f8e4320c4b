-- What the machine answers is a reading.
use Rattle.std.proofs.Common.{◌≡◌, ◌≢◌, ℕ, true, false, not, List, [], ◌∷◌, ◌++◌, flat_map, codes, bytes_eq, Option, Some, None, Result, Ok, Err, ℤ, pos, negsuc, refl, ap, sym, subst, ◌∙◌, append_assoc, append-nil}
use Rattle.std.proofs.lemmas.Bool.{ne_eqb}
use Rattle.std.specs.List.{list_all}
use Rattle.std.specs.Fmt.{signed_decimal}
use Rattle.bg_base.specs.Exact.{fits}
use Rattle.bg_certtext.specs.declared.draft.Stage.TheVariants as at
use Rattle.bg_certtext.specs.declared.error.ReadError.{ReadError}
use Rattle.bg_certtext.specs.declared.error.ReadError.TheVariants as errors
use Rattle.bg_certtext.specs.declared.text.CertText.{CertText}
use Rattle.bg_certtext.specs.Lines.{spaced, line}
use Rattle.bg_certtext.specs.Views.{CertOf, cert_of}
use Rattle.bg_certtext.specs.Spellable.{IsSpellable}
use Rattle.bg_certtext.specs.Texts.{lines_of, text_of}
use Rattle.bg_certtext.specs.Words.{words_of, integer}
use Rattle.bg_certtext.specs.Machine.{DraftOf, start, next, after, is_one, is_another, is_other_version, Stands, cert_in, IsNextLine, Stops, Answers}
use Rattle.bg_certtext.specs.Reading.{Begins, IsWhole, IsBadLine, IsOtherVersion, Reads}
use Rattle.bg_certtext.proofs.Joined.{spaced_words}
use Rattle.bg_certtext.proofs.ReadsOptions.{then_made, same_some, both}
use Rattle.bg_certtext.proofs.ReadsNumbers.{integer_back, integer_read}
use Rattle.bg_certtext.proofs.ReadsWords.{same_word}
use Rattle.bg_certtext.proofs.ReadsStates.{State, AtVersion, AtInterp, AtGivens, AtFunctions, AtRetained, AtTable, AtRows, AtNodes, AtSteps, AtSections, AtEnd, Lines, Good, draft_at, written}
use Rattle.bg_certtext.proofs.ReadsRuns.{run_stays}
use Rattle.bg_certtext.proofs.ReadsWholes.{head_spells, good_begins}
use Rattle.bg_certtext.proofs.ReadsForwards.{after_join}
use Rattle.bg_certtext.proofs.ReadsAccepts.{lines_are_accepted}
use Rattle.bg_certtext.proofs.ReadsClean.{is_line, lines_clean, version_clean}
use Rattle.bg_certtext.proofs.ReadsFronts.{is_next_line, words_again, last_clean}

-- ---- a certificate

-- these lines are all of a certificate
abbrev Wholes : Lines → CertOf → Type 0
Wholes lines c = IsSpellable c × (lines_of c ≡ lines)

at_end : (s : State) → Good s → (draft_at s).stage ≡ at.End → Wholes (written s) (cert_in (draft_at s))
at_end AtVersion g e = absurd (cc)
at_end AtInterp g e = absurd (cc)
at_end (AtGivens gs) g e = absurd (cc)
at_end (AtFunctions gs fs) g e = absurd (cc)
at_end (AtRetained i names) g e = absurd (cc)
at_end (AtTable h) g e = absurd (cc)
at_end (AtRows h table m) g e = absurd (cc)
at_end (AtNodes h table nodes t) g e = absurd (cc)
at_end (AtSteps h table nodes t steps m) g e = absurd (cc)
at_end (AtSections h) g e = absurd (cc)
at_end (AtEnd h) g e = (head_spells h g, refl)

ended_whole : (lines : Lines) (d : DraftOf) → after lines start ≡ Some d → d.stage ≡ at.End → Wholes lines (cert_in d)
ended_whole lines d i e =
    let k = run_stays lines d i in
    let p = at_end k.state k.good (ap (λ (d : DraftOf). d.stage) (sym k.is) ∙ e) in
    let same : cert_in (draft_at k.state) ≡ cert_in d = ap cert_in (sym k.is) in
    (subst IsSpellable same p.0, ap lines_of (sym same) ∙ p.1 ∙ sym k.lines_are)

cert_reads : (bytes : List ℕ) (c : CertOf) (d : DraftOf) (n : ℕ) → Stands bytes n d [] → d.stage ≡ at.End → c ≡ cert_in d → IsSpellable c × (bytes ≡ text_of c)
cert_reads bytes c d n st e h =
    let p = ended_whole st.before d st.ran e in
    (subst IsSpellable (sym h) p.0, st.cut ∙ append-nil (flat_map line st.before) ∙ ap (flat_map line) (sym p.1) ∙ ap text_of (sym h))

-- ---- another version

another_by : (v : List ℕ) (o : Option ℤ) → integer v ≡ o → is_another o ≡ true → (z : ℤ) × (fits z ≡ true) × (z ≢ pos 1) × (v ≡ signed_decimal z)
another_by v None e h = absurd (cc)
another_by v (Some z) e h =
    let p = integer_back v z e in
    (z, p.1, λ one. let no : not (is_one (pos 1)) ≡ true = ap (λ (z : ℤ). not (is_one z)) (sym one) ∙ h in cc, p.0)

-- the words of the first line of another version
abbrev Another : List (List ℕ) → Type 0
Another ws = (z : ℤ) × (fits z ≡ true) × (z ≢ pos 1) × (ws ≡ codes "bg-cert" ∷ signed_decimal z ∷ [])

another : (ws : List (List ℕ)) → is_other_version ws ≡ true → Another ws
another [] h = absurd (cc)
another (key ∷ []) h = absurd (cc)
another (key ∷ v ∷ []) h =
    let t = both (bytes_eq key (codes "bg-cert")) (is_another (integer v)) h in
    let (z, f, apart, spelt) = another_by v (integer v) refl t.1 in
    let first : key ≡ codes "bg-cert" = same_word key (codes "bg-cert") t.0 in
    (z, f, apart, let same : key ∷ v ∷ [] ≡ codes "bg-cert" ∷ signed_decimal z ∷ [] = cc (first, spelt) in same)
another (key ∷ v ∷ w ∷ ws) h = absurd (cc)

version_reads : (bytes l : List ℕ) → IsNextLine l bytes → is_other_version (words_of l) ≡ true → IsOtherVersion bytes
version_reads bytes l h e =
    let (z, f, apart, spelt) = another (words_of l) e in (
      z,
      h.behind,
      f,
      apart,
      h.cut
          ∙ sym (append_assoc l (10 ∷ []) h.behind)
          ∙ ap (λ (bs : List ℕ). (bs ++ 10 ∷ []) ++ h.behind) (sym (spaced_words l))
          ∙ ap (λ (ws : List (List ℕ)). line ws ++ h.behind) spelt,
    )

not_one : (z : ℤ) → z ≢ pos 1 → is_one z ≡ false
not_one (pos n) h = ne_eqb n 1 (λ e. h (ap pos e))
not_one (negsuc n) h = refl

version_words_other : (z : ℤ) → fits z ≡ true → z ≢ pos 1 → is_other_version (codes "bg-cert" ∷ signed_decimal z ∷ []) ≡ true
version_words_other z f apart = rw (integer_read z f, not_one z apart) refl

other_next : (bytes : List ℕ) → IsOtherVersion bytes → (l : List ℕ) × IsNextLine l bytes × (is_other_version (words_of l) ≡ true)
other_next bytes h =
    let (z, behind, f, apart, cut) = h in
    let ws : List (List ℕ) = codes "bg-cert" ∷ signed_decimal z ∷ [] in
    let clean : is_line ws ≡ true = version_clean z f in
    (spaced ws, is_next_line ws bytes behind clean cut, ap is_other_version (words_again ws clean) ∙ version_words_other z f apart)

-- ---- a line against the grammar

-- the machine took the lines that stand in front of others that it takes
took_front : (xs : Lines) (ws : List (List ℕ)) (ys : Lines) (d e : DraftOf) → after xs start ≡ Some d → after ((xs ++ ws ∷ []) ++ ys) start ≡ Some e → (f : DraftOf) × (next ws d ≡ Some f)
took_front xs ws ys d e h k =
    let all : after (xs ++ ws ∷ ys) start ≡ Some e = ap (λ (ls : Lines). after ls start) (sym (append_assoc xs (ws ∷ []) ys)) ∙ k in
    let rest : after (ws ∷ ys) d ≡ Some e = sym (after_join xs (ws ∷ ys) start d h) ∙ all in
    let (f, i, j) = then_made (next ws d) (after ys) e rest in
    (f, i)

refused : (bytes : List ℕ) (n : ℕ) (s : Stops bytes n) (ws : List (List ℕ)) (behind : List ℕ) → s.rest ≡ line ws ++ behind → Begins (s.stands.before ++ ws ∷ []) → ⊥
refused bytes n s ws behind cut b =
    let (c, more, spells, lines) = b in
    let before : Lines = s.stands.before in
    let accepted = lines_are_accepted c spells in
    let whole : after ((before ++ ws ∷ []) ++ more) start ≡ Some accepted.draft = ap (λ (ls : Lines). after ls start) (sym lines) ∙ accepted.ran in
    let (f, takes) = took_front before ws more s.draft accepted.draft s.stands.ran whole in
    let clean : is_line ws ≡ true = last_clean before ws more (ap (list_all is_line) (sym (append_assoc before (ws ∷ []) more)) ∙ ap (list_all is_line) (sym lines) ∙ lines_clean c spells) in
    let none : next (words_of (spaced ws)) s.draft ≡ None = s.refuses (spaced ws) (is_next_line ws s.rest behind clean cut) in
    let same : next (words_of (spaced ws)) s.draft ≡ next ws s.draft = ap (λ (us : List (List ℕ)). next us s.draft) (words_again ws clean) in
    let clash : None ≡ Some f = sym none ∙ same ∙ takes in
    cc

not_whole : (bytes : List ℕ) (n : ℕ) (s : Stops bytes n) → s.rest ≡ [] → IsWhole s.stands.before → ⊥
not_whole bytes n s e w =
    let (c, spells, lines) = w in
    let accepted = lines_are_accepted c spells in
    let ran : after s.stands.before start ≡ Some accepted.draft = ap (λ (ls : Lines). after ls start) (sym lines) ∙ accepted.ran in
    let same : s.draft ≡ accepted.draft = same_some s.draft accepted.draft (sym s.stands.ran ∙ ran) in
    s.short e (ap (λ (d : DraftOf). d.stage) same ∙ accepted.ended)

bad_reads : (bytes : List ℕ) (n : ℕ) → Stops bytes n → IsBadLine bytes n
bad_reads bytes n s =
    let k = run_stays s.stands.before s.draft s.stands.ran in
    record {
      before = s.stands.before;
      rest = s.rest;
      cut = s.stands.cut;
      count = s.stands.count;
      begins = subst Begins (sym k.lines_are) (good_begins k.state k.good);
      stops = refused bytes n s;
      short = not_whole bytes n s;
    }

pub answers_are_readings : (bytes : List ℕ) (r : Result CertText ReadError) → Answers bytes r → Reads bytes r
answers_are_readings bytes (Ok c) h = let (d, n, st, e, k) = h in cert_reads bytes (cert_of c) d n st e k
answers_are_readings bytes (Err errors.Version) h = let (l, n, e) = h in version_reads bytes l n e
answers_are_readings bytes (Err (errors.BadLine n)) h =
    (bad_reads bytes n h.0, λ o. let (l, k, e) = other_next bytes o in let no = h.1 l k in let clash : true ≡ false = sym e ∙ no in cc)
answers_are_readings bytes (Err errors.Memory) h = tt
