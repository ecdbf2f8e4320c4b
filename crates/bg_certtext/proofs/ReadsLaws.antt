-- What is read of a text is the certificate that was written, and no text stands in front of another.
use Rattle.std.proofs.Common.{◌≡◌, ℕ, true, List, [], ◌∷◌, ◌++◌, flat_map, codes, Option, Some, None, Result, Ok, Err, ℤ, pos, refl, ap, sym, ◌∙◌, append_assoc, append-nil, arith}
use Rattle.std.proofs.lemmas.Fmt.{decimal_digit}
use Rattle.std.specs.List.{list_all}
use Rattle.std.specs.Fmt.{decimal, signed_decimal}
use Rattle.bg_base.specs.Exact.{fits}
use Rattle.bg_certtext.specs.declared.draft.Stage.TheVariants as at
use Rattle.bg_certtext.specs.declared.error.ReadError.{ReadError}
use Rattle.bg_certtext.specs.declared.error.ReadError.TheVariants as errors
use Rattle.bg_certtext.specs.declared.text.CertText.{CertText}
use Rattle.bg_certtext.specs.Lines.{line}
use Rattle.bg_certtext.specs.Views.{CertOf, cert_of}
use Rattle.bg_certtext.specs.Spellable.{IsSpellable}
use Rattle.bg_certtext.specs.Texts.{lines_of, text_of, version_words}
use Rattle.bg_certtext.specs.Words.{integer}
use Rattle.bg_certtext.specs.Machine.{DraftOf, start, then_, next, after, by_stage, cert_in}
use Rattle.bg_certtext.specs.Reading.{IsBadLine, IsOtherVersion, Reads, GivesBack}
use Rattle.bg_certtext.proofs.ReadsOptions.{same_some, both}
use Rattle.bg_certtext.proofs.ReadsNumbers.{integer_read}
use Rattle.bg_certtext.proofs.ReadsStates.{Lines}
use Rattle.bg_certtext.proofs.ReadsForwards.{after_join}
use Rattle.bg_certtext.proofs.ReadsAccepts.{lines_are_accepted}
use Rattle.bg_certtext.proofs.ReadsClean.{is_line, lines_clean, version_clean}
use Rattle.bg_certtext.proofs.ReadsFronts.{fronts, front_clean, same_first}

-- ---- texts

nothing_behind : (others : Lines) (d e : DraftOf) → d.stage ≡ at.End → after others d ≡ Some e → (others ≡ []) × (d ≡ e)
nothing_behind [] d e s h = (refl, same_some d e h)
nothing_behind (ws ∷ rest) d e s h =
    let none : next ws d ≡ None = ap (λ (st : _). by_stage st ws d) s in
    let clash : None ≡ Some e = sym (ap (λ (o : Option DraftOf). then_ o (after rest)) none) ∙ h in
    absurd (cc)

pub no_text_in_front : (c d : CertOf) (more : List ℕ) → IsSpellable c → IsSpellable d → text_of c ++ more ≡ text_of d → (c ≡ d) × (more ≡ [])
no_text_in_front c d more h k e =
    let f = fronts (lines_of c) (lines_of d) more (lines_clean c h) (lines_clean d k) e in
    let p = lines_are_accepted c h in
    let q = lines_are_accepted d k in
    let rest : after f.others p.draft ≡ Some q.draft = sym (after_join (lines_of c) f.others start p.draft p.ran) ∙ ap (λ (ls : Lines). after ls start) (sym f.lines_are) ∙ q.ran in
    let n = nothing_behind f.others p.draft q.draft p.ended rest in
    (sym p.has ∙ ap cert_in n.1 ∙ q.has, f.rest_is ∙ ap (flat_map line) n.0)

-- ---- what is read of them

one_read : (z : ℤ) → fits z ≡ true → codes "1" ≡ signed_decimal z → z ≡ pos 1
one_read z f e =
    let digit : decimal 1 ≡ codes "1" = decimal_digit 1 (omega arith) in
    same_some z (pos 1) (sym (integer_read z f) ∙ ap integer (sym e ∙ sym digit) ∙ integer_read (pos 1) refl)

no_other_version : (c : CertOf) → IsSpellable c → IsOtherVersion (text_of c) → ⊥
no_other_version c h o =
    let (z, behind, f, apart, cut) = o in
    let p = both (is_line version_words) _ (lines_clean c h) in
    let s = same_first version_words (codes "bg-cert" ∷ signed_decimal z ∷ []) _ behind p.0 (version_clean z f) cut in
    let words : codes "1" ≡ signed_decimal z = cc (s.0) in
    apart (one_read z f words)

goes_on : (c : CertOf) (n : ℕ) (b : IsBadLine (text_of c) n) → IsSpellable c → (others : Lines) → lines_of c ≡ b.before ++ others → b.rest ≡ flat_map line others → ⊥
goes_on c n b h [] e k = b.short k (c, h, e ∙ append-nil b.before)
goes_on c n b h (ws ∷ others) e k = b.stops ws (flat_map line others) k (c, others, h, e ∙ sym (append_assoc b.before (ws ∷ []) others))

no_bad_line : (c : CertOf) (n : ℕ) → IsSpellable c → IsBadLine (text_of c) n → ⊥
no_bad_line c n h b =
    let (d, more, k, lines) = b.begins in
    let clean : list_all is_line b.before ≡ true = front_clean b.before more (ap (list_all is_line) (sym lines) ∙ lines_clean d k) in
    let f = fronts b.before (lines_of c) b.rest clean (lines_clean c h) (sym b.cut) in
    goes_on c n b h f.others f.lines_are f.rest_is

pub written_is_read : (c : CertOf) (r : Result CertText ReadError) → IsSpellable c → Reads (text_of c) r → GivesBack c r
written_is_read c (Ok t) h k = sym (no_text_in_front c (cert_of t) [] h k.0 (append-nil (text_of c) ∙ k.1)).0
written_is_read c (Err errors.Version) h k = no_other_version c h k
written_is_read c (Err (errors.BadLine n)) h k = no_bad_line c n h k.0
written_is_read c (Err errors.Memory) h k = tt
