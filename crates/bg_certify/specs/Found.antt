-- The certificates that an outcome has for places.
use Rattle.std.specs.Prelude.{ℕ, suc, Bool, List, [], ◌∷◌, Option, Some, None, drop, slice_get, if◌then◌else◌}
use Rattle.bg_ast.specs.Resolved as r
use Rattle.bg_cert.specs.declared.cert.Cert.{Cert}
use Rattle.bg_term_table.specs.declared.line.Line.{Line}
use Rattle.bg_places.specs.Placed.{Placed, placed_impl}
use Rattle.bg_rounds.specs.declared.checker.Kept.{Kept}
use Rattle.bg_check.specs.declared.proof.Proof.{Proof}
use Rattle.bg_check.specs.declared.verdict.Verdict.{Verdict}
use Rattle.bg_check.specs.declared.verdict.Verdict.TheVariants.{Proved, Refuted, Unknown, Left}
use Rattle.bg_check.specs.declared.verdict.Judged.{Judged}

-- a certificate of a place's clauses behind lines
pub record Shown : Type 0 where
  pub lines : List Line
  pub cert : Cert

abbrev pub shown_of : Proof → Shown
shown_of p = record { lines = p.lines.items; cert = p.cert }

-- where it is kept
abbrev pub shown_if : Option Proof → Option Shown
shown_if None = None
shown_if (Some p) = Some (shown_of p)

abbrev pub cert_kept : Option (Option (Kept (Option Proof))) → Option Shown
cert_kept None = None
cert_kept (Some None) = None
cert_kept (Some (Some k)) = shown_if k.proof

abbrev pub cert_proved : Verdict → Option Shown
cert_proved (Proved proof) = shown_if proof
cert_proved (Refuted cex) = None
cert_proved (Unknown rounds cause) = None
cert_proved (Left kept) = None

abbrev pub cert_judged : Option Judged → Option Shown
cert_judged None = None
cert_judged (Some j) = cert_proved j.verdict

-- the certificate of a place: the first of those that are kept, where its candidate is in the set, or that of the first verdict, where it
-- has no candidate
abbrev pub cert_for : (ℕ → Bool) → List (Option (Kept (Option Proof))) → List Judged → Option ℕ → Option Shown
cert_for set ks js (Some b) = if set b then cert_kept (slice_get ks 0) else None
cert_for set ks js None = cert_judged (slice_get js 0)

-- what is kept, and what is judged, for the places behind one
abbrev pub kept_behind : Option ℕ → List (Option (Kept (Option Proof))) → List (Option (Kept (Option Proof)))
kept_behind (Some b) ks = drop 1 ks
kept_behind None ks = ks

abbrev pub judged_behind : Option ℕ → List Judged → List Judged
judged_behind (Some b) js = js
judged_behind None js = drop 1 js

-- the certificates of these places, in their order
abbrev pub certs_for : (ℕ → Bool) → List (Option (Kept (Option Proof))) → List Judged → List Placed → List (Option Shown)
certs_for set ks js [] = []
certs_for set ks js (a ∷ xs) =
    cert_for set ks js a.place.candidate ∷ certs_for set (kept_behind a.place.candidate ks) (judged_behind a.place.candidate js) xs

-- what is kept for the places behind these
abbrev pub kept_after : List (Option (Kept (Option Proof))) → List Placed → List (Option (Kept (Option Proof)))
kept_after ks [] = ks
kept_after ks (a ∷ xs) = kept_after (kept_behind a.place.candidate ks) xs

-- those of these implementations, numbered from k on
abbrev pub certs_from : List r.Proc → (ℕ → Bool) → List (Option (Kept (Option Proof))) → ℕ → List r.Impl → List (List Judged) → List (List (Option Shown))
certs_from qs set ks k [] jss = []
certs_from qs set ks k (m ∷ ms) [] = []
certs_from qs set ks k (m ∷ ms) (js ∷ jss) =
    certs_for set ks js (placed_impl qs k m) ∷ certs_from qs set (kept_after ks (placed_impl qs k m)) (suc k) ms jss
