-- Kept rows follow from the given ones, and the other way round.
use Rattle.std.proofs.Common.{◌≡◌, ℕ, true, List, [], ◌∷◌, ◌++◌, ℤ, ◌⊎◌, inl, inr, refl}
use Rattle.std.specs.Prelude.{Option, Some, None}
use Rattle.bg_rows.specs.Rows.{RowOf, Meets, AllMeet, tightened}
use Rattle.bg_rows.specs.Steps.{row_at, tight_of}
use Rattle.bg_rows.proofs.Meaning.{eliminated_follows}
use Rattle.bg_rows.proofs.Divisors.{tightened_keeps}
use Rattle.bg_rows.proofs.Sound.{at_met, snoc_met}
use Rattle.bg_elim.specs.declared.order.Reason.{Reason}
use Rattle.bg_elim.specs.declared.order.Reason.TheVariants.{Given, Tightened, Eliminated}
use Rattle.bg_elim.specs.Kept.{is_true_row, Among, AllKept, reason_row, made_rows}
use Rattle.bg_elim.proofs.Rounds.{true_met}
use Rattle.bg_elim.proofs.Derive.{gone_parts}

pub suffices : (v : ℕ → ℤ) (given rows : List RowOf) → AllKept given rows → AllMeet v rows → AllMeet v given
suffices v [] rows k m = tt
suffices v (g ∷ given) rows k m = (by_cases k.0, suffices v given rows k.1 m)
  where
    by_cases : (is_true_row g ≡ true) ⊎ (Among g rows ⊎ Among (tightened g) rows) → Meets v g
    by_cases (inl t) = true_met v g t
    by_cases (inr (inl a)) = at_met v rows a.0 g m a.1
    by_cases (inr (inr a)) = (tightened_keeps v g).1 (at_met v rows a.0 (tightened g) m a.1)

tight_met : (v : ℕ → ℤ) (x : Option RowOf) (r : RowOf) → ((s : RowOf) → x ≡ Some s → Meets v s) → tight_of x ≡ Some r → Meets v r
tight_met v None r h e = absurd (cc)
tight_met v (Some s) r h e = let is : tightened s ≡ r = cc in rw (← is) ((tightened_keeps v s).0 (h s refl))

reason_met : (v : ℕ → ℤ) (given : List RowOf) (order : List ℕ) (made : List RowOf) (reason : Reason) (r : RowOf) → AllMeet v given → AllMeet v made → reason_row given order made reason ≡ Some r → Meets v r
reason_met v given order made (Given j) r g m e = at_met v given j r g e
reason_met v given order made (Tightened i) r g m e = tight_met v (row_at made i) r (λ s h. at_met v made i s m h) e
reason_met v given order made (Eliminated i j x) r g m e =
    let p = gone_parts order x (row_at made i) (row_at made j) r e in
    eliminated_follows v p.up p.low r x p.is (at_met v made i p.up m p.first) (at_met v made j p.low m p.second)

follows_from : (v : ℕ → ℤ) (given : List RowOf) (order : List ℕ) (made : List RowOf) (reasons : List Reason) (rows : List RowOf) → AllMeet v given → AllMeet v made → made_rows given order made reasons ≡ Some rows → AllMeet v rows
follows_from v given order made [] rows g m e = let is : made ≡ rows = cc in rw (← is) m
follows_from v given order made (r ∷ reasons) rows g m e = by_row (λ q h k. follows_from v given order (made ++ (q ∷ [])) reasons rows g (snoc_met v made q m k) h) (reason_row given order made r) refl e
  where
    by_row : ((q : RowOf) → made_rows given order (made ++ (q ∷ [])) reasons ≡ Some rows → Meets v q → AllMeet v rows) → (x : Option RowOf) → reason_row given order made r ≡ x → (elim x [ None ↦ None | Some q ↦ made_rows given order (made ++ (q ∷ [])) reasons ]) ≡ Some rows → AllMeet v rows
    by_row f None a h = absurd (cc)
    by_row f (Some q) a h = f q h (reason_met v given order made r q g m a)

pub follows : (v : ℕ → ℤ) (given : List RowOf) (order : List ℕ) (reasons : List Reason) (rows : List RowOf) → made_rows given order [] reasons ≡ Some rows → AllMeet v given → AllMeet v rows
follows v given order reasons rows e g = follows_from v given order [] reasons rows g tt e
