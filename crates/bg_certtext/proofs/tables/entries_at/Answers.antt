use Rattle.std.proofs.Common.{sym, ap, ◌∙◌}
use Rattle.std.specs.Prelude.{option_map}
use Rattle.std.proofs.lemmas.List.{map_push}
use Rattle.bg_certtext.specs.Views.{entry_of}
use Rattle.bg_certtext.specs.Texts.{key_text}
use Rattle.bg_certtext.specs.Machine.{key_at}
use Rattle.bg_certtext.specs.Got.{entry_got, pair_of, pairs_of, entries_at, prefix}
use Rattle.bg_certtext.proofs.ReadsKeys.{are_values, key_cuts}
use Rattle.bg_certtext.proofs.ReadsLoops.{nothing_before, more_rows, row_less}
use Rattle.bg_certtext.proofs.tables.entries_at.Goals as goal

pub loop-last-init : goal.loop-last-init
loop-last-init c =
    let bs = c.args.bytes.now in
    ap (λ es. prefix (pairs_of es) (entries_at bs)) c.new-entries.ensures.items ∙ nothing_before (entries_at bs)

pub loop-last-smaller : goal.loop-last-smaller
loop-last-smaller c =
    row_less key_at key_text are_values key_cuts c.loop-last.rest.now (pair_of (entry_of c.in-Some-2.entry), c.in-Some-2.more.now) (sym c.in_ok-entry.ensures ∙ ap (option_map entry_got) c.in-Some-2.is)

pub loop-last-preserved : goal.loop-last-preserved
loop-last-preserved c =
    more_rows key_at key_text are_values key_cuts (pairs_of c.loop-last.entries.items) (pairs_of c.push.new.self.items) c.loop-last.rest.now (pair_of (entry_of c.in-Some-2.entry), c.in-Some-2.more.now) _
    (ap pairs_of c.in_ok-push.ensures.items ∙ map_push (λ e. pair_of (entry_of e)) c.loop-last.entries.items c.in-Some-2.entry)
    (sym c.in_default.ensures) (sym c.in_ok-entry.ensures ∙ ap (option_map entry_got) c.in-Some-2.is) c.loop-last.invariant
