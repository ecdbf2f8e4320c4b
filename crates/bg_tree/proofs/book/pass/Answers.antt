use Rattle.std.proofs.Common.{◌∙◌, sym}
use Rattle.bg_tree.proofs.Books.{passes_kept, passes_spared, small_taken}
use Rattle.bg_tree.proofs.book.pass.Goals as goal

pub spare-requires : goal.spare-requires
spare-requires c =
    record { small = small_taken c.args.book.now c.charge.new.book c.take.new.book c.args.is_closed c.requires.small c.charge.ensures.left c.charge.ensures.owed c.take.ensures }

pub returns-then-is_spared : goal.returns-then-is_spared
returns-then-is_spared c =
    passes_spared c.args.book.now c.charge.new.book c.take.new.book c.spare.new.book c.args.is_closed c.charge.ensures.owed c.charge.ensures.left c.take.ensures (sym c.spares-is_spared.ensures ∙ c.if-is_spared.true) c.requires.room c.spare.ensures.left c.spare.ensures.head c.spare.ensures.owed

pub returns-else-is_spared : goal.returns-else-is_spared
returns-else-is_spared c =
    passes_kept c.args.book.now c.charge.new.book c.take.new.book c.args.is_closed c.charge.ensures.owed c.charge.ensures.left c.take.ensures c.requires.due (sym c.spares-is_spared.ensures ∙ c.if-is_spared.false)
