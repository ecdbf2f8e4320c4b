-- The first file of the name is started.
use Rattle.std.proofs.Common.{◌≡◌, length, position, unwrap_or, is_some, ap, ◌∙◌, Some}
use Rattle.bg_io.specs.Stored.{bytes_at, has_name}
use Rattle.bg_io.proofs.Shelves.{bytes_at_first, is_some-position}
use Rattle.bg_io.proofs.stored.Shelf.start.Goals as goal

pub returns-clause-held : goal.returns-clause-held
returns-clause-held c =
    let first = c.first_named-found.ensures ∙ ap (position (has_name c.args.name.now)) c.deref.ensures.value in
    c.is_some.ensures ∙ ap is_some first ∙ is_some-position c.args.self.now.files.items c.args.name.now

pub returns-clause-left : goal.returns-clause-left
returns-clause-left c =
    let files = c.args.self.now.files in
    let first = c.first_named-found.ensures ∙ ap (position (has_name c.args.name.now)) c.deref.ensures.value in
    let place : c.unwrap_or.result ≡ unwrap_or (position (has_name c.args.name.now) files.items) (length files.items) = cc (c.unwrap_or.ensures, c.len.ensures, files.ok.0, first) in
    ap (λ place. Some (bytes_at files.items place)) place ∙ ap Some (bytes_at_first files.items c.args.name.now)
