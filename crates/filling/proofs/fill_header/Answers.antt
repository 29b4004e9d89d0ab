-- `fill_header` reads what `header_at` reads, and stores the accepting locations on the way.
use mathlib.Core.Path.{sym, ◌∙◌}
use lib.ListN.{drop}
use Rattle.file_judging.proofs.HeaderParts.{header_limits, header_accepting, header_rest, header_never, header_entries}
use Rattle.filling.proofs.HeaderFill.{accepting_room}
use Rattle.filling.proofs.fill_header.Goals as goal

pub returns-in_default : goal.returns-in_default
returns-in_default c =
    let r = header_limits c.args.version (drop c.args.at c.args.s.now) (sym (rw c.unwrap_err.ensures at c.limits_at-a.ensures)) in
    record { read = r; stored = λ h t q. absurd (header_never _ _ r h t q) }

pub fill_accepting-b-requires : goal.fill_accepting-b-requires
fill_accepting-b-requires c = accepting_room c.requires (sym c.in-Ok.ensures)

pub returns-in_default-b : goal.returns-in_default-b
returns-in_default-b c =
    let e = sym (rw c.unwrap_err-in_default-b.ensures at c.fill_accepting-b.ensures.read) in
    let r = header_accepting c.args.version (drop c.args.at c.args.s.now) (sym c.in-Ok.ensures) e in
    record { read = r; stored = λ h t q. absurd (header_never _ _ r h t q) }

pub returns : goal.returns
returns c = record {
  read = c.count_at.ensures ∙ header_rest _ _ (sym c.in-Ok.ensures) (sym c.in-Ok-b.ensures.read);
  stored = λ h t q. c.fill_accepting-b.ensures.stored h.accepting _ (header_entries _ (sym c.in-Ok.ensures) h t q).1;
}
