-- `write_cleared` meets its contract: what clearing leaves are the lists of the chart that is renamed and written.
use mathlib.Core.Path.{sym, ◌∙◌}
use Rattle.model.specs.Spare.{spare_cleared}
use Rattle.spare.proofs.ClearedLists.{cleared_header, holds_clearing, holds_all}
use Rattle.rewriting.proofs.writing.write_cleared.Goals as goal

pub clear_spare-requires : goal.clear_spare-requires
clear_spare-requires c = (c.requires.0, c.requires.2, c.requires.3, holds_clearing c.requires.4)

pub write_renamed-requires : goal.write_renamed-requires
write_renamed-requires c =
    let p = c.requires in
    let k = c.clear_spare.ensures p.0 p.2 p.3 (holds_clearing p.4) in
    (spare_cleared p.0, p.1, p.2 ∙ sym (cleared_header p.0), rw c.lists.ensures (holds_all p.4 k), p.5)

pub returns : goal.returns
returns c = record {
  answer = λ d N is reached h cells s u.
      let k = c.clear_spare.ensures d is reached (holds_clearing h) in
      c.write_renamed.ensures.answer (spare_cleared d) N (is ∙ sym (cleared_header d)) (rw c.lists.ensures (holds_all h k)) cells s u;
  lent = λ d N is reached h cells s u.
      let k = c.clear_spare.ensures d is reached (holds_clearing h) in
      c.write_renamed.ensures.lent (spare_cleared d) N (is ∙ sym (cleared_header d)) (rw c.lists.ensures (holds_all h k)) cells s u;
}
