-- `write` meets its contract: what is answered and left in the buffer, by what the judgement says and by the room.
use mathlib.Core.Path.{sym, ◌∙◌}
use lib.ListN.{length}
use Rattle.list_judging.proofs.Answers.{passed_on}
use Rattle.writer.proofs.Writing.{write_refused, write_short, write_writable, write_done}
use Rattle.writer.proofs.write.Goals as goal

pub returns-in_err-n : goal.returns-in_err-n
returns-in_err-n c =
    let w = write_refused (length c.args.out.now) _ _ c.args.out.now (sym c.in_err-n.ensures) in
    record { answer = passed_on _ _ c.from_residual.ensures ∙ sym w.0; lent = sym w.1 }

pub returns-then-out-n : goal.returns-then-out-n
returns-then-out-n c =
    let w = write_short (length c.args.out.now) _ _ c.args.out.now (sym c.in_ok-n.ensures) c.if-out-n.true in
    record { answer = sym w.0; lent = sym w.1 }

pub write_file-requires : goal.write_file-requires
write_file-requires c = write_writable (length c.args.out.now) _ _ c.args.out.now (sym c.in_ok-n.ensures) c.if-out-n.false

pub returns : goal.returns
returns c =
    let w = write_done (length c.args.out.now) _ _ c.args.out.now (sym c.in_ok-n.ensures) c.if-out-n.false in
    record { answer = sym w.0; lent = c.write_file.ensures ∙ sym w.1 }
