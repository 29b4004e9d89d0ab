-- `play_rewritten` plays on what the rewriting left at the front of its buffer.
use Prim.Native.Nat.{◌≤◌}
use lib.ListN.{length, length-take}
use native.Mathlib.Omega.{arith}
use Rattle.std.proofs.lemmas.Result.{err_from_is_err_and}
use Rattle.equivalence.proofs.RewrittenFile.{left, board_refused, board_played}
use Rattle.equivalence.proofs.play_rewritten.Goals as goal

pub returns-in_err-rewriting : goal.returns-in_err-rewriting
returns-in_err-rewriting c =
    let p = err_from_is_err_and c.from_residual.result c.from_residual.ensures.1 in
    rw (p.1, p.2) (board_refused _ _ _ _ _ c.in_err-rewriting.ensures.answer)

pub slice_bounds-out-end : goal.slice_bounds-out-end
slice_bounds-out-end c =
    let answer = c.in_ok-rewriting.ensures.answer in
    (left c.args.k c.args.file.now _ c.in_ok-rewriting.rewriting.length c.rewrite.new.out answer c.rewrite.ensures.lent).room

pub slice_bounds-board_file-end : goal.slice_bounds-board_file-end
slice_bounds-board_file-end c =
    let answer = c.in_ok-rewriting.ensures.answer in
    let room : c.in_ok-rewriting.rewriting.length ≤ length c.rewrite.new.out =
    (left c.args.k c.args.file.now _ c.in_ok-rewriting.rewriting.length c.rewrite.new.out answer c.rewrite.ensures.lent).room in
    simp length-take (omega arith)

pub returns : goal.returns
returns c =
    let answer = c.in_ok-rewriting.ensures.answer in
    let made = left c.args.k c.args.file.now _ c.in_ok-rewriting.rewriting.length c.rewrite.new.out answer c.rewrite.ensures.lent in
    board_played _ _ _ _ _ made c.play.ensures
