-- `rewrite_and_play` plays on the file and on what the rewriting left at the front of its buffer.
use Rattle.judgement.proofs.Reading.{bytes_are}
use Rattle.equivalence.proofs.RewrittenFile.{claim_of}
use Rattle.equivalence.proofs.rewrite_and_play.Goals as goal

pub returns : goal.returns
returns c =
    claim_of _ _ _ _ _ _ _ (bytes_are c.args.file.now (λ i. (c.type_inv.file i).fits)) c.play-drawn.ensures c.play_rewritten-board.ensures
