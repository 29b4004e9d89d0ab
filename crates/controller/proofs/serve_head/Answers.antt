-- `serve_head` cuts the head's file and its counts out.
use Rattle.controller.proofs.HeadInTurn.{own_counts, own_file, sound_serving, shows}
use Rattle.controller.proofs.serve_head.Goals as goal

pub serve-requires : goal.serve-requires
serve-requires c =
    let own = own_counts c.args.o c.args.n c.args.state.counts c.starting_counts-own.ensures in
    record { file_value = (c.requires.0, own_file c.requires.1 c.file.ensures); sound_serving = sound_serving c.requires.1 own }

pub returns : goal.returns
returns c = λ ch w.
    let own = own_counts c.args.o c.args.n c.args.state.counts c.starting_counts-own.ensures in
    c.serve.ensures ch (own_file w c.file.ensures) _ (shows w own)
