use mathlib.Core.Path.{◌∙◌}
use Rattle.writer.proofs.Stores.{put_two}
use Rattle.writer.proofs.fields.put_pair.Goals as goal

pub returns : goal.returns
returns c = put_two c.args.v c.args.out.now (c.copy_from_slice.ensures.after ∙ c.to_be_bytes.ensures)
