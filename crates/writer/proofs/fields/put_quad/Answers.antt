use mathlib.Core.Path.{◌∙◌}
use Rattle.writer.proofs.Stores.{put_four}
use Rattle.writer.proofs.fields.put_quad.Goals as goal

pub returns : goal.returns
returns c = put_four c.args.v c.args.out.now (c.copy_from_slice.ensures.after ∙ c.to_be_bytes.ensures)
