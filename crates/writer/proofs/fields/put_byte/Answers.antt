use Rattle.writer.proofs.Stores.{put_one}
use Rattle.writer.proofs.fields.put_byte.Goals as goal

pub returns : goal.returns
returns c = put_one c.args.v c.args.out.now c.ranges.v.fits c.requires
