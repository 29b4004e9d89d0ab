-- `put_triple` meets its contract: three fields one after another.
use Rattle.file_format.proofs.Lengths.{length_digits}
use Rattle.chart_lists.proofs.Fields.{fields_three}
use Rattle.writer.specs.Bytes.{triple_bytes}
use Rattle.writer.proofs.fields.put_triple.Goals as goal

pub returns : goal.returns
unfolding triple_bytes
returns c = fields_three _ _ _ _ 2 4 (simp length_digits) (simp length_digits)
    c.put_pair.ensures c.put_pair-2.ensures c.put_byte.ensures
