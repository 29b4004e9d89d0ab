-- `put_test` meets its contract: three fields one after another.
use Rattle.file_format.proofs.Lengths.{length_digits}
use Rattle.writer.specs.Bytes.{test_bytes}
use Rattle.chart_lists.proofs.Fields.{fields_three}
use Rattle.writer.proofs.records.put_test.Goals as goal

pub returns : goal.returns
unfolding test_bytes
returns c = fields_three _ _ _ _ 1 2 (simp length_digits) (simp length_digits)
    c.put_byte.ensures c.put_byte-2.ensures c.put_constant.ensures
