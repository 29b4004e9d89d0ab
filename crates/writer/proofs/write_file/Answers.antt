-- `write_file` meets its contract: front, accepting locations, number of transitions and records one after another, all of which the length of the
-- file has room for.
use mathlib.Core.Path.{sym, ◌∙◌}
use native.Mathlib.Omega.{arith}
use Rattle.model.specs.Version.{width_of}
use Rattle.file_format.specs.File.{file_of}
use Rattle.chart_lists.proofs.Fields.{fields_first, fields_next, fields_done}
use Rattle.chart_lists.proofs.Overwritten.{overwritten_result}
use Rattle.writer.specs.Bytes.{records}
use Rattle.writer.proofs.FileBytes.{length_front, length_accepted, length_counted}
use Rattle.writer.proofs.FileBytes.{writable_room, writable_fit, writable_transitions, writable_parts}
use Rattle.writer.proofs.write_file.Goals as goal

pub overflow_sub-n : goal.overflow_sub-n
overflow_sub-n c =
    let k = writable_room _ _ _ _ c.requires in
    omega arith

pub overflow_cast-n : goal.overflow_cast-n
overflow_cast-n c =
    let k = writable_room _ _ _ _ c.requires in
    omega arith

pub put_front-requires : goal.put_front-requires
put_front-requires c =
    let k = writable_room _ _ _ _ c.requires in
    omega arith

pub slice_bounds-put_accepting-count : goal.slice_bounds-put_accepting-count
slice_bounds-put_accepting-count c =
    let k = writable_room _ _ _ _ c.requires in
    omega arith

pub slice_bounds-put_accepting-start : goal.slice_bounds-put_accepting-start
slice_bounds-put_accepting-start c =
    let k = writable_room _ _ _ _ c.requires in
    omega arith

pub put_accepting-requires : goal.put_accepting-requires
put_accepting-requires c =
    let k = writable_room _ _ _ _ c.requires in
    (k.accepting, omega (arith, k.size, k.fits))

pub slice_bounds-put_pair-count : goal.slice_bounds-put_pair-count
slice_bounds-put_pair-count c =
    let k = writable_room _ _ _ _ c.requires in
    omega arith

pub slice_bounds-put_pair-start : goal.slice_bounds-put_pair-start
slice_bounds-put_pair-start c =
    let k = writable_room _ _ _ _ c.requires in
    omega arith

pub put_pair-requires : goal.put_pair-requires
put_pair-requires c =
    let k = writable_room _ _ _ _ c.requires in
    omega arith

pub slice_bounds-write_records-count : goal.slice_bounds-write_records-count
slice_bounds-write_records-count c =
    let k = writable_room _ _ _ _ c.requires in
    omega arith

pub slice_bounds-write_records-start : goal.slice_bounds-write_records-start
slice_bounds-write_records-start c =
    let k = writable_room _ _ _ _ c.requires in
    omega arith

pub write_records-requires : goal.write_records-requires
write_records-requires c =
    let k = writable_room _ _ _ _ c.requires in
    record {
      room = k.records_fit _ (omega (arith, k.size, k.fits));
      fit = writable_fit _ _ _ _ c.requires;
    }

pub returns : goal.returns
returns c =
    let bytes = records (width_of c.args.header.version) in
    let a = fields_next (fields_first c.put_front.ensures) 12 _ (length_front _ _) c.put_accepting.ensures in
    let b = fields_next a _ _ (length_accepted _ _ _) c.put_pair.ensures in
    let written = c.write_records.ensures ∙ overwritten_result bytes _ (writable_transitions _ _ _ _ c.requires) in
    let d = fields_next b _ _ (length_counted _ _ _) written in
    fields_done _ d (writable_parts _ _ _ _ c.requires) ∙ sym (overwritten_result file_of _ c.requires.is)
