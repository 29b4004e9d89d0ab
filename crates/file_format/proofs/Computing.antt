-- What a proof by computation unfolds of this layer and those below: `unfolding files_compute` stands for these definitions.
use Rattle.comparison.specs.Comparison.{comparison_of, code_of}
use Rattle.model.proofs.Computing.{charts_compute}
use Rattle.file_format.specs.Parse.{number, below, many, entry, rising, digits, write_all}
use Rattle.file_format.specs.Body.{read_comparison, read_test, read_tests, record_length, read_transition, read_transitions}
use Rattle.file_format.specs.Body.{read_header, chart_of, read_body, write_test, write_transition, write_header, write_body}
use Rattle.file_format.specs.File.{read_frame, judge_frame, read_file, write_file, chart_in, file_of}

unfoldable pub files_compute : Unit {0}
unfolding charts_compute comparison_of code_of number below many entry rising digits write_all
    read_comparison read_test read_tests record_length read_transition read_transitions read_header chart_of read_body
    write_test write_transition write_header write_body
    read_frame judge_frame read_file write_file chart_in file_of
files_compute = tt
