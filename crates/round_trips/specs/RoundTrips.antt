-- What the reader makes of a file that was written, and the writer of lists that were read, by the definitions of both entry points.
use Rattle.std.specs.Prelude.{◌≡◌, List, ℕ, length, take}
use Rattle.model.specs.Answer.{returned}
use Rattle.file_format.specs.File.{file_of}
use Rattle.chart_lists.specs.Lists.{Lists, put, put_lists, overwritten}
use Rattle.chart_lists.specs.declared.Header.{Header}
use Rattle.list_judging.specs.FileFrom.{tests_before}
use Rattle.reader.specs.Reading.{read_into, read_answer, lists_after}
use Rattle.writer.specs.Writing.{write_into, write_answer}

-- of each list as many entries as the header and the numbers of tests call for
unfoldable pub fronts : Header → Lists → Lists
fronts m l = let tests = tests_before l m.transitions in record {
  accepting = take m.accepting l.accepting;
  sources = take m.transitions l.sources;
  targets = take m.transitions l.targets;
  events = take m.transitions l.events;
  starts = take m.transitions l.starts;
  test_counts = take m.transitions l.test_counts;
  timers = take tests l.timers;
  codes = take tests l.codes;
  constants = take tests l.constants;
}

-- the file is read into the lent lists as the header m and the lists l: the answer is m, and the fronts of l stand over the lent ones
pub record ReadBack (file : List ℕ) (m : Header) (l lent : Lists) : Type 0 where
  pub answer : read_answer lent file ≡ returned m
  pub lists : lists_after (read_into lent file) lent ≡ put_lists (fronts m l) lent

-- the header m and the lists l are written into the lent buffer as the file: the answer is its length, and it stands over the buffer's front
pub record WrittenBack (file : List ℕ) (m : Header) (l : Lists) (out : List ℕ) : Type 0 where
  pub answer : write_answer (length out) m l ≡ returned (length file)
  pub buffer : overwritten file_of (write_into (length out) m l) out ≡ put file out
