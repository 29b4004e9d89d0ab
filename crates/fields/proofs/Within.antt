-- What bounds a number that was read: its limit, and what the width of a version's constants comes to.
use Rattle.model.proofs.Versions.{width_most, width_fits, tests_most}
use Rattle.file_format.proofs.Parsed.{below_limit}

pub ruleset within = (below_limit, width_most, width_fits, tests_most)
