-- When a chart that is to be written as version 1 has a constant that this version does not hold (document 02, P2). That 17 is given exactly then is
-- shown in the writer's proofs/Refusals.
use Rattle.std.specs.Prelude.{◌≡◌}
use Rattle.model.specs.Answer.{returned}
use Rattle.model.specs.Chart.{Chart}
use Rattle.model.specs.Version.{LargeConstant}
use Rattle.chart_lists.specs.Lists.{Lists}
use Rattle.chart_lists.specs.declared.Header.{Header}
use Rattle.list_judging.specs.FromLists.{fields_from}

-- no field fails, the version is 1, and a test of a transition has a constant over 65,535
pub record LargeInVersion1 (m : Header) (l : Lists) : Type 0 where
  pub chart : Chart
  pub is : fields_from m l ≡ returned chart
  pub version : chart.version ≡ 1
  pub large : LargeConstant chart
