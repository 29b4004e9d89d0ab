-- What the reports of the controller's turns mean.
use Rattle.controller_model.specs.Serving.{Report as Model-as-Report, nothing, none_taken, taken}
use Rattle.controller.specs.declared.Report.{Report}
use Rattle.controller.specs.declared.Report.TheVariants as report

abbrev pub report_as : Report → Model-as-Report
report_as (report.Nothing h) = nothing h
report_as (report.NoneTaken h) = none_taken h
report_as (report.Taken h i) = taken h i
