-- `put_text`: 16, then 1 where there is no byte at all, else the text of the chart file after the first byte.
use mathlib.Core.Path.{sym}
use native.Mathlib.Omega.{arith}
use Rattle.model.specs.Answer.{nowhere}
use Rattle.listing.proofs.PutBytes.{bytes_as}
use Rattle.listing.proofs.Fits.{refused_fits}
use Rattle.listing.proofs.Accepted.{text_16, text_1, text_file}
use Rattle.listing.proofs.put_text.Goals as goal

pub put_refusal-requires : goal.put_refusal-requires
put_refusal-requires c = omega (arith, refused_fits 16 nowhere, c.requires)

pub returns-then-input-gt-LARGEST_INPUT : goal.returns-then-input-gt-LARGEST_INPUT
returns-then-input-gt-LARGEST_INPUT c = bytes_as c.put_refusal.ensures (sym (text_16 c.args.input.now c.if-input-gt-LARGEST_INPUT.true))

pub put_refusal-requires-in_default : goal.put_refusal-requires-in_default
put_refusal-requires-in_default c = omega (arith, refused_fits 1 nowhere, c.requires)

pub returns-in_default : goal.returns-in_default
returns-in_default c = bytes_as c.put_refusal-in_default.ensures (sym (text_1 c.args.input.now c.in_default.ensures.cases))

pub returns : goal.returns
returns c = bytes_as c.put_file.ensures (sym (text_file _ _ c.in-Some.ensures.cases.0 c.if-input-gt-LARGEST_INPUT.false))
