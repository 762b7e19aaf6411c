-- `line_end` finds the end of the line in what is left of the input.
use mathlib.Core.Path.{◌∙◌}
use Rattle.std.proofs.lemmas.List.{take_rest}
use Rattle.driver.proofs.RunLaws.{ends_past}
use Rattle.driver.proofs.lines_of.line_end.Goals as goal

pub returns-in-Some : goal.returns-in-Some
returns-in-Some c =
    let part = c.in-Some.ensures.lookup.0 in
    ends_past (part.2 ∙ take_rest c.args.input.now c.args.from) part.0 c.length_of_line.ensures
