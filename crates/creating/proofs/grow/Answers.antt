-- `grow` gives back what `create_dense` does and answers.
use mathlib.Core.Path.{◌∙◌}
use mir.Facts.{to_z-of_z}
use Rattle.stores.specs.Calls.{grow_answer, grow_store}
use Rattle.creating.specs.Parts.{between}
use Rattle.creating.proofs.grow.Goals as goal

pub returns : goal.returns
returns c =
    let low = to_z-of_z c.ranges.lower in
    let high = to_z-of_z c.ranges.upper in (
      c.create_dense-answer.ensures.answer ∙ (λ i. grow_answer c.args.store (between (low i) (high i))),
      c.create_dense-answer.ensures.store ∙ (λ i. grow_store c.args.store (between (low i) (high i))),
    )
