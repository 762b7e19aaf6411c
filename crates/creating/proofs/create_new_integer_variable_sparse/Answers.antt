-- A refused list leaves the store as it was.
use mathlib.Core.Path.{sym, ap, ◌∙◌}
use mathlib.Core.Bool.{not}
use Rattle.std.specs.Prelude.{is_ok}
use Rattle.creating.specs.Sparse.{lists_not}
use Rattle.creating.proofs.create_new_integer_variable_sparse.Goals as goal

pub returns-then-is_err : goal.returns-then-is_err
returns-then-is_err c =
    let answer = c.create_listed-answer.ensures.answer in
    (answer, lists_not _ _ (ap is_ok (sym answer) ∙ c.is_err.ensures.negation ∙ ap not c.if-is_err.true))
