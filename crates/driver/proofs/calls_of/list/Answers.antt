-- `list` has the values of the line whole.
use mathlib.Core.Path.{ap, ◌∙◌}
use native.Mathlib.Omega.{arith}
use Rattle.stores.specs.Calls.{list_answer, list_store}
use Rattle.commands.proofs.RoomLaws.{list_whole}
use Rattle.driver.proofs.calls_of.list.Goals as goal

pub returns-clause-answer : goal.returns-clause-answer
returns-clause-answer c =
    c.create_new_integer_variable_sparse-grew.ensures.0
    ∙ ap (list_answer c.args.store.now) (list_whole c.args.line.now c.requires.list (omega arith) c.list_values-count.ensures)

pub returns-clause-store : goal.returns-clause-store
returns-clause-store c =
    c.create_new_integer_variable_sparse-grew.ensures.1
    ∙ ap (list_store c.args.store.now) (list_whole c.args.line.now c.requires.list (omega arith) c.list_values-count.ensures)
