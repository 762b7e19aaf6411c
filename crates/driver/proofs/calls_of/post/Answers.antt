-- `post` is told by what is considered what it answers, wherever it keeps the store.
use mathlib.Core.Path.{◌≡◌, subst, ap, ◌∙◌}
use Rattle.std.proofs.Common.{rules, Ok, Err}
use Rattle.posting.specs.Decision.{Tells}
use Rattle.driver.proofs.calls_of.post.Goals as goal

pub returns-in_err-_bounds-clause-answer : goal.returns-in_err-_bounds-clause-answer
returns-in_err-_bounds-clause-answer c =
    let told : c.from_residual.result ≡ Err c.in_err-_bounds.field-0.0 = search rules in
    told ∙ (subst (Tells c.args.store.now c.args.predicate) c.in_err-_bounds.was c.consider.ensures c.args.reason).0

pub returns-in_default-clause-answer : goal.returns-in_default-clause-answer
returns-in_default-clause-answer c =
    (subst (Tells c.args.store.now c.args.predicate) (c.in_ok-_bounds.was ∙ ap Ok c.in_default.is) c.consider.ensures c.args.reason).0
