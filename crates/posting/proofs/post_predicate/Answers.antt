-- `post_predicate` does what `consider` tells: it answers, or records and answers.
use Rattle.std.specs.Prelude.{Ok, true}
use mathlib.Core.Path.{subst, ap, ◌∙◌}
use Rattle.domains.specs.declared.Bounds.{Bounds}
use Rattle.domains.specs.Domain.{moved}
use Rattle.stores.proofs.Cases.{post_taken}
use Rattle.posting.specs.Decision.{Tells, unless_emptied}
use Rattle.posting.proofs.post_predicate.Goals as goal

pub returns-in-Ok-None : goal.returns-in-Ok-None
returns-in-Ok-None c =
    subst (Tells c.args.store c.args.predicate) (c.in-Ok-None.is ∙ ap Ok c.in-Ok-None.field-0-is) c.consider.ensures c.args.reason

pub returns-in-Ok-Some : goal.returns-in-Ok-Some
unfolding moved
returns-in-Ok-Some c =
    let to = subst (Tells c.args.store c.args.predicate) (c.in-Ok-Some.is ∙ ap Ok c.in-Ok-Some.field-0-is) c.consider.ensures in
    let taken = post_taken c.args.store c.args.predicate c.args.reason to.there to.acting to.room to.fitting in
    (c.unless_emptied-answer.ensures ∙ ap (λ (b : Bounds). unless_emptied b true) to.aimed ∙ taken.0, c.record.ensures ∙ taken.1)
