-- `create_dense` lays a variable down where one can be made, and else leaves the store as it is.
use mathlib.Core.Path.{sym, ap, ◌∙◌}
use Rattle.predicates.specs.declared.DomainId.{DomainId}
use Rattle.creating.specs.Sparse.{grows, grows_not}
use Rattle.creating.proofs.create_dense.Goals as goal

pub returns-in_err-id-clause-store : goal.returns-in_err-id-clause-store
returns-in_err-id-clause-store c = grows_not _ _ _ (sym c.next_number.ensures ∙ c.in_err-id.was)

pub lay_down-requires : goal.lay_down-requires
lay_down-requires c =
    let tells = grows _ _ _ (sym c.next_number.ensures ∙ c.in_ok-id.was) in
    record { made = c.requires; number = ap (λ (x : DomainId). x.0) tells.number; few = tells.few; room = tells.room }

pub returns-clause-store : goal.returns-clause-store
returns-clause-store c =
    let tells = grows _ _ _ (sym c.next_number.ensures ∙ c.in_ok-id.was) in
    c.lay_down.ensures ∙ sym tells.store
