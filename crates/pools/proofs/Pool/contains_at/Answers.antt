-- `contains_at` asks each update of the walk that is not past the position for its value.
use Rattle.std.proofs.Common.{rules, tests, ◌∙◌, nat_le}
use Rattle.std.proofs.lemmas.Iterator.Search.{any_from_yields_List}
use Rattle.std.proofs.lemmas.Iterator.Consumers.{YieldsList-from_first, YieldsList-from_filter, YieldsList-at}
use Rattle.integers.specs.Integers.{eq_z}
use Rattle.pools.specs.declared.Update.{Update}
use Rattle.pools.specs.Chain.{left, chain_of}
use Rattle.pools.proofs.WalkLaws.{has_any, filter_up_to}
use Rattle.pools.proofs.Pool.contains_at.Goals as goal

pub returns : goal.returns
returns c =
    let all = chain_of c.args.self.updates c.args.newest in
    any_from_yields_List (λ (u : Update). eq_z c.args.value u.value) _ _ _ c.any.ensures.ran
    (YieldsList-from_filter _ (λ (u : Update). nat_le u.position.0 c.args.position.0) (YieldsList-at c.filter.ensures.source (YieldsList-from_first (λ (u : Update). u) left all c.newest_first.ensures)) c.filter.ensures.closure (λ x b q k. search (rules, tests)))
    (λ x b q k. search (rules, tests))
    ∙ rw (filter_up_to all c.args.position.0) (has_any _ c.args.value)
