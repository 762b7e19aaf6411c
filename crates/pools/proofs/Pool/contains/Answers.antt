-- `contains` asks each update of the walk for its value.
use Rattle.std.proofs.Common.{rules, tests, ◌∙◌}
use Rattle.std.proofs.lemmas.Iterator.Search.{any_from_yields_List}
use Rattle.std.proofs.lemmas.Iterator.Consumers.{YieldsList-from_first}
use Rattle.integers.specs.Integers.{eq_z}
use Rattle.pools.specs.declared.Update.{Update}
use Rattle.pools.specs.Chain.{left, chain_of}
use Rattle.pools.proofs.WalkLaws.{has_any}
use Rattle.pools.proofs.Pool.contains.Goals as goal

pub returns : goal.returns
returns c =
    let all = chain_of c.args.self.updates c.args.newest in
    any_from_yields_List (λ (u : Update). eq_z c.args.value u.value) _ _ _ c.any.ensures.ran (YieldsList-from_first (λ (u : Update). u) left all c.newest_first.ensures) (λ x b q k. search (rules, tests))
    ∙ has_any all c.args.value
