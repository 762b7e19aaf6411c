-- `value_at` finds the newest update that is not past the position.
use Rattle.std.proofs.Common.{w32, rules, tests, ◌∙◌, to_z-of_z, nat_le}
use Rattle.std.proofs.lemmas.Iterator.Search.{find_from_yields_List}
use Rattle.std.proofs.lemmas.Iterator.Consumers.{YieldsList-from_first}
use Rattle.pools.specs.declared.Update.{Update}
use Rattle.pools.specs.Chain.{left, chain_of}
use Rattle.pools.proofs.WalkLaws.{find_up_to, find_value}
use Rattle.pools.proofs.Pool.value_at.Goals as goal

pub returns : goal.returns
returns c =
    let all = chain_of c.args.self.updates c.args.newest in
    let found = find_from_yields_List (λ (u : Update). nat_le u.position.0 c.args.position.0) _ _ c.find.result c.find.ensures.ran (YieldsList-from_first (λ (u : Update). u) left all c.newest_first.ensures) (λ x b q k. search (rules, tests)) in
    to_z-of_z {w = w32} {z = c.map_or.result} (search rules)
    ∙ find_value c.find.result _ _ c.args.otherwise _ found (simp (to_z-of_z c.ranges.otherwise) at c.map_or.ensures) (λ u k. search rules)
    ∙ find_up_to all c.args.position.0 c.args.otherwise
