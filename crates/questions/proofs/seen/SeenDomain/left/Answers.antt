-- `left` counts from lower to upper: none where upper lies below, else one more than the distance.
use mathlib.Core.Path.{sym, ap, ◌∙◌}
use Rattle.domains.specs.Domain.{Domain}
use borrow.Author.Rules.{rules}
use Rattle.integers.proofs.Order.{integers}
use Rattle.pools.proofs.RunLaws.{apart}
use Rattle.stories.specs.Questions.{left_of}
use Rattle.questions.proofs.Reading.{read}
use Rattle.questions.proofs.seen.SeenDomain.left.Goals as goal

pub returns : goal.returns
unfolding left_of
returns c =
    let bounds = c.self.inside.bounds in
    let lower = read bounds.lower (search rules) in
    let upper = read bounds.upper (search rules) in
    let test = sym c.is_empty.ensures ∙ c.if-is_empty.false in
    let far = simp (lower, upper) at c.abs_diff.ensures in
    let wide = c.from.ensures in
    let low = ap (λ (d : Domain). d.lower) c.self.view_is in
    let high = ap (λ (d : Domain). d.upper) c.self.view_is in
    omega (integers, wide, low, high, apart bounds.lower bounds.upper (omega integers))
