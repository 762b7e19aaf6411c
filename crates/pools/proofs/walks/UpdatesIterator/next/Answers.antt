-- `next` takes the update that the link leads to, and leaves those that its own link leads to.
use Rattle.std.proofs.Common.{arith, ◌≡◌, ◌<◌, length, [], ◌∷◌, ◌∙◌, sym, ap}
use native.Mathlib.Nat.{sub-zero}
use Rattle.pools.specs.Chain.{left, chain}
use Rattle.pools.proofs.ChainLaws.{no_link, past_end}
use Rattle.pools.proofs.WalkLaws.{next_update}
use Rattle.pools.proofs.walks.UpdatesIterator.next.Goals as goal
use Rattle.pools.proofs.walks.UpdatesIterator.next.Goals.{After-from-self}

pub returns-in_err-get-clause-steps : goal.returns-in_err-get-clause-steps
unfolding left
returns-in_err-get-clause-steps c =
    let walk = c.args.self.now in
    let past : length walk.places.now < walk.link = omega (arith, c.in_err-get.ensures.lookup.0) in
    let none = past_end walk.places.now (length walk.places.now) walk.link past in
    rw c.from_residual.ensures (none, none)

pub returns-in_err-update-clause-steps : goal.returns-in_err-update-clause-steps
unfolding left
returns-in_err-update-clause-steps c =
    let walk = c.args.self.now in
    let empty : walk.link ≡ 0 = omega (arith, c.in_ok-get.ensures.lookup.0, c.in_err-update.ensures.cases) in
    let none : chain walk.places.now (length walk.places.now) walk.link ≡ [] = rw empty (no_link walk.places.now (length walk.places.now)) in
    rw c.from_residual-in_err-update.ensures (none, none)

-- what was left is the update, and what is left behind it
step : (c : After-from-self) → left c.args.self.now ≡ c.in_ok-update.update.now ∷ left (record { places = c.in_ok-update.before; link = c.from-self.result })
unfolding left
step c =
    let walk = c.args.self.now in
    let got = c.in_ok-get.ensures.lookup.0 in
    let parts = c.in_ok-update.ensures.cases in
    rw c.from-self.ensures
    (next_update walk.places.now c.in_ok-update.before.now c.in_ok-update.update.now walk.link got.1 ((simp sub-zero at (sym got.2)) ∙ parts.0) (omega arith))

pub returns-clause-steps : goal.returns-clause-steps
returns-clause-steps c = step (goal.at.returns-clause-steps c).After-from-self

pub returns-clause-goes : goal.returns-clause-goes
returns-clause-goes c = let shorter = ap length (step (goal.at.returns-clause-goes c).After-from-self) in record { on = λ _. (tt, tt, omega arith); keeps = tt; rests = λ _. tt }
