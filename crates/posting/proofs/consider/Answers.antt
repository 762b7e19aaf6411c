-- `consider` decides on what the store keeps of the variable.
use native.Mathlib.Omega.{arith}
use mathlib.Core.Path.{refl, sym, subst}
use Rattle.stores.specs.Store.{variable_of}
use Rattle.stores.proofs.Straight.{tidy}
use Rattle.stores.proofs.Cases.{post_absent}
use Rattle.stores.proofs.History.{straight}
use Rattle.posting.specs.Decision.{Tells}
use Rattle.posting.proofs.Deciding.{reads_sound, tells}
use Rattle.posting.proofs.consider.Goals as goal

pub returns-then-store-x : goal.returns-then-store-x
returns-then-store-x c = λ r. post_absent c.args.store.now c.args.predicate r c.if-store-x.true

pub bounds-store-x : goal.bounds-store-x
bounds-store-x c = omega (arith, (tidy (straight c.requires)).domains, (tidy (straight c.requires)).long_variables, c.if-store-x.false)

pub decide-requires : goal.decide-requires
decide-requires c =
    reads_sound c.args.store.now c.requires c.args.predicate (variable_of c.args.store.now c.args.predicate.domain.0) (λ there. refl)

pub returns : goal.returns
returns c =
    subst (Tells c.args.store.now c.args.predicate) (sym c.decide.ensures)
    (tells c.args.store.now c.requires c.args.predicate (variable_of c.args.store.now c.args.predicate.domain.0) (λ there. refl))
