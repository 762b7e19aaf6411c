-- `set_mark` leaves the variable as it was but for the mark.
use mathlib.Core.Path.{refl}
use Rattle.stores.specs.Store.{marked}
use Rattle.creating.proofs.set_mark.Goals as goal

pub returns : goal.returns
unfolding marked
returns c = refl
