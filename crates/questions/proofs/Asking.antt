-- Why every question is refused or answered as it should be: `find` tells whether there is such a variable, and its record is what the
-- store keeps of it. Assumes nothing.
use Prim.Native.Nat.{◌≤◌}
use Rattle.stores.specs.declared.Assignments.{Assignments}
use Rattle.stores.specs.Made.{Made}
use Rattle.stores.proofs.Straight.{tidy}
use Rattle.stores.proofs.History.{straight}

-- as `find` asks: there are no more variables than places for them
pub few : {s : Assignments} → Made s → s.domains ≤ 256
few made = (tidy (straight made)).domains
