-- `grow` leaves a store that public calls made: one call more made it, of two i32. Assumes nothing.
use Rattle.std.proofs.Common.{sym, subst}
use mir.ValLaws.{to_z-Fits, of_z_fits}
use Rattle.stores.specs.Made.{Made}
use Rattle.callscript.proofs.calls.grow.Goals as goal

pub returns : goal.returns
returns c =
    let grown = Made.grow c.requires _ (record { lower = to_z-Fits _ _ (of_z_fits _ _ c.ranges.lower); upper = to_z-Fits _ _ (of_z_fits _ _ c.ranges.upper) }) in
    subst Made (sym c.grow-grew.ensures.1) grown
