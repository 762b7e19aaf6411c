-- `list` leaves a store that public calls made: one call more made it, of values that are each an i32. Assumes nothing.
use Rattle.std.proofs.Common.{sym, subst}
use Rattle.stores.specs.Made.{Made}
use Rattle.callscript.proofs.Values.{each_fits, first_fit}
use Rattle.callscript.proofs.calls.list.Goals as goal

pub returns : goal.returns
returns c =
    let each = each_fits c.array-all.result c.array-all.type_inv.0 c.array-all.type_inv.1.1 in
    subst Made (sym c.create_new_integer_variable_sparse-grew.ensures.1) (Made.list c.requires _ (first_fit c.array-all.result each c.count.result))
