-- `synchronise` refuses as it should, and else each turn of its loop undoes the newest entry and appends its pair, until none above the
-- checkpoint is left.
use Prim.Native.Nat.{◌-◌}
use mathlib.Core.Path.{refl}
use Rattle.std.proofs.Common.{rules}
use native.Mathlib.Omega.{arith}
use Rattle.stories.specs.declared.Refusal.TheVariants.{NotLower, NoRoom}
use Rattle.stores.proofs.Straight.{tidy}
use Rattle.stores.proofs.History.{straight}
use Rattle.stores.proofs.Cases.{synchronise_above, synchronise_short}
use Rattle.backtracking.specs.Outcome.{room_of}
use Rattle.backtracking.proofs.Sound.{sound}
use Rattle.backtracking.proofs.Going.{start, turn, refused, reached}
use Rattle.backtracking.proofs.Cut.{filled}
use Rattle.backtracking.proofs.synchronise.Goals as goal

pub returns-then-current-back : goal.returns-then-current-back
returns-then-current-back c =
    let a = c.args in
    refused a.store a.checkpoint.0 a.variables.now a.lowers.now NotLower (synchronise_above a.store a.checkpoint.0 (room_of a.variables.now a.lowers.now) c.if-current-back.true)

pub bounds-store-back : goal.bounds-store-back
bounds-store-back c = omega (arith, (tidy (straight c.requires)).checkpoints)

pub overflow_sub-above : goal.overflow_sub-above
overflow_sub-above c =
    omega (arith, (tidy (straight c.requires)).delimited c.args.checkpoint.0 c.if-current-back.false)

pub returns-then-room-above : goal.returns-then-room-above
returns-then-room-above c =
    let a = c.args in
    refused a.store a.checkpoint.0 a.variables.now a.lowers.now NoRoom (synchronise_short a.store a.checkpoint.0 (room_of a.variables.now a.lowers.now) c.if-current-back.false (omega arith))

pub loop-undone-init : goal.loop-undone-init
loop-undone-init c = start c.args.store _ _ refl (sound c.requires) (omega arith) (omega arith)

pub loop-undone-preserved : goal.loop-undone-preserved
loop-undone-preserved c = turn c.loop-undone.invariant (omega arith) c.undo.ensures c.append.ensures

pub slice_bounds-fill-end : goal.slice_bounds-fill-end
slice_bounds-fill-end c =
    let t = tidy (straight c.requires) in
    rw c.loop-undone.invariant.delimiters (omega (arith, t.long_delimiters, t.checkpoints))

pub returns : goal.returns
returns c =
    let a = c.args in
    let t = tidy (straight c.requires) in
    let g = c.loop-undone.invariant in
    let cells = filled (a.store.checkpoint - a.checkpoint.0) a.store.delimiters a.checkpoint.0 (omega (arith, t.long_delimiters, t.checkpoints)) in
    reached a.store a.checkpoint.0 _ c.if-current-back.false (omega arith) g (omega arith) (rw (c.fill.ensures.after (λ y e. e), g.delimiters) cells) (search (rules, g.same_variables)) (search (rules, g.same_lowers))
