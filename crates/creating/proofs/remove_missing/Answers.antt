-- `remove_missing` refuses where the range is too wide for the list and the room. Else it walks from the smallest to the largest: each turn
-- the window tells whether the value is listed, and then it stays, or goes.
use mathlib.Core.Path.{◌≡◌, refl, sym, ◌∙◌, subst}
use mathlib.Core.List.{List}
use lib.IntN.{ℤ, pos, suc_ℤ, ◌+ℤ◌}
use lib.Signed.{◌<ℤ◌}
use mir.Syntax.{w32}
use mir.Val.{SFits, of_z, to_z}
use mir.Facts.{to_z-of_z}
use native.Mathlib.Omega.{arith}
use borrow.Author.Rules.{rules}
use Rattle.integers.proofs.Order.{integers, add=, suc=, fits→, →fits}
use Rattle.domains.specs.Domain.{has, width}
use Rattle.stories.specs.Calls.{span_of}
use Rattle.creating.specs.Covering.{covered}
use Rattle.creating.specs.Walks.{Walk, walk_listed, walk_end, walk_full, walk_removes, walk_missing}
use Rattle.creating.proofs.remove_missing.Goals as goal
use Rattle.creating.proofs.remove_missing.Goals.{After-lists, then-not-lists+else-store-ge-MAX_ENTRIES, else-not-lists}

module _ (c : After-lists) where
  abbrev listed : List ℤ
  listed = c.args.values.now

  abbrev value : ℤ
  value = to_z w32 c.loop-value.value-bits

  tells : c.lists.result ≡ has listed value
  tells = rw c.loop-value.invariant.0 at c.lists.ensures.lists

  upper : SFits w32 c.args.span.upper
  upper = search rules

  here : SFits w32 value
  here = search rules

  -- the next value is an i32, since this is below the largest
  below : value <ℤ (span_of listed).upper
  below = let test = rw (to_z-of_z upper, c.requires.span) at c.loop-value-test.true in omega integers

  fits_next : SFits w32 (value +ℤ pos 1)
  fits_next =
      →fits (value +ℤ pos 1)
      (omega (integers, add= value (pos 1), below, fits→ _ (rw c.requires.span at upper), fits→ value here))
      (omega (integers, add= value (pos 1), fits→ value here))

  next : to_z w32 (of_z w32 (value +ℤ pos 1)) ≡ suc_ℤ value
  next = to_z-of_z fits_next ∙ omega (integers, add= value (pos 1), suc= value)

pub returns-then-too_wide-clause-full : goal.returns-then-too_wide-clause-full
returns-then-too_wide-clause-full c =
    let vs = c.args.values.now in
    let wide = rw c.requires.span at (c.too_wide.ensures c.if-too_wide.true) in
    (refl, omega (arith, wide, covered vs (width (span_of vs).lower (span_of vs).upper) (span_of vs).lower, c.requires.walk.short))

pub loop-value-init : goal.loop-value-init
loop-value-init c =
    let lower : SFits w32 c.args.span.lower = search rules in
    (c.at-window.ensures.values, rw (to_z-of_z lower) c.requires.walk)

pub returns-then-store-ge-MAX_ENTRIES-clause-full : goal.returns-then-store-ge-MAX_ENTRIES-clause-full
returns-then-store-ge-MAX_ENTRIES-clause-full c =
    let l = (goal.at.returns-then-store-ge-MAX_ENTRIES-clause-full c).After-lists in
    (refl, walk_full _ _ _ _ _ c.loop-value.invariant.1 (sym (tells l) ∙ c.if-not-lists.true) c.if-store-ge-MAX_ENTRIES.true)

pub remove-requires : goal.remove-requires
remove-requires c =
    let l = (goal.at.remove-requires c).After-lists in
    walk_removes _ _ _ _ _ c.loop-value.invariant.1 (sym (tells l) ∙ c.if-not-lists.true) c.if-store-ge-MAX_ENTRIES.false

pub loop-value-preserved : goal.loop-value-preserved
loop-value-preserved c =
    let l = (goal.at.loop-value-preserved c).After-lists in
    let walk = c.loop-value.invariant.1 in (
      c.lists.ensures.values ∙ c.loop-value.invariant.0,
      rw (next l)
          (elim c.if-not-lists.branch [
            | then-not-lists+else-store-ge-MAX_ENTRIES w ↦
                subst (Walk _ _ _ _) (sym (w.store-is ∙ w.remove.ensures)) (walk_missing _ _ _ _ _ walk (sym (tells l) ∙ w.if-not-lists.true) w.if-store-ge-MAX_ENTRIES.false (below l))
            | else-not-lists w ↦ subst (Walk _ _ _ _) (sym w.store-is) (walk_listed _ _ _ _ _ walk (sym (tells l) ∙ w.if-not-lists.false) (below l))
          ]),
    )

pub returns-clause-taken : goal.returns-clause-taken
returns-clause-taken c =
    let upper : SFits w32 c.args.span.upper = search rules in
    let test = rw (to_z-of_z upper, c.requires.span) at c.loop-value-test.false in
    walk_end _ _ _ _ _ c.loop-value.invariant.1 (omega integers)
