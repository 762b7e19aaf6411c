-- `marks` marks the places of the variable's values: each turn passes one update of the walk, and sets the mark of its value's place.
use Rattle.std.proofs.Common.{rules, ◌∙◌, Some, None, true, false, length-set, arith, w32, to_z-of_z, SFits}
use Rattle.std.proofs.lemmas.List.{length-replicate, get_or-replicate}
use mathlib.Core.Bool.{or-false}
use Rattle.pools.specs.Chain.{values_of, left}
use Rattle.pools.specs.Runs.{Place}
use Rattle.pools.proofs.RunLaws.{marks_more, marks_same}
use Rattle.pools.proofs.Pool.marks.Goals as goal

pub loop-update-init : goal.loop-update-init
loop-update-init g c = (search rules, search rules, length-replicate 1024 false, λ up from p k h. rw (get_or-replicate 1024 k false false h, c.into_iter-update-iterator.ensures.into_iter_gives, c.newest_first-update-items.ensures) (or-false _))

pub loop-update-preserved-in-Some-place : goal.loop-update-preserved-in-Some-place
loop-update-preserved-in-Some-place g c =
    let marks = c.loop-update.marks in
    let mark = c.in-Some-place.mark in
    let value : SFits w32 c.in-Some.update.value = search rules in
    let below = c.requires.within _ mark c.in-Some-place.ensures in (
      search rules,
      search rules,
      length-set marks mark true ∙ c.loop-update.invariant.2,
      λ up from p k h.
          let place : Place up from c.in-Some.update.value (Some mark) = simp (to_z-of_z value) at (p _ _ c.in-Some-place.ensures) in
          marks_more up from c.in-Some.update.value marks (values_of (left c.next.new.self)) k mark (omega (arith, below, c.loop-update.invariant.2)) place h
          ∙ (rw c.in-Some.ensures.steps at (c.loop-update.invariant.3 up from p k h)),
    )

pub loop-update-preserved : goal.loop-update-preserved
loop-update-preserved g c =
    let value : SFits w32 c.in-Some.update.value = search rules in (
      search rules,
      search rules,
      c.loop-update.invariant.2,
      λ up from p k h.
          let place : Place up from c.in-Some.update.value None = simp (to_z-of_z value) at (p _ _ c.in_default.ensures) in
          marks_same up from c.in-Some.update.value c.loop-update.marks (values_of (left c.next.new.self)) k place h
          ∙ (rw c.in-Some.ensures.steps at (c.loop-update.invariant.3 up from p k h)),
    )

pub returns : goal.returns
returns g c up from p = record { tells = λ k h. rw c.in-None.ensures.steps.0 at (c.loop-update.invariant.3 up from p k h) }
