-- `decide` answers what `decision` does, since `step_of` makes two of its tests, and the other two are the same in both.
use Rattle.std.specs.Prelude.{Option, Some, None, Result, Ok, Err}
use Rattle.std.proofs.Common.{rules}
use Prim.Native.Nat.{ℕ, ◌<◌}
use mathlib.Core.Bool.{Bool, true, false, not}
use mathlib.Core.Path.{◌≡◌, refl, sym, ap, ◌∙◌}
use mir.Syntax.{w32}
use mir.Val.{SFits}
use mir.Facts.{to_z-of_z}
use borrow.Author.Tests.{le-leb, lt-leb}
use Rattle.predicates.specs.declared.Predicate.{Predicate}
use Rattle.domains.specs.declared.Bounds.{Bounds}
use Rattle.domains.specs.declared.Step.{Step}
use Rattle.domains.specs.declared.Step.TheVariants as Outcome
use Rattle.domains.specs.Choice.{pick}
use Rattle.domains.specs.Domain.{acts, overflows, step_of}
use Rattle.pools.specs.declared.Pool.{Pool}
use Rattle.stores.specs.declared.Variable.{Variable}
use Rattle.stories.specs.declared.Refusal.{Refusal}
use Rattle.stories.specs.declared.Refusal.TheVariants.{StepOverflow}
use Rattle.posting.specs.Decision.{unless_emptied, if_room, domain_read, bounds_read, decision}
use Rattle.posting.proofs.decide.Goals as goal
use Rattle.posting.proofs.decide.Goals.{After-step}

-- what is decided on each outcome of `step`, with so many entries on the trail
abbrev decided_on : Bounds → ℕ → Step → Result (Option Bounds) Refusal
decided_on b entries Outcome.Nothing = unless_emptied b None
decided_on b entries Outcome.Overflows = if_room entries (Err StepOverflow)
decided_on b entries (Outcome.Moves to) = if_room entries (Ok (Some to))

by_step : (w : Variable) (domains : ℕ) (holes : Pool) (entries : ℕ) (p : Predicate) → p.domain.0 < domains → decided_on w.bounds entries (step_of p.kind p.value (domain_read w holes)) ≡ decision w domains holes entries p
unfolding step_of decision
by_step w domains holes entries p there = rw (lt-leb domains p.domain.0 there) (go (acts p.kind p.value (domain_read w holes)) (overflows p.kind p.value (domain_read w holes)))
  where
    go : (acting over : Bool) → decided_on w.bounds entries (pick acting (pick over Outcome.Overflows (Outcome.Moves (bounds_read w holes p))) Outcome.Nothing) ≡ pick (not acting) (unless_emptied w.bounds None) (if_room entries (pick over (Err StepOverflow) (Ok (Some (bounds_read w holes p)))))
    go false over = refl
    go true true = refl
    go true false = refl

-- where `step` has answered, that is what is decided on its outcome
outcome : (c : After-step) (o : Step) → c.step.result ≡ o → decided_on c.args.variable.bounds c.args.entries o ≡ decision c.args.variable c.args.domains c.args.holes c.args.entries c.args.predicate
outcome c o e =
    let a = c.args in
    let value : SFits w32 a.predicate.value = search rules in
    let step = simp (to_z-of_z value, c.new-domain.ensures) at c.step.ensures in
    ap (decided_on a.variable.bounds a.entries) (sym e ∙ step)
    ∙ by_step a.variable a.domains a.holes a.entries a.predicate c.if-domains-predicate.false

pub returns-then-domains-predicate : goal.returns-then-domains-predicate
unfolding decision
returns-then-domains-predicate c = rw (le-leb _ _ c.if-domains-predicate.true)

pub returns-in-Nothing : goal.returns-in-Nothing
returns-in-Nothing c = c.unless_emptied.ensures ∙ outcome (goal.at.returns-in-Nothing c).After-step Outcome.Nothing c.in-Nothing.is

pub returns-in-Overflows : goal.returns-in-Overflows
returns-in-Overflows c = c.if_room.ensures ∙ outcome (goal.at.returns-in-Overflows c).After-step Outcome.Overflows c.in-Overflows.is

pub returns-in-Moves : goal.returns-in-Moves
returns-in-Moves c = c.if_room-in-Moves.ensures ∙ outcome (goal.at.returns-in-Moves c).After-step (Outcome.Moves c.in-Moves.to) c.in-Moves.is
