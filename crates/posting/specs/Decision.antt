-- What a post comes to, from what it reads of the store (RULES.md, P11 and P13): 1, then nothing to do, then 5, then 6, and otherwise the
-- bounds that are to be recorded. Assumes nothing.
use Rattle.std.specs.Prelude.{ℕ, ◌<◌, ◌≡◌, true, false, not, leb, Option, Some, None, Result, Ok, Err}
use Rattle.std.specs.Int.Signed.{lt_z}
use Rattle.predicates.specs.declared.Predicate.{Predicate}
use Rattle.predicates.specs.declared.Reason.{Reason}
use Rattle.domains.specs.declared.Bounds.{Bounds}
use Rattle.domains.specs.Choice.{pick}
use Rattle.domains.specs.Domain.{Domain, acts, overflows, lower_after, upper_after}
use Rattle.pools.specs.declared.Pool.{Pool}
use Rattle.rules.specs.Sound.{domain_in}
use Rattle.stores.specs.declared.Variable.{Variable}
use Rattle.stores.specs.declared.Assignments.{Assignments}
use Rattle.stores.specs.Calls.{domain_before, bounds_after, does, post_answer, post_store}
use Rattle.stories.specs.declared.Refusal.{Refusal}
use Rattle.stories.specs.declared.Refusal.TheVariants.{NoVariable, TrailFull, StepOverflow, Empty}

-- an answer, or 7 where the bounds leave no value
abbrev pub unless_emptied : {A : Type 0} → Bounds → A → Result A Refusal
unless_emptied b answer = pick (lt_z b.upper b.lower) (Err Empty) (Ok answer)

-- an answer that needs an entry, or 5 where there are so many entries that none is left
abbrev pub if_room : {A : Type 0} → ℕ → Result A Refusal → Result A Refusal
if_room entries answer = pick (leb 1024 entries) (Err TrailFull) answer

-- the variable's domain, as the holes and its record have it
abbrev pub domain_read : Variable → Pool → Domain
domain_read w holes = domain_in holes w.holes w.bounds

-- the bounds after a post that does something
abbrev pub bounds_read : Variable → Pool → Predicate → Bounds
bounds_read w holes p = record { lower = lower_after p.kind p.value (domain_read w holes); upper = upper_after p.kind p.value (domain_read w holes) }

-- what a post comes to, in a store with so many variables, these holes and so many entries: a refusal, nothing, or bounds that are to be
-- recorded
unfoldable pub decision : Variable → ℕ → Pool → ℕ → Predicate → Result (Option Bounds) Refusal
decision w domains holes entries p =
    pick (leb domains p.domain.0) (Err NoVariable)
    (pick (not (acts p.kind p.value (domain_read w holes))) (unless_emptied w.bounds None)
    (if_room entries
    (pick (overflows p.kind p.value (domain_read w holes)) (Err StepOverflow)
    (Ok (Some (bounds_read w holes p))))))

-- a post that is to be recorded: there is the variable, something is to be done, there is room, nothing overflows, and where the bounds go
pub record Recordable (s : Assignments) (p : Predicate) (to : Bounds) : Type 0 where
  pub there : p.domain.0 < s.domains
  pub acting : does s p ≡ true
  pub room : s.trail.length < 1024
  pub fitting : overflows p.kind p.value (domain_before s p) ≡ false
  pub aimed : to ≡ bounds_after s p

-- what a decision tells of the post's answer and of the store after it: refused, nothing to do, or to be recorded
abbrev pub Tells : Assignments → Predicate → Result (Option Bounds) Refusal → Type 0
Tells s p (Err e) = (r : Reason) → (Err e ≡ post_answer s p) × (s ≡ post_store s p r)
Tells s p (Ok None) = (r : Reason) → (Ok false ≡ post_answer s p) × (s ≡ post_store s p r)
Tells s p (Ok (Some to)) = Recordable s p to
