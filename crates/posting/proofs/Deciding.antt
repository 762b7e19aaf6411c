-- What a decision tells of the store that it was read from: `decision` tests in the order of `post_grounds`, so each of its cases is one
-- case of a post. For `post_predicate`, and for a caller that keeps the store. Assumes nothing.
use Rattle.std.specs.Prelude.{None, Ok, Err}
use Prim.Native.Nat.{◌<◌}
use mathlib.Core.Bool.{Bool, true, false, not}
use mathlib.Core.Path.{◌≡◌, refl, sym, ap, subst}
use lib.Dec.{leb}
use borrow.Author.Tests.{leb-true, leb-false, not-true, not-false}
use Rattle.predicates.specs.declared.Predicate.{Predicate}
use Rattle.predicates.specs.declared.Reason.{Reason}
use Rattle.domains.specs.Choice.{pick}
use Rattle.domains.specs.Domain.{overflows, emptied}
use Rattle.domains.proofs.Tests.{by_cases, picked}
use Rattle.rules.specs.Sound.{domain_in, Sound}
use Rattle.stores.specs.declared.Variable.{Variable}
use Rattle.stores.specs.declared.Assignments.{Assignments}
use Rattle.stories.specs.declared.Refusal.TheVariants.{Empty}
use Rattle.stores.specs.Store.{variable_of, domain_of}
use Rattle.stores.specs.Calls.{domain_before, does, post_answer, post_store}
use Rattle.stores.proofs.Cases.{post_absent, post_idle, post_full, post_overflows}
use Rattle.stores.specs.Made.{Made}
use Rattle.stores.proofs.History.{straight}
use Rattle.stores.proofs.Straight.{tidy}
use Rattle.stores.proofs.Steps.{tight_of, fits_of}
use Rattle.posting.specs.Decision.{decision, Tells}

-- the record `w` is that of the predicate's variable, if there is one
module _ (s : Assignments) (q : Made s) (p : Predicate) (w : Variable) (own : p.domain.0 < s.domains → w ≡ variable_of s p.domain.0) where
  -- what `decide` requires
  pub reads_sound : p.domain.0 < s.domains → Sound (domain_in s.holes w.holes w.bounds)
  unfolding domain_of
  reads_sound there =
      subst (λ (v : Variable). Sound (domain_in s.holes v.holes v.bounds)) (sym (own there))
      (record { tight = tight_of s (straight q) p.domain.0 there; fits = fits_of s (straight q) p.domain.0 there })

  -- a post that does nothing tells the same of both answers
  idles : ((r : Reason) → (pick (emptied (domain_before s p)) (Err Empty) (Ok false) ≡ post_answer s p) × (s ≡ post_store s p r)) → Tells s p (pick (emptied (domain_before s p)) (Err Empty) (Ok None))
  idles told = go (emptied (domain_before s p)) told
    where
      go : (b : Bool) → ((r : Reason) → (pick b (Err Empty) (Ok false) ≡ post_answer s p) × (s ≡ post_store s p r)) → Tells s p (pick b (Err Empty) (Ok None))
      go true h = h
      go false h = h

  of_own : Tells s p (decision (variable_of s p.domain.0) s.domains s.holes s.trail.length p)
  unfolding decision domain_of
  of_own =
      picked (Tells s p) (leb s.domains p.domain.0) (λ absent r. post_absent s p r (leb-true _ _ absent))
      (λ some. let there = leb-false s.domains p.domain.0 some in
      picked (Tells s p) (not (does s p)) (λ idle. idles (λ r. post_idle s p r there (not-true (does s p) idle) (tidy (straight q)).entries))
      (λ acts. let acting = not-false (does s p) acts in
      picked (Tells s p) (leb 1024 s.trail.length) (λ full r. post_full s p r there acting (leb-true _ _ full))
      (λ free. let room = leb-false 1024 s.trail.length free in
      picked (Tells s p) (overflows p.kind p.value (domain_before s p)) (λ over r. post_overflows s p r there acting room over)
      (λ fitting. record { there = there; acting = acting; room = room; fitting = fitting; aimed = refl }))))

  -- where there is no variable the record is not read
  reads_own : decision (variable_of s p.domain.0) s.domains s.holes s.trail.length p ≡ decision w s.domains s.holes s.trail.length p
  unfolding decision
  reads_own =
      by_cases (leb s.domains p.domain.0) (λ absent. rw absent)
      (λ some. ap (λ (v : Variable). decision v s.domains s.holes s.trail.length p) (sym (own (leb-false _ _ some))))

  pub tells : Tells s p (decision w s.domains s.holes s.trail.length p)
  tells = subst (Tells s p) reads_own of_own
