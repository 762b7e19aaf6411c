-- Every store that public calls made is straight: a call that does something is steps, a refused one is none, and a synchronise leads
-- back to a store on the way. So what holds of straight stores holds of all, and nothing need be shown of a synchronise again.
use Prim.Native.Nat.{ℕ, zero, suc, ◌+◌, ◌≤◌, ◌<◌}
use mathlib.Core.Bool.{Bool, true, false}
use mathlib.Core.Path.{◌≡◌, refl, sym, ap, ◌∙◌, subst}
use mathlib.Core.List.{List, []}
use lib.IntN.{ℤ}
use lib.ListN.{length, get_or}
use lib.Seq.{get_or-set_same}
use lib.Dec.{ltb}
use lib.Signed.{lt_z, ◌≤ℤ◌}
use borrow.Author.Tests.{ltb-true, ltb-false, not-false}
use native.Mathlib.Omega.{arith}
use mir.Syntax.{w32}
use mir.Val.{SFits}
use Rattle.integers.specs.Integers.{eq_z}
use Rattle.integers.proofs.Order.{integers}
use Rattle.predicates.specs.declared.Predicate.{Predicate}
use Rattle.predicates.specs.declared.Reason.{Reason}
use Rattle.predicates.specs.declared.Reason.TheVariants.{None}
use Rattle.domains.specs.declared.Bounds.{Bounds}
use Rattle.domains.specs.Choice.{pick}
use Rattle.domains.specs.Domain.{Domain, is_not_equal, acts, overflows, moved, after}
use Rattle.domains.specs.Promises.{Tight, Fits}
use Rattle.domains.proofs.Membership.{is_left}
use Rattle.domains.proofs.Laws.{after_idle, after_moved, tight_law}
use Rattle.domains.proofs.Fits.{fits_law}
use Rattle.pools.specs.Chain.{chain_of, values_of}
use Rattle.pools.proofs.ChainLaws.{no_link}
use Rattle.stories.specs.declared.Entry.{Entry}
use Rattle.stores.specs.declared.Variable.{Variable}
use Rattle.stores.specs.declared.Assignments.{Assignments}
use Rattle.stores.specs.Made.{AreI32}
use Rattle.stories.specs.Story.{no_entry}
use Rattle.stores.specs.Store.{no_variable, bare, variable_of, domain_of, differs, recorded, allocated, marked, opened}
use Rattle.stories.specs.Calls.{at_least, at_most}
use Rattle.stores.specs.Calls.{grown, domain_before, bounds_after, posted, synchronised}
use Rattle.stories.specs.Story.{on, replayed}
use Rattle.stores.proofs.Straight.{domain_with, Records, Straight, tidy}
use Rattle.stores.proofs.Undo.{back_recorded, back_opened, back_where_opened}
use Rattle.stores.proofs.Meaning.{meant, recorded_own}

-- ---- the domains of a straight store

-- a domain that starts with some value has tight bounds ever after
pub replayed_tight : (es : List Entry) (x : ℕ) (start : Bounds) (n : ℕ) → start.lower ≤ℤ start.upper → Tight (replayed es x start n)
unfolding replayed
replayed_tight es x start zero h = record {
  least = λ l. is_left d start.lower (record { above = omega integers; below = h; kept = refl });
  most = λ l. is_left d start.upper (record { above = h; below = omega integers; kept = refl });
}
  where
    d : Domain
    d = record { lower = start.lower; upper = start.upper; holes = [] }
replayed_tight es x start (suc n) h = go (on x (get_or es n no_entry)) (replayed_tight es x start n h)
  where
    e : Entry
    e = get_or es n no_entry

    go : (b : Bool) → Tight (replayed es x start n) → Tight (pick b (after e.predicate.kind e.predicate.value (replayed es x start n)) (replayed es x start n))
    go true t = tight_law e.predicate.kind e.predicate.value (replayed es x start n) t
    go false t = t

module _ (s : Assignments) (q : Straight s) (x : ℕ) (there : x < s.domains) where
  pub tight_of : Tight (domain_of s x)
  tight_of = subst Tight (sym ((meant q).now x there)) (replayed_tight s.trail.entries x (variable_of s x).initial s.trail.length ((meant q).proper x there))

  pub fits_of : Fits (domain_of s x)
  unfolding domain_of
  fits_of = let i = (meant q).i32 x there in record { lower = i.lower; upper = i.upper }

-- the bounds of a domain are the variable's
bounds_low : (s : Assignments) (x : ℕ) → (domain_of s x).lower ≡ (variable_of s x).bounds.lower
unfolding domain_of
bounds_low s x = refl

bounds_high : (s : Assignments) (x : ℕ) → (domain_of s x).upper ≡ (variable_of s x).bounds.upper
unfolding domain_of
bounds_high s x = refl

-- ---- posts

same_if : (a b : ℤ) → differs a b ≡ false → b ≡ a
same_if a b e = let t : eq_z a b ≡ true = not-false (eq_z a b) e in omega integers

module _ (s : Assignments) (q : Straight s) (p : Predicate) (r : Reason) (i : SFits w32 p.value) (there : p.domain.0 < s.domains) (does : acts p.kind p.value (domain_before s p) ≡ true) (room : s.trail.length < 1024) (fits : overflows p.kind p.value (domain_before s p) ≡ false) where
  is_moved : domain_with p (bounds_after s p) (domain_before s p) ≡ after p.kind p.value (domain_before s p)
  unfolding moved
  is_moved = sym (after_moved p.kind p.value (domain_before s p) does)

  pub post_records : Records s p (differs (domain_before s p).lower (bounds_after s p).lower) (differs (domain_before s p).upper (bounds_after s p).upper) (bounds_after s p)
  post_records = record {
    there = there;
    room = room;
    i32 = record { lower = f.lower; upper = f.upper };
    rule = is_moved;
    keeps_lower = λ e. same_if (domain_before s p).lower (bounds_after s p).lower e ∙ low;
    keeps_upper = λ e. same_if (domain_before s p).upper (bounds_after s p).upper e ∙ high;
    lower_update = λ a. ap (λ (z : ℤ). differs z (bounds_after s p).lower) low;
    upper_update = λ a. ap (λ (z : ℤ). differs z (bounds_after s p).upper) high;
  }
    where
      f : Fits (domain_with p (bounds_after s p) (domain_before s p))
      f = subst Fits (sym is_moved) (fits_law p.kind p.value (domain_before s p) (tight_of s q p.domain.0 there) (fits_of s q p.domain.0 there) i fits)

      low : (domain_before s p).lower ≡ (variable_of s p.domain.0).bounds.lower
      low = bounds_low s p.domain.0

      high : (domain_before s p).upper ≡ (variable_of s p.domain.0).bounds.upper
      high = bounds_high s p.domain.0

  pub post_straight : Straight (posted s p r)
  unfolding posted
  post_straight = Straight.enter q p r _ _ _ post_records

-- ---- creating

same : (s : Assignments) (x : ℕ) → record { lower = (variable_of s x).bounds.lower; upper = (variable_of s x).bounds.upper; holes = (domain_of s x).holes } ≡ domain_of s x
unfolding domain_of
same s x = refl

not_below : (z : ℤ) → lt_z z z ≡ false
not_below z = omega integers

-- an entry of a creation leaves the domain as it is
idle_records : (s : Assignments) (p : Predicate) (a b : Bool) → p.domain.0 < s.domains → s.trail.length < 1024 → s.checkpoint ≡ 0 → AreI32 (variable_of s p.domain.0).bounds → acts p.kind p.value (domain_of s p.domain.0) ≡ false → is_not_equal p.kind ≡ false → Records s p a b (variable_of s p.domain.0).bounds
idle_records s p a b there room root i idle plain = record {
  there = there;
  room = room;
  i32 = i;
  rule = rw plain (same s p.domain.0) ∙ sym (after_idle p.kind p.value (domain_of s p.domain.0) idle);
  keeps_lower = λ e. refl;
  keeps_upper = λ e. refl;
  lower_update = λ h. absurd (omega arith);
  upper_update = λ h. absurd (omega arith);
}

-- a variable that was just laid down has no hole
allocated_holes : (s : Assignments) (b : Bounds) → s.domains < 256 → length s.variables ≡ 256 → (domain_of (allocated s b) s.domains).holes ≡ []
unfolding domain_of allocated
allocated_holes s b few long =
    ap (λ (w : Variable). values_of (chain_of s.holes.updates w.holes)) (get_or-set_same s.variables s.domains _ no_variable (omega arith))
    ∙ ap values_of (no_link s.holes.updates 1024)

module _ (s : Assignments) (q : Straight s) (b : Bounds) (i : AreI32 b) (some : b.lower ≤ℤ b.upper) (root : s.checkpoint ≡ 0) (few : s.domains < 256) (room : s.trail.length + 2 ≤ 1024) where
  laid : Assignments
  laid = allocated s b

  begun : Assignments
  begun = recorded laid (at_least s.domains b.lower) None true false b

  laid_bounds : (variable_of laid s.domains).bounds ≡ b
  unfolding laid allocated
  laid_bounds = ap (λ (w : Variable). w.bounds) (get_or-set_same s.variables s.domains _ no_variable (omega (arith, (tidy q).long_variables)))

  laid_straight : Straight laid
  unfolding laid
  laid_straight = Straight.allocate q b i some root few

  begun_bounds : (variable_of begun s.domains).bounds ≡ b
  unfolding begun recorded
  begun_bounds = ap (λ (w : Variable). w.bounds) (get_or-set_same laid.variables s.domains _ no_variable (omega (arith, (tidy laid_straight).long_variables)))

  laid_records : Records laid (at_least s.domains b.lower) true false (variable_of laid s.domains).bounds
  unfolding laid allocated
  laid_records = idle_records laid (at_least s.domains b.lower) true false (omega arith) (omega arith) root (rw laid_bounds i) (rw (bounds_low laid s.domains, laid_bounds) (not_below b.lower)) refl

  begun_straight : Straight begun
  unfolding begun
  begun_straight = Straight.enter laid_straight (at_least s.domains b.lower) None true false b (subst (Records laid (at_least s.domains b.lower) true false) laid_bounds laid_records)

  begun_records : Records begun (at_most s.domains b.upper) false true (variable_of begun s.domains).bounds
  unfolding begun laid allocated recorded
  begun_records = idle_records begun (at_most s.domains b.upper) false true (omega arith) (omega arith) root (rw begun_bounds i) (rw (bounds_high begun s.domains, begun_bounds) (not_below b.upper)) refl

  pub grown_straight : Straight (grown s b)
  unfolding grown begun laid
  grown_straight = Straight.enter begun_straight (at_most s.domains b.upper) None false true b (subst (Records begun (at_most s.domains b.upper) false true) begun_bounds begun_records)

  -- the new variable's domain is dense
  pub grown_domain : domain_of (grown s b) s.domains ≡ record { lower = b.lower; upper = b.upper; holes = [] }
  unfolding grown begun laid
  grown_domain =
      recorded_own begun (at_most s.domains b.upper) None false true b (tidy begun_straight) (meant begun_straight) (subst (Records begun (at_most s.domains b.upper) false true) begun_bounds begun_records)
      ∙ ap (λ (hs : List ℤ). record { lower = b.lower; upper = b.upper; holes = hs }) (begun_holes ∙ laid_holes)
    where
      begun_holes : (domain_of begun s.domains).holes ≡ (domain_of laid s.domains).holes
      begun_holes = ap (λ (d : Domain). d.holes) (recorded_own laid (at_least s.domains b.lower) None true false b (tidy laid_straight) (meant laid_straight) (subst (Records laid (at_least s.domains b.lower) true false) laid_bounds laid_records))

      laid_holes : (domain_of laid s.domains).holes ≡ []
      laid_holes = allocated_holes s b few (tidy q).long_variables

-- ---- going back

-- from a straight store a synchronise leads to one of the stores on the way
pub back_straight : {s : Assignments} → Straight s → (k : ℕ) → k < s.checkpoint → Straight (synchronised s k)
unfolding bare allocated recorded marked opened
back_straight Straight.none k h = absurd (omega arith)
back_straight (Straight.allocate q b i l root few) k h = absurd (omega arith)
back_straight (Straight.enter {s = s} q p r a b to m) k h = subst Straight (sym (back_recorded s p r a b to (tidy q) m k h)) (back_straight q k h)
back_straight (Straight.mark q x root there) k h = absurd (omega arith)
back_straight (Straight.open_next {s = s} q few) k h = go (ltb k s.checkpoint) refl (λ l. back_straight q k l)
  where
    go : (b : Bool) → ltb k s.checkpoint ≡ b → (k < s.checkpoint → Straight (synchronised s k)) → Straight (synchronised (opened s) k)
    go true e before = subst Straight (sym (back_opened s (tidy q) k (ltb-true k s.checkpoint e))) (before (ltb-true k s.checkpoint e))
    go false e before =
        let here : k ≡ s.checkpoint = omega (arith, ltb-false k s.checkpoint e) in
        rw here (subst Straight (sym (back_where_opened s (tidy q) few)) q)
