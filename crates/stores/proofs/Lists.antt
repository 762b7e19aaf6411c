-- Creating from a list is steps: the smallest and the largest are listed, so what is missing lies strictly between them, and removing it
-- in rising order moves no bound.
use Prim.Native.Nat.{ℕ, zero, suc, ◌+◌, ◌≤◌, ◌<◌}
use mathlib.Core.Bool.{Bool, true, false, ◌||◌}
use mathlib.Core.Path.{◌≡◌, refl, ap, ◌∙◌, subst}
use mathlib.Core.List.{List, [], ◌∷◌}
use lib.IntN.{ℤ, pos, suc_ℤ}
use lib.ListN.{length, get_or}
use lib.Signed.{lt_z, ◌≤ℤ◌}
use native.Mathlib.Omega.{arith}
use mir.Syntax.{w32}
use mir.Val.{SFits}
use Rattle.integers.specs.Integers.{eq_z}
use Rattle.integers.proofs.Order.{integers, suc=, fits→, →fits}
use Rattle.predicates.specs.declared.PredicateType.TheVariants.{NotEqual}
use Rattle.predicates.specs.declared.Reason.TheVariants.{None}
use Rattle.domains.specs.declared.Bounds.{Bounds}
use Rattle.domains.specs.Choice.{pick}
use Rattle.domains.specs.Domain.{Domain, has, member, width, overflows}
use Rattle.domains.proofs.Membership.{Left, left, is_left}
use Rattle.domains.proofs.Tests.{clash}
use Rattle.stores.specs.declared.Assignments.{Assignments}
use Rattle.stores.specs.Made.{AreI32}
use Rattle.stores.specs.Store.{domain_of, recorded, allocated}
use Rattle.stories.specs.Calls.{not_equal, smallest, largest, span_of, unlisted, missing}
use Rattle.stores.specs.Calls.{grown, posted, removed_all, listed}
use Rattle.stores.proofs.Straight.{Straight, tidy}
use Rattle.stores.proofs.Meaning.{meant, recorded_own}
use Rattle.stores.proofs.Steps.{fits_of, post_records, post_straight, grown_straight, grown_domain}

-- ---- the span

or_left : (a b : Bool) → a ≡ true → (a || b) ≡ true
or_left a b e = rw e

or_right : (a b : Bool) → b ≡ true → (a || b) ≡ true
or_right true b e = refl
or_right false b e = e

-- a value of a shorter list is one of the longer
has_more : (a b : ℤ) (vs : List ℤ) (t : Bool) (z : ℤ) → has (pick t b a ∷ vs) z ≡ true → has (a ∷ b ∷ vs) z ≡ true
has_more a b vs true z e = or_right (eq_z z a) _ e
has_more a b vs false z e = go (eq_z z a) e
  where
    go : (q : Bool) → (q || has vs z) ≡ true → (q || (eq_z z b || has vs z)) ≡ true
    go true f = refl
    go false f = or_right (eq_z z b) _ f

has_first : (a : ℤ) (vs : List ℤ) → has (a ∷ vs) a ≡ true
has_first a vs = or_left (eq_z a a) _ (omega integers)

pub smallest_listed : (a : ℤ) (vs : List ℤ) → has (a ∷ vs) (smallest a vs) ≡ true
smallest_listed a [] = has_first a []
smallest_listed a (b ∷ vs) = has_more a b vs (lt_z b a) (smallest a (b ∷ vs)) (smallest_listed (pick (lt_z b a) b a) vs)

pub largest_listed : (a : ℤ) (vs : List ℤ) → has (a ∷ vs) (largest a vs) ≡ true
largest_listed a [] = has_first a []
largest_listed a (b ∷ vs) = has_more a b vs (lt_z a b) (largest a (b ∷ vs)) (largest_listed (pick (lt_z a b) b a) vs)

smallest_low : (a : ℤ) (vs : List ℤ) → smallest a vs ≤ℤ a
smallest_low a [] = omega integers
smallest_low a (b ∷ vs) = go (lt_z b a) refl (smallest_low (pick (lt_z b a) b a) vs)
  where
    go : (t : Bool) → lt_z b a ≡ t → smallest (pick t b a) vs ≤ℤ pick t b a → smallest (pick t b a) vs ≤ℤ a
    go true e h = omega integers
    go false e h = h

largest_high : (a : ℤ) (vs : List ℤ) → a ≤ℤ largest a vs
largest_high a [] = omega integers
largest_high a (b ∷ vs) = go (lt_z a b) refl (largest_high (pick (lt_z a b) b a) vs)
  where
    go : (t : Bool) → lt_z a b ≡ t → pick t b a ≤ℤ largest (pick t b a) vs → a ≤ℤ largest (pick t b a) vs
    go true e h = omega integers
    go false e h = h

-- what holds of every listed value holds of a listed value
listed_is : (P : ℤ → Type 0) (vs : List ℤ) → ((i : ℕ) → P (get_or vs i (pos 0))) → (z : ℤ) → has vs z ≡ true → P z
listed_is P [] f z e = clash e refl
listed_is P (a ∷ vs) f z e = go (eq_z z a) refl e (λ r. listed_is P vs (λ i. f (suc i)) z r)
  where
    go : (t : Bool) → eq_z z a ≡ t → (t || has vs z) ≡ true → (has vs z ≡ true → P z) → P z
    go true q r rest = let same : a ≡ z = omega integers in subst P same (f 0)
    go false q r rest = rest r

module _ (a : ℤ) (vs : List ℤ) (i : (j : ℕ) → SFits w32 (get_or (a ∷ vs) j (pos 0))) where
  pub span_i32 : AreI32 (span_of (a ∷ vs))
  span_i32 = record {
    lower = listed_is (SFits w32) (a ∷ vs) i _ (smallest_listed a vs);
    upper = listed_is (SFits w32) (a ∷ vs) i _ (largest_listed a vs);
  }

  pub span_proper : (span_of (a ∷ vs)).lower ≤ℤ (span_of (a ∷ vs)).upper
  span_proper = omega (integers, smallest_low a vs, largest_high a vs)

-- ---- removing

-- a value strictly between the bounds, removed: no bound moves, and what else was left is left
module _ (s : Assignments) (q : Straight s) (x : ℕ) (there : x < s.domains) (room : s.trail.length < 1024) (v : ℤ) (in' : member (domain_of s x) v ≡ true) (low : eq_z v (domain_of s x).lower ≡ false) (high : eq_z v (domain_of s x).upper ≡ false) where
  value_fits : SFits w32 v
  value_fits =
      let l = left (domain_of s x) v in' in
      let f = fits_of s q x there in
      →fits v (omega (integers, fits→ (domain_of s x).upper f.upper)) (omega (integers, fits→ (domain_of s x).lower f.lower))

  plain : overflows NotEqual v (domain_of s x) ≡ false
  plain = rw low

  after_removal : domain_of (posted s (not_equal x v) None) x ≡ record { lower = (domain_of s x).lower; upper = (domain_of s x).upper; holes = v ∷ (domain_of s x).holes }
  unfolding posted
  after_removal =
      recorded_own s (not_equal x v) None _ _ _ (tidy q) (meant q) (post_records s q (not_equal x v) None value_fits there in' room plain) ∙ rw (low, high)

  pub removal_straight : Straight (posted s (not_equal x v) None)
  removal_straight = post_straight s q (not_equal x v) None value_fits there in' room plain

  pub removal_keeps : (w : ℤ) → member (domain_of s x) w ≡ true → eq_z w v ≡ false → member (domain_of (posted s (not_equal x v) None) x) w ≡ true
  removal_keeps w m e =
      let l : Left (domain_of s x) w = left (domain_of s x) w m in
      let d : Domain = record { lower = (domain_of s x).lower; upper = (domain_of s x).upper; holes = v ∷ (domain_of s x).holes } in
      rw after_removal (is_left d w (record { above = l.above; below = l.below; kept = rw (e, l.kept) }))

  pub removal_bounds : ((domain_of (posted s (not_equal x v) None) x).lower ≡ (domain_of s x).lower) × ((domain_of (posted s (not_equal x v) None) x).upper ≡ (domain_of s x).upper)
  removal_bounds = (ap (λ (d : Domain). d.lower) after_removal, ap (λ (d : Domain). d.upper) after_removal)

  pub removal_length : (posted s (not_equal x v) None).trail.length ≡ suc s.trail.length
  unfolding posted recorded
  removal_length = refl

  pub removal_domains : (posted s (not_equal x v) None).domains ≡ s.domains
  unfolding posted recorded
  removal_domains = refl

-- of the n values from v on, those that are not listed may be removed: they are left, the bounds are listed, and there is room
pub record Removable (vs : List ℤ) (n : ℕ) (v : ℤ) (s : Assignments) (x : ℕ) : Type 0 where
  pub straight : Straight s
  pub there : x < s.domains
  pub low : has vs (domain_of s x).lower ≡ true
  pub high : has vs (domain_of s x).upper ≡ true
  pub inside : (w : ℤ) → v ≤ℤ w → width v w ≤ n → member (domain_of s x) w ≡ true
  pub room : s.trail.length + length (unlisted vs n v) ≤ 1024

unlisted_listed : (vs : List ℤ) (n : ℕ) (v : ℤ) → has vs v ≡ true → unlisted vs (suc n) v ≡ unlisted vs n (suc_ℤ v)
unfolding unlisted
unlisted_listed vs n v e = rw e

unlisted_missing : (vs : List ℤ) (n : ℕ) (v : ℤ) → has vs v ≡ false → unlisted vs (suc n) v ≡ v ∷ unlisted vs n (suc_ℤ v)
unfolding unlisted
unlisted_missing vs n v e = rw e

-- a listed value stays
pub listed_stays : (vs : List ℤ) (n : ℕ) (v : ℤ) (s : Assignments) (x : ℕ) → has vs v ≡ true → Removable vs (suc n) v s x → Removable vs n (suc_ℤ v) s x
listed_stays vs n v s x e r = record {
  straight = r.straight;
  there = r.there;
  low = r.low;
  high = r.high;
  inside = λ w h l. r.inside w (omega (integers, suc= v)) (omega (integers, suc= v));
  room = rw (unlisted_listed vs n v e) at r.room;
}

-- a listed bound is not a missing value
apart : (vs : List ℤ) (v z : ℤ) → has vs v ≡ false → has vs z ≡ true → eq_z v z ≡ false
apart vs v z f g = go (eq_z v z) refl
  where
    go : (t : Bool) → eq_z v z ≡ t → eq_z v z ≡ false
    go true e = let same : v ≡ z = omega integers in clash g (rw same at f)
    go false e = e

-- a missing value goes, and its removal is a post that moves no bound
module _ (vs : List ℤ) (n : ℕ) (v : ℤ) (s : Assignments) (x : ℕ) (e : has vs v ≡ false) (r : Removable vs (suc n) v s x) where
  pub gone_room : s.trail.length < 1024
  gone_room = let long = ap (length {A = ℤ}) (unlisted_missing vs n v e) in omega (arith, r.room)

  pub gone_inside : member (domain_of s x) v ≡ true
  gone_inside = r.inside v (omega integers) (omega integers)

  pub gone_low : eq_z v (domain_of s x).lower ≡ false
  gone_low = apart vs v (domain_of s x).lower e r.low

  pub gone_high : eq_z v (domain_of s x).upper ≡ false
  gone_high = apart vs v (domain_of s x).upper e r.high

  pub missing_goes : Removable vs n (suc_ℤ v) (posted s (not_equal x v) None) x
  missing_goes =
      let bounds = removal_bounds s r.straight x r.there gone_room v gone_inside gone_low gone_high in
      let long = ap (length {A = ℤ}) (unlisted_missing vs n v e) in
      record {
        straight = removal_straight s r.straight x r.there gone_room v gone_inside gone_low gone_high;
        there = rw (removal_domains s r.straight x r.there gone_room v gone_inside gone_low gone_high) r.there;
        low = rw bounds.0 r.low;
        high = rw bounds.1 r.high;
        inside = λ w h l. removal_keeps s r.straight x r.there gone_room v gone_inside gone_low gone_high w (r.inside w (omega (integers, suc= v)) (omega (integers, suc= v))) (omega (integers, suc= v));
        room = rw (removal_length s r.straight x r.there gone_room v gone_inside gone_low gone_high) (omega (arith, r.room));
      }

-- so all that is missing may be removed, one after another
pub removed_straight : (vs : List ℤ) (n : ℕ) (v : ℤ) (s : Assignments) (x : ℕ) → Removable vs n v s x → Straight (removed_all s x (unlisted vs n v))
unfolding removed_all unlisted
removed_straight vs zero v s x r = r.straight
removed_straight vs (suc n) v s x r = go (has vs v) refl (λ q. removed_straight vs n (suc_ℤ v) s x q) (λ q. removed_straight vs n (suc_ℤ v) (posted s (not_equal x v) None) x q)
  where
    go : (t : Bool) → has vs v ≡ t →
        (Removable vs n (suc_ℤ v) s x → Straight (removed_all s x (unlisted vs n (suc_ℤ v)))) →
        (Removable vs n (suc_ℤ v) (posted s (not_equal x v) None) x → Straight (removed_all (posted s (not_equal x v) None) x (unlisted vs n (suc_ℤ v)))) →
        Straight (removed_all s x (pick t (unlisted vs n (suc_ℤ v)) (v ∷ unlisted vs n (suc_ℤ v))))
    go true e stays goes = stays (listed_stays vs n v s x e r)
    go false e stays goes = goes (missing_goes vs n v s x e r)

-- what a removal leaves alone
pub removed_root : (ms : List ℤ) (s : Assignments) (x : ℕ) → (removed_all s x ms).checkpoint ≡ s.checkpoint
unfolding removed_all posted recorded
removed_root [] s x = refl
removed_root (m ∷ ms) s x = removed_root ms (posted s (not_equal x m) None) x

removed_domains : (ms : List ℤ) (s : Assignments) (x : ℕ) → (removed_all s x ms).domains ≡ s.domains
unfolding removed_all posted recorded
removed_domains [] s x = refl
removed_domains (m ∷ ms) s x = removed_domains ms (posted s (not_equal x m) None) x

module _ (s : Assignments) (q : Straight s) (a : ℤ) (vs : List ℤ) (i : (j : ℕ) → SFits w32 (get_or (a ∷ vs) j (pos 0))) (root : s.checkpoint ≡ 0) (few : s.domains < 256) (room : s.trail.length + (2 + length (missing (a ∷ vs))) ≤ 1024) where
  span : Bounds
  span = span_of (a ∷ vs)

  dense : Assignments
  dense = grown s span

  dense_straight : Straight dense
  unfolding dense span
  dense_straight = grown_straight s q span (span_i32 a vs i) (span_proper a vs i) root few (omega arith)

  dense_domain : domain_of dense s.domains ≡ record { lower = span.lower; upper = span.upper; holes = [] }
  unfolding dense span
  dense_domain = grown_domain s q span (span_i32 a vs i) (span_proper a vs i) root few (omega arith)

  dense_removable : Removable (a ∷ vs) (width span.lower span.upper) span.lower dense s.domains
  unfolding dense span grown recorded allocated
  dense_removable = record {
    straight = dense_straight;
    there = omega arith;
    low = rw dense_domain (smallest_listed a vs);
    high = rw dense_domain (largest_listed a vs);
    inside = λ w h l. rw dense_domain (is_left (record { lower = span.lower; upper = span.upper; holes = [] }) w (record { above = h; below = omega (integers, span_proper a vs i); kept = refl }));
    room = omega arith;
  }

  pub listed_straight : Straight (listed s (a ∷ vs))
  unfolding listed dense span grown recorded allocated
  listed_straight =
      Straight.mark (removed_straight (a ∷ vs) (width span.lower span.upper) span.lower dense s.domains dense_removable)
      s.domains (removed_root (missing (a ∷ vs)) dense s.domains ∙ root) (omega (arith, removed_domains (missing (a ∷ vs)) dense s.domains))
