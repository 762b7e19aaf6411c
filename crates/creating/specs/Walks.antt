-- The walk over the values between the bounds: what is still to be removed leads to the same store, because a listed value is none of it
-- and a missing one is the first of it.
use Rattle.std.specs.Prelude.{ℕ, suc, ◌+◌, ◌*◌, ◌≤◌, ◌<◌, ◌≡◌, false, ℤ, ◌≤ℤ◌, ◌<ℤ◌, length, set}
use Rattle.std.proofs.Common.{sym, ◌∙◌, get_or-set_same, arith}
use Rattle.std.proofs.Math.Path.{ap}
use Rattle.std.proofs.Math.Bool.{true}
use mathlib.Core.List.{List, [], ◌∷◌}
use Rattle.std.proofs.Math.IntN.{suc_ℤ}
use Rattle.std.proofs.Math.ListN.{length-set}
use Rattle.integers.specs.Integers.{eq_z}
use Rattle.integers.proofs.Order.{integers, suc=}
use Rattle.predicates.specs.declared.PredicateType.TheVariants.{NotEqual}
use Rattle.predicates.specs.declared.Reason.TheVariants.{None}
use Rattle.domains.specs.declared.Bounds.{Bounds}
use Rattle.domains.proofs.Tests.{by_cases, clash}
use Rattle.domains.specs.Domain.{has, width, pruned_by}
use Rattle.stores.specs.declared.Variable.{Variable}
use Rattle.stores.specs.declared.Assignments.{Assignments}
use Rattle.stores.specs.Store.{no_variable, variable_of, domain_of, entered, push_if, recorded}
use Rattle.stories.specs.Calls.{not_equal, unlisted, missing, span_of}
use Rattle.stores.specs.Calls.{posted, removed_all}
use Rattle.creating.specs.Parts.{without_reason}
use Rattle.integers.proofs.Still.{no_distance}

-- ---- one removal

-- value v of variable x may be removed: there is room for its entry and its hole, the count has not run out, and v is neither bound
pub record Removes (s : Assignments) (x : ℕ) (v : ℤ) : Type 0 where
  pub there : x < 256
  pub room : s.trail.length < 1024
  pub holes : s.holes.length < 1024
  pub count : s.pruned < 18446744073709551615
  pub low : eq_z v (variable_of s x).bounds.lower ≡ false
  pub high : eq_z v (variable_of s x).bounds.upper ≡ false

-- the store without a value that is neither bound: one entry and one hole more, and one more in the count
unfoldable pub removal : Assignments → ℕ → ℤ → Assignments
removal s x v =
    let was : Variable = variable_of s x in
    record {
      trail = entered s.trail (without_reason (not_equal x v) was.bounds);
      lower = s.lower;
      upper = s.upper;
      holes = push_if true s.holes (record { value = v; position = record { 0 = s.trail.length }; previous = was.holes });
      variables = set s.variables x (record { bounds = was.bounds; initial = was.initial; lower = was.lower; upper = was.upper; holes = suc s.holes.length; mark = was.mark });
      domains = s.domains;
      delimiters = s.delimiters;
      checkpoint = s.checkpoint;
      pruned = suc s.pruned;
    }

module _ (s : Assignments) (x : ℕ) (v : ℤ) where
  -- the bounds stay, which adds one to the count
  adds_one : s.pruned + pruned_by NotEqual (variable_of s x).bounds (variable_of s x).bounds ≡ suc s.pruned
  unfolding pruned_by
  adds_one =
      let b : Bounds = (variable_of s x).bounds in
      let low : eq_z b.lower b.lower ≡ true = omega integers in
      let high : eq_z b.upper b.upper ≡ true = omega integers in
      rw (no_distance b.lower, no_distance b.upper, low, high) (omega arith)

  pub posted_removal : eq_z v (variable_of s x).bounds.lower ≡ false → eq_z v (variable_of s x).bounds.upper ≡ false → posted s (not_equal x v) None ≡ removal s x v
  unfolding posted recorded removal domain_of
  posted_removal low high =
      let b : Bounds = (variable_of s x).bounds in
      let same_low : eq_z b.lower b.lower ≡ true = omega integers in
      let same_high : eq_z b.upper b.upper ≡ true = omega integers in
      rw (low, high, same_low, same_high)
      (λ i. record {
        trail = (removal s x v).trail;
        lower = s.lower;
        upper = s.upper;
        holes = (removal s x v).holes;
        variables = (removal s x v).variables;
        domains = s.domains;
        delimiters = s.delimiters;
        checkpoint = s.checkpoint;
        pruned = adds_one i;
      })

-- ---- the walk

-- a walk that began at the store g has come to the value v and the store s: what is left to remove leads where all that is missing leads,
-- no value is above the largest, and the bounds, which are listed, are as they were
pub record Walk (vs : List ℤ) (g : Assignments) (x : ℕ) (v : ℤ) (s : Assignments) : Type 0 where
  pub there : x < 256
  pub low : has vs (span_of vs).lower ≡ true
  pub high : has vs (span_of vs).upper ≡ true
  pub bounds : (variable_of s x).bounds ≡ span_of vs
  pub variables : length s.variables ≡ 256
  pub holes : s.holes.length ≤ s.trail.length
  pub count : s.pruned ≤ 8589934592 * s.trail.length
  pub short : s.trail.length ≤ 1024
  pub below : v ≤ℤ (span_of vs).upper
  pub same : removed_all s x (unlisted vs (width v (span_of vs).upper) v) ≡ removed_all g x (missing vs)
  pub long : s.trail.length + length (unlisted vs (width v (span_of vs).upper) v) ≡ g.trail.length + length (missing vs)

-- all that is missing is removed, and the trail had room for it
pub record Done (vs : List ℤ) (g : Assignments) (x : ℕ) (s : Assignments) : Type 0 where
  pub same : s ≡ removed_all g x (missing vs)
  pub long : s.trail.length ≡ g.trail.length + length (missing vs)
  pub short : s.trail.length ≤ 1024

-- from v on, v is the first
next_width : (v u : ℤ) → v ≤ℤ u → width v u ≡ suc (width (suc_ℤ v) u)
next_width v u h = omega (integers, suc= v)

unlisted_listed : (vs : List ℤ) (v u : ℤ) → v ≤ℤ u → has vs v ≡ true → unlisted vs (width v u) v ≡ unlisted vs (width (suc_ℤ v) u) (suc_ℤ v)
unfolding unlisted
unlisted_listed vs v u h e = rw (next_width v u h, e)

unlisted_missing : (vs : List ℤ) (v u : ℤ) → v ≤ℤ u → has vs v ≡ false → unlisted vs (width v u) v ≡ v ∷ unlisted vs (width (suc_ℤ v) u) (suc_ℤ v)
unfolding unlisted
unlisted_missing vs v u h e = rw (next_width v u h, e)

-- a listed value is not a missing one
other : (vs : List ℤ) (v z : ℤ) → has vs v ≡ false → has vs z ≡ true → eq_z v z ≡ false
other vs v z f g = by_cases (eq_z v z) (λ e. let same : v ≡ z = omega integers in clash g (rw same at f)) (λ e. e)

module _ (vs : List ℤ) (g : Assignments) (x : ℕ) (v : ℤ) (s : Assignments) (w : Walk vs g x v s) where
  pub walk_listed : has vs v ≡ true → v <ℤ (span_of vs).upper → Walk vs g x (suc_ℤ v) s
  walk_listed e h = record {
    there = w.there;
    low = w.low;
    high = w.high;
    bounds = w.bounds;
    variables = w.variables;
    holes = w.holes;
    count = w.count;
    short = w.short;
    below = omega (integers, suc= v);
    same = rw (unlisted_listed vs v (span_of vs).upper w.below e) at w.same;
    long = rw (unlisted_listed vs v (span_of vs).upper w.below e) at w.long;
  }

  pub walk_end : (span_of vs).upper ≤ℤ v → Done vs g x s
  unfolding unlisted removed_all
  walk_end h =
      let last : v ≡ (span_of vs).upper = omega (integers, w.below) in
      let listed : has vs v ≡ true = rw last w.high in
      let nothing : width (suc_ℤ v) (span_of vs).upper ≡ 0 = omega (integers, suc= v) in
      let empty : unlisted vs (width v (span_of vs).upper) v ≡ [] = unlisted_listed vs v (span_of vs).upper w.below listed ∙ rw nothing in
      record { same = rw empty at w.same; long = omega (arith, w.long, ap (length {A = ℤ}) empty); short = w.short }

  module _ (e : has vs v ≡ false) where
    first : unlisted vs (width v (span_of vs).upper) v ≡ v ∷ unlisted vs (width (suc_ℤ v) (span_of vs).upper) (suc_ℤ v)
    first = unlisted_missing vs v (span_of vs).upper w.below e

    pub walk_full : 1024 ≤ s.trail.length → 1024 < g.trail.length + length (missing vs)
    walk_full h = omega (arith, w.long, ap (length {A = ℤ}) first)

    module _ (room : s.trail.length < 1024) where
      pub walk_removes : Removes s x v
      walk_removes = record {
        there = w.there;
        room = room;
        holes = omega (arith, w.holes);
        count = omega (arith, w.count);
        low = rw w.bounds (other vs v (span_of vs).lower e w.low);
        high = rw w.bounds (other vs v (span_of vs).upper e w.high);
      }

      without_it : posted s (not_equal x v) None ≡ removal s x v
      without_it = posted_removal s x v walk_removes.low walk_removes.high

      pub walk_missing : v <ℤ (span_of vs).upper → Walk vs g x (suc_ℤ v) (posted s (not_equal x v) None)
      unfolding removal removed_all
      walk_missing h =
          rw without_it
          (record {
            there = w.there;
            low = w.low;
            high = w.high;
            bounds = ap (λ (y : Variable). y.bounds) (get_or-set_same s.variables x _ no_variable (omega (arith, w.there, w.variables))) ∙ w.bounds;
            variables = length-set s.variables x _ ∙ w.variables;
            holes = omega (arith, w.holes);
            count = omega (arith, w.count);
            short = room;
            below = omega (integers, suc= v);
            same = ap (λ (t : Assignments). removed_all t x (unlisted vs (width (suc_ℤ v) (span_of vs).upper) (suc_ℤ v))) (sym without_it) ∙ (rw first at w.same);
            long = omega (arith, w.long, ap (length {A = ℤ}) first);
          })
