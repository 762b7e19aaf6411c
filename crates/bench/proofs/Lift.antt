-- A store answers and shows what the rules come to for the one variable: a post that makes an entry makes of the domain what the rules
-- make of it, and every other post leaves the store alone; creating is such entries from a dense domain on.
use Rattle.integers.proofs.Still.{no_distance}
use Rattle.predicates.specs.declared.DomainId.{DomainId}
use Rattle.std.specs.Prelude.{Result, Ok}
use Rattle.stories.specs.declared.Refusal.{Refusal}
use Prim.Native.Nat.{ℕ, zero, suc, ◌+◌, ◌≤◌, ◌<◌}
use mathlib.Core.Bool.{Bool, true, false, ◌&&◌, and-true}
use mathlib.Core.Path.{◌≡◌, refl, sym, ap, ◌∙◌}
use mathlib.Core.List.{List, [], ◌∷◌, foldl}
use lib.IntN.{ℤ, pos, suc_ℤ}
use lib.ListN.{length, get_or}
use lib.Seq.{get_or-set_same}
use lib.Dec.{leb}
use lib.Signed.{le_z, ◌≤ℤ◌}
use borrow.Author.Tests.{leb-true, leb-false}
use native.Mathlib.Omega.{arith}
use mir.Syntax.{w32}
use mir.Val.{SFits}
use Rattle.integers.specs.Integers.{eq_z}
use Rattle.integers.proofs.Order.{integers, fits→, →fits}
use Rattle.predicates.specs.declared.PredicateType.{PredicateType}
use Rattle.predicates.specs.declared.PredicateType.TheVariants.{LowerBound, NotEqual, UpperBound}
use Rattle.predicates.specs.declared.Reason.TheVariants.{None}
use Rattle.domains.specs.declared.Bounds.{Bounds}
use Rattle.domains.specs.Choice.{pick}
use Rattle.domains.specs.Domain.{is_not_equal, has, member, width, acts, overflows, moved, pruned_by}
use Rattle.domains.proofs.Tests.{picked, both, clash}
use Rattle.domains.specs.Limits.{first, last}
use Rattle.domains.proofs.Membership.{left, is_left}
use Rattle.stores.specs.declared.Variable.{Variable}
use Rattle.stores.specs.declared.Assignments.{Assignments}
use Rattle.pools.specs.Chain.{chain_of, values_of}
use Rattle.stores.specs.Store.{no_variable, bare, variable_of, domain_of, recorded, allocated, marked}
use Rattle.stories.specs.Calls.{at_least, not_equal, span_of, unlisted, missing}
use Rattle.stores.specs.Calls.{fresh, removed_all, listed, grown, post_answer, post_store, posted}
use Rattle.stores.specs.Made.{AreI32, Made}
use Rattle.stores.proofs.Straight.{Straight, tidy, at_set}
use Rattle.stores.proofs.Meaning.{meant, recorded_own}
use Rattle.stores.proofs.Steps.{fits_of, post_records, grown_straight, grown_domain}
use Rattle.stores.proofs.Cases.{grow_taken, list_taken, post_idle, post_full, post_overflows, post_taken, post_cases}
use Rattle.stores.proofs.Lists.{Removable, listed_stays, gone_room, gone_inside, gone_low, gone_high, missing_goes, removed_straight, span_i32, span_proper, smallest_listed, largest_listed}
use Rattle.stores.proofs.History.{straight}
use Rattle.bench.specs.Seen.{Seen, Start, Post, Line, begun, looked, created, line, on, shown, ran}
use Rattle.bench.proofs.Run.{dense_after, without, remarked, list_after, begins, entered, comes, run}

-- ---- i32, as a test

-- v is an i32
abbrev pub is_i32 : ℤ → Bool
is_i32 v = le_z first v && le_z v last

is_i32_lem : (v : ℤ) → is_i32 v ≡ true → SFits w32 v
is_i32_lem v e = let b = both (le_z first v) _ e in →fits v (omega (integers, b.0, b.1)) (omega (integers, b.0, b.1))

-- all of a list pass the test
abbrev pub every : {A : Type 0} → (A → Bool) → List A → Bool
every f [] = true
every f (a ∷ l) = f a && every f l

-- ---- posts

-- a post that makes an entry
module _ (s : Assignments) (q : Straight s) (x : ℕ) (there : x < s.domains) (p : Post) (i : SFits w32 p.value) (acting : acts p.kind p.value (domain_of s x) ≡ true) (room : s.trail.length < 1024) (fits : overflows p.kind p.value (domain_of s x) ≡ false) where
  posted_shown : shown (posted s (on x p) None) x ≡ entered (shown s x) p
  unfolding shown posted recorded domain_of moved
  posted_shown =
      let k = post_records s q (on x p) None i there acting room fits in
      let to = recorded_own s (on x p) None _ _ _ (tidy q) (meant q) k in
      let mark = at_set (λ (w : Variable). w.mark.0 ≡ (variable_of s x).mark.0) s.variables x x _ no_variable refl refl in
      λ j. record {
        variables = s.domains;
        checkpoint = s.checkpoint;
        domain = to j;
        mark = mark j;
        entries = suc s.trail.length;
        count = (entered (shown s x) p).count;
      }

-- any post
module _ (s : Assignments) (m : Made s) (x : ℕ) (there : x < s.domains) (p : Post) (i : SFits w32 p.value) where
  -- what the store makes of it
  told : Line
  told = line p (post_answer s (on x p)) (shown (post_store s (on x p) None) x)

  -- by the cases of the call
  told_is : {a : Result Bool Refusal} {t : Assignments} {w : Seen} → (a ≡ post_answer s (on x p)) × (t ≡ post_store s (on x p) None) → shown t x ≡ w → told ≡ line p a w
  unfolding told
  told_is {a} e f = sym (λ j. line p (e.0 j) (shown (e.1 j) x)) ∙ ap (line p a) f

  post_shown : told ≡ comes (shown s x) p
  unfolding shown
  post_shown =
      picked (λ l. told ≡ l) (acts p.kind p.value (domain_of s x))
      (λ a.
      picked (λ l. told ≡ l) (leb 1024 s.trail.length)
      (λ f. told_is (post_full s (on x p) None there a (leb-true _ _ f)) refl)
      (λ f.
      picked (λ l. told ≡ l) (overflows p.kind p.value (domain_of s x))
      (λ o. told_is (post_overflows s (on x p) None there a (leb-false _ _ f) o) refl)
      (λ o. told_is (post_taken s (on x p) None there a (leb-false _ _ f) o) (posted_shown s (straight m) x there p i a (leb-false _ _ f) o))))
      (λ a. told_is (post_idle s (on x p) None there a (tidy (straight m)).entries) refl)

  -- the variable is there after it
  still_there : x < (post_store s (on x p) None).domains
  unfolding posted recorded
  still_there = post_cases s (on x p) None (λ (t : Assignments). x < t.domains) (tidy (straight m)).entries there (λ h a r o. there)

-- posts one after another give what the rules give
pub run_law : (s : Assignments) → Made s → (x : ℕ) → x < s.domains → (ps : List Post) → every (λ (p : Post). is_i32 p.value) ps ≡ true → ran s x ps ≡ run (shown s x) ps
unfolding ran told
run_law s m x there [] i = refl
run_law s m x there (p ∷ ps) i =
    let b = both (is_i32 p.value) _ i in
    let f = is_i32_lem p.value b.0 in
    ap (λ (ls : List Line). told s m x there p f ∷ ls) (run_law (post_store s (on x p) None) (Made.post m (on x p) None f) x (still_there s m x there p f) ps b.1)
    ∙ ap (λ (l : Line). l ∷ run l.sight ps) (post_shown s m x there p f)

-- ---- creating

-- an entry that moves no bound adds 1 to the count if it is a not-equal, and else nothing
pruned_still : (k : PredicateType) (b : Bounds) → pruned_by k b b ≡ pick (is_not_equal k) 1 0
unfolding pruned_by
pruned_still k b =
    let low : eq_z b.lower b.lower ≡ true = omega integers in
    let high : eq_z b.upper b.upper ≡ true = omega integers in
    rw (no_distance b.lower, no_distance b.upper, low, high, and-true (is_not_equal k)) (omega arith)

-- a dense variable
module _ (s : Assignments) (q : Straight s) (b : Bounds) (i : AreI32 b) (some : b.lower ≤ℤ b.upper) (root : s.checkpoint ≡ 0) (few : s.domains < 256) (room : s.trail.length + 2 ≤ 1024) where
  -- its entries keep its bounds and its mark
  Kept : Variable → Type 0
  Kept w = (w.bounds ≡ b) × (w.mark.0 ≡ suc s.trail.length)

  grown_shown : shown (grown s b) s.domains ≡ dense_after b s.domains s.trail.length s.pruned
  unfolding shown grown recorded allocated Kept
  grown_shown =
      let x : ℕ = s.domains in
      let laid : Kept (variable_of (allocated s b) x) = rw (get_or-set_same s.variables x _ no_variable (omega (arith, (tidy q).long_variables))) (refl, omega arith) in
      let begun = recorded (allocated s b) (at_least x b.lower) None true false b in
      let one : Kept (variable_of begun x) = at_set Kept (allocated s b).variables x x _ no_variable laid (refl, laid.1) in
      let two : Kept (variable_of (grown s b) x) = at_set Kept begun.variables x x _ no_variable one (refl, one.1) in
      let domain = grown_domain s q b i some root few room in
      let count : (grown s b).pruned ≡ s.pruned = rw (laid.0, one.0) (omega (arith, pruned_still LowerBound b, pruned_still UpperBound b)) in
      λ j. record {
        variables = suc x;
        checkpoint = root j;
        domain = domain j;
        mark = two.1 j;
        entries = suc (suc s.trail.length);
        count = count j;
      }

-- a value strictly between the bounds is removed
module _ (s : Assignments) (q : Straight s) (x : ℕ) (there : x < s.domains) (room : s.trail.length < 1024) (v : ℤ) (in' : member (domain_of s x) v ≡ true) (low : eq_z v (domain_of s x).lower ≡ false) (high : eq_z v (domain_of s x).upper ≡ false) where
  -- it is an i32, as they are
  value_fits : SFits w32 v
  value_fits =
      let l = left (domain_of s x) v in' in
      let f = fits_of s q x there in
      →fits v (omega (integers, fits→ (domain_of s x).upper f.upper)) (omega (integers, fits→ (domain_of s x).lower f.lower))

  removed_shown : shown (posted s (not_equal x v) None) x ≡ without (shown s x) v
  unfolding shown moved
  removed_shown =
      posted_shown s q x there (record { kind = NotEqual; value = v }) value_fits in' room (rw low)
      ∙ rw (low, high, pruned_still)

-- all that is missing is removed, one after another
all_removed_shown : (vs : List ℤ) (n : ℕ) (v : ℤ) (s : Assignments) (x : ℕ) → Removable vs n v s x → shown (removed_all s x (unlisted vs n v)) x ≡ foldl without (shown s x) (unlisted vs n v)
unfolding removed_all unlisted
all_removed_shown vs zero v s x r = refl
all_removed_shown vs (suc n) v s x r =
    picked (λ ms. shown (removed_all s x ms) x ≡ foldl without (shown s x) ms) (has vs v)
    (λ e. all_removed_shown vs n (suc_ℤ v) s x (listed_stays vs n v s x e r))
    (λ e.
    all_removed_shown vs n (suc_ℤ v) (posted s (not_equal x v) None) x (missing_goes vs n v s x e r)
    ∙ ap (λ (w : Seen). foldl without w (unlisted vs n (suc_ℤ v))) (removed_shown s r.straight x r.there (gone_room vs n v s x e r) v (gone_inside vs n v s x e r) (gone_low vs n v s x e r) (gone_high vs n v s x e r)))

-- the mark is put at the last entry
marked_shown : (s : Assignments) → Straight s → (x : ℕ) → x < 256 → shown (marked s x) x ≡ remarked (shown s x)
unfolding shown marked domain_of
marked_shown s q x few =
    let self = get_or-set_same s.variables x _ no_variable (omega (arith, (tidy q).long_variables)) in
    λ j. record {
      variables = s.domains;
      checkpoint = s.checkpoint;
      domain = record { lower = (self j).bounds.lower; upper = (self j).bounds.upper; holes = values_of (chain_of s.holes.updates (self j).holes) };
      mark = (self j).mark.0;
      entries = s.trail.length;
      count = s.pruned;
    }

-- a variable from a list
module _ (s : Assignments) (q : Straight s) (a : ℤ) (vs : List ℤ) (i : (j : ℕ) → SFits w32 (get_or (a ∷ vs) j (pos 0))) (root : s.checkpoint ≡ 0) (few : s.domains < 256) (room : s.trail.length + (2 + length (missing (a ∷ vs))) ≤ 1024) where
  span : Bounds
  span = span_of (a ∷ vs)

  -- what is missing may be removed from the dense variable
  removable : Removable (a ∷ vs) (width span.lower span.upper) span.lower (grown s span) s.domains
  unfolding span grown recorded allocated
  removable =
      let is = grown_domain s q span (span_i32 a vs i) (span_proper a vs i) root few (omega arith) in
      record {
        straight = grown_straight s q span (span_i32 a vs i) (span_proper a vs i) root few (omega arith);
        there = omega arith;
        low = rw is (smallest_listed a vs);
        high = rw is (largest_listed a vs);
        inside = λ w h l. rw is (is_left (record { lower = span.lower; upper = span.upper; holes = [] }) w (record { above = h; below = omega (integers, span_proper a vs i); kept = refl }));
        room = omega arith;
      }

  listed_shown : shown (listed s (a ∷ vs)) s.domains ≡ list_after (a ∷ vs) s.domains s.trail.length s.pruned
  unfolding listed span
  listed_shown =
      marked_shown _ (removed_straight (a ∷ vs) _ span.lower (grown s span) s.domains removable) s.domains few
      ∙ ap remarked
      (all_removed_shown (a ∷ vs) _ span.lower (grown s span) s.domains removable
      ∙ ap (λ (w : Seen). foldl without w (missing (a ∷ vs))) (grown_shown s q span (span_i32 a vs i) (span_proper a vs i) root few (omega arith)))

-- removals create no variable
removals_keep : (ms : List ℤ) (w : Seen) → (foldl without w ms).variables ≡ w.variables
removals_keep [] w = refl
removals_keep (m ∷ ms) w = removals_keep ms (without w m)

-- ---- from a fresh store

-- a fresh store, and the room that it has
fresh_shown : shown fresh 0 ≡ begins Start.fresh
unfolding fresh bare
fresh_shown =
    let i : AreI32 (record { lower = pos 1; upper = pos 1 }) = record { lower = is_i32_lem (pos 1) refl; upper = is_i32_lem (pos 1) refl } in
    grown_shown bare Straight.none (record { lower = pos 1; upper = pos 1 }) i (omega integers) refl (omega arith) (omega arith)

fresh_root : fresh.checkpoint ≤ 0
unfolding shown
fresh_root = omega (arith, ap (λ (w : Seen). w.checkpoint) fresh_shown)

fresh_few : fresh.domains < 256
unfolding shown
fresh_few = omega (arith, ap (λ (w : Seen). w.variables) fresh_shown)

fresh_entries : fresh.trail.length ≡ 2
unfolding shown
fresh_entries = ap (λ (w : Seen). w.entries) fresh_shown

-- the next variable is number 1, after 2 entries and with count 0
next_variable : ◌≡◌ {A = Result DomainId Refusal} (Ok (record { 0 = fresh.domains })) (Ok (record { 0 = 1 }))
unfolding shown
next_variable = ap (λ (w : Seen). Ok (record { 0 = w.variables })) fresh_shown

next_shown : (after : ℕ → ℕ → ℕ → Seen) {s t : Assignments} → s ≡ t → shown s fresh.domains ≡ after fresh.domains fresh.trail.length fresh.pruned → shown t 1 ≡ after 1 2 0
unfolding shown
next_shown after e h =
    sym (λ j. shown (e j) (fresh_shown j).variables) ∙ h ∙ λ j. after (fresh_shown j).variables (fresh_shown j).entries (fresh_shown j).count

-- a creation that is not refused: i32, not empty, and with room for the entries
abbrev pub sound : Start → Bool
sound Start.fresh = true
sound (Start.dense b) = is_i32 b.lower && (is_i32 b.upper && le_z b.lower b.upper)
sound (Start.list []) = false
sound (Start.list (v ∷ vs)) = every is_i32 (v ∷ vs) && leb (length (missing (v ∷ vs))) 1020

-- what such a creation comes to
pub record Begins (st : Start) : Type 0 where
  pub made : Made (begun st)
  pub variable : created st ≡ Ok (record { 0 = looked st })
  pub shows : shown (begun st) (looked st) ≡ begins st
  pub there : looked st < (begins st).variables

every_i32 : (vs : List ℤ) → every is_i32 vs ≡ true → (j : ℕ) → SFits w32 (get_or vs j (pos 0))
every_i32 [] e j = is_i32_lem (pos 0) refl
every_i32 (v ∷ vs) e zero = is_i32_lem v (both (is_i32 v) _ e).0
every_i32 (v ∷ vs) e (suc j) = every_i32 vs (both (is_i32 v) _ e).1 j

-- a check begins as the rules have it
pub start_law : (st : Start) → sound st ≡ true → Begins st
start_law Start.fresh e = record { made = Made.fresh; variable = refl; shows = fresh_shown; there = omega arith }
start_law (Start.dense b) e =
    let low = both (is_i32 b.lower) _ e in
    let high = both (is_i32 b.upper) _ low.1 in
    let i : AreI32 b = record { lower = is_i32_lem b.lower low.0; upper = is_i32_lem b.upper high.0 } in
    let room : fresh.trail.length + 2 ≤ 1024 = omega (arith, fresh_entries) in
    let taken = grow_taken fresh b fresh_root (omega (integers, high.1)) fresh_few room in
    record {
      made = Made.grow Made.fresh b i;
      variable = sym taken.0 ∙ next_variable;
      shows = next_shown (dense_after b) taken.1 (grown_shown fresh (straight Made.fresh) b i (omega (integers, high.1)) (omega (arith, fresh_root)) fresh_few room);
      there = omega arith;
    }
start_law (Start.list []) e = clash e refl
start_law (Start.list (v ∷ vs)) e =
    let b = both (every is_i32 (v ∷ vs)) _ e in
    let i = every_i32 (v ∷ vs) b.0 in
    let room : fresh.trail.length + (2 + length (missing (v ∷ vs))) ≤ 1024 = omega (arith, fresh_entries, leb-true (length (missing (v ∷ vs))) 1020 b.1) in
    let taken = list_taken fresh (v ∷ vs) fresh_root refl fresh_few room in
    record {
      made = Made.list Made.fresh (v ∷ vs) i;
      variable = sym taken.0 ∙ next_variable;
      shows = next_shown (list_after (v ∷ vs)) taken.1 (listed_shown fresh (straight Made.fresh) v vs i (omega (arith, fresh_root)) fresh_few room);
      there = omega (arith, removals_keep (missing (v ∷ vs)) (dense_after (span_of (v ∷ vs)) 1 2 0));
    }
