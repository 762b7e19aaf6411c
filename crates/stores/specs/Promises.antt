-- What is promised of the store: statements alone, in the order of the demands. The proofs are in Kept.antt. Believe the definitions that
-- these cite (Refusals, Words, Store, Calls, Made, Replay, Positions, and Domain of domains) and nothing else. Assumes nothing.
use Rattle.std.specs.Prelude.{ℕ, suc, ◌+◌, ◌≤◌, ◌<◌, min, Bool, true, false, ◌&&◌, ◌≡◌, ◌≢◌, ◌↔◌, List, [], ℤ, length, Err}
use Rattle.std.specs.Int.Signed.{lt_z}
use Rattle.std.specs.Int.{w32}
use Rattle.std.proofs.Common.{SFits}
use Rattle.predicates.specs.declared.Checkpoint.{Checkpoint}
use Rattle.predicates.specs.declared.DomainId.{DomainId}
use Rattle.predicates.specs.declared.Predicate.{Predicate}
use Rattle.predicates.specs.declared.Reason.{Reason}
use Rattle.domains.specs.declared.Bounds.{Bounds}
use Rattle.domains.specs.Domain.{satisfies, member, emptied, overflows}
use Rattle.domains.specs.Promises.{Tight}
use Rattle.stories.specs.declared.Refusal.{Refusal}
use Rattle.stores.specs.declared.Assignments.{Assignments}
use Rattle.stores.specs.declared.Called.{Called}
use Rattle.stories.specs.Refusals.{number_of, First}
use Rattle.stories.specs.Words.{told_of, reason_of}
use Rattle.stories.specs.Words.Told.{ok, refused}
use Rattle.stores.specs.Store.{variable_of, domain_of, entry_of}
use Rattle.stores.specs.Calls.{grow_grounds, grow_answer, grow_store, list_answer, list_store, domain_before, post_grounds, post_answer, keeps, post_store, open_grounds, open_answer, open_store, entries_above, synchronise_grounds, synchronise_answer, synchronise_store, pairs_of}
use Rattle.stories.specs.Calls.{missing, is_empty}
use Rattle.stores.specs.Made.{Made, Since}
use Rattle.stories.specs.Story.{remains}
use Rattle.stores.specs.Replay.{pruned_up_to}
use Rattle.stores.specs.Positions.{domain_at}

-- ---- Demand 1: refusals

-- each call's answer is a refusal exactly when that is the first in the call's order of which the test holds
pub record RefusalLaw : Type 0 where
  pub grow : (s : Assignments) (b : Bounds) (r : Refusal) → (grow_answer s b ≡ Err r) ↔ First (grow_grounds s (lt_z b.upper b.lower) 2) r
  pub list : (s : Assignments) (vs : List ℤ) (r : Refusal) → (list_answer s vs ≡ Err r) ↔ First (grow_grounds s (is_empty vs) (2 + length (missing vs))) r
  pub post : (s : Assignments) (p : Predicate) (r : Refusal) → (post_answer s p ≡ Err r) ↔ First (post_grounds s p) r
  pub open_next : (s : Assignments) (r : Refusal) → (open_answer s ≡ Err r) ↔ First (open_grounds s) r
  pub synchronise : (s : Assignments) (k room : ℕ) (r : Refusal) → (synchronise_answer s k room ≡ Err r) ↔ First (synchronise_grounds s k room) r

-- every refusal but 7 leaves the store as it was, and a refused synchronise writes nothing
pub record UntouchedLaw : Type 0 where
  pub grow : (s : Assignments) (b : Bounds) (r : Refusal) → grow_answer s b ≡ Err r → grow_store s b ≡ s
  pub list : (s : Assignments) (vs : List ℤ) (r : Refusal) → list_answer s vs ≡ Err r → list_store s vs ≡ s
  pub post : (s : Assignments) (p : Predicate) (why : Reason) (r : Refusal) → post_answer s p ≡ Err r → number_of r ≢ 7 → post_store s p why ≡ s
  pub open_next : (s : Assignments) (r : Refusal) → open_answer s ≡ Err r → open_store s ≡ s
  pub synchronise : (s : Assignments) (k room : ℕ) (r : Refusal) → synchronise_answer s k room ≡ Err r → (synchronise_store s k room ≡ s) × (pairs_of s k room ≡ [])

-- what a post answers depends on the number of variables, the variable's domain and the number of entries now on the trail, and on
-- nothing else: room that a synchronise freed is used again
abbrev pub RoomLaw : Type 0
RoomLaw = (s t : Assignments) (p : Predicate) → s.domains ≡ t.domains → domain_before s p ≡ domain_before t p → s.trail.length ≡ t.trail.length → post_answer s p ≡ post_answer t p

-- any two results that conform to a call's statement are equal, lent memory included
pub record SameLaw : Type 1 where
  pub grow : (s : Assignments) (b : Bounds) (r t : Called DomainId) →
      (r.answer ≡ grow_answer s b) × (r.store ≡ grow_store s b) → (t.answer ≡ grow_answer s b) × (t.store ≡ grow_store s b) → r ≡ t
  pub list : (s : Assignments) (vs : List ℤ) (r t : Called DomainId) →
      (r.answer ≡ list_answer s vs) × (r.store ≡ list_store s vs) → (t.answer ≡ list_answer s vs) × (t.store ≡ list_store s vs) → r ≡ t
  pub post : (s : Assignments) (p : Predicate) (why : Reason) (r t : Called Bool) →
      (r.answer ≡ post_answer s p) × (r.store ≡ post_store s p why) → (t.answer ≡ post_answer s p) × (t.store ≡ post_store s p why) → r ≡ t
  pub open_next : (s : Assignments) (r t : Called Checkpoint) →
      (r.answer ≡ open_answer s) × (r.store ≡ open_store s) → (t.answer ≡ open_answer s) × (t.store ≡ open_store s) → r ≡ t
  pub synchronise : (s : Assignments) (k room : ℕ) (r t : Called ℕ) →
      (r.answer ≡ synchronise_answer s k room) × (r.store ≡ synchronise_store s k room) → (t.answer ≡ synchronise_answer s k room) × (t.store ≡ synchronise_store s k room) → r ≡ t
  -- a look's answer, and a lent slice, are equal to one thing
  pub look : {A : Type 0} {x y told : A} → x ≡ told → y ≡ told → x ≡ y

-- ---- Demand 2: posts

-- a post that is taken, or refused with 7, leaves exactly the values before that satisfy it, and every other variable as it was
abbrev pub SetLaw : Type 0
SetLaw =
    (s : Assignments) → Made s → (p : Predicate) (why : Reason) → SFits w32 p.value → keeps (post_answer s p) ≡ true →
    ((v : ℤ) → member (domain_of (post_store s p why) p.domain.0) v ≡ (member (domain_before s p) v && satisfies p.kind p.value v))
    × ((y : ℕ) → y ≢ p.domain.0 → domain_of (post_store s p why) y ≡ domain_of s y)

-- lower and upper are the least and the greatest value left, if any is, and none is exactly when lower > upper
abbrev pub BoundsLaw : Type 0
BoundsLaw =
    (s : Assignments) → Made s → (x : ℕ) → x < s.domains →
    Tight (domain_of s x) × ((emptied (domain_of s x) ≡ true) ↔ ((v : ℤ) → member (domain_of s x) v ≡ false))

-- some value of the set before is lost by the post; some is left
abbrev pub Lost : Assignments → Predicate → Type 0
Lost s p = (v : ℤ) × (member (domain_before s p) v ≡ true) × (satisfies p.kind p.value v ≡ false)

abbrev pub SomeLeft : Assignments → Predicate → Type 0
SomeLeft s p = (v : ℤ) × (member (domain_before s p) v ≡ true) × (satisfies p.kind p.value v ≡ true)

-- 0 is unchanged and 1 is changed. Where the set before was not empty: unchanged, with the store as it was, exactly when nothing is
-- lost; changed exactly when something is lost, something is left and there is room for the entry; 7 exactly when nothing is left,
-- unless 5 or 6 comes first
pub record AnswerLaw : Type 0 where
  pub unchanged : (s : Assignments) → Made s → (p : Predicate) → p.domain.0 < s.domains → emptied (domain_before s p) ≡ false → (told_of (post_answer s p) ≡ ok 0) ↔ (Lost s p → ⊥)
  pub no_entry : (s : Assignments) → Made s → (p : Predicate) (why : Reason) → told_of (post_answer s p) ≡ ok 0 → post_store s p why ≡ s
  -- changed: one entry more, with the predicate, the bounds before and the reason as it was given
  pub one_entry : (s : Assignments) → Made s → (p : Predicate) (why : Reason) → told_of (post_answer s p) ≡ ok 1 →
      ((post_store s p why).trail.length ≡ suc s.trail.length)
      × ((entry_of (post_store s p why) s.trail.length).predicate ≡ p)
      × ((entry_of (post_store s p why) s.trail.length).old ≡ (variable_of s p.domain.0).bounds)
      × (reason_of (entry_of (post_store s p why) s.trail.length).reason ≡ reason_of why)
  pub changed : (s : Assignments) → Made s → (p : Predicate) → p.domain.0 < s.domains → emptied (domain_before s p) ≡ false → (told_of (post_answer s p) ≡ ok 1) ↔ (Lost s p × SomeLeft s p × (s.trail.length < 1024))
  pub emptied_by : (s : Assignments) → Made s → (p : Predicate) → p.domain.0 < s.domains → emptied (domain_before s p) ≡ false → (told_of (post_answer s p) ≡ refused 7) ↔ ((SomeLeft s p → ⊥) × (s.trail.length < 1024) × (overflows p.kind p.value (domain_before s p) ≡ false))

-- ---- Demand 3: the trail

-- a value is left now exactly when it remains after all entries of the trail
abbrev pub ReplayLaw : Type 0
ReplayLaw =
    (s : Assignments) → Made s → (x : ℕ) → x < s.domains → (v : ℤ) →
    member (domain_of s x) v ≡ remains s.trail.entries x (variable_of s x).initial v s.trail.length

-- what the store has for a position is what remains there, with tight bounds; a position past the trail means now
abbrev pub PositionLaw : Type 0
PositionLaw =
    (s : Assignments) → Made s → (x p : ℕ) → x < s.domains →
    ((v : ℤ) → member (domain_at s x p) v ≡ remains s.trail.entries x (variable_of s x).initial v (min (suc p) s.trail.length))
    × Tight (domain_at s x p)
    × (s.trail.length ≤ suc p → domain_at s x p ≡ domain_of s x)

-- the pruned count is the sum over the entries now on the trail, and never wraps
abbrev pub CountLaw : Type 0
CountLaw =
    (s : Assignments) → Made s →
    (s.pruned ≡ pruned_up_to s.trail.entries (λ x. (variable_of s x).initial) s.trail.length) × (s.pruned < 18446744073709551616)

-- synchronising to a lower checkpoint gives back the very store from which the next one was last opened, and so every answer of every
-- question that there is or will be
abbrev pub BackLaw : Type 0
BackLaw = (m s : Assignments) (room : ℕ) → Made m → Since m s → entries_above s m.checkpoint ≤ room → synchronise_store s m.checkpoint room ≡ m

-- and for each lower checkpoint there is such a store
abbrev pub OpenedLaw : Type 0
OpenedLaw = (s : Assignments) → Made s → (k : ℕ) → k < s.checkpoint → (m : Assignments) × Made m × (m.checkpoint ≡ k) × Since m s
