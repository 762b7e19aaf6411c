-- What is promised of every store, told of its story: statements alone, in the order of the demands. Nothing
-- proves them of stories yet; what is proved of stores is in Promises.antt of stores. Believe the definitions that these cite (Refusals,
-- Words, Story and Calls; Domain of domains) and nothing else. Assumes nothing.
use Rattle.std.specs.Prelude.{ℕ, suc, ◌≤◌, ◌<◌, true, false, ◌&&◌, ◌≡◌, ◌≢◌, ◌↔◌, [], ℤ, length, get_or, Err}
use Rattle.domains.specs.Domain.{satisfies, member, emptied, overflows}
use Rattle.domains.specs.Promises.{Tight}
use Rattle.stories.specs.declared.Post.{Post}
use Rattle.stories.specs.declared.Entry.{Entry}
use Rattle.stories.specs.declared.Refusal.{Refusal}
use Rattle.stories.specs.Capacities.{max_variables, max_entries, max_checkpoints}
use Rattle.stories.specs.Refusals.{number_of, First}
use Rattle.stories.specs.Words.{Told, told_of, reason_of}
use Rattle.stories.specs.Words.Told.{ok, refused}
use Rattle.stories.specs.Story.{Story, no_entry, bounds_of, start_of, remains, domain_after, domain_now, pruned, entries_above}
use Rattle.stories.specs.Calls.{Call, domain_before, grounds, next, Answer, answer, pairs_of, Lived, Since}

-- ---- Demand 1: refusals

-- a call of each kind is refused with r
abbrev pub refusing : (c : Call) → Refusal → Answer c
refusing (Call.grow b) r = Err r
refusing (Call.list vs) r = Err r
refusing (Call.post p) r = Err r
refusing Call.new_checkpoint r = Err r
refusing (Call.synchronise k room) r = Err r

-- each call's answer is a refusal exactly when that is the first in the call's order of which the test holds
abbrev pub RefusalLaw : Type 0
RefusalLaw = (t : Story) (c : Call) (r : Refusal) → (answer t c ≡ refusing c r) ↔ First (grounds t c) r

-- every refusal but 7 leaves the story as it was, and a refused synchronise writes nothing
pub record UntouchedLaw : Type 0 where
  pub story : (t : Story) (c : Call) (r : Refusal) → answer t c ≡ refusing c r → number_of r ≢ 7 → next t c ≡ t
  pub lent : (t : Story) (k room : ℕ) (r : Refusal) → answer t (Call.synchronise k room) ≡ Err r → pairs_of t k room ≡ []

-- what a post answers depends on the number of variables, the variable's domain and the number of entries now on the trail, and on
-- nothing else: room that a synchronise freed is used again
abbrev pub RoomLaw : Type 0
RoomLaw =
    (s t : Story) (p : Post) → length s.variables ≡ length t.variables → domain_before s p.predicate ≡ domain_before t p.predicate → length s.entries ≡ length t.entries →
    answer s (Call.post p) ≡ answer t (Call.post p)

-- no store holds more than its capacities
abbrev pub CapacityLaw : Type 0
CapacityLaw = (t : Story) → Lived t → (length t.variables ≤ max_variables) × (length t.entries ≤ max_entries) × (length t.opens ≤ max_checkpoints)

-- ---- Demand 2: posts

-- the entry at a position
abbrev pub entry_at : Story → ℕ → Entry
entry_at t n = get_or t.entries n no_entry

-- a post that is taken, or refused with 7, keeps its entry
abbrev pub Kept : Story → Post → Type 0
Kept t p = (r : Refusal) → answer t (Call.post p) ≡ Err r → number_of r ≡ 7

-- then exactly the values before that satisfy it are left, and every other variable is as it was
abbrev pub SetLaw : Type 0
SetLaw =
    (t : Story) (p : Post) → Kept t p →
    ((v : ℤ) → member (domain_now (next t (Call.post p)) p.predicate.domain.0) v ≡ (member (domain_before t p.predicate) v && satisfies p.predicate.kind p.predicate.value v))
    × ((y : ℕ) → y ≢ p.predicate.domain.0 → domain_now (next t (Call.post p)) y ≡ domain_now t y)

-- lower and upper are the least and the greatest value left, if any is, and none is exactly when lower > upper
abbrev pub BoundsLaw : Type 0
BoundsLaw = (t : Story) (x : ℕ) → Tight (domain_now t x) × ((emptied (domain_now t x) ≡ true) ↔ ((v : ℤ) → member (domain_now t x) v ≡ false))

-- some value of the set before is lost by the post; some is left
abbrev pub Lost : Story → Post → Type 0
Lost t p = (v : ℤ) × (member (domain_before t p.predicate) v ≡ true) × (satisfies p.predicate.kind p.predicate.value v ≡ false)

abbrev pub SomeLeft : Story → Post → Type 0
SomeLeft t p = (v : ℤ) × (member (domain_before t p.predicate) v ≡ true) × (satisfies p.predicate.kind p.predicate.value v ≡ true)

-- what the post answers, in the rules' words
abbrev pub said : Story → Post → Told
said t p = told_of (answer t (Call.post p))

-- the variable is there, and has a value left
abbrev pub Has : Story → Post → Type 0
Has t p = (p.predicate.domain.0 < length t.variables) × (emptied (domain_before t p.predicate) ≡ false)

-- 0 is unchanged and 1 is changed. Where the set before was not empty: unchanged, with the story as it was, exactly when nothing is
-- lost; changed exactly when something is lost, something is left and there is room for the entry; 7 exactly when nothing is left,
-- unless 5 or 6 comes first
pub record AnswerLaw : Type 0 where
  pub unchanged : (t : Story) → Lived t → (p : Post) → Has t p → (said t p ≡ ok 0) ↔ (Lost t p → ⊥)
  pub no_entry : (t : Story) (p : Post) → said t p ≡ ok 0 → next t (Call.post p) ≡ t
  pub changed : (t : Story) → Lived t → (p : Post) → Has t p → (said t p ≡ ok 1) ↔ (Lost t p × SomeLeft t p × (length t.entries < max_entries))
  -- changed: one entry more, with the predicate, the bounds before and the reason as it was given, and every earlier entry as it was
  pub one_entry : (t : Story) (p : Post) → said t p ≡ ok 1 →
      (length (next t (Call.post p)).entries ≡ suc (length t.entries))
      × ((entry_at (next t (Call.post p)) (length t.entries)).predicate ≡ p.predicate)
      × ((entry_at (next t (Call.post p)) (length t.entries)).old ≡ bounds_of (domain_before t p.predicate))
      × (reason_of (entry_at (next t (Call.post p)) (length t.entries)).reason ≡ reason_of p.reason)
      × ((n : ℕ) → n < length t.entries → entry_at (next t (Call.post p)) n ≡ entry_at t n)
  pub emptied_by : (t : Story) → Lived t → (p : Post) → Has t p →
      (said t p ≡ refused 7) ↔ ((SomeLeft t p → ⊥) × (length t.entries < max_entries) × (overflows p.predicate.kind p.predicate.value (domain_before t p.predicate) ≡ false))

-- ---- Demand 3: the trail

-- a value is left after the first n entries exactly when it is in the starting interval and satisfies all of those on its variable; the
-- bounds are tight
abbrev pub ReplayLaw : Type 0
ReplayLaw = (t : Story) (x n : ℕ) → ((v : ℤ) → member (domain_after t x n) v ≡ remains t.entries x (start_of t x) v n) × Tight (domain_after t x n)

-- what the entries on the trail add to the count never wraps
abbrev pub CountLaw : Type 0
CountLaw = (t : Story) → Lived t → pruned t < 18446744073709551616

-- synchronising to a lower checkpoint gives back the very story from which the next one was last opened
abbrev pub BackLaw : Type 0
BackLaw = (m t : Story) → Since m t → (room : ℕ) → entries_above t (length m.opens) ≤ room → next t (Call.synchronise (length m.opens) room) ≡ m

-- and for each lower checkpoint there is such a story
abbrev pub OpenedLaw : Type 0
OpenedLaw = (t : Story) → Lived t → (k : ℕ) → k < length t.opens → (m : Story) × Lived m × (length m.opens ≡ k) × Since m t
