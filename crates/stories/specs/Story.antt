-- The story of a store: what support can read of it (RULES.md, "What the store holds"). It is the whole store but for the count, which
-- stands beside it: a domain is the replay of the trail's entries and nothing else. Assumes nothing.
use Rattle.std.specs.Prelude.{ℕ, zero, suc, ◌+◌, ◌-◌, min, Bool, true, not, ◌&&◌, List, [], ◌∷◌, ℤ, pos, length, get_or, eqb}
use Rattle.std.specs.Int.Signed.{le_z}
use Rattle.integers.specs.Integers.{eq_z}
use Rattle.predicates.specs.declared.PredicateType.TheVariants.{LowerBound}
use Rattle.predicates.specs.declared.Reason.TheVariants.{None}
use Rattle.domains.specs.declared.Bounds.{Bounds}
use Rattle.domains.specs.Choice.{pick}
use Rattle.domains.specs.Domain.{Domain, satisfies, after, pruned_by}
use Rattle.stories.specs.declared.Entry.{Entry}

-- a variable's starting interval, and its mark: the position of the last entry of its creation (H7)
pub record Started : Type 0 where
  pub start : Bounds
  pub mark : ℕ

-- the variables in the order of their creation, the trail oldest first, and for each open checkpoint its start: the trail's length when
-- it was opened (H1, H3, H9)
pub record Story : Type 0 where
  pub variables : List Started
  pub entries : List Entry
  pub opens : List ℕ

-- a story, and the count of pruned values beside it
pub record State : Type 0 where
  pub story : Story
  pub count : ℕ

-- ---- what is read past an end

abbrev pub no_entry : Entry
no_entry = record {
  predicate = record { domain = record { 0 = 0 }; kind = LowerBound; value = pos 0 };
  old = record { lower = pos 0; upper = pos 0 };
  reason = None;
}

abbrev pub not_started : Started
not_started = record { start = record { lower = pos 0; upper = pos 0 }; mark = 0 }

-- ---- the trail, replayed

-- the entry is on variable x
abbrev pub on : ℕ → Entry → Bool
on x e = eqb e.predicate.domain.0 x

-- v remains of an interval after the first n entries: it is in the interval, and satisfies the predicate of every entry on x among them
unfoldable pub remains : List Entry → ℕ → Bounds → ℤ → ℕ → Bool
remains es x start v zero = le_z start.lower v && le_z v start.upper
remains es x start v (suc n) =
    let e : Entry = get_or es n no_entry in
    remains es x start v n && pick (on x e) (satisfies e.predicate.kind e.predicate.value v) true

-- the domain of x after the first n entries, by the rules of posts
unfoldable pub replayed : List Entry → ℕ → Bounds → ℕ → Domain
replayed es x start zero = record { lower = start.lower; upper = start.upper; holes = [] }
replayed es x start (suc n) =
    let e : Entry = get_or es n no_entry in
    pick (on x e) (after e.predicate.kind e.predicate.value (replayed es x start n)) (replayed es x start n)

-- a domain's bounds
abbrev pub bounds_of : Domain → Bounds
bounds_of d = record { lower = d.lower; upper = d.upper }

-- ---- what a story says

abbrev pub start_of : Story → ℕ → Bounds
start_of t x = (get_or t.variables x not_started).start

-- the domain of x after the first n entries, now, and at position p: with the entry at p; a position past the trail means now (H8, Q1)
abbrev pub domain_after : Story → ℕ → ℕ → Domain
domain_after t x n = replayed t.entries x (start_of t x) n

abbrev pub domain_now : Story → ℕ → Domain
domain_now t x = domain_after t x (length t.entries)

abbrev pub domain_at : Story → ℕ → ℕ → Domain
domain_at t x p = domain_after t x (min (suc p) (length t.entries))

-- what the first n entries added to the count, each by the rule of the count (H10)
unfoldable pub pruned_up_to : Story → ℕ → ℕ
pruned_up_to t zero = 0
pruned_up_to t (suc n) =
    let e : Entry = get_or t.entries n no_entry in
    let x : ℕ = e.predicate.domain.0 in
    pruned_up_to t n + pruned_by e.predicate.kind (bounds_of (domain_after t x n)) (bounds_of (domain_after t x (suc n)))

-- and what all of them did
abbrev pub pruned : Story → ℕ
pruned t = pruned_up_to t (length t.entries)

-- the start of checkpoint k + 1, and how many entries stand above k (H9)
abbrev pub start_above : Story → ℕ → ℕ
start_above t k = get_or t.opens k 0

abbrev pub entries_above : Story → ℕ → ℕ
entries_above t k = length t.entries - start_above t k

-- ---- what a synchronise tells

-- a variable and its lower bound before an undo
pub record Pair : Type 0 where
  pub variable : ℕ
  pub lower : ℤ

-- two bounds differ
abbrev pub differ : Bounds → Bool
differ b = not (eq_z b.lower b.upper)

-- the pairs of the n entries from position m on, undone newest first: the variable and its lower bound with the entry, where the bounds
-- without it differ (S5)
unfoldable pub pairs_from : Story → ℕ → ℕ → List Pair
pairs_from t m zero = []
pairs_from t m (suc n) =
    let e : Entry = get_or t.entries (m + n) no_entry in
    let x : ℕ = e.predicate.domain.0 in
    pick (differ e.old) (record { variable = x; lower = (domain_after t x (suc (m + n))).lower } ∷ pairs_from t m n) (pairs_from t m n)

-- those of the entries above checkpoint k
abbrev pub pairs_above : Story → ℕ → List Pair
pairs_above t k = pairs_from t (start_above t k) (entries_above t k)
