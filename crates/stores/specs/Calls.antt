-- What each call answers and leaves behind (RULES.md, "Refusal numbers", "Creating", "Posts", "Synchronise"): the refusals in their
-- order, and then what the call does. Assumes nothing.
use Rattle.std.specs.Prelude.{ℕ, zero, suc, ◌+◌, ◌-◌, Bool, true, false, ◌&&◌, List, [], ◌∷◌, ℤ, pos, length, get_or, ltb, leb, eqb, Result, Ok, Err, is_ok}
use Rattle.std.specs.Int.Signed.{lt_z}
use Rattle.predicates.specs.declared.Checkpoint.{Checkpoint}
use Rattle.predicates.specs.declared.DomainId.{DomainId}
use Rattle.predicates.specs.declared.Predicate.{Predicate}
use Rattle.predicates.specs.declared.Reason.{Reason}
use Rattle.predicates.specs.declared.Reason.TheVariants.{None}
use Rattle.domains.specs.declared.Bounds.{Bounds}
use Rattle.domains.specs.Choice.{pick}
use Rattle.domains.specs.Domain.{Domain, emptied, acts, overflows, lower_after, upper_after, after}
use Rattle.stories.specs.declared.Entry.{Entry}
use Rattle.stories.specs.declared.Refusal.{Refusal}
use Rattle.stories.specs.declared.Refusal.TheVariants.{NoVariable, NotRoot, BadDomain, TooManyVariables, TrailFull, StepOverflow, Empty, TooManyCheckpoints, NotLower, NoRoom, NoSuchEntry}
use Rattle.stories.specs.Refusals.{number_of, Ground, decided}
use Rattle.stories.specs.Story.{Pair}
use Rattle.stories.specs.Calls.{at_least, at_most, not_equal, span_of, missing, is_empty}
use Rattle.stores.specs.declared.Assignments.{Assignments}
use Rattle.stores.specs.Store.{bare, domain_of, entry_of, newest, changed_by, differs, recorded, undone, undone_all, allocated, marked, opened, with_checkpoints, cut}

-- ---- creating

-- a dense variable: two entries, "at least lower" then "at most upper", both with the new bounds as old bounds and no reason
unfoldable pub grown : Assignments → Bounds → Assignments
grown s b =
    recorded (recorded (allocated s b) (at_least s.domains b.lower) None true false b) (at_most s.domains b.upper) None false true b

-- a fresh store: variable 0 with bounds 1 to 1
unfoldable pub fresh : Assignments
fresh = grown bare (record { lower = pos 1; upper = pos 1 })

-- 2, 3, 4, 5; `needed` is the number of entries, `bad` says that there is no domain
abbrev pub grow_grounds : Assignments → Bool → ℕ → List Ground
grow_grounds s bad needed =
    record { holds = ltb 0 s.checkpoint; refusal = NotRoot }
    ∷ record { holds = bad; refusal = BadDomain }
    ∷ record { holds = leb 256 s.domains; refusal = TooManyVariables }
    ∷ record { holds = ltb 1024 (s.trail.length + needed); refusal = TrailFull }
    ∷ []

abbrev pub new_variable : Assignments → Result DomainId Refusal
new_variable s = Ok (record { 0 = s.domains })

unfoldable pub grow_answer : Assignments → Bounds → Result DomainId Refusal
grow_answer s b = decided Err (grow_grounds s (lt_z b.upper b.lower) 2) (new_variable s)

unfoldable pub grow_store : Assignments → Bounds → Assignments
grow_store s b = pick (is_ok (grow_answer s b)) (grown s b) s

-- ---- posts

-- the domain of the predicate's variable
abbrev pub domain_before : Assignments → Predicate → Domain
domain_before s p = domain_of s p.domain.0

-- the bounds after a post that does something
abbrev pub bounds_after : Assignments → Predicate → Bounds
bounds_after s p = record { lower = lower_after p.kind p.value (domain_before s p); upper = upper_after p.kind p.value (domain_before s p) }

-- a post that does something: one entry
unfoldable pub posted : Assignments → Predicate → Reason → Assignments
posted s p r =
    let d : Domain = domain_before s p in
    let to : Bounds = bounds_after s p in
    recorded s p r (differs d.lower to.lower) (differs d.upper to.upper) to

-- whether it does something
abbrev pub does : Assignments → Predicate → Bool
does s p = acts p.kind p.value (domain_before s p)

-- 1, 5, 6, 7; a post that does nothing needs no entry
abbrev pub post_grounds : Assignments → Predicate → List Ground
post_grounds s p =
    record { holds = leb s.domains p.domain.0; refusal = NoVariable }
    ∷ record { holds = ltb 1024 (s.trail.length + pick (does s p) 1 0); refusal = TrailFull }
    ∷ record { holds = does s p && overflows p.kind p.value (domain_before s p); refusal = StepOverflow }
    ∷ record { holds = emptied (after p.kind p.value (domain_before s p)); refusal = Empty }
    ∷ []

unfoldable pub post_answer : Assignments → Predicate → Result Bool Refusal
post_answer s p = decided Err (post_grounds s p) (Ok (does s p))

-- every refusal but 7 leaves the store as it was
abbrev pub keeps : Result Bool Refusal → Bool
keeps (Ok changed) = true
keeps (Err r) = eqb (number_of r) 7

unfoldable pub post_store : Assignments → Predicate → Reason → Assignments
post_store s p r = pick (does s p && keeps (post_answer s p)) (posted s p r) s

-- ---- creating from a list

-- each of the values is removed
unfoldable pub removed_all : Assignments → ℕ → List ℤ → Assignments
removed_all s x [] = s
removed_all s x (v ∷ vs) = removed_all (posted s (not_equal x v) None) x vs

-- a variable from a list: a dense one between the smallest and the largest, without what is missing; the mark is the last entry's position
unfoldable pub listed : Assignments → List ℤ → Assignments
listed s vs = marked (removed_all (grown s (span_of vs)) s.domains (missing vs)) s.domains

unfoldable pub list_answer : Assignments → List ℤ → Result DomainId Refusal
list_answer s vs = decided Err (grow_grounds s (is_empty vs) (2 + length (missing vs))) (new_variable s)

unfoldable pub list_store : Assignments → List ℤ → Assignments
list_store s vs = pick (is_ok (list_answer s vs)) (listed s vs) s

-- ---- checkpoints

-- 8
abbrev pub open_grounds : Assignments → List Ground
open_grounds s = record { holds = leb 256 s.checkpoint; refusal = TooManyCheckpoints } ∷ []

unfoldable pub open_answer : Assignments → Result Checkpoint Refusal
open_answer s = decided Err (open_grounds s) (Ok (record { 0 = suc s.checkpoint }))

unfoldable pub open_store : Assignments → Assignments
open_store s = pick (is_ok (open_answer s)) (opened s) s

-- ---- synchronise

-- how many entries stand above checkpoint k
abbrev pub entries_above : Assignments → ℕ → ℕ
entries_above s k = s.trail.length - get_or s.delimiters k 0

-- the pairs of n undone entries, newest first: one for each whose variable's bounds then differ
unfoldable pub unfixed : ℕ → Assignments → List Pair
unfixed zero s = []
unfixed (suc n) s =
    pick (differs (newest s).old.lower (newest s).old.upper)
    (record { variable = (newest s).predicate.domain.0; lower = (changed_by s (newest s)).bounds.lower } ∷ unfixed n (undone s))
    (unfixed n (undone s))

-- the entries above k are undone, and k is the current checkpoint
unfoldable pub synchronised : Assignments → ℕ → Assignments
synchronised s k = with_checkpoints (undone_all (entries_above s k) s) (cut (s.checkpoint - k) s.delimiters k) k

-- 9, 10; the room is that of the shorter slice
abbrev pub synchronise_grounds : Assignments → ℕ → ℕ → List Ground
synchronise_grounds s k room =
    record { holds = leb s.checkpoint k; refusal = NotLower }
    ∷ record { holds = ltb room (entries_above s k); refusal = NoRoom }
    ∷ []

unfoldable pub synchronise_answer : Assignments → ℕ → ℕ → Result ℕ Refusal
synchronise_answer s k room = decided Err (synchronise_grounds s k room) (Ok (length (unfixed (entries_above s k) s)))

unfoldable pub synchronise_store : Assignments → ℕ → ℕ → Assignments
synchronise_store s k room = pick (is_ok (synchronise_answer s k room)) (synchronised s k) s

-- what it writes to the lent slices: the pairs, or nothing if it is refused
unfoldable pub pairs_of : Assignments → ℕ → ℕ → List Pair
pairs_of s k room = pick (is_ok (synchronise_answer s k room)) (unfixed (entries_above s k) s) []

-- ---- an entry of the trail

-- 11
unfoldable pub entry_answer : Assignments → ℕ → Result Entry Refusal
entry_answer s n = decided Err (record { holds = leb s.trail.length n; refusal = NoSuchEntry } ∷ []) (Ok (entry_of s n))
